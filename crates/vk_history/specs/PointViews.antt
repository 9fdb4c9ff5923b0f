-- The past of the points of a walk.
use Rattle.std.specs.Prelude.{ℕ, List, take}
use Rattle.vk_model.specs.Trace.Point as spec
use Rattle.vk_model.specs.declared.point.Point.{Point}
use Rattle.vk_queues.specs.PointViews.{past_of}

-- Some points, of which the first `count` have happened.
pub record Walk : Type 0 where
  pub points : List Point
  pub count : ℕ

-- The past of the points that have happened.
unfoldable pub past : Walk → spec.Past
past w = past_of (take w.count w.points)
