-- What batches and points of the code mean.
use Rattle.std.specs.Prelude.{List, [], ◌∷◌}
use Rattle.std.specs.List.{fold}
use Rattle.vk_model.specs.Trace.Point.{Past}
use Rattle.vk_model.specs.Trace.Order.{SubmittedBatch}
use Rattle.vk_model.specs.declared.point.Point.{Point}
use Rattle.vk_model.specs.Trace.PointViews.{point_of}
use Rattle.vk_queues.specs.declared.submitted.Submitted.{Submitted}

-- The batch of the definitions.
abbrev pub batch_of : Submitted → SubmittedBatch
batch_of s = record { entry = s.entry; batch = s.batch; queue = s.queue; content = s.content.now; waits = s.waits.items }

-- A past with one point more.
abbrev pub add : Past → Point → Past
add past p = point_of p ∷ past

-- A past with points more, in their order.
abbrev pub past_after : Past → List Point → Past
past_after past ps = fold add past ps

-- The past of points, in their order.
abbrev pub past_of : List Point → Past
past_of ps = past_after [] ps
