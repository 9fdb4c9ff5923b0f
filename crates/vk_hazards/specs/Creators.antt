-- Which point made an id.
use Rattle.std.specs.Prelude.{◌≡◌, ℕ, Bool, ◌==◌, Option, option_map}
use Rattle.std.specs.List.{find}
use Rattle.std.specs.Ordering.{nat_cmp}
use Rattle.std.specs.BTreeMap.{get}
use Rattle.vk_model.specs.Basics.{holds}
use Rattle.vk_model.specs.Trace.Point.{Past, Point, on_host}
use Rattle.vk_model.specs.Trace.Objects.{made_by}
use Rattle.vk_model.specs.Trace.PointViews.{point_of}
use Rattle.vk_hazards.specs.declared.before.creators.Creators.{Creators}

-- Whether a point makes an id.
abbrev pub makes : ℕ → Point → Bool
makes i p = on_host (λ x. holds (made_by x) (λ j. i == j)) p

-- The newest point that makes an id: the entry there is the object (profile).
abbrev pub creator : Past → ℕ → Option Point
creator past i = find (makes i) past

-- The points that are kept are those that made each id.
abbrev pub AreCreators : Creators → Past → Type 0
AreCreators creators past = (i : ℕ) → option_map point_of (get nat_cmp creators.by_id i) ≡ creator past i
