use Rattle.std.proofs.Common.{◌≡◌, false, take}
use Rattle.std.specs.List.{list_any}
use Rattle.vk_model.specs.Rules.Ranges.{off_texel}
use Rattle.vk_history.specs.PointViews.{past}
use Rattle.vk_rules.proofs.aligns.of_regions.Given as goal

abbrev pub invariant-loop-index : goal.invariant-loop-index
invariant-loop-index l = list_any (off_texel (past l.history) l.queue l.image_id) (take l.index l.regions) ≡ false
