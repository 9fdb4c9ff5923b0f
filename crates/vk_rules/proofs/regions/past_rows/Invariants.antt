use Rattle.std.proofs.Common.{◌≡◌, false, take}
use Rattle.std.specs.List.{list_any}
use Rattle.vk_model.specs.Trace.Image.{texel}
use Rattle.vk_model.specs.Rules.Ranges.{region_past}
use Rattle.vk_rules.proofs.regions.past_rows.Given as goal

abbrev pub invariant-loop-index : goal.invariant-loop-index
invariant-loop-index l = list_any (region_past l.size (texel l.format)) (take l.index l.regions) ≡ false
