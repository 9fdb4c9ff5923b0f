use Rattle.std.proofs.Common.{◌≡◌, false, take}
use Rattle.std.specs.List.{list_any}
use Rattle.vk_model.specs.Rules.Ranges.{is_short}
use Rattle.vk_rules.proofs.regions.short_rows.Given as goal

abbrev pub invariant-loop-index : goal.invariant-loop-index
invariant-loop-index l = list_any is_short (take l.index l.regions) ≡ false
