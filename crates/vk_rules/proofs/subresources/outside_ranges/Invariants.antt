use Rattle.std.proofs.Common.{◌≡◌, false, take}
use Rattle.std.specs.List.{list_any}
use Rattle.vk_model.specs.Rules.Ranges.{bad_range}
use Rattle.vk_rules.proofs.subresources.outside_ranges.Given as goal

abbrev pub invariant-loop-index : goal.invariant-loop-index
invariant-loop-index l = list_any (bad_range l.info) (take l.index l.ranges) ≡ false
