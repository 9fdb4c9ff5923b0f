use Rattle.std.proofs.Common.{◌≡◌, ◌+◌, false, take}
use Rattle.std.specs.Prelude.{nat_lt}
use Rattle.std.specs.List.{list_any}
use Rattle.vk_rules.proofs.ranges.destination_past.Given as goal

abbrev pub invariant-loop-index : goal.invariant-loop-index
invariant-loop-index l = list_any (λ g. nat_lt l.size (g.destination_offset + g.size)) (take l.index l.regions) ≡ false
