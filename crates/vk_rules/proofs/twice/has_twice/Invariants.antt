use Rattle.std.proofs.Common.{◌≡◌, length}
use Rattle.vk_model.specs.Basics.{some_pair}
use Rattle.std.specs.Prelude.{nat_eq}
use Rattle.std.specs.List.Sorted.{IsNonDecreasing}
use Rattle.vk_rules.proofs.twice.has_twice.Given as goal

abbrev pub invariant-loop-rest : goal.invariant-loop-rest
invariant-loop-rest l = (some_pair nat_eq l.rest ≡ some_pair nat_eq l.sorted) × IsNonDecreasing l.rest

abbrev pub decreases-loop-rest : goal.decreases-loop-rest
decreases-loop-rest l = length l.rest
