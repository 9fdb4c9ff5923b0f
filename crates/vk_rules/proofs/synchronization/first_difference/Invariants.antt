use Rattle.std.proofs.Common.{◌≡◌, ℕ, ◌<◌, true}
use Rattle.std.specs.Prelude.{slice_get}
use Rattle.vk_rules.specs.Synchronization.{same_one}
use Rattle.vk_rules.proofs.synchronization.first_difference.Given as goal

abbrev pub invariant-loop-index : goal.invariant-loop-index
invariant-loop-index l = (j : ℕ) → j < l.index → same_one (slice_get l.awaited j) (slice_get l.set j) ≡ true
