use Rattle.std.proofs.Common.{◌<◌, ◌≤◌, ℕ, ◌∷◌, Ok}
use Rattle.std.specs.Fn.{FnReturnsAt}
use Rattle.vk_ranges.specs.Runs.{IsTiling}
use Rattle.vk_ranges.proofs.Mapping.{IsMapping}
use Rattle.vk_ranges.proofs.planning.mapped.Given as goal

abbrev pub invariant-loop-next_end : goal.invariant-loop-next_end
invariant-loop-next_end g l =
    (low len : ℕ) → IsTiling low len ((l.first_end, l.first) ∷ l.fn.rest) → low < l.high → l.high ≤ len
    → IsMapping (λ before after. FnReturnsAt g.F.Fn l.f before (Ok after)) low l.high ((l.first_end, l.first) ∷ l.fn.rest) l.changes.items (l.end, l.here) l.next_end-iterator l.value l.fn.answer
