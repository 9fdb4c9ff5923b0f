use Rattle.std.proofs.Common.{◌≡◌, ◌<◌, ◌≤◌, ℕ, [], ◌∷◌}
use Rattle.vk_ranges.specs.Runs.{IsTiling}
use Rattle.vk_ranges.specs.Inner.Plans.{runs_of}
use Rattle.vk_ranges.specs.Inner.Walks.{WalksTo}
use Rattle.vk_ranges.proofs.planning.merged.Given as goal

abbrev pub invariant-loop-next_end : goal.invariant-loop-next_end
invariant-loop-next_end g l =
    record {
      walks : (low len : ℕ) → IsTiling low len ((l.first_end, l.first) ∷ l.fn.rest) → low < l.high → l.high ≤ len → WalksTo low l.high ((l.first_end, l.first) ∷ l.fn.rest) l.changes.items (l.end, l.here) l.next_end-iterator;
      none : runs_of l.changes.items ≡ [];
    }
