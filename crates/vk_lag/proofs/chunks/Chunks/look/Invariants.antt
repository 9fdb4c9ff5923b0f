use Rattle.std.proofs.Common.{◌≡◌, ◌<◌, ◌≤◌, ◌+◌, ℕ, length, get_or}
use Rattle.vk_lag.specs.Lags.{late_in, in_memory}
use Rattle.vk_lag.proofs.chunks.Chunks.look.Given as goal

-- The bytes so far are what memory has, and the others are as they were.
abbrev pub invariant-loop-i : goal.invariant-loop-i
invariant-loop-i l = record {
  len : length l.out ≡ length l.initial.out;
  before : (k : ℕ) → k < l.i → get_or l.out k 0 ≡ in_memory (get_or l.initial.out k 0) (late_in l.self (l.at + k));
  rest : (k : ℕ) → l.i ≤ k → get_or l.out k 0 ≡ get_or l.initial.out k 0;
}
