use Rattle.std.proofs.Common.{◌≡◌, ◌<◌, ◌≤◌, ℕ, length, false, None}
use Rattle.std.specs.Prelude.{vec_capacity}
use Rattle.vk_lag.specs.Inner.{writer_at, still_late}
use Rattle.vk_lag.proofs.marks.settle_bytes.Given as goal

-- Memory has caught up with the bytes so far, the others are as they were, and none of the first is late where none is known to be.
abbrev pub invariant-loop-i : goal.invariant-loop-i
invariant-loop-i l = record {
  len : length l.writers.items ≡ length l.initial.writers.items;
  capacity : vec_capacity l.initial.writers ≤ vec_capacity l.writers;
  before : (k : ℕ) → l.low ≤ k → k < l.i → writer_at l.writers.items k ≡ still_late l.due (writer_at l.initial.writers.items k);
  below : (k : ℕ) → k < l.low → writer_at l.writers.items k ≡ writer_at l.initial.writers.items k;
  rest : (k : ℕ) → l.i ≤ k → writer_at l.writers.items k ≡ writer_at l.initial.writers.items k;
  above : (k : ℕ) → l.high ≤ k → writer_at l.writers.items k ≡ writer_at l.initial.writers.items k;
  none : l.some ≡ false → (k : ℕ) → l.low ≤ k → k < l.i → writer_at l.writers.items k ≡ None;
}
