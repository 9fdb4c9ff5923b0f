use Rattle.std.proofs.Common.{◌≡◌, ◌≤◌, ℕ, length}
use Rattle.std.specs.Prelude.{vec_capacity, if◌then◌else◌}
use Rattle.vk_lag.specs.Lags.{is_between}
use Rattle.vk_lag.specs.Inner.{writer_at}
use Rattle.vk_lag.proofs.marks.set_writers.Given as goal

-- The bytes so far have the writer, and the others are as they were.
abbrev pub invariant-loop-i : goal.invariant-loop-i
invariant-loop-i l = record {
  there : l.high ≤ length l.writers.items;
  capacity : vec_capacity l.initial.writers ≤ vec_capacity l.writers;
  bytes : (k : ℕ) → writer_at l.writers.items k ≡ (if is_between l.low l.i k then l.writer else writer_at l.initial.writers.items k);
}
