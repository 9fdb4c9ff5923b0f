use Rattle.std.proofs.Common.{◌≡◌, ◌≤◌, ◌+◌, ◌-◌, ℕ, length, Some}
use Rattle.std.specs.Prelude.{if◌then◌else◌, slice_index}
use Rattle.vk_lag.specs.Lags.{late_in, is_between}
use Rattle.vk_lag.proofs.chunks.Chunks.write_from.Given as goal

-- The bytes so far are late.
abbrev pub invariant-loop-done : goal.invariant-loop-done
invariant-loop-done l = record {
  most : l.done ≤ l.size;
  len : length l.self ≡ length l.initial.self;
  bytes : (k : ℕ) → late_in l.self k ≡ (if is_between l.at (l.at + l.done) k then Some (record { writer = l.writer; value = slice_index l.region (l.base + k) }) else late_in l.initial.self k);
}

abbrev pub decreases-loop-done : goal.decreases-loop-done
decreases-loop-done l = l.size - l.done
