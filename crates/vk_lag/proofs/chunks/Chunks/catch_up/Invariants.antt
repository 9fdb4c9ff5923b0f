use Rattle.std.proofs.Common.{◌≡◌, ◌<◌, ◌≤◌, ◌-◌, ℕ, length, false, None}
use Rattle.std.specs.Prelude.{if◌then◌else◌}
use Rattle.vk_lag.specs.Lags.{late_in, is_between, caught_up}
use Rattle.vk_lag.proofs.chunks.Chunks.catch_up.Given as goal

-- Memory has caught up with the bytes so far, and none of them is late where none is known to be.
abbrev pub invariant-loop-next : goal.invariant-loop-next
invariant-loop-next l = record {
  from : l.low ≤ l.next;
  to : l.next ≤ l.high;
  len : length l.self ≡ length l.initial.self;
  bytes : (k : ℕ) → late_in l.self k ≡ (if is_between l.low l.next k then caught_up l.due (late_in l.initial.self k) else late_in l.initial.self k);
  none : l.some ≡ false → (k : ℕ) → l.low ≤ k → k < l.next → late_in l.self k ≡ None;
}

abbrev pub decreases-loop-next : goal.decreases-loop-next
decreases-loop-next l = l.high - l.next
