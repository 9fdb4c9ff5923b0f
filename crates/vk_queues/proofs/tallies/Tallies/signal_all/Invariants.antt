use Rattle.std.proofs.Common.{◌≡◌, ℕ, take}
use Rattle.std.specs.List.{fold}
use Rattle.vk_queues.specs.Inner.Tallied.{tally_at, after_signal}
use Rattle.vk_queues.proofs.tallies.Tallies.signal_all.Given as goal

abbrev pub invariant-loop-signal : goal.invariant-loop-signal
invariant-loop-signal l = (other : ℕ) → tally_at l.self other ≡ fold (λ t s. after_signal other (s.semaphore, s.value) t) (tally_at l.fn.self other) (take l.signal-index l.signals)
