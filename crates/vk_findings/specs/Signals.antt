-- SIGNAL_ORDER: the last signal of a semaphore.
use Rattle.std.specs.Prelude.{◌≡◌, ◌==◌, ℕ, Bool, Some}
use Rattle.std.specs.List.{find}
use Rattle.vk_model.specs.Basics.{holds}
use Rattle.vk_model.specs.Trace.Point.{Past, Point, Action}
use Rattle.vk_model.specs.Trace.Order.{signal_of}
use Rattle.vk_model.specs.Trace.PointViews.{action_of, point_of}
use Rattle.vk_findings.specs.declared.signals.SignalOrder.{SignalOrder}

-- Whether a point signals a semaphore (Vulkan, "Semaphore Signaling").
abbrev pub signals : ℕ → Point → Bool
signals s p = holds (signal_of p.action) (λ x. x.0 == s)

-- What is reported of an action that breaks SIGNAL_ORDER: what it signals, and the newest point that signaled the semaphore, with its value. Where no earlier point breaks a rule, that one comes after all earlier signals; so it is the one that doesn't come before.
pub record IsSignalOrder (past : Past) (a : Action) (s : SignalOrder) : Type 0 where
  pub signal : signal_of a ≡ Some (s.semaphore, s.value)
  pub last : find (signals s.semaphore) past ≡ Some (point_of s.last)
  pub earlier : signal_of (action_of s.last.action) ≡ Some (s.semaphore, s.last_value)
