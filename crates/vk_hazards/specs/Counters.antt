-- How far semaphores are.
use Rattle.std.specs.Prelude.{◌≡◌, List, Bool, true, false, Option, Some, None, option_map, nat_lt, Contains}
use Rattle.std.specs.List.{find, list_any}
use Rattle.vk_model.specs.declared.entry.Entry.TheVariants as entry
use Rattle.vk_model.specs.declared.entry.SemaphoreValue.{SemaphoreValue}
use Rattle.vk_model.specs.Basics.{holds}
use Rattle.vk_model.specs.Trace.Point.{Past, Point, host_of}
use Rattle.vk_model.specs.Trace.Order.{counter, signal_of}
use Rattle.vk_model.specs.Rules.Synchronization.{breaks_signal_value, breaks_wait_never}
use Rattle.vk_model.specs.Trace.PointViews.{point_of}
use Rattle.vk_hazards.specs.declared.before.doings.Doing.TheVariants.{Signals}
use Rattle.vk_hazards.specs.Doings.{does}
use Rattle.vk_hazards.specs.declared.counters.CounterFact.{CounterFact}

-- The counter of a semaphore, and the newest point of a past that signaled it.
pub record IsCounted (past : Past) (f : CounterFact) : Type 0 where
  pub counter : counter past f.asked.semaphore ≡ Some f.counter
  pub last : option_map point_of f.last ≡ find (does Signals f.asked.semaphore) past

-- A point signals a value that isn't above the counter, and that is how far the semaphore is; or it doesn't.
abbrev pub IsLow : Past → Point → Option CounterFact → Type 0
IsLow past p None = breaks_signal_value past p ≡ false
IsLow past p (Some f) = (signal_of p.action ≡ Some (f.asked.semaphore, f.asked.value)) × (breaks_signal_value past p ≡ true) × IsCounted past f

-- Whether a semaphore hasn't reached a value.
abbrev pub is_unmet : Past → SemaphoreValue → Bool
is_unmet past w = holds (counter past w.semaphore) (λ c. nat_lt c w.value)

-- One of some values isn't reached, and that is how far the semaphore is; or all are.
abbrev pub IsUnmet : Past → List SemaphoreValue → Option CounterFact → Type 0
IsUnmet past ws None = list_any (is_unmet past) ws ≡ false
IsUnmet past ws (Some f) = Contains ws f.asked × (is_unmet past f.asked ≡ true) × (list_any (is_unmet past) ws ≡ true) × IsCounted past f

-- A point waits for such values.
pub record WaitsFor (past : Past) (p : Point) (f : CounterFact) : Type 0 where
  pub waits : List SemaphoreValue
  pub entry : host_of p.action ≡ Some (entry.Wait waits)
  pub waited : Contains waits f.asked
  pub unmet : is_unmet past f.asked ≡ true
  pub broken : breaks_wait_never past p ≡ true
  pub counted : IsCounted past f

-- A point waits for a value above the counter, and that is how far the semaphore is; or it doesn't.
abbrev pub IsEndless : Past → Point → Option CounterFact → Type 0
IsEndless past p None = breaks_wait_never past p ≡ false
IsEndless past p (Some f) = WaitsFor past p f
