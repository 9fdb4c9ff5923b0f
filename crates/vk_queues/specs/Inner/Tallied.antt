-- What is known of ids.
use Rattle.std.specs.Prelude.{◌≡◌, ℕ, Bool, false, ◌||◌, ◌==◌, nat_le, max, if◌then◌else◌, Option, Some, None, option_and_then}
use Rattle.std.specs.Option.{unwrap_or}
use Rattle.std.specs.List.{fold}
use Rattle.vk_ids.specs.Ids.{value_of}
use Rattle.vk_model.specs.declared.entry.Entry.{Entry}
use Rattle.vk_model.specs.Basics.{holds, among}
use Rattle.vk_model.specs.Trace.Point.{Past}
use Rattle.vk_model.specs.Trace.Objects.{made_by, ended_by, semaphore_in, initial, ended}
use Rattle.vk_model.specs.Trace.Order.{signal_in, value_for, signaled}
use Rattle.vk_queues.specs.declared.tallies.Tally.{Tally}
use Rattle.vk_queues.specs.declared.tallies.Tallies.{Tallies}

-- Of an id that nothing has named.
abbrev pub unknown : Tally
unknown = record { initial = None; signaled = 0; is_ended = false }

-- What is known of an id.
abbrev pub tally_at : Tallies → ℕ → Tally
tally_at t id = unwrap_or (value_of t.by_id id) unknown

-- What has happened to an id (Vulkan, "Semaphores" and "Object Lifetime").
abbrev pub tally_of : Past → ℕ → Tally
tally_of past id = record { initial = initial past id; signaled = fold max 0 (signaled past id); is_ended = ended past id }

-- What is known is what has happened.
abbrev pub IsTallied : Tallies → Past → Type 0
IsTallied t past = (id : ℕ) → tally_at t id ≡ tally_of past id

-- Whether the counter has reached a value (Vulkan, "Semaphore Waiting").
abbrev pub has_reached : Tally → ℕ → Bool
has_reached t value = holds t.initial (λ v. nat_le value (max v t.signaled))

-- With one signal more.
abbrev pub with_signal : Option ℕ → Tally → Tally
with_signal None t = t
with_signal (Some value) t = record t { signaled = max t.signaled value }

-- After a signal of a semaphore and a value.
abbrev pub after_signal : ℕ → ℕ × ℕ → Tally → Tally
after_signal id signal t = with_signal (value_for id signal) t

-- After an entry of the host.
abbrev pub after_entry : ℕ → Entry → Tally → Tally
after_entry id x t = with_signal (option_and_then (value_for id) (signal_in x)) (record {
  initial = if holds (made_by x) (λ j. id == j) then semaphore_in x else t.initial;
  signaled = t.signaled;
  is_ended = among id (ended_by x) || t.is_ended;
})
