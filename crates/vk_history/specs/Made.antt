-- Which entry made an id last, with its number; and which set of an event came last.
use Rattle.std.specs.Prelude.{ℕ, List, [], ◌∷◌, ◌==◌, nat_lt, if◌then◌else◌, Option, Some, None, option_map, option_and_then}
use Rattle.std.specs.Option.{option_or}
use Rattle.vk_model.specs.declared.command.Dependency.{Dependency}
use Rattle.vk_model.specs.declared.entry.Entry.{Entry}
use Rattle.vk_model.specs.Basics.{holds}
use Rattle.vk_model.specs.Trace.Point.{Past, Point, host_of, command_of}
use Rattle.vk_model.specs.Trace.Objects.{made_by}
use Rattle.vk_model.specs.Rules.Synchronization.{set_by}

-- An entry of the host, with its number.
pub record Numbered : Type 0 where
  pub entry : Entry
  pub number : ℕ

-- The entry with its number, where it makes an id.
abbrev pub makes : ℕ → ℕ → Entry → Option Numbered
makes i e x = if holds (made_by x) (λ j. i == j) then Some (record { entry = x; number = e }) else None

-- The last entry that made an id.
abbrev pub last_creator : Past → ℕ → Option Numbered
last_creator [] i = None
last_creator (p ∷ past) i = option_or (option_and_then (makes i p.entry) (host_of p.action)) (last_creator past i)

-- An entry, where its number is below another.
abbrev pub earlier_than : ℕ → Numbered → Option Entry
earlier_than e m = if nat_lt m.number e then Some m.entry else None

-- The elements that an event was set with, and the queue.
pub record Set : Type 0 where
  pub queue : ℕ
  pub elements : List Dependency

-- The set of an event that a point is.
abbrev pub set_at : ℕ → Point → Option Set
set_at v p = option_map (λ ms. record { queue = p.queue; elements = ms }) (option_and_then (set_by v) (command_of p.action))

-- The last set of an event.
abbrev pub last_set : Past → ℕ → Option Set
last_set [] v = None
last_set (p ∷ past) v = option_or (set_at v p) (last_set past v)
