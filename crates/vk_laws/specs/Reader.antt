-- The small memory as the machine's bytes.
use Rattle.std.specs.Prelude.{ℕ, zero, suc, slice_index, slice_get, Option, Some, None}
use Rattle.vk_model.specs.World.Bytes.{Byte, in_buffer}
use Rattle.vk_model.specs.Run.Caches.{Held, Clean, Dirty, Cell}
use Rattle.vk_laws.specs.declared.reader.Copied.{Copied}
use Rattle.vk_laws.specs.declared.reader.Copied.TheVariants as copied
use Rattle.vk_laws.specs.declared.reader.Memory.{Memory}

-- What a cache holds.
abbrev pub held_as : Copied → Option Held
held_as copied.Nothing = None
held_as (copied.Clean v) = Some (Clean v)
held_as (copied.Dirty v) = Some (Dirty v)

-- What a cache holds, if there is a byte.
abbrev pub held_of : Option Copied → Option Held
held_of None = None
held_of (Some x) = held_as x

-- What each agent holds of byte k.
abbrev pub held_at : Memory → ℕ → ℕ → Option Held
held_at m k zero = held_of (slice_get m.first.bytes.items k)
held_at m k (suc zero) = held_of (slice_get m.second.bytes.items k)
held_at m k _ = None

-- The bytes of the memory: it has buffer 0 alone.
abbrev pub cells_of : Memory → Byte → Cell
cells_of m (in_buffer zero k) = record { region = slice_index m.region.items k; held = held_at m k }
cells_of m _ = record { region = 0; held = λ a. None }
