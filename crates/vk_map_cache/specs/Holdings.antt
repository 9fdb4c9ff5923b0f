-- What a cache holds of the bytes of memory objects, and how a call changes these bytes.
use Rattle.std.specs.Prelude.{◌≡◌, ◌≢◌, ℕ, ◌-◌, ◌/◌, List, [], Bool, ◌&&◌, ◌==◌, nat_lt, nat_le, if◌then◌else◌, Option, Some, None, slice_get, slice_index, slice_index_or, length, replicate}
use Rattle.vk_map_cache.specs.declared.mark.Mark.{Mark}
use Rattle.vk_map_cache.specs.declared.mark.Mark.TheVariants as mark
use Rattle.vk_model.specs.declared.command.Length.TheVariants as length_of
use Rattle.vk_model.specs.Run.Caches.{Held, Clean, Dirty, Cell, written_back, dropped, with_write}
use Rattle.vk_model.specs.World.Effect.{in_atoms}

-- What is held of each byte of each memory object, by the object's number.
abbrev pub Holdings : Type 0
Holdings = List (List (Option Held))

-- What is held of a byte of one object; nothing past the end.
abbrev pub held_in : List (Option Held) → ℕ → Option Held
held_in bytes k = slice_index_or bytes k None

-- What is held of byte k of a memory object.
abbrev pub held_at : Holdings → ℕ → ℕ → Option Held
held_at cache memory k = held_in (slice_index_or cache memory []) k

-- What is held of the bytes of a memory object that there is room for; of none where the object was not added.
abbrev pub object_in : Holdings → ℕ → List (Option Held)
object_in cache memory = slice_index_or cache memory []

-- How a byte is held of which this is held.
abbrev pub mark_of : Option Held → Mark
mark_of None = mark.Absent
mark_of (Some (Clean value)) = mark.Clean
mark_of (Some (Dirty value)) = mark.Dirty

-- A cell is a byte of which the cache of an agent holds this, and whose region has this value. What other caches hold of it is left open.
pub record IsCellOf (agent : ℕ) (holding : Option Held) (value : ℕ) (cell : Cell) : Type 0 where
  pub held : cell.held agent ≡ holding
  pub region : cell.region ≡ value

-- The same of the host's cache.
abbrev pub IsCell : Option Held → ℕ → Cell → Type 0
IsCell holding value cell = IsCellOf 0 holding value cell

-- A cell is byte k of a memory object.
abbrev pub IsByteOf : ℕ → Holdings → ℕ → List ℕ → ℕ → Cell → Type 0
IsByteOf agent cache memory region k cell = IsCellOf agent (held_at cache memory k) (slice_index region k) cell

-- The same of the host's cache.
abbrev pub IsByte : Holdings → ℕ → List ℕ → ℕ → Cell → Type 0
IsByte cache memory region k cell = IsByteOf 0 cache memory region k cell

-- ---- which bytes

-- Whether byte k of an object of this length lies in an atom that a range reaches: atoms end with their object (Vulkan, "Host Access to Device Memory Objects", on `nonCoherentAtomSize`).
abbrev pub is_reached : ℕ → ℕ → ℕ → ℕ → Bool
is_reached len offset size k = nat_lt k len && in_atoms offset (length_of.Bytes size) k

-- Whether byte k of an object of this length lies in the atom of a number (Vulkan, "Host Access to Device Memory Objects", on `nonCoherentAtomSize`; 64: profile).
abbrev pub is_in_atom : ℕ → ℕ → ℕ → Bool
is_in_atom len atom k = nat_lt k len && k / 64 == atom

-- Whether byte k is one of those from byte `low` to before byte `high`.
abbrev pub is_between : ℕ → ℕ → ℕ → Bool
is_between low high k = nat_le low k && nat_lt k high

-- The value that a write of these bytes at an offset gives byte k; none where it is outside.
abbrev pub given : ℕ → List ℕ → ℕ → Option ℕ
given at bytes k = if nat_le at k then slice_get bytes (k - at) else None

-- ---- changes

-- What becomes of byte k: the change where the test holds, and nothing elsewhere.
abbrev pub only_where : (ℕ → Bool) → (Cell → Cell) → ℕ → Cell → Cell
only_where test change k cell = if test k then change cell else cell

-- A byte that is dirty reaches memory, and nothing is held of it any more; one that isn't held stays (profile).
abbrev pub evicted : Cell → Cell
evicted cell = dropped 0 (written_back 0 cell)

-- An agent that reaches memory through its cache writes a byte, if it gives one.
abbrev pub overwritten : ℕ → Option ℕ → Cell → Cell
overwritten a None cell = cell
overwritten a (Some v) cell = with_write a v cell

-- Each byte of a memory object becomes what the change makes of it, in the cache of an agent and in its region; and nothing else that is held changes.
pub record ChangesOf (agent : ℕ) (change : ℕ → Cell → Cell) (memory : ℕ) (old new : Holdings) (region after : List ℕ) : Type 0 where
  pub bytes : (k : ℕ) (cell : Cell) → IsByteOf agent old memory region k cell → IsByteOf agent new memory after k (change k cell)
  pub others : (number k : ℕ) → number ≢ memory → held_at new number k ≡ held_at old number k
  pub size : length after ≡ length region

-- The same in the host's cache.
abbrev pub Changes : (ℕ → Cell → Cell) → ℕ → Holdings → Holdings → List ℕ → List ℕ → Type 0
Changes change memory old new region after = ChangesOf 0 change memory old new region after

-- The same is held of every byte.
abbrev pub HoldsSame : Holdings → Holdings → Type 0
HoldsSame old new = (number k : ℕ) → held_at new number k ≡ held_at old number k

-- There is room for the same bytes.
abbrev pub SameRoom : Holdings → Holdings → Type 0
SameRoom old new = (number : ℕ) → length (object_in new number) ≡ length (object_in old number)

-- There is room for so many bytes of a memory object, of which nothing is held, and all is as it was of others.
pub record IsRoomed (memory size : ℕ) (old new : Holdings) : Type 0 where
  pub object : object_in new memory ≡ replicate size None
  pub others : (number : ℕ) → number ≢ memory → object_in new number ≡ object_in old number

-- There is room for the same bytes, and the same is held of each.
abbrev pub SameObjects : Holdings → Holdings → Type 0
SameObjects old new = (number : ℕ) → object_in new number ≡ object_in old number
