-- What is asked of resources, and what is done to them.
use Rattle.std.specs.Prelude.{◌≡◌, ℕ, ◌+◌, ◌<◌, [], ◌∷◌, List, map, length, None, if◌then◌else◌}
use Rattle.vk_model.specs.declared.command.Cmd.{Cmd}
use Rattle.vk_model.specs.declared.entry.Entry.{Entry}
use Rattle.vk_model.specs.declared.entry.Entry.TheVariants as entry
use Rattle.vk_model.specs.Basics.{below}
use Rattle.vk_model.specs.Trace.Point.{Past}
use Rattle.vk_model.specs.Trace.Order.{host}
use Rattle.vk_model.specs.World.Bytes.{Byte, in_buffer}
use Rattle.vk_model.specs.Run.Caches.{Cell}
use Rattle.vk_model.specs.Run.CachedRuns.{after_host, in_atoms, turned_over}
use Rattle.vk_model.specs.Run.Pieces.{pieces}
use Rattle.vk_model.specs.Run.Runs.{touched_by, atom_count}
use Rattle.vk_resources.specs.declared.applied.Applied.{Applied}
use Rattle.vk_resources.specs.declared.applied.Applied.TheVariants as applied
use Rattle.vk_resources.specs.Held.{Held, host_at, seen_at, IsThere, HasCell}
use Rattle.vk_resources.specs.Matches.{Stands}
use Rattle.vk_resources.specs.Fits.{FitsCommand, NamesLive, FitsEntry}

-- Resources are those of some past, in which a command that has such a piece fits, and names live objects.
pub record PieceReady (s : Held) (c : Cmd) (k : ℕ) : Type 0 where
  pub past : Past
  pub matches : Stands past s
  pub fits : FitsCommand past c
  pub alive : NamesLive past c
  pub below : k < length (pieces past c)

-- Resources are those of some past, in which a command fits.
abbrev pub CommandReady : Held → Cmd → Type 0
CommandReady s c = (past : Past) × Stands past s × FitsCommand past c

-- Resources are those of some past, in which an entry fits.
abbrev pub EntryReady : Held → Entry → Type 0
EntryReady s x = (past : Past) × Stands past s × FitsEntry past x

-- The same, and an atom is one of the buffer in cached memory that the entry accesses.
abbrev pub AtomReady : Held → Entry → ℕ → Type 0
AtomReady s x k = (past : Past) × Stands past s × FitsEntry past x × (k < atom_count past x)

-- Just before an entry the host's cache has taken up or given back an atom of the buffer that it accesses, and nothing else has changed (profile).
abbrev pub TurnsOver : Entry → ℕ → Held → Held → Type 0
TurnsOver x k old new = (c : Byte) (cell : Cell) → IsThere old c → HasCell old c cell → HasCell new c (if in_atoms (touched_by x) (k ∷ []) c then turned_over cell else cell)

-- The bytes of what has a place in memory before and after an entry that moves nothing become what it makes of them, in memory and in the host's cache (Vulkan, "Host Access to Device Memory Objects").
abbrev pub LeavesCells : Past → Entry → Held → Held → Type 0
LeavesCells past x old new = (c : Byte) (cell : Cell) → IsThere old c → IsThere new c → HasCell old c cell → HasCell new c (after_host past [] x c cell)

-- Of what gets a place the host's cache holds nothing.
abbrev pub HoldsNoneNew : Held → Held → Type 0
HoldsNoneNew old new = (c : Byte) → IsThere new c → (IsThere old c → ⊥) → host_at new c ≡ None

-- An entry has been applied: the resources are those of the past with it, the bytes of those that were there before are what it leaves, and nothing is held of new ones (Vulkan, "Resource Creation", "Object Lifetime" and "Host Access to Device Memory Objects").
abbrev pub Goes : ℕ → Entry → Past → Held → Held → Type 0
Goes e x past old new = Stands (host e x ∷ past) new × LeavesCells past x old new × HoldsNoneNew old new

-- An entry reads these bytes, as the host sees them (Vulkan, "Host Access to Device Memory Objects").
abbrev pub ReadsBytes : Entry → Held → List ℕ → Type 0
ReadsBytes (entry.Read b o n) s bytes = bytes ≡ map (λ k. seen_at s (in_buffer b (o + k))) (below n)
ReadsBytes _ s bytes = ⊥

-- An entry reads nothing.
abbrev pub ReadsNothing : Entry → Type 0
ReadsNothing x = (b o n : ℕ) → x ≡ entry.Read b o n → ⊥

-- What is answered to an entry, and what it has done; where there was no room nothing was changed, and the entry accesses no buffer.
abbrev pub DoneBy : Applied → ℕ → Entry → Past → Held → Held → Type 0
DoneBy applied.Done e x past old new = Goes e x past old new × ReadsNothing x
DoneBy (applied.Bytes bytes) e x past old new = Goes e x past old new × ReadsBytes x old bytes
DoneBy applied.NoRoom e x past old new = (new ≡ old) × (touched_by x ≡ None)
