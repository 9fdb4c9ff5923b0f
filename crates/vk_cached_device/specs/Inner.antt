-- What only the contracts within the crate cite.
use Rattle.std.specs.Prelude.{◌≡◌, ℕ, ◌<◌, List, [], ◌∷◌, ◌++◌, length, replicate, Contains, Some, None, IsTrue, true, false, is_some}
use Rattle.std.specs.List.{fold}
use Rattle.vk_model.specs.declared.command.Cmd.{Cmd}
use Rattle.vk_model.specs.declared.entry.Entry.{Entry}
use Rattle.vk_model.specs.declared.entry.Entry.TheVariants as entry
use Rattle.vk_model.specs.Basics.{among}
use Rattle.vk_model.specs.Trace.Point.{Past, Point, Run}
use Rattle.vk_model.specs.Trace.Objects.{made_by, ended_by, resource_in}
use Rattle.vk_model.specs.Sync.Node.{Node, nodes}
use Rattle.vk_model.specs.Run.Pieces.{pieces}
use Rattle.vk_model.specs.Run.Runs.{Name, Step, Stage, Apply, may_go, applied, atom_count}
use Rattle.vk_model.specs.Run.Picks.{atom_picks}
use Rattle.vk_model.specs.Run.CachedRuns.{happening}
use Rattle.vk_laws.specs.DirectRuns.{HostMemory, memory_after_entry}
use Rattle.vk_cache_laws.specs.LateRuns.{Late, late_after_node}
use Rattle.vk_sync.specs.declared.ready.Piece.{Piece}
use Rattle.vk_queues.specs.IsWaiting.{IsWaiting}
use Rattle.vk_offers.specs.IsOffers.{is_run}
use Rattle.vk_offers.specs.declared.happenings.Happenings.{Happenings}
use Rattle.vk_offers.specs.IsHappenings.{IsHappenings}
use Rattle.vk_lag.specs.declared.late.Writer.{Writer}
use Rattle.vk_lag.specs.Lags.{Lags, resource_in as late_bytes, late_at}
use Rattle.vk_backing.specs.Passing.{Passing}
use Rattle.vk_backing.specs.PassAllots.{StaysAllotted}
use Rattle.vk_resources.specs.declared.applied.Applied.{Applied}
use Rattle.vk_resources.specs.declared.applied.Applied.TheVariants as done
use Rattle.vk_resources.specs.declared.resources.Placed.{Placed}
use Rattle.vk_resources.specs.Held.{placed}
use Rattle.vk_resources.specs.Allocating.{allotted}
use Rattle.vk_resources.specs.PassSteps.{KeepsCells}
use Rattle.vk_availability.specs.AreLate.{AreLate}
use Rattle.vk_device.specs.declared.device.Device.{Device}
use Rattle.vk_device.specs.Becomes.{Becomes}
use Rattle.vk_device.specs.Coming.{CommandFits, PrepareReady}
use Rattle.vk_device.specs.Led.{Led, IsBefore, IsSoundTrace, HasRun, HasWritten, RunBecomes, HasCopied}
use Rattle.vk_device.specs.Passes.{moved_by, parts_begun}
use Rattle.vk_cached_device.specs.declared.device.CachedDevice.{CachedDevice}
use Rattle.vk_cached_device.specs.LedLate.{LedLate, AreWriters, IsBeforeLate}
use Rattle.vk_cached_device.specs.Applies.{moved_at, late_when_applied}

-- Some points are known, of fewer nodes than 32 bits count.
abbrev pub MaySettle : CachedDevice → Type 0
MaySettle d = (past : Past) × (done : List Name) × (left : List Node) × IsHappenings d.happenings past done left × (length (nodes past) < 4294967296)

-- All that has happened is taken, and memory has caught up with what it makes available (Vulkan, "Execution and Memory Dependencies").
pub record Settles (old new : CachedDevice) : Type 0 where
  pub same : new ≡ record old { happenings = new.happenings; lags = new.lags }
  pub room : (id : ℕ) → length (late_bytes new.lags id) ≡ length (late_bytes old.lags id)
  pub taken : (past : Past) (done : List Name) (left : List Node) → IsHappenings old.happenings past done left → length (nodes past) < 4294967296 → IsHappenings new.happenings past done []
  pub late : (past : Past) (done : List Name) (left : List Node) (late : Late) → IsHappenings old.happenings past done left → length (nodes past) < 4294967296 → AreLate old.device.resources old.lags late
      → AreLate new.device.resources new.lags (fold (λ l n. late_after_node past n l) late left)

-- A piece has run on the device with the newest bytes.
pub record RunsPlain (old new : Device) (piece : Piece) : Type 0 where
  pub ran : HasRun old new piece
  pub written : HasWritten old new piece
  pub becomes : RunBecomes old new piece
  pub placed : new.resources.resources ≡ old.resources.resources
  pub shapes : new.resources.shapes ≡ old.resources.shapes
  pub same_allotted : allotted new.resources ≡ allotted old.resources
  pub stays : StaysAllotted (allotted old.resources) old.passes (allotted new.resources) new.passes

-- A part has been copied there.
pub record CopiesPlain (old new : Device) (part : ℕ) : Type 0 where
  pub copied : HasCopied old new part
  pub same_allotted : allotted new.resources ≡ allotted old.resources
  pub stays : StaysAllotted (allotted old.resources) old.passes (allotted new.resources) new.passes
  pub cells : KeepsCells old.resources new.resources
  pub offers : new.offers ≡ old.offers

-- ---- an entry

-- The entry that comes next may be applied at once.
abbrev pub MayGoNext : CachedDevice → Entry → Type 0
MayGoNext d x = (t : List Entry) × (steps : List Step) × (s : Stage) × (memory : HostMemory) × (late : Late) × (xs : List Entry) × IsBeforeLate t steps s memory late x xs d × IsTrue (may_go s x)

-- Memory has caught up with all bytes of some resources, and nothing else has changed.
pub record CatchesUpMoving (moving : List ℕ) (old new : Lags) : Type 0 where
  pub room : (id : ℕ) → length (late_bytes new id) ≡ length (late_bytes old id)
  pub moved : (id k : ℕ) → Contains moving id → late_at new id k ≡ None
  pub others : (id : ℕ) → (Contains moving id → ⊥) → late_bytes new id ≡ late_bytes old id

-- There is room for the late bytes of a resource that an entry has made, none of which is late; memory has caught up with what a pass moves; and of each resource that it has neither made nor ended nor moves the same bytes are late (Vulkan, "Object Lifetime"; VMA, "Defragmentation").
pub record Follows (x : Entry) (d : Device) (old new : Lags) : Type 0 where
  pub made : (id : ℕ) (p : Placed) → is_some (resource_in x) ≡ true → made_by x ≡ Some id → placed d.resources id ≡ Some p → late_bytes new id ≡ replicate p.size None
  pub moved : (id k : ℕ) → Contains (moved_at x d.passes) id → (late_at new id k ≡ None) × (length (late_bytes new id) ≡ length (late_bytes old id))
  pub others : (id : ℕ) → (is_some (resource_in x) ≡ true → made_by x ≡ Some id → ⊥) → among id (ended_by x) ≡ false → (Contains (moved_at x d.passes) id → ⊥) → late_bytes new id ≡ late_bytes old id

-- The resources are those of some past in which the command of a point fits, where it is a clear or a copy.
abbrev pub CommandIsReady : Device → Point → Type 0
CommandIsReady d p = PrepareReady d p

-- A clear or copy of a point is run in so many pieces, wherever it fits.
abbrev pub CountsPieces : Device → Point → ℕ → Type 0
CountsPieces d p count = (past : Past) (c : Cmd) → p.action ≡ Run c → is_run c ≡ true → CommandFits past c d.resources → count ≡ length (pieces past c)

-- An entry has been applied to the device with the newest bytes, and its points haven't come yet.
pub record Arrives (t : List Entry) (steps : List Step) (s : Stage) (x : Entry) (xs : List Entry) (atoms : List ℕ) (d : CachedDevice) : Type 0 where
  pub before : Device
  pub was : Led t steps s before
  pub next : s.left ≡ x ∷ xs
  pub sound : IsSoundTrace t
  pub led : Led t (steps ++ Apply atoms (parts_begun d.device.passes x) ∷ []) (applied s (parts_begun d.device.passes x) x xs) d.device
  pub waits : IsWaiting d.waiting d.count s.front
  pub counts : d.count ≡ s.count
  pub happenings : IsHappenings d.happenings s.front.past s.done []
  pub few : length (nodes s.front.past) < 4294967296
  pub writers : AreWriters d.writers.items s.front.past

-- An entry of some trace has been applied there.
abbrev pub MayAdvance : CachedDevice → Entry → Type 0
MayAdvance d x = (t : List Entry) × (steps : List Step) × (s : Stage) × (xs : List Entry) × (atoms : List ℕ) × Arrives t steps s x xs atoms d

-- The command of a point that comes next has been added to those that were started, if it is run in pieces.
abbrev pub AddsWriter : Happenings → Point → (old new : List Writer) → Type 0
AddsWriter h p old new = (past : Past) (done : List Name) (left : List Node) → IsHappenings h past done left → AreWriters old past → AreWriters new (p ∷ past)

-- The points of an entry have come, up to this stage: what happens since the stage before it is still to be taken.
pub record HasAdvanced (s e : Stage) (d : CachedDevice) : Type 0 where
  pub waits : IsWaiting d.waiting d.count e.front
  pub counts : d.count ≡ e.count
  pub happenings : IsHappenings d.happenings e.front.past e.done (happening s e)
  pub few : length (nodes e.front.past) < 4294967296
  pub writers : AreWriters d.writers.items e.front.past

-- The points of an entry have come, and nothing else has changed.
pub record Advances (old new : CachedDevice) (x : Entry) : Type 0 where
  pub device : new.device ≡ old.device
  pub lags : new.lags ≡ old.lags
  pub advanced : (t : List Entry) (steps : List Step) (s : Stage) (xs : List Entry) (atoms : List ℕ) → Arrives t steps s x xs atoms old → HasAdvanced s (applied s (parts_begun old.device.passes x) x xs) new

module _ (answer : List ℕ → ℕ → ℕ) (next : List ℕ → ℕ → List ℕ) where
  -- An entry has been applied at once to a device without caches of queues, with the atoms that a scheduler picked.
  pub record PlainEntry (t : List Entry) (steps : List Step) (s : Stage) (held : List ℕ) (x : Entry) (xs : List Entry) (old new : Device) (after : List ℕ) : Type 0 where
    pub led : Led t (steps ++ Apply (atom_picks answer next (atom_count s.front.past x) 0 held).0 (parts_begun new.passes x) ∷ []) (applied s (parts_begun new.passes x) x xs) new
    pub holds : after ≡ (atom_picks answer next (atom_count s.front.past x) 0 held).1
    pub becomes : Becomes old.resources new.resources (memory_after_entry s.front.past (atom_picks answer next (atom_count s.front.past x) 0 held).0 (moved_by old.passes x new.passes) x)

  -- There was no room for it.
  pub record PlainRefused (t : List Entry) (steps : List Step) (s : Stage) (held : List ℕ) (old new : Device) (after : List ℕ) : Type 0 where
    pub led : Led t steps s new
    pub holds : after ≡ held
    pub becomes : Becomes old.resources new.resources (λ m. m)

  -- It has been applied there so.
  abbrev pub PlainBy : Applied → List Entry → List Step → Stage → List ℕ → Entry → List Entry → Device → Device → List ℕ → Type 0
  PlainBy done.NoRoom t steps s held x xs old new after = PlainRefused t steps s held old new after
  PlainBy _ t steps s held x xs old new after = PlainEntry t steps s held x xs old new after

  abbrev pub PlainNext : Applied → List ℕ → Entry → Device → Device → List ℕ → Type 0
  PlainNext a held x old new after = (t : List Entry) (steps : List Step) (s : Stage) (xs : List Entry) → IsBefore t steps s x xs old → IsTrue (may_go s x) → PlainBy a t steps s held x xs old new after

  -- The next entry has been applied at once, with the atoms that a scheduler picked; where there was no room nothing has changed (profile).
  abbrev pub LedByNext : Applied → List Entry → List Step → Stage → HostMemory → Late → List ℕ → Entry → List Entry → CachedDevice → List ℕ → Type 0
  LedByNext done.NoRoom t steps s memory late held x xs new after = LedLate t steps s memory late new × (after ≡ held)
  LedByNext _ t steps s memory late held x xs new after =
      let parts = parts_begun new.device.passes x in
      let atoms = atom_picks answer next (atom_count s.front.past x) 0 held in
      (m : HostMemory) × LedLate t (steps ++ Apply atoms.0 parts ∷ []) (applied s parts x xs) m (late_when_applied s parts new.device.passes x xs late) new × (after ≡ atoms.1)

  abbrev pub AppliesNext : Applied → List ℕ → Entry → CachedDevice → CachedDevice → List ℕ → Type 0
  AppliesNext a held x old new after =
      (t : List Entry) (steps : List Step) (s : Stage) (memory : HostMemory) (late : Late) (xs : List Entry) → IsBeforeLate t steps s memory late x xs old → IsTrue (may_go s x) → LedByNext a t steps s memory late held x xs new after
