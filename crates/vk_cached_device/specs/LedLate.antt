-- How an allowed run through caches of queues has led to a device, and what the device answers to what comes next.
use Rattle.std.specs.Prelude.{◌≡◌, ◌==◌, ℕ, ◌<◌, ◌≤◌, List, [], ◌∷◌, ◌++◌, map, length, Contains, Some, None, slice_get, false}
use Rattle.vk_model.specs.declared.entry.Entry.{Entry}
use Rattle.vk_model.specs.Trace.Point.{Past}
use Rattle.vk_model.specs.Sync.Node.{Node, nodes}
use Rattle.vk_model.specs.Run.Runs.{Step, Stage, RunPiece, CopyPart, start}
use Rattle.vk_model.specs.Run.CachedRuns.{Touch, WriteBack, Drop, Load, named_piece}
use Rattle.vk_model.specs.World.Bytes.{Byte, resource_at}
use Rattle.vk_laws.specs.DirectRuns.{HostMemory, bare_memory, memory_after_piece}
use Rattle.vk_cache_laws.specs.LateRuns.{Late, LateRun, late_after_piece, late_after_nodes, late_after_touch}
use Rattle.vk_sync.specs.declared.ready.Piece.{Piece}
use Rattle.vk_sync.specs.Ready.{ready}
use Rattle.vk_queues.specs.IsWaiting.{IsWaiting}
use Rattle.vk_offers.specs.IsOffers.{commands_in, name_of}
use Rattle.vk_offers.specs.IsHappenings.{IsHappenings}
use Rattle.vk_lag.specs.declared.late.Writer.{Writer}
use Rattle.vk_lag.specs.Lags.{resource_in}
use Rattle.vk_resources.specs.declared.resources.Placed.{Placed}
use Rattle.vk_resources.specs.Held.{placed}
use Rattle.vk_availability.specs.AreLate.{AreLate}
use Rattle.vk_device.specs.Becomes.{HasBytes}
use Rattle.vk_device.specs.Led.{Led, IsSoundTrace}
use Rattle.vk_backing.specs.Passing.{parts_left}
use Rattle.vk_cached_device.specs.declared.device.CachedDevice.{CachedDevice}
use Rattle.vk_cached_device.specs.declared.steps.Touch as act
use Rattle.vk_cached_device.specs.declared.steps.Touch.TheVariants as touch

-- The command of a node, as it is kept of each byte that it wrote.
abbrev pub writer_of : Node → Writer
writer_of n = record { queue = n.point.queue; node = n.number }

-- These are the commands that were started, in their order.
abbrev pub AreWriters : List Writer → Past → Type 0
AreWriters writers past = writers ≡ map writer_of (commands_in (nodes past))

-- There is room for the late bytes of each resource that lies somewhere.
abbrev pub HasRoom : CachedDevice → Type 0
HasRoom d = (id : ℕ) (p : Placed) → placed d.device.resources id ≡ Some p → p.size ≤ length (resource_in d.lags id)

-- An allowed run of a trace through caches of the host and of four queues has led to a device: these steps, to this stage. The newest bytes and what the host's cache holds are those of the device wherever a resource lies; memory is behind by the bytes that the device keeps as late, which the commands wrote that it says. The device has the batches that wait, and which dependencies, waits and signals are still to happen (Vulkan, "Execution and Memory Dependencies").
pub record LedLate (t : List Entry) (steps : List Step) (s : Stage) (memory : HostMemory) (late : Late) (d : CachedDevice) : Type 0 where
  pub led : Led t steps s d.device
  pub works : d.device.failed ≡ false
  pub run : LateRun t steps s memory late
  pub holds : HasBytes d.device.resources memory
  pub lags : AreLate d.device.resources d.lags late
  pub room : HasRoom d
  pub waits : IsWaiting d.waiting d.count s.front
  pub counts : d.count ≡ s.count
  pub happenings : IsHappenings d.happenings s.front.past s.done []
  pub few : length (nodes s.front.past) < 4294967296
  pub writers : AreWriters d.writers.items s.front.past

-- The run of no steps has led to a device, for each trace, from any values in memory.
abbrev pub BeginsLate : CachedDevice → Type 0
BeginsLate d = (t : List Entry) (first : Byte → ℕ) → LedLate t [] (start t) (bare_memory first) (λ c. None) d

-- A device is before an entry of a trace.
pub record IsBeforeLate (t : List Entry) (steps : List Step) (s : Stage) (memory : HostMemory) (late : Late) (x : Entry) (xs : List Entry) (d : CachedDevice) : Type 0 where
  pub led : LedLate t steps s memory late d
  pub next : s.left ≡ x ∷ xs
  pub sound : IsSoundTrace t

-- A device is before an entry of some trace.
abbrev pub IsNextLate : CachedDevice → Entry → Type 0
IsNextLate d x = (t : List Entry) × (steps : List Step) × (s : Stage) × (memory : HostMemory) × (late : Late) × (xs : List Entry) × IsBeforeLate t steps s memory late x xs d

-- ---- a piece that may run

-- A piece may run next on a device that a run of some trace has led to.
pub record MayRunLate (d : CachedDevice) (piece : Piece) : Type 0 where
  pub t : List Entry
  pub steps : List Step
  pub s : Stage
  pub memory : HostMemory
  pub late : Late
  pub led : LedLate t steps s memory late d
  pub sound : IsSoundTrace t
  pub among : Contains (ready d.device.offers.ready) piece

-- A piece is one of the command of this node.
abbrev pub IsNodeOf : Stage → Piece → Node → Type 0
IsNodeOf s piece n = slice_get (commands_in (nodes s.front.past)) piece.command ≡ Some n

-- A stage of a run when a piece has run.
abbrev pub ran_piece : Stage → Piece → Stage
ran_piece s piece = record s { done = name_of s.front.past piece ∷ s.done }

-- The bytes that memory is behind by when a piece of a node's command has run: those that it wrote, but for those that a dependency, wait or signal that happens then makes available; and of those from before, those that none makes available (Vulkan, "Execution and Memory Dependencies", on availability operations).
abbrev pub late_when_ran : Stage → Piece → Node → HostMemory → Late → Late
late_when_ran s piece n memory late = late_after_nodes s (ran_piece s piece) (late_after_piece n (named_piece s.front.past (name_of s.front.past piece)) memory late)

-- It has run: its writes are in place, and memory is behind by them.
abbrev pub HasRunLate : CachedDevice → CachedDevice → Piece → Type 0
HasRunLate old new piece =
    (t : List Entry) (steps : List Step) (s : Stage) (memory : HostMemory) (late : Late) → LedLate t steps s memory late old → IsSoundTrace t
    → (n : Node) × IsNodeOf s piece n × LedLate t (steps ++ RunPiece (name_of s.front.past piece) ∷ []) (ran_piece s piece) (memory_after_piece (named_piece s.front.past (name_of s.front.past piece)) memory) (late_when_ran s piece n memory late) new

-- ---- a part that may be copied

-- A part of the open pass may be copied on a device that a run of some trace has led to.
pub record MayCopyLate (d : CachedDevice) (part : ℕ) : Type 0 where
  pub t : List Entry
  pub steps : List Step
  pub s : Stage
  pub memory : HostMemory
  pub late : Late
  pub led : LedLate t steps s memory late d
  pub among : Contains (parts_left d.device.passes) part

-- A part of the open pass has been copied: memory is behind as before (VMA, "Defragmentation").
abbrev pub HasCopiedLate : CachedDevice → CachedDevice → ℕ → Type 0
HasCopiedLate old new part =
    (t : List Entry) (steps : List Step) (s : Stage) (memory : HostMemory) (late : Late) → LedLate t steps s memory late old → IsSoundTrace t
    → LedLate t (steps ++ CopyPart part ∷ []) (record s { copied = part ∷ s.copied }) memory late new

-- ---- what a cache does by itself

-- What the cache of a queue does by itself (profile).
abbrev pub act_of : act.Touch → Touch
act_of touch.WriteBack = WriteBack
act_of touch.Drop = Drop
act_of touch.Load = Load

-- The cache of a queue has written back, dropped or loaded all bytes of a resource: memory catches up with what it writes back, and nothing else changes (profile).
abbrev pub HasTouchedLate : CachedDevice → CachedDevice → Touch → (queue resource : ℕ) → Type 0
HasTouchedLate old new touch queue resource =
    (t : List Entry) (steps : List Step) (s : Stage) (memory : HostMemory) (late : Late) → LedLate t steps s memory late old
    → LedLate t steps s memory (late_after_touch touch queue (λ c. resource_at c == resource) late) new
