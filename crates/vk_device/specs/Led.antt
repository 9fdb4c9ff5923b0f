-- How an allowed run has led to a device, and what the device answers to what comes next.
use Rattle.std.specs.Prelude.{◌≡◌, ℕ, suc, List, [], ◌∷◌, ◌++◌, map, length, slice_index, Contains, Some, None, true}
use Rattle.vk_memory.specs.MemoryState.{IsLive, region_of, type_of}
use Rattle.vk_model.specs.declared.command.Cmd.{Cmd}
use Rattle.vk_model.specs.declared.entry.Entry.{Entry}
use Rattle.vk_model.specs.Trace.Point.{Past}
use Rattle.vk_model.specs.Trace.Order.{order}
use Rattle.vk_model.specs.Sync.Node.{Runs, nodes}
use Rattle.vk_model.specs.Rules.Table.{first_fault}
use Rattle.vk_model.specs.Run.Runs.{Step, Stage, RunPiece, CopyPart, parts_left}
use Rattle.vk_model.specs.Run.CachedRuns.{write_to, named_piece}
use Rattle.vk_model.specs.World.Bytes.{Byte}
use Rattle.vk_model.specs.World.ByteWrites.{ByteWrite}
use Rattle.vk_model.specs.Run.Picks.{before_entry, entry_picks}
use Rattle.vk_model.specs.World.Effect.{world}
use Rattle.vk_model.specs.World.Meaning.{read_in}
use Rattle.vk_laws.specs.DirectRuns.{DirectRun, HostMemory, cells_of, memory_after_piece}
use Rattle.vk_laws.specs.TraceBytes.{value_before}
use Rattle.vk_sync.specs.declared.ready.Piece.{Piece}
use Rattle.vk_sync.specs.Ready.{ready}
use Rattle.vk_queues.specs.IsWaiting.{IsWaiting}
use Rattle.vk_offers.specs.IsOffers.{IsOffers, name_of, commands_in}
use Rattle.vk_transfer.specs.Ran.{HaveRun}
use Rattle.vk_resources.specs.declared.applied.Applied.{Applied}
use Rattle.vk_resources.specs.declared.applied.Applied.TheVariants as applied
use Rattle.vk_resources.specs.declared.stretches.Written.{Written}
use Rattle.vk_resources.specs.Stretches.{HasWrites}
use Rattle.vk_resources.specs.Held.{byte_at, IsThere, HasCell}
use Rattle.vk_resources.specs.Rest.{KeepsRest, LiesNone, is_written}
use Rattle.vk_resources.specs.Matches.{Stands}
use Rattle.vk_resources.specs.PassSteps.{KeepsCells}
use Rattle.vma_defrag.specs.Bytes.{IsTargetByte}
use Rattle.vk_backing.specs.Passing as backing
use Rattle.vk_backing.specs.Passing.{open_moves}
use Rattle.vk_backing.specs.PassSteps.{Copies}
use Rattle.vk_device.specs.declared.device.Device.{Device}
use Rattle.vk_device.specs.Becomes.{Becomes, memory_after}
use Rattle.vk_device.specs.Passes.{HasPasses, moved_by, parts_begun}

-- A device has made ready the clears and copies of a past, in their order.
abbrev pub AreWorks : List Cmd → Past → Type 0
AreWorks works past = map Runs works ≡ map (λ n. n.act) (commands_in (nodes past))

-- An allowed run of a trace has led to a device: these steps, without caches of queues, to this stage and to some bytes of memory with what the host's cache holds of them, which are those of the device wherever a resource lies. The device has the buffers and the memory objects that are live, the batches that wait, the entries that were applied, the commands that were started, the pieces that may run next, and the passes of defragmentations (Vulkan, "Execution and Memory Dependencies"; VMA, "Defragmentation").
pub record Led (t : List Entry) (steps : List Step) (s : Stage) (d : Device) : Type 0 where
  pub memory : HostMemory
  pub run : DirectRun t steps s memory
  pub holds : (c : Byte) → IsThere d.resources c → HasCell d.resources c (cells_of memory c)
  pub matches : Stands s.front.past d.resources
  pub works : AreWorks d.works.items s.front.past
  pub waits : IsWaiting d.waiting d.count s.front
  pub counts : d.count ≡ s.count
  pub offers : IsOffers d.offers s.front.past s.done
  pub passes : HasPasses (parts_left s) s.front.past d.passes d.resources

-- The trace has no fault.
pub record IsSoundTrace (t : List Entry) : Type 0 where
  pub faultless : first_fault t ≡ None

-- A device is before an entry of a trace.
pub record IsBefore (t : List Entry) (steps : List Step) (s : Stage) (x : Entry) (xs : List Entry) (d : Device) : Type 0 where
  pub led : Led t steps s d
  pub next : s.left ≡ x ∷ xs
  pub sound : IsSoundTrace t

-- A device is before an entry of some trace.
abbrev pub IsNext : Device → Entry → Type 0
IsNext d x = (t : List Entry) × (steps : List Step) × (s : Stage) × (xs : List Entry) × IsBefore t steps s x xs d

-- ---- a piece that may run

-- A piece may run next on a device that a run of some trace has led to.
pub record MayRun (d : Device) (piece : Piece) : Type 0 where
  pub t : List Entry
  pub steps : List Step
  pub s : Stage
  pub led : Led t steps s d
  pub sound : IsSoundTrace t
  pub among : Contains (ready d.offers.ready) piece

-- What it is about to write are bytes of one resource, the same whichever run has led here (Vulkan, "Clear Commands" and "Copy Commands").
abbrev pub IsWritten : Device → Piece → Written → Type 0
IsWritten d piece w =
    (t : List Entry) (steps : List Step) (s : Stage) → Led t steps s d → IsSoundTrace t
    → HasWrites d.resources (named_piece s.front.past (name_of s.front.past piece)) w

-- It has run.
abbrev pub HasRun : Device → Device → Piece → Type 0
HasRun old new piece =
    (t : List Entry) (steps : List Step) (s : Stage) → Led t steps s old → IsSoundTrace t
    → Led t (steps ++ RunPiece (name_of s.front.past piece) ∷ []) (record s { done = name_of s.front.past piece ∷ s.done }) new

-- The byte writes of the piece have been made, and every other byte of a resource is as it was.
abbrev pub HasChanged : Device → Device → Piece → Type 0
HasChanged old new piece =
    (t : List Entry) (steps : List Step) (s : Stage) → Led t steps s old → IsSoundTrace t
    → HaveRun (named_piece s.front.past (name_of s.front.past piece)) (byte_at old.resources) (byte_at new.resources)

-- The bytes of resources have become what the piece makes of them.
abbrev pub RunBecomes : Device → Device → Piece → Type 0
RunBecomes old new piece =
    (t : List Entry) (steps : List Step) (s : Stage) → Led t steps s old → IsSoundTrace t → Becomes old.resources new.resources (memory_after_piece (named_piece s.front.past (name_of s.front.past piece)))

-- Of all memory objects only the bytes that are written by it have changed: padding, and what is free or reserved in pools, are as they were (Vulkan, "Device Memory" and "Copy Commands").
abbrev pub KeepsMemory : Device → Device → Piece → Type 0
KeepsMemory old new piece =
    (t : List Entry) (steps : List Step) (s : Stage) → Led t steps s old → IsSoundTrace t
    → KeepsRest old.resources new.resources (is_written (named_piece s.front.past (name_of s.front.past piece)))

-- Each byte that it has written holds what the trace means there after the command of the piece, with commands one at a time in reference order, where that is defined.
abbrev pub HasWritten : Device → Device → Piece → Type 0
HasWritten old new piece =
    (t : List Entry) (steps : List Step) (s : Stage) (c : Byte) (w : ByteWrite) (v : ℕ) → Led t steps s old → IsSoundTrace t → write_to c (named_piece s.front.past (name_of s.front.past piece)) ≡ Some w
    → value_before (order t) (suc (name_of s.front.past piece).0) c ≡ Some v → byte_at new.resources c ≡ v

-- ---- a part that may be copied

-- A part of the open pass may be copied on a device that a run of some trace has led to.
pub record MayCopy (d : Device) (part : ℕ) : Type 0 where
  pub t : List Entry
  pub steps : List Step
  pub s : Stage
  pub led : Led t steps s d
  pub among : Contains (backing.parts_left d.passes) part

-- It has been copied.
abbrev pub HasCopied : Device → Device → ℕ → Type 0
HasCopied old new part =
    (t : List Entry) (steps : List Step) (s : Stage) → Led t steps s old
    → Led t (steps ++ CopyPart part ∷ []) (record s { copied = part ∷ s.copied }) new

-- No byte of a resource has changed, and of memory only the bytes of the part, at the place that is reserved for what moves (VMA, "Defragmentation").
pub record CopiesOnly (old new : Device) (part : ℕ) : Type 0 where
  pub cells : KeepsCells old.resources new.resources
  pub copies : Copies old.passes new.passes old.resources.backed part old.resources.memory new.resources.memory

-- ---- an entry that is applied

module _ (answer : List ℕ → ℕ → ℕ) (next : List ℕ → ℕ → List ℕ) where
  -- An entry was applied: the steps that the scheduler picked before it have led here, and then the entry. Where there was no room those before it alone have (profile).
  abbrev pub Applies : Applied → List Entry → List Step → Stage → List ℕ → Entry → List Entry → Device → List ℕ → Type 0
  Applies applied.NoRoom t steps s held x xs new after = let p = before_entry answer next s held x in Led t (steps ++ p.steps) p.stage new × (after ≡ p.held)
  Applies _ t steps s held x xs new after = let p = entry_picks answer next (parts_begun new.passes x) s held x xs in Led t (steps ++ p.steps) p.stage new × (after ≡ p.held)

  -- What happened to the bytes of resources that are there before and after is what those steps do, and no more: nothing has run that wasn't picked (Vulkan, "Execution and Memory Dependencies" and "Host Access to Device Memory Objects"; VMA, "Defragmentation").
  abbrev pub ChangesBytes : Applied → Stage → List ℕ → Entry → List Entry → Device → Device → Type 0
  ChangesBytes applied.NoRoom s held x xs old new = Becomes old.resources new.resources (memory_after s.front.past [] x (before_entry answer next s held x).steps)
  ChangesBytes _ s held x xs old new = Becomes old.resources new.resources (memory_after s.front.past (moved_by old.passes x new.passes) x (entry_picks answer next (parts_begun new.passes x) s held x xs).steps)

-- Byte k of the memory object of a number lies in a place that is reserved for what moves in the open pass (VMA, "Defragmentation").
abbrev pub IsReserved : Device → ℕ → ℕ → Type 0
IsReserved d number k = IsTargetByte d.resources.backed.pools (open_moves d.passes) (λ m. true) number k

-- Each memory object that is live before and after has its type and its size, and only bytes of resources, and of places that were reserved for what moves, have changed of it: padding, and what is free in pools, are as they were (Vulkan, "Device Memory" and "Resource Memory Association"; VMA, "Custom memory pools" and "Defragmentation").
pub record KeepsPadding (old new : Device) : Type 0 where
  pub types : (number : ℕ) → IsLive old.resources.memory number → IsLive new.resources.memory number → type_of new.resources.memory number ≡ type_of old.resources.memory number
  pub sizes : (number : ℕ) → IsLive old.resources.memory number → IsLive new.resources.memory number → length (region_of new.resources.memory number) ≡ length (region_of old.resources.memory number)
  pub bytes : (number k : ℕ) → IsLive old.resources.memory number → IsLive new.resources.memory number → LiesNone old.resources (λ c. true) number k → (IsReserved old number k → ⊥) → slice_index (region_of new.resources.memory number) k ≡ slice_index (region_of old.resources.memory number) k

-- What an entry reads (Vulkan, "Host Access to Device Memory Objects").
abbrev pub Reads : Applied → Stage → Entry → Type 0
Reads applied.Done s x = read_in (world s.front.past) s.count x ≡ []
Reads (applied.Bytes bytes) s x = read_in (world s.front.past) s.count x ≡ (s.count, bytes) ∷ []
Reads applied.NoRoom s x = Unit {0}
