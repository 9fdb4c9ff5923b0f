-- What each step of a device asks of it, and gives.
use Rattle.std.specs.Prelude.{◌≡◌, ℕ, ◌+◌, ◌<◌, List, [], ◌∷◌, ◌++◌, length, None, true, if◌then◌else◌, IsTrue}
use Rattle.vk_model.specs.declared.entry.Entry.{Entry}
use Rattle.vk_model.specs.declared.command.Cmd.{Cmd}
use Rattle.vk_model.specs.declared.entry.Entry.TheVariants as entry
use Rattle.vk_model.specs.Basics.{below}
use Rattle.vk_model.specs.Trace.Point.{Past, Point, Run}
use Rattle.vk_model.specs.Trace.Order.{host}
use Rattle.vk_model.specs.World.Bytes.{Byte}
use Rattle.vk_model.specs.Run.Pieces.{pieces}
use Rattle.vk_model.specs.Run.Runs.{Step, Stage, Apply, may_go, touched_by, atom_count}
use Rattle.vk_model.specs.Run.Runs as runs
use Rattle.vk_model.specs.Run.Picks.{before_entry, atom_picks}
use Rattle.vk_model.specs.Run.Caches.{Cell, queue_agent}
use Rattle.vk_model.specs.Run.CachedRuns.{after_host, in_atoms, turned_over}
use Rattle.vk_laws.specs.DirectRuns.{DirectRun, HostMemory, cells_of}
use Rattle.vk_queues.specs.IsWaiting.{IsWaiting}
use Rattle.vk_offers.specs.IsOffers.{IsOffers, is_run}
use Rattle.vk_resources.specs.Held.{Held, IsThere, HasCell}
use Rattle.vk_resources.specs.Matches.{Stands}
use Rattle.vk_resources.specs.Rest.{KeepsRest}
use Rattle.vk_resources.specs.declared.applied.Applied.{Applied}
use Rattle.vk_resources.specs.declared.applied.Applied.TheVariants as applied
use Rattle.vk_resources.specs.Done.{HoldsNoneNew, ReadsBytes, ReadsNothing}
use Rattle.vk_resources.specs.PassSteps.{AreClean}
use Rattle.vk_backing.specs.Passing.{Passing, ArePassing, CopiesAgree, open_moves}
use Rattle.vk_device.specs.declared.device.Device.{Device}
use Rattle.vk_device.specs.Inner.Clean.{IsClean}
use Rattle.vk_device.specs.Becomes.{Becomes, memory_after}
use Rattle.vk_device.specs.Coming.{CommandFits}
use Rattle.vk_device.specs.Passes.{HasPasses, moved_by, parts_begun}
use Rattle.vk_device.specs.Led.{Led, AreWorks, IsSoundTrace, KeepsPadding}

-- What was copied of an open pass stays the same at both places, where all that the host has written to what moves has reached memory, and that stays so (VMA, "Defragmentation").
abbrev pub KeepsPasses : Held → Held → Type 0
KeepsPasses old new = (p : Passing) → ArePassing p old.backed → AreClean p.moving old → CopiesAgree p old.backed old.memory → AreClean p.moving new × CopiesAgree p new.backed new.memory

-- Just before an entry the host's cache has taken up or given back atoms of the buffer that it accesses, and nothing else has changed (Vulkan, "Host Access to Device Memory Objects").
pub record HasTouched (x : Entry) (atoms : List ℕ) (old new : Held) : Type 0 where
  pub cells : (c : Byte) (cell : Cell) → IsThere old c → HasCell old c cell → HasCell new c (if in_atoms (touched_by x) atoms c then turned_over cell else cell)
  pub matches : (past : Past) → Stands past old → Stands past new
  pub resources : new.resources ≡ old.resources
  pub shapes : new.shapes ≡ old.shapes
  pub backed : new.backed ≡ old.backed
  pub copies : KeepsPasses old new
  pub same : atoms ≡ [] → new ≡ old

-- The scheduler was asked for each atom that the buffer has in the host's cache, and those have been taken up or given back that it picked (profile).
pub record Touches (answer : List ℕ → ℕ → ℕ) (next : List ℕ → ℕ → List ℕ) (past : Past) (x : Entry) (held : List ℕ) (old new : Held) (after : List ℕ) : Type 0 where
  pub touched : HasTouched x (atom_picks answer next (atom_count past x) 0 held).0 old new
  pub holds : after ≡ (atom_picks answer next (atom_count past x) 0 held).1

-- Resources lie where they lay, and only bytes of them have changed of all memory objects.
pub record Rests (old new : Held) : Type 0 where
  pub rest : KeepsRest old new (λ c. true)
  pub resources : new.resources ≡ old.resources
  pub shapes : new.shapes ≡ old.shapes

-- What runs between two entries leaves resources where they lie, the moves of the open pass, and all bytes that are of no resource and of no place that is reserved.
pub record Between (old new : Device) : Type 0 where
  pub padding : KeepsPadding old new
  pub resources : new.resources.resources ≡ old.resources.resources
  pub shapes : new.resources.shapes ≡ old.resources.shapes
  pub moving : new.passes.moving ≡ old.passes.moving
  pub moves : open_moves new.passes ≡ open_moves old.passes

-- They have become what the steps make of them that were picked before an entry.
abbrev pub PicksBecome : (List ℕ → ℕ → ℕ) → (List ℕ → ℕ → List ℕ) → Stage → List ℕ → Entry → Device → Device → Type 0
PicksBecome answer next s held x old new = (moved : List ℕ) → Becomes old.resources new.resources (memory_after s.front.past moved x (before_entry answer next s held x).steps)

-- ---- an entry is done by itself

-- The parts that are left when an entry has been applied: all those of a pass that it begins, and none where it ends one (VMA, "Defragmentation").
abbrev pub parts_with : Passing → Entry → List ℕ → List ℕ
parts_with new (entry.Pass d) parts = below (parts_begun new (entry.Pass d))
parts_with new (entry.EndPass d kept lost) parts = []
parts_with new x parts = parts

-- An entry may be done on a device: it breaks no rule after some points, and the device has what is live then and the passes that are open.
pub record MayChange (d : Device) (x : Entry) : Type 0 where
  pub number : ℕ
  pub past : Past
  pub parts : List ℕ
  pub clean : IsClean (host number x ∷ past)
  pub stands : Stands past d.resources
  pub passes : HasPasses parts past d.passes d.resources

-- No queue's cache holds anything of a byte (Vulkan, "Execution and Memory Dependencies").
abbrev pub IsOnHost : Cell → Type 0
IsOnHost cell = (q : ℕ) → cell.held (queue_agent q) ≡ None

-- Resources and passes go on with an entry: they are those of the past with it, the bytes of those that were there before are what it leaves, and nothing is held of new ones (Vulkan, "Resource Creation", "Object Lifetime" and "Host Access to Device Memory Objects"; VMA, "Defragmentation").
pub record GoesOn (number : ℕ) (x : Entry) (past : Past) (parts : List ℕ) (old : Held) (p : Passing) (new : Held) (q : Passing) : Type 0 where
  pub stands : Stands (host number x ∷ past) new
  pub cells : (c : Byte) (cell : Cell) → IsOnHost cell → IsThere old c → IsThere new c → HasCell old c cell → HasCell new c (after_host past (moved_by p x q) x c cell)
  pub bare : HoldsNoneNew old new
  pub passes : HasPasses (parts_with q x parts) (host number x ∷ past) q new

-- What is answered to an entry, and what it has done; where there was no room nothing was changed, and the entry accesses no buffer.
abbrev pub IsDone : Applied → ℕ → Entry → Past → List ℕ → Held → Passing → Held → Passing → Type 0
IsDone applied.Done e x past parts old p new q = GoesOn e x past parts old p new q × ReadsNothing x
IsDone (applied.Bytes bytes) e x past parts old p new q = GoesOn e x past parts old p new q × ReadsBytes x old bytes
IsDone applied.NoRoom e x past parts old p new q = (new ≡ old) × (q ≡ p) × (touched_by x ≡ None)

-- It has done so wherever a device may be in a trace.
abbrev pub HasDone : Applied → Entry → Device → Device → Type 0
HasDone a x old new =
    (e : ℕ) (past : Past) (parts : List ℕ) → IsClean (host e x ∷ past) → Stands past old.resources → HasPasses parts past old.passes old.resources
    → IsDone a e x past parts old.resources old.passes new.resources new.passes

-- An entry has been done by itself, after these atoms: the run has come to its stage, and its points haven't come to the device.
pub record HostDone (t : List Entry) (steps : List Step) (s : Stage) (x : Entry) (xs : List Entry) (atoms : List ℕ) (d : Device) : Type 0 where
  pub memory : HostMemory
  pub run : DirectRun t (steps ++ Apply atoms (parts_begun d.passes x) ∷ []) (runs.applied s (parts_begun d.passes x) x xs) memory
  pub holds : (c : Byte) → IsThere d.resources c → HasCell d.resources c (cells_of memory c)
  pub matches : Stands (host s.count x ∷ s.front.past) d.resources
  pub works : AreWorks d.works.items s.front.past
  pub waits : IsWaiting d.waiting d.count s.front
  pub counts : d.count ≡ s.count
  pub offers : IsOffers d.offers s.front.past s.done
  pub passes : HasPasses (runs.parts_left (runs.applied s (parts_begun d.passes x) x xs)) (host s.count x ∷ s.front.past) d.passes d.resources
  pub sound : IsSoundTrace t

-- An entry of some trace has been.
abbrev pub AdvanceReady : Device → Entry → Type 0
AdvanceReady d x = (t : List Entry) × (steps : List Step) × (s : Stage) × (xs : List Entry) × (atoms : List ℕ) × HostDone t steps s x xs atoms d

-- A point that comes was made ready: it is run in so many pieces where it is a clear or a copy, which is among those that are ready then, and nothing else has changed.
pub record Prepares (old new : Device) (p : Point) (total : ℕ) : Type 0 where
  pub counted : (past : Past) (c : Cmd) → p.action ≡ Run c → is_run c ≡ true → CommandFits past c old.resources → total ≡ length (pieces past c)
  pub works : (past : Past) → AreWorks old.works.items past → AreWorks new.works.items (p ∷ past)
  pub waiting : new.waiting ≡ old.waiting
  pub offers : new.offers ≡ old.offers
  pub count : new.count ≡ old.count

-- What was picked before an entry has led here, and the entry may be applied.
abbrev pub Picks : (List ℕ → ℕ → ℕ) → (List ℕ → ℕ → List ℕ) → List Entry → List Step → Stage → List ℕ → Entry → Device → List ℕ → Type 0
Picks answer next t steps s held x new after =
    let p = before_entry answer next s held x in
    Led t (steps ++ p.steps) p.stage new × (after ≡ p.held) × IsTrue (may_go p.stage x)
