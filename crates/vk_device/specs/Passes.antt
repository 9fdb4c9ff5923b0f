-- The defragmentations of a device, as a trace has begun and ended them, and what is allocated with them.
use Rattle.std.specs.Prelude.{◌≡◌, ℕ, List, [], length, Option, Some, None, IsTrue}
use Rattle.vk_model.specs.declared.entry.Entry.{Entry}
use Rattle.vk_model.specs.declared.entry.Entry.TheVariants as entry
use Rattle.vk_model.specs.Trace.Point.{Past}
use Rattle.vk_model.specs.Rules.Passes.{in_pass, pool_of_defrag}
use Rattle.vk_model.specs.Memory.Allocations.{Allocated, Changes, parts_after}
use Rattle.vma_defrag.specs.State.{DefragState}
use Rattle.vk_backing.specs.Backed.{Backed, pool_of}
use Rattle.vk_backing.specs.Passing.{Passing, ArePassing, CopiesAgree, defrag_in, parts_left}
use Rattle.vk_backing.specs.PassAllots.{FulfilsAll, StaysAllotted}
use Rattle.vk_resources.specs.declared.applied.Applied.{Applied}
use Rattle.vk_resources.specs.declared.applied.Applied.TheVariants as applied
use Rattle.vk_resources.specs.Allocating.{allotted}
use Rattle.vk_resources.specs.Held.{Held}
use Rattle.vk_resources.specs.PassSteps.{AreClean}

-- A device has the defragmentation of an id where the trace has begun one that hasn't ended: of the pool that is named there (VMA, "Defragmentation").
abbrev pub IsDefragAs : Backed → Option ℕ → Option DefragState → Type 0
IsDefragAs b None o = o ≡ None
IsDefragAs b (Some pool) o = (d : DefragState) × (o ≡ Some d) × (pool_of b pool ≡ Some d.pool)

-- A device has the defragmentations that have begun and not ended after these points, and its open pass is the one that has begun and not ended (VMA, "Defragmentation").
pub record MatchesPasses (past : Past) (p : Passing) (b : Backed) : Type 0 where
  pub defrags : (i : ℕ) → IsDefragAs b (pool_of_defrag past i) (defrag_in p i)
  pub going : (i : ℕ) → p.opened ≡ Some i → IsTrue (in_pass past i)
  pub opened : (i : ℕ) → IsTrue (in_pass past i) → p.opened ≡ Some i

-- A device has the defragmentations that have begun after these points, with these parts of the open pass left to be copied: what was copied is the same at both places, and all that the host has written to what moves has reached memory (VMA, "Defragmentation"; Vulkan, "Host Access to Device Memory Objects").
pub record HasPasses (parts : List ℕ) (past : Past) (p : Passing) (r : Held) : Type 0 where
  pub passing : ArePassing p r.backed
  pub matches : MatchesPasses past p r.backed
  pub left : parts ≡ parts_left p
  pub agree : CopiesAgree p r.backed r.memory
  pub clean : AreClean p.moving r

-- The resources that an entry moves: those of the pass that it begins or ends (VMA, "Defragmentation").
abbrev pub moved_by : Passing → Entry → Passing → List ℕ
moved_by old (entry.Pass d) new = new.moving
moved_by old (entry.EndPass d kept lost) new = old.moving
moved_by old x new = []

-- How many parts are to be copied when an entry has been applied that has led to these passes: those of the pass that it begins (VMA, "Defragmentation"; parts: profile).
abbrev pub parts_begun : Passing → Entry → ℕ
parts_begun p (entry.Pass d) = length (parts_left p)
parts_begun p x = 0

-- An entry that is applied changes what is allocated, passes included, as it is to, and no more, and so many parts are to be copied then; where there was no room nothing of it changes (Vulkan, "Device Memory"; VMA, "Defragmentation").
abbrev pub AllotsAll : Applied → Entry → Held → Passing → Held → Passing → Type 0
AllotsAll applied.NoRoom x old p new q = StaysAllotted (allotted old) p (allotted new) q
AllotsAll _ x old p new q = (d : Allocated) → FulfilsAll (allotted old) p d → (e : Allocated) × Changes d x e × FulfilsAll (allotted new) q e × (parts_begun q x ≡ parts_after e x)
