-- What entries leave of the passes of defragmentations.
use Rattle.std.specs.Prelude.{◌≡◌, ◌⊎◌, ℕ, Contains, Some, None, ⊤}
use Rattle.vk_model.specs.declared.entry.Entry.{Entry}
use Rattle.vk_model.specs.declared.entry.Entry.TheVariants as entry
use Rattle.vma_pools.specs.State.{pool_at}
use Rattle.vma_defrag.specs.State.{DefragState}
use Rattle.vk_backing.specs.Backed.{Backed, pool_of}
use Rattle.vk_backing.specs.Passing.{Passing, defrag_in, ArePassing, CopiesAgree}
use Rattle.vk_resources.specs.Held.{Held}

-- Defragmentations stay as they always are, the parts of the open pass that were copied stay so, and ids have the pools that they had (VMA, "Defragmentation" and "Custom memory pools").
pub record KeepsPassing (old new : Held) : Type 0 where
  pub passing : (p : Passing) → ArePassing p old.backed → ArePassing p new.backed
  pub agree : (p : Passing) → ArePassing p old.backed → CopiesAgree p old.backed old.memory → CopiesAgree p new.backed new.memory
  pub pools : (i : ℕ) → pool_of new.backed i ≡ pool_of old.backed i

-- Ids have the pools that they had, but for one that an entry makes, which has a new number, and one that it ends (VMA, "Custom memory pools").
pub record KeepsPools (x : Entry) (old new : Held) : Type 0 where
  pub from : (i n : ℕ) → pool_of new.backed i ≡ Some n → (pool_of old.backed i ≡ Some n) ⊎ (pool_at old.backed.pools n ≡ None)
  pub stay : (i n : ℕ) → pool_of old.backed i ≡ Some n → (x ≡ entry.DropPool i → ⊥) → pool_of new.backed i ≡ Some n

-- An entry ends nothing that a pass moves, and no pool that is defragmented (VMA, "Defragmentation").
abbrev pub SparesPasses : Passing → Backed → Entry → Type 0
SparesPasses p b (entry.Free m) = Contains p.moving m → ⊥
SparesPasses p b (entry.Destroy r) = Contains p.moving r → ⊥
SparesPasses p b (entry.DropPool q) = (i : ℕ) (d : DefragState) → defrag_in p i ≡ Some d → pool_of b q ≡ Some d.pool → ⊥
SparesPasses p b _ = ⊤

-- There are defragmentations that an entry spares.
abbrev pub HasSpared : Held → Entry → Type 0
HasSpared s x = (p : Passing) × ArePassing p s.backed × SparesPasses p s.backed x

-- Defragmentations stay as they always are over an entry that spares them, and so do pools (VMA, "Defragmentation").
pub record KeepsSpared (x : Entry) (old new : Held) : Type 0 where
  pub passing : (p : Passing) → ArePassing p old.backed → SparesPasses p old.backed x → ArePassing p new.backed
  pub pools : KeepsPools x old new
