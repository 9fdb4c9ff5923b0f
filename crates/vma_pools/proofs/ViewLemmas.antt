-- The blocks of a pool as they are seen from without.
use Rattle.std.proofs.Common.{◌≡◌, ◌∙◌, List, [], ◌∷◌, map, refl, ap}
use Rattle.vk_model.specs.declared.resource.PoolInfo.{PoolInfo}
use Rattle.std.specs.Prelude.{ℕ}
use Rattle.vk_model.specs.Memory.Room.{Block}
use Rattle.vma_pools.specs.declared.blocks.Held.{Held}
use Rattle.vma_pools.specs.declared.views.BlockObject.{BlockObject}
use Rattle.vma_pools.specs.Inner.Walk.{seen, objects, kept_of}
use Rattle.vma_pools.specs.Views.{AreBlockObjects}

-- a block, by its number and its memory object
abbrev pub object_in : {B : Type 0} → Held B → BlockObject
object_in held = record { number = held.number; memory = held.memory }

module _ {B : Type 0} (block : B → Block) where
  numbers-seen : (blocks : List (Held B)) → map (λ (b : BlockObject). b.number) (map object_in blocks) ≡ map (λ b. b.number) (seen block blocks)
  numbers-seen [] = refl
  numbers-seen (h ∷ hs) = ap (λ (l : List ℕ). h.number ∷ l) (numbers-seen hs)

  memories-seen : (blocks : List (Held B)) → map (λ (b : BlockObject). b.memory) (map object_in blocks) ≡ objects blocks
  memories-seen [] = refl
  memories-seen (h ∷ hs) = ap (λ (l : List ℕ). h.memory ∷ l) (memories-seen hs)

  pub are_objects : (info : PoolInfo) (blocks : List (Held B)) (next : ℕ) (found : List BlockObject) → found ≡ map object_in blocks → AreBlockObjects (kept_of block info blocks next) found
  are_objects info blocks next found same = record {
    numbers = ap (λ (l : List BlockObject). map (λ (b : BlockObject). b.number) l) same ∙ numbers-seen blocks;
    memories = ap (λ (l : List BlockObject). map (λ (b : BlockObject). b.memory) l) same ∙ memories-seen blocks;
  }
