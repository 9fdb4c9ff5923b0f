-- What pools are asked, and what they are seen as.
use Rattle.std.specs.Prelude.{◌≡◌, ◌⊎◌, ℕ, ◌<◌, ◌==◌, List, [], ◌∷◌, ◌++◌, length, map, get_or, take, drop, ◌+◌, Any, Bool, Option, Some, None, false, if◌then◌else◌}
use Rattle.vk_model.specs.Memory.Suballocation.{Request, IsTakenAt}
use Rattle.vk_model.specs.Memory.Room.{Heaps}
use Rattle.vk_model.specs.Memory.MoveTargets.{BlockStart, move_target}
use Rattle.vk_model.specs.Memory.Pools.{Pool, PoolBlock, Gives, block_taken, numbered_blocks, pool_with}
use Rattle.vma_pools.specs.Alike.{IsAlikePool}
use Rattle.vk_memory.specs.MemoryState.{MemoryState, fresh, sizes_on, live_count}

-- A pool, and the number of the memory object that each of its blocks is, in their order (VMA, "Custom memory pools").
pub record Kept : Type 0 where
  pub pool : Pool
  pub memories : List ℕ

-- A pool gave a request this place in a block that it has; the memory objects of its blocks are as they were.
pub record TakesOld (old new : Kept) (r : Request) (upper : Bool) (s : BlockStart) : Type 0 where
  pub given : Gives old.pool r upper s
  pub has : s.block < old.pool.next
  pub pool : IsAlikePool (pool_with old.pool r upper s) new.pool
  pub memories : new.memories ≡ old.memories

-- A pool gave a request this place in a new block, which is a new memory object.
pub record TakesNew (old new : Kept) (before after : MemoryState) (r : Request) (upper : Bool) (s : BlockStart) : Type 0 where
  pub given : Gives old.pool r upper s
  pub is_new : s.block ≡ old.pool.next
  pub pool : IsAlikePool (pool_with old.pool r upper s) new.pool
  pub memories : new.memories ≡ old.memories ++ length before.objects ∷ []
  pub object : after ≡ record before { objects = before.objects ++ Some (fresh old.pool.info.memory_type old.pool.info.block_size) ∷ [] }

-- A pool gave a request this place, in a block that it has, where no memory object is new, or in a new one.
abbrev pub Takes : Kept → Kept → MemoryState → MemoryState → Request → Bool → BlockStart → Type 0
Takes old new before after r upper s = (TakesOld old new r upper s × (after ≡ before)) ⊎ TakesNew old new before after r upper s

-- The heaps of memory objects: their sizes, what is used of each, and how many objects are live (Vulkan, "Device Memory").
abbrev pub heaps : MemoryState → Heaps
heaps m = record {
  limit = λ h. if h == 0 then m.sizes.heap0 else m.sizes.heap1;
  used = λ h. sizes_on (h == 0) m.objects;
  objects = live_count m.objects;
}

-- A range of a pool is taken that starts at this place.
abbrev pub HasTaken : Pool → BlockStart → Type 0
HasTaken p s = Any (λ b. (b.number ≡ s.block) × IsTakenAt s.start (block_taken b.block)) p.blocks

-- What has a place in a pool has no move target (VMA, "Defragmentation").
abbrev pub HasNoTarget : Pool → BlockStart → Request → Type 0
HasNoTarget p from r = (id : ℕ) → move_target (numbered_blocks p.blocks) (record { id = id; from = from; request = r }) ≡ None

-- The move target of what has a place in a pool (VMA, "Defragmentation").
abbrev pub HasTarget : Pool → BlockStart → Request → BlockStart → Type 0
HasTarget p from r s = (id : ℕ) → move_target (numbered_blocks p.blocks) (record { id = id; from = from; request = r }) ≡ Some s

-- The move target of what has a place in a pool is taken too; the memory objects of its blocks are as they were (VMA, "Defragmentation").
pub record TakesTarget (old new : Kept) (from : BlockStart) (r : Request) (s : BlockStart) : Type 0 where
  pub given : Gives old.pool r false s
  pub has : s.block < old.pool.next
  pub target : (id : ℕ) → move_target (numbered_blocks old.pool.blocks) (record { id = id; from = from; request = r }) ≡ Some s
  pub pool : IsAlikePool (pool_with old.pool r false s) new.pool
  pub memories : new.memories ≡ old.memories

-- The block of a number is this memory object (VMA, "Custom memory pools").
pub record IsMemoryOf (k : Kept) (number memory : ℕ) : Type 0 where
  pub index : ℕ
  pub there : index < length k.pool.blocks
  pub numbered : (d : PoolBlock) → (get_or k.pool.blocks index d).number ≡ number
  pub is : get_or k.memories index 0 ≡ memory

-- One of some numbers is left out.
pub record Loses (old new : List ℕ) (gone : ℕ) : Type 0 where
  pub index : ℕ
  pub there : index < length old
  pub is : get_or old index 0 ≡ gone
  pub left : new ≡ take index old ++ drop (index + 1) old

-- The numbers of a pool's blocks.
abbrev pub block_numbers : Pool → List ℕ
block_numbers p = map (λ b. b.number) p.blocks

-- The block of a number has gone, and the memory object that it was with it; the others are as they were (VMA, "Custom memory pools").
pub record LosesOne (old new : Kept) (number gone : ℕ) : Type 0 where
  pub index : ℕ
  pub there : index < length old.memories
  pub block : index < length old.pool.blocks
  pub is : get_or old.memories index 0 ≡ gone
  pub numbered : get_or (block_numbers old.pool) index 0 ≡ number
  pub memories : new.memories ≡ take index old.memories ++ drop (index + 1) old.memories
  pub numbers : block_numbers new.pool ≡ take index (block_numbers old.pool) ++ drop (index + 1) (block_numbers old.pool)

-- A range of the block of a number was given back: all blocks are the memory objects that they were, or that block has gone with its memory object.
abbrev pub KeepsBlocks : Option ℕ → ℕ → Kept → Kept → Type 0
KeepsBlocks None number old new = (new.memories ≡ old.memories) × (block_numbers new.pool ≡ block_numbers old.pool)
KeepsBlocks (Some gone) number old new = LosesOne old new number gone
