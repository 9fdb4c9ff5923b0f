-- A walk over the blocks of a pool.
use Rattle.std.specs.Prelude.{ℕ, ◌<◌, List, [], length, get_or, set, map, Bool}
use Rattle.vk_model.specs.Memory.Suballocation.{Request}
use Rattle.vk_model.specs.Memory.Room.{Block, General, BlockHolds}
use Rattle.vk_model.specs.declared.resource.PoolInfo.{PoolInfo}
use Rattle.vk_model.specs.Memory.Pools.{PoolBlock, BlockGives, block_with}
use Rattle.vma_pools.specs.Alike.{AreAlike}
use Rattle.vma_pools.specs.Pools.{Kept}
use Rattle.vma_pools.specs.declared.blocks.Held.{Held}

-- A block that is held, by its number.
abbrev pub numbered : {B : Type 0} → (B → Block) → Held B → PoolBlock
numbered block held = record { number = held.number; block = block held.block }

-- Blocks that are held, by their numbers.
abbrev pub seen : {B : Type 0} → (B → Block) → List (Held B) → List PoolBlock
seen block blocks = map (numbered block) blocks

-- The memory object of each.
abbrev pub objects : {B : Type 0} → List (Held B) → List ℕ
objects blocks = map (λ held. held.memory) blocks

-- A block of no bytes.
abbrev pub no_block : PoolBlock
no_block = record { number = 0; block = General 0 [] }

-- The block at an index.
abbrev pub block_at : List PoolBlock → ℕ → Block
block_at blocks i = (get_or blocks i no_block).block

-- No block before an index holds the request.
abbrev pub NoneBefore : List PoolBlock → Request → Bool → ℕ → Type 0
NoneBefore blocks r upper i = (k : ℕ) → k < i → BlockHolds (block_at blocks k) r upper → ⊥

-- The block at an index is the first that holds a request, and gave it a start; all blocks are alike to those where it is taken.
pub record IsTaken (old new : List PoolBlock) (r : Request) (upper : Bool) (i start : ℕ) : Type 0 where
  pub there : i < length old
  pub before : NoneBefore old r upper i
  pub gives : BlockGives (block_at old i) r upper start
  pub changed : AreAlike (set old i (record (get_or old i no_block) { block = block_with (block_at old i) r upper start })) new

-- A pool as its fields are seen.
abbrev pub kept_of : {B : Type 0} → (B → Block) → PoolInfo → List (Held B) → ℕ → Kept
kept_of block info blocks next = record { pool = record { info = info; blocks = seen block blocks; next = next }; memories = objects blocks }
