-- A walk over the blocks of a pool for a move target.
use Rattle.std.specs.Prelude.{◌≡◌, ℕ, ◌<◌, ◌==◌, List, length, get_or, set, Option, Some, None, false, if◌then◌else◌}
use Rattle.vk_model.specs.Memory.Suballocation.{Request}
use Rattle.vk_model.specs.Memory.MoveTargets.{BlockStart, Numbered, place_in}
use Rattle.vk_model.specs.Memory.Pools.{PoolBlock, block_bytes, block_taken, block_with}
use Rattle.vma_pools.specs.Alike.{AreAlike}
use Rattle.vma_pools.specs.Inner.Walk.{no_block, block_at}

-- A block by its ranges.
abbrev pub ranges_of : PoolBlock → Numbered
ranges_of b = record { number = b.number; size = block_bytes b.block; taken = block_taken b.block }

-- The lowest place in a block for what is at a place now (VMA, "Defragmentation").
abbrev pub lower_in : BlockStart → Request → PoolBlock → Option BlockStart
lower_in from r b = place_in (record { id = 0; from = from; request = r }) (ranges_of b)

-- No block before an index has a target.
abbrev pub NoneLower : List PoolBlock → BlockStart → Request → ℕ → Type 0
NoneLower blocks from r i = (k : ℕ) → k < i → lower_in from r (get_or blocks k no_block) ≡ None

-- The block at an index is the first that has a target, and gave it; all blocks are alike to those where it is taken.
pub record IsLowerTaken (old new : List PoolBlock) (from : BlockStart) (r : Request) (i start : ℕ) : Type 0 where
  pub there : i < length old
  pub before : NoneLower old from r i
  pub target : lower_in from r (get_or old i no_block) ≡ Some (record { block = (get_or old i no_block).number; start = start })
  pub changed : AreAlike (set old i (record (get_or old i no_block) { block = block_with (block_at old i) r false start })) new

-- A start in the block of a number.
abbrev pub at_start : ℕ → ℕ → BlockStart
at_start number start = record { block = number; start = start }

-- The block at an index is the first that has a target, and this is where it starts.
pub record IsLowest (blocks : List PoolBlock) (from : BlockStart) (r : Request) (i start : ℕ) : Type 0 where
  pub there : i < length blocks
  pub before : NoneLower blocks from r i
  pub target : lower_in from r (get_or blocks i no_block) ≡ Some (record { block = (get_or blocks i no_block).number; start = start })

-- Where the search of a block of a number begins, where that of its pool begins at a place.
abbrev pub start_in : BlockStart → ℕ → ℕ
start_in low number = if number == low.block then low.start else 0
