-- Which ranges are taken in a pool.
use Rattle.std.specs.Prelude.{◌≡◌, ℕ, Contains}
use Rattle.vk_model.specs.Memory.Suballocation.{Taken}
use Rattle.vk_model.specs.Memory.Pools.{PoolBlock, Pool, block_taken}

-- A range is taken in the block of this number (VMA, "Custom memory pools").
pub record HasRange (p : Pool) (n : ℕ) (t : Taken) : Type 0 where
  pub block : PoolBlock
  pub there : Contains p.blocks block
  pub number : block.number ≡ n
  pub range : Contains (block_taken block.block) t
