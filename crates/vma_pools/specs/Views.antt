-- What is seen of the blocks of a pool from without.
use Rattle.std.specs.Prelude.{◌≡◌, List, map}
use Rattle.vma_pools.specs.Pools.{Kept, block_numbers}
use Rattle.vma_pools.specs.declared.views.BlockObject.{BlockObject}

-- These are the blocks of a pool, in their order, each with the memory object that it is (VMA, "Custom memory pools").
pub record AreBlockObjects (k : Kept) (found : List BlockObject) : Type 0 where
  pub numbers : map (λ b. b.number) found ≡ block_numbers k.pool
  pub memories : map (λ b. b.memory) found ≡ k.memories
