-- What always holds of a pool that is kept.
use Rattle.std.specs.Prelude.{◌≡◌, All}
use Rattle.vk_model.specs.declared.resource.PoolInfo.{PoolInfo}
use Rattle.vk_model.specs.declared.resource.PoolKind.{PoolKind}
use Rattle.vk_model.specs.declared.resource.PoolKind.TheVariants as algorithm
use Rattle.vk_model.specs.Memory.Room.{Block}
use Rattle.vk_model.specs.Memory.Pools.{Pool, IsPool, block_bytes}
use Rattle.vma_blocks.specs.Alike.{IsGeneral}
use Rattle.vma_blocks.specs.PoolInfos.{IsPoolInfo}

-- A block is of the kind of its pool (VMA, "Custom memory pools").
abbrev pub IsOfKind : PoolKind → Block → Type 0
IsOfKind algorithm.Tlsf k = IsGeneral k
IsOfKind algorithm.Linear k = IsGeneral k → ⊥

-- A block of a pool that is made so: of its kind, and of its blocks' size (VMA, "Custom memory pools").
pub record IsOfPool (info : PoolInfo) (k : Block) : Type 0 where
  pub kind : IsOfKind info.kind k
  pub bytes : block_bytes k ≡ info.block_size

-- A pool as it can be, made with what a pool may be made with; its blocks are of its kind and size.
pub record IsKeptPool (p : Pool) : Type 0 where
  pub pool : IsPool p
  pub info : IsPoolInfo p.info
  pub kinds : All (λ b. IsOfPool p.info b.block) p.blocks
