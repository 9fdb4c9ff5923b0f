-- Pools of which the same is taken, in whatever order it is listed.
use Rattle.std.specs.Prelude.{◌≡◌, List}
use Rattle.std.specs.List.{AllZip}
use Rattle.vk_model.specs.Memory.Pools.{PoolBlock, Pool}
use Rattle.vma_blocks.specs.Alike.{IsAlike}

-- Two blocks have one number, and are alike.
abbrev pub IsAlikeBlock : PoolBlock → PoolBlock → Type 0
IsAlikeBlock b c = (c.number ≡ b.number) × IsAlike b.block c.block

-- Blocks are alike, one by one.
abbrev pub AreAlike : List PoolBlock → List PoolBlock → Type 0
AreAlike blocks others = AllZip IsAlikeBlock blocks others

-- Two pools were made with the same, have alike blocks, and give their next block one number (VMA, "Custom memory pools").
pub record IsAlikePool (p q : Pool) : Type 0 where
  pub info : q.info ≡ p.info
  pub blocks : AreAlike p.blocks q.blocks
  pub next : q.next ≡ p.next
