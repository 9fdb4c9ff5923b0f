-- What is true of the fields of a block.
use Rattle.std.specs.Prelude.{◌≤◌}
use Rattle.vma_tlsf.specs.declared.tlsf.Tlsf.TheInside.{Inside}
use Rattle.vma_tlsf.specs.Block.{Block}
use Rattle.vma_tlsf.specs.Inner.Chain.{taken_in}
use Rattle.vma_tlsf.specs.Inner.Fits.{IsBlock}

-- Its ranges follow one another, those that are taken are sound, and a search asks for two pages more at most.
pub record IsTlsf (t : Inside) : Type 0 where
  pub more : t.more ≤ 2048
  pub block : IsBlock t.size t.first t.nodes

-- The size of a block, and what is taken of it.
abbrev pub block_of : Inside → Block
block_of t = record { size = t.size; taken = taken_in t.nodes }
