use Rattle.vk_transfer.specs.Counted.{AreCounted}
use Rattle.vma_defrag.specs.State.{part_count}
use Rattle.vma_defrag.specs.Inner.Planned.{moves_of}
use Rattle.vma_defrag.proofs.parts.Parts.of.Given as goal

abbrev pub invariant-loop-one : goal.invariant-loop-one
invariant-loop-one l = AreCounted part_count (moves_of l.planned) l.one-index l.counts
