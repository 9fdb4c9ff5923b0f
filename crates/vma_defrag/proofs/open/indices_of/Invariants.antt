use Rattle.vma_defrag.proofs.Indices.{AreIndexedTo}
use Rattle.vma_defrag.proofs.open.indices_of.Given as goal

abbrev pub invariant-loop-index : goal.invariant-loop-index
invariant-loop-index l = AreIndexedTo l.planned l.index l.indices.entries
