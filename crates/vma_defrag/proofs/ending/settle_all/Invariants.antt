use Rattle.vma_defrag.specs.Inner.Ending.{AreSettled}
use Rattle.vma_defrag.proofs.ending.settle_all.Given as goal

abbrev pub invariant-loop-one : goal.invariant-loop-one
invariant-loop-one g l = AreSettled l.initial.pools l.initial.memories l.planned l.one-index l.pools l.memories
