use Rattle.vma_defrag.specs.Inner.Ending.{AreEnded}
use Rattle.vma_defrag.proofs.ending.end_all.Given as goal

abbrev pub invariant-loop-number : goal.invariant-loop-number
invariant-loop-number g l = AreEnded l.initial.pools l.initial.memories l.numbers l.number-index l.pools l.memories
