use Rattle.std.proofs.Common.{◌≡◌}
use Rattle.vma_defrag.specs.Inner.Copying.{AreTaken}
use Rattle.vma_defrag.proofs.ending.copy_rest.Given as goal

abbrev pub invariant-loop : goal.invariant-loop
invariant-loop g l = (l.parts.counts ≡ l.initial.parts.counts) × AreTaken l.pools l.planned l.initial.parts.left l.initial.memories l.counter l.parts.left l.memories
