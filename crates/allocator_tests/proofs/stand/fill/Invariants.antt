use Rattle.vma_pools.specs.State.{Backs}
use Rattle.allocator_tests.proofs.stand.fill.Given as goal

abbrev pub invariant-loop-number : goal.invariant-loop-number
invariant-loop-number l = Backs l.stand.pools l.stand.memories
