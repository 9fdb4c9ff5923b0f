use Rattle.vma_pools.specs.State.{Backs}
use Rattle.allocator_tests.proofs.pools.follow_all.Given as goal

abbrev pub invariant-loop-step : goal.invariant-loop-step
invariant-loop-step g l = Backs l.stand.pools l.stand.memories
