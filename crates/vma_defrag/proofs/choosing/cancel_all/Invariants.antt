use Rattle.std.proofs.Common.{◌≡◌}
use Rattle.vma_pools.specs.State.{Backs, PoolsState}
use Rattle.vma_defrag.specs.Passes.{AreAlikePools}
use Rattle.vma_defrag.specs.Inner.Planned.{moves_of}
use Rattle.vma_defrag.specs.Inner.Choosing.{HasReserved}
use Rattle.vma_defrag.proofs.choosing.cancel_all.Given as goal

abbrev pub invariant-loop-one : goal.invariant-loop-one
invariant-loop-one g l = record {
  undone : (old : PoolsState) → HasReserved old l.fn.pools (moves_of l.fn.planned.items) → (now : PoolsState) × HasReserved old now (moves_of l.planned.items) × AreAlikePools now l.pools;
  memories : l.memories ≡ l.fn.memories;
  backs : Backs l.pools l.memories;
}

abbrev pub decreases-loop-one : goal.decreases-loop-one
decreases-loop-one g l = goal.left-loop-one g l
