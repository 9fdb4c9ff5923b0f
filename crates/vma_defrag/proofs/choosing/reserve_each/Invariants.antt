use Rattle.vk_memory.specs.MemoryState.{MemoryState}
use Rattle.vma_pools.specs.State.{Backs}
use Rattle.vma_defrag.proofs.Searches.{AreCursors}
use Rattle.vma_defrag.proofs.Walk.{IsChosenTo}
use Rattle.vma_defrag.proofs.choosing.reserve_each.Given as goal

abbrev pub invariant-loop-allocation : goal.invariant-loop-allocation
invariant-loop-allocation g l = record {
  chosen : IsChosenTo l.fn.pools l.pools l.pool l.limits.bytes l.limits.moves l.bytes l.planned.items l.allocation-items l.allocation-index;
  cursors : AreCursors l.pools l.pool l.cursors.items;
  backs : (m : MemoryState) → Backs l.fn.pools m → Backs l.pools m;
}
