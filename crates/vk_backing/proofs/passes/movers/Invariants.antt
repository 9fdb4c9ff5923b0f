use Rattle.vma_defrag.specs.State.{moves_in}
use Rattle.vk_backing.proofs.Named.{AreMoversTo}
use Rattle.vk_backing.proofs.passes.movers.Given as goal

abbrev pub invariant-loop-index : goal.invariant-loop-index
invariant-loop-index l = AreMoversTo l.backing l.moving.items (moves_in l.defrag.current) l.index
