use Rattle.std.proofs.Common.{◌∙◌, ap, map, subst}
use Rattle.vma_pools.specs.Pools.{Kept}
use Rattle.vma_pools.specs.Views.{AreBlockObjects}
use Rattle.vma_pools.proofs.ViewLemmas.{are_objects, object_in}
use Rattle.vma_pools.proofs.pool.PoolOf.block_objects.Goals as goal

pub returns : goal.returns
returns g c =
    subst (λ (k : Kept). AreBlockObjects k c.in_ok-found.found.items) c.self.view_is
    (are_objects g.B.PoolBlock.block c.self.inside.info c.self.inside.blocks.items c.self.inside.next c.in_ok-found.found.items
    (c.in_ok-found.ensures ∙ ap (map object_in) c.deref.ensures.value))
