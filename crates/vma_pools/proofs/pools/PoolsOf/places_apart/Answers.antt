use Rattle.std.proofs.Common.{subst}
use Rattle.vma_pools.specs.State.{ArePlacesApart}
use Rattle.vma_pools.proofs.CallLemmas.{places-apart}
use Rattle.vma_pools.proofs.pools.PoolsOf.places_apart.Goals as goal

pub returns : goal.returns
returns g c =
    let f = c.self.inside in
    subst ArePlacesApart c.self.view_is (places-apart (record { pools = f.pools.items; allocations = f.allocations.items }) c.self.invariant.pools)
