use Rattle.std.proofs.Common.{subst}
use Rattle.vma_pools.specs.State.{ArePools}
use Rattle.vma_pools.proofs.pools.PoolsOf.are_pools.Goals as goal

pub returns : goal.returns
returns g c = subst ArePools c.self.view_is c.self.invariant.pools
