use Rattle.std.proofs.Common.{◌*◌, subst}
use Rattle.vk_model.specs.declared.statistics.Statistics.{Statistics}
use Rattle.vk_model.specs.Memory.Pools.{AreStatistics, numbered_blocks}
use Rattle.vma_pools.specs.Pools.{Kept}
use Rattle.vma_pools.proofs.CountedLemmas.{counted-statistics}
use Rattle.vk_model.specs.declared.resource.PoolInfo.{PoolInfo}
use Rattle.std.proofs.Common.{ap}
use Rattle.vma_pools.proofs.counted.CountedPool.stats.Goals as goal

pub returns : goal.returns
returns g c =
    let f = c.self.inside in
    let s : Statistics = record { blocks = c.blocks-blocks.result; allocations = f.ranges; used = f.bytes; held = c.blocks-blocks.result * c.info.result.block_size; largest_free = c.largest_free.result } in
    subst (λ (k : Kept). AreStatistics (numbered_blocks k.pool.blocks) s) c.self.view_is
    (counted-statistics f.pool.pool c.is_kept.ensures f.ranges f.bytes c.self.invariant c.blocks-blocks.result c.info.result.block_size c.largest_free.result c.blocks-blocks.ensures (ap (λ (i : PoolInfo). i.block_size) c.info.ensures) c.largest_free.ensures)
