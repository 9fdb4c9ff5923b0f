use Rattle.vk_backing.proofs.Ranked.{ranked_by}
use Rattle.vk_device.proofs.device.Device.passes_end.Goals as goal

pub returns : goal.returns
returns c = λ d is p q here closed xs e h none spares.
    let r = c.args.self.now.resources in
    let ranks = ranked_by r.backed r.memory c.are_resources.ensures.0.backed_is d is p q here in
    c.passes_of_pools_end.ensures q.pool.info.block_size p d xs e h q here closed ranks.ranks (ranks.placed closed) none spares
