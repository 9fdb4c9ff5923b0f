use Rattle.vk_backing.proofs.Mapping.{counted_down}
use Rattle.vk_backing.proofs.backing.unmap_once.Goals as goal

pub returns-clause-counts : goal.returns-clause-counts
returns-clause-counts c = counted_down c.args.pools.now c.unmap.new.self c.args.allocation c.unmap.result c.unmap.ensures.ok c.unmap.ensures.state c.unmap.ensures.err
