use Rattle.vk_order.proofs.LastWriter.{last_writer}
use Rattle.vk_order.proofs.laws.last_write_seen.Goals as goal

pub returns : goal.returns
returns c = last_writer c.growth_keeps.ensures
