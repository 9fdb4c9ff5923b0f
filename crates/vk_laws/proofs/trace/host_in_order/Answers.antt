use Rattle.vk_laws.proofs.Nodes.NoHazard.{host_in_order}
use Rattle.vk_laws.proofs.trace.host_in_order.Goals as goal

pub returns : goal.returns
returns c = λ past m n cm cn hm hn lt. host_in_order c.before_is_path.ensures past m n cm cn hm hn lt
