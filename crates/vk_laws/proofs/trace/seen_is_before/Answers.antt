use Rattle.vk_laws.proofs.Nodes.NoHazard.{seen_before}
use Rattle.vk_laws.proofs.trace.seen_is_before.Goals as goal

pub returns : goal.returns
returns c = λ past cached w a k b cw ca lt h. seen_before c.before_is_path.ensures past c.before_is_order.ensures.transitive cached w a k b cw ca lt h
