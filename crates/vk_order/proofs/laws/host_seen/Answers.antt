use Rattle.vk_order.proofs.Visibility.{host_seen}
use Rattle.vk_order.proofs.laws.host_seen.Goals as goal

pub returns : goal.returns
returns c = λ ns cached m d a k b numbers. host_seen ns cached numbers m d a k b
