use Rattle.vk_order.proofs.Visibility.{seen_through}
use Rattle.vk_order.proofs.laws.seen_through.Goals as goal

pub returns : goal.returns
returns c = λ ns cached w v a j k b numbers. seen_through ns cached numbers w v a j k b
