use Rattle.vk_order.proofs.Visibility.{commands_seen}
use Rattle.vk_order.proofs.laws.commands_seen.Goals as goal

pub returns : goal.returns
returns c = commands_seen
