use Rattle.vk_model.specs.Sync.Node.{nodes}
use Rattle.vk_model.proofs.Sync.Numbers.{number_below, numbered}
use Rattle.vk_hazards.specs.Hazards.{node_at}
use Rattle.vk_hazards.proofs.nodes.Nodes.found.Goals as goal

pub is_available_at-requires-clause-number : goal.is_available_at-requires-clause-number
is_available_at-requires-clause-number c = number_below (nodes c.args.self.now) (numbered c.args.self.now) (node_at c.args.fact.now.later) c.requires.later
