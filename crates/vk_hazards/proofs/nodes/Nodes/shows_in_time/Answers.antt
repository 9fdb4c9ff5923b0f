use Rattle.vk_model.specs.Sync.Node.{nodes}
use Rattle.vk_model.proofs.Sync.Numbers.{number_below, numbered}
use Rattle.vk_hazards.specs.Hazards.{node_at}
use Rattle.vk_hazards.proofs.nodes.Nodes.shows_in_time.Goals as goal

pub comes_before-requires-clause-second : goal.comes_before-requires-clause-second
comes_before-requires-clause-second c = number_below (nodes c.args.self.now) (numbered c.args.self.now) (node_at c.args.pair.now.later) c.requires.pair.later
