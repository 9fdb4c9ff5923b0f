use Rattle.vk_model.specs.Sync.Node.{nodes}
use Rattle.vk_history.specs.PointViews.{past}
use Rattle.vk_history.proofs.history.History.is_before.Goals as goal

pub returns : goal.returns
returns c = λ m n is apart there line at. c.follows.ensures (nodes (past c.args.self.now)) n m (c.in_ok-new_node.ensures n is apart) there line at
