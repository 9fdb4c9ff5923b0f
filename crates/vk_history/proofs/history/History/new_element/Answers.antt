use Rattle.vk_model.specs.Sync.Node.{nodes}
use Rattle.vk_history.specs.PointViews.{past}
use Rattle.vk_touches.proofs.PartChanges.{if_ok}
use Rattle.vk_history.proofs.history.History.new_element.Goals as goal

pub returns : goal.returns
returns c =
    let now = rw c.self.view_is at c.self.invariant in
    if_ok c.new_node.result c.new_node.ensures.new_node (λ s h n is apart. h (nodes (past c.args.self.now)) n now.1.frontier is apart)
