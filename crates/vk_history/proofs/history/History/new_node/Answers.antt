use Rattle.std.proofs.Common.{ap, sym}
use Rattle.vk_model.specs.Sync.Node.{nodes}
use Rattle.vk_model.specs.Trace.PointViews.{point_of, action_of}
use Rattle.vk_history.specs.PointViews.{past}
use Rattle.vk_touches.specs.Touched.{next_node, act_next}
use Rattle.vk_touches.proofs.PartChanges.{if_ok}
use Rattle.vk_history.proofs.history.History.new_node.Goals as goal

pub returns : goal.returns
returns c =
    let now = rw c.self.view_is at c.self.invariant in
    if_ok c.new_node.result c.new_node.ensures.new_node (λ s h apart. h (nodes (past c.args.self.now)) (next_node (past c.args.self.now) (point_of c.args.point.now) (act_next (action_of c.args.point.now.action))) now.1.frontier (ap (next_node (past c.args.self.now) (point_of c.args.point.now)) (sym c.act_of.ensures)) apart)
