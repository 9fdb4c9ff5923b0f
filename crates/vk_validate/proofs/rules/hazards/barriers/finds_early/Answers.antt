use Rattle.std.proofs.Common.{refl, inr}
use Rattle.vk_model.specs.Trace.PointViews.{point_of}
use Rattle.vk_history.specs.PointViews.{past}
use Rattle.vk_validate.specs.Inner.Transitions.{node_alone}
use Rattle.vk_validate.proofs.rules.hazards.barriers.finds_early.Goals as goal

pub returns : goal.returns
returns c =
    inr (c.in-Some.moved, c.in-Some.ensures, λ apart. (c.in_ok-new_node.new_node, c.in_ok-new_node.ensures (node_alone (past c.args.history.now) (point_of c.args.point.now) c.args.element.now) refl apart, c.has_early.ensures))
