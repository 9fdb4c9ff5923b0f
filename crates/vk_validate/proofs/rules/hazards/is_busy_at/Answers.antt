use Rattle.std.proofs.Common.{◌∷◌, ◌&&◌, ap, sym, ◌∙◌, subst}
use Rattle.vk_model.specs.Sync.Node.{Act, Hosts, nodes}
use Rattle.vk_model.specs.Sync.Edge.{is_element}
use Rattle.vk_model.specs.Sync.Complete.{is_busy}
use Rattle.vk_order.specs.Frontiers.{IsNewNode}
use Rattle.vk_model.specs.Trace.PointViews.{point_of}
use Rattle.vk_order.proofs.PlaceLemmas.{apart_from}
use Rattle.vk_history.specs.PointViews.{past}
use Rattle.vk_touches.specs.Touched.{next_node, act_next}
use Rattle.vk_rules.proofs.Judging.Busy.{destroyed_busy}
use Rattle.vk_validate.proofs.rules.hazards.is_busy_at.Goals as goal

pub returns-then-not-is_live_resource : goal.returns-then-not-is_live_resource
returns-then-not-is_live_resource c = λ x is.
    let before = past c.args.history.now in
    let p = point_of c.args.point.now in
    sym (destroyed_busy before p x c.args.resource is ∙ ap (λ b. b && is_busy before (nodes (p ∷ before)) (next_node before p (Hosts x)) c.args.resource) (sym c.is_live_resource.ensures ∙ c.if-not-is_live_resource.true))

pub returns : goal.returns
returns c = λ x is.
    let before = past c.args.history.now in
    let p = point_of c.args.point.now in
    let its = ap act_next is in
    let new_node = subst (λ (a : Act). IsNewNode (nodes before) (next_node before p a) c.in_ok-new_node.new_node) its (c.in_ok-new_node.ensures (apart_from (nodes before) (next_node before p (act_next p.action)) (ap (λ (a : Act). is_element a) its))) in
    c.is_busy.ensures p x is new_node ∙ sym (destroyed_busy before p x c.args.resource is ∙ ap (λ b. b && is_busy before (nodes (p ∷ before)) (next_node before p (Hosts x)) c.args.resource) (sym c.is_live_resource.ensures ∙ c.if-not-is_live_resource.false))
