use Rattle.std.proofs.Common.{true, false, ap, subst}
use Rattle.vk_model.specs.Sync.Node.{Act, nodes}
use Rattle.vk_model.specs.Sync.Edge.{is_element}
use Rattle.vk_order.specs.Frontiers.{IsNewNode}
use Rattle.vk_model.specs.Trace.PointViews.{point_of}
use Rattle.vk_order.proofs.PlaceLemmas.{apart_from}
use Rattle.vk_history.specs.PointViews.{past}
use Rattle.vk_touches.specs.Touched.{next_node, act_next}
use Rattle.vk_rules.proofs.Judging.Busy.{passes_busy_is, busy_resident}
use Rattle.vk_rules.proofs.passes.busy_at.Goals as goal

pub first_busy-requires-clause-new_node : goal.first_busy-requires-clause-new_node
first_busy-requires-clause-new_node c =
    let before = past c.args.history.now in
    let p = point_of c.args.point.now in
    let its = ap act_next c.requires in
    subst (λ (a : Act). IsNewNode (nodes before) (next_node before p a) c.in_ok-new_node.new_node) its (c.in_ok-new_node.ensures (apart_from (nodes before) (next_node before p (act_next p.action)) (ap (λ (a : Act). is_element a) its)))

pub returns-in-Some-first_busy-clause-broken : goal.returns-in-Some-first_busy-clause-broken
returns-in-Some-first_busy-clause-broken c =
    passes_busy_is (past c.args.history.now) (point_of c.args.point.now) c.args.entry.now c.in-Some.pass.pool c.residents-residents.result.now true c.requires c.in-Some.ensures.pool c.residents-residents.ensures c.in-Some-first_busy.ensures.found

pub returns-in-Some-first_busy-clause-reported : goal.returns-in-Some-first_busy-clause-reported
returns-in-Some-first_busy-clause-reported c =
    busy_resident (past c.args.history.now) (point_of c.args.point.now) c.args.entry.now c.in-Some.pass c.in-Some-first_busy.resource c.requires c.in-Some.ensures.reported c.in-Some-first_busy.ensures.busy

pub returns-clause-broken : goal.returns-clause-broken
returns-clause-broken c =
    passes_busy_is (past c.args.history.now) (point_of c.args.point.now) c.args.entry.now c.in-Some.pass.pool c.residents-residents.result.now false c.requires c.in-Some.ensures.pool c.residents-residents.ensures c.in-None.ensures.found
