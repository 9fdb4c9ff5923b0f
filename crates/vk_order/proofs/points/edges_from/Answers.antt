use Rattle.std.proofs.Common.{◌≡◌, ◌+◌, ◌∷◌, ◌||◌, ap, sym, ◌∙◌, refl, List, [], inl, inr, subst, ℕ, get_or, rules}
use Rattle.vk_model.specs.Sync.Node.{Node}
use Rattle.vk_model.specs.Sync.Edge.{by_semaphore}
use Rattle.vk_order.specs.Edges.{unsignaled}
use Rattle.vk_order.specs.Inner.Reaches.{Reaches}
use Rattle.vk_order.specs.Queries.{led_to}
use Rattle.vk_order.specs.NodeViews.{node_of, nodes_after}
use Rattle.vk_order.proofs.EdgeLemmas.{IsWalked, first_nodes, walked-on, walked-past, found-all, row_is}
use Rattle.vk_order.proofs.points.edges_from.Goals.{then-leads+then-node-number+in_ok-push, else-leads, else-leads-via-then-leads+else-node-number, else-leads-via-else-leads}
use Rattle.vk_order.proofs.points.edges_from.Goals as goal

pub loop-number-init : goal.loop-number-init
loop-number-init c = record { found = c.new-later.ensures.items; reaches = c.reach_of-reach.ensures (node_of c.args.node c.index-rows-node.result) refl }

pub loop-number-preserved : goal.loop-number-preserved
loop-number-preserved c =
    let rows = c.args.rows.now in
    let from = node_of c.args.node c.index-rows-node.result in
    let row = c.index-rows-number.result in
    let k = c.loop-number.number in
    let old = c.loop-number.later.items in
    let leads = c.leads_to_next-leads.result in
    let here : node_of k row ≡ node_of k (get_or rows k row) = ap (node_of k) c.index-rows-number.is in
    let on : Reaches (first_nodes k rows) from c.loop-number.reach → Reaches (node_of k (get_or rows k row) ∷ first_nodes k rows) from c.passed-reach.result =
    (λ r. subst (λ (n : Node). Reaches (n ∷ first_nodes k rows) from c.passed-reach.result) here (c.passed-reach.ensures (first_nodes k rows) from (node_of k row) refl r)) in
    let is : Reaches (first_nodes k rows) from c.loop-number.reach → leads ≡ (unsignaled from (node_of k (get_or rows k row)) || by_semaphore (first_nodes k rows) from (node_of k (get_or rows k row))) =
    (λ r. subst (λ (n : Node). leads ≡ (unsignaled from n || by_semaphore (first_nodes k rows) from n)) here (c.leads_to_next-leads.ensures (first_nodes k rows) c.args.node k r)) in
    elim c.if-leads.branch [
      | then-leads+then-node-number+in_ok-push w ↦ subst (λ (found : List ℕ). IsWalked rows from found c.passed-reach.result (k + 1)) (search rules) (walked-on rows from old c.loop-number.reach c.passed-reach.result k row c.loop-number-test.true c.loop-number.invariant on leads is w.if-leads.true w.if-node-number.true)
      | else-leads w ↦ subst (λ (found : List ℕ). IsWalked rows from found c.passed-reach.result (k + 1)) (search rules) (walked-past rows from old c.loop-number.reach c.passed-reach.result k row c.loop-number-test.true c.loop-number.invariant on leads is (elim w.else-leads.branch [ else-leads-via-then-leads+else-node-number v ↦ inr v.if-node-number.false | else-leads-via-else-leads v ↦ inl v.if-leads.false ]))
    ]

pub returns : goal.returns
returns c = λ m has at.
    let is : m ≡ node_of c.args.node c.index-rows-node.result = row_is c.args.node c.args.rows.now c.index-rows-node.result c.requires m has at ∙ ap (node_of c.args.node) (sym c.index-rows-node.is) in
    c.loop-number.invariant.found
    ∙ found-all c.args.rows.now (node_of c.args.node c.index-rows-node.result) c.loop-number.number c.loop-number-test.false
    ∙ ap (led_to (nodes_after [] c.args.rows.now)) (sym is)
