use Rattle.std.proofs.Common.{◌≡◌, ap, sym, ◌∙◌, refl, Bool, false, ◌||◌}
use Rattle.vk_model.specs.Sync.Edge.{by_semaphore}
use Rattle.vk_order.specs.Edges.{unsignaled}
use Rattle.vk_order.specs.NodeViews.{node_of}
use Rattle.vk_order.proofs.points.leads_to_next.Goals as goal

pub returns-else-leads_to : goal.returns-else-leads_to
returns-else-leads_to c = λ ns i j known.
    let none : unsignaled (node_of i c.args.from.now) (node_of j c.args.next.now) ≡ false = sym c.leads_to.ensures ∙ c.if-leads_to.false in
    c.is_awaited.ensures ns (node_of i c.args.from.now) (node_of j c.args.next.now) refl known
    ∙ sym (ap (λ (t : Bool). t || by_semaphore ns (node_of i c.args.from.now) (node_of j c.args.next.now)) none)
