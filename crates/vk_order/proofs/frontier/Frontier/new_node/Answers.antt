use Rattle.std.proofs.Common.{◌≡◌, ◌∷◌, ◌||◌, List, length, ap, sym, ◌∙◌, subst}
use Rattle.vk_model.specs.Sync.Node.{Node}
use Rattle.vk_model.specs.Sync.Edge.{edge, is_host}
use Rattle.vk_model.specs.Sync.Before.{IsNumbered}
use Rattle.vk_order.specs.declared.acts.Row.{Row}
use Rattle.vk_order.specs.declared.fronts.Front.{Front}
use Rattle.vk_order.specs.declared.tallies.LineTally.{LineTally}
use Rattle.vk_order.specs.NodeViews.{act_of, node_of}
use Rattle.vk_order.specs.Lines.{class_of}
use Rattle.vk_order.specs.Inner.Leads.{line_leads}
use Rattle.vk_order.specs.Inner.Links.{by_name}
use Rattle.vk_order.specs.Inner.Fronts.{IsFront}
use Rattle.vk_order.specs.Inner.Tallies.{lines_of}
use Rattle.vk_order.proofs.LineTests.{edge_split}
use Rattle.vk_order.proofs.FrontLemmas.{front_same}
use Rattle.vk_order.proofs.frontier.Frontier.new_node.Goals as goal

pub returns-clause-new_node : goal.returns-clause-new_node
returns-clause-new_node c = λ ns n is node apart.
    let row : Row = record { point = c.args.point.now; act = c.args.act.now } in
    let numbers : IsNumbered (n ∷ ns) = (ap (λ (m : Node). m.number) node, is.numbers) in
    let known = c.in_ok-front.ensures ns (length ns) is in
    let same : c.new.result.tallies.now ≡ c.args.self.now.tallies.items = c.new.ensures.tallies ∙ c.as_slice-tallies.ensures.value in
    let front : IsFront ns (lines_of c.args.self.now.tallies.items) (λ k. edge ns k n) c.in_ok-front.front =
    front_same ns (lines_of c.args.self.now.tallies.items) (λ k. line_leads row.point.queue (act_of row.act) (class_of k) || by_name ns k (node_of (length ns) row)) (λ k. edge ns k n) c.in_ok-front.front
    (λ k there. ap (λ (m : Node). line_leads m.point.queue m.act (class_of k) || by_name ns k m) (sym node) ∙ sym (edge_split n ns numbers k there (apart k there))) known in
    record {
      numbers = numbers;
      front =
          subst (λ (ts : List LineTally). IsFront ns (lines_of ts) (λ k. edge ns k n) c.new.result.front) (sym same)
          (subst (λ (f : Front). IsFront ns (lines_of c.args.self.now.tallies.items) (λ k. edge ns k n) f) (sym c.new.ensures.front) front);
      is_host = c.new.ensures.is_host ∙ c.is_host.ensures ∙ ap (λ (m : Node). is_host m.act) (sym node);
      queue = c.new.ensures.queue ∙ ap (λ (m : Node). m.point.queue) (sym node);
    }
