use Rattle.std.proofs.Common.{◌≡◌, ◌∷◌, ◌||◌, ◌+◌, ℕ, List, subst, length, refl, ap, sym, ◌∙◌, arith}
use Rattle.vk_model.specs.Sync.Node.{Node}
use Rattle.vk_model.specs.Sync.Edge.{edge, siblings}
use Rattle.vk_model.specs.Sync.Before.{IsNumbered}
use Rattle.vk_order.specs.declared.tallies.LineTally.{LineTally}
use Rattle.vk_order.specs.NodeViews.{act_of, node_of}
use Rattle.vk_order.specs.Lines.{class_of}
use Rattle.vk_order.specs.Inner.Leads.{line_leads}
use Rattle.vk_order.specs.Inner.Links.{by_name}
use Rattle.vk_order.specs.Inner.Tallies.{lines_of}
use Rattle.vk_order.proofs.LineTests.{edge_split}
use Rattle.vk_order.proofs.FrontLemmas.{front_same}
use Rattle.vk_order.proofs.TallyLemmas.{Found}
use Rattle.vk_order.proofs.frontier.Frontier.find_row.Goals as goal

pub returns-clause-front : goal.returns-clause-front
returns-clause-front c = λ ns can is.
    let row = c.args.row.now in
    let n : Node = node_of (length ns) row in
    let ls = lines_of c.list_row.new.self.tallies.items in
    let here : length ns ≡ length ns + 0 = omega arith in
    let listed = c.in_ok-at.ensures.kept ns is in
    let numbers : IsNumbered (n ∷ ns) = (refl, is.numbers) in
    let found = subst (λ (l : List LineTally). Found l c.list_row.new.self.names row c.find_front.new.front) c.as_slice.ensures.value c.in_ok-find_front.ensures in
    front_same ns ls (λ k. line_leads row.point.queue (act_of row.act) (class_of k) || by_name ns k n) (λ k. edge ns k n) c.find_front.new.front
    (λ k there. sym (edge_split n ns numbers k there (ap (λ (i : ℕ). siblings k (node_of i row)) here ∙ can.apart 0 row refl k there))) (found ns (length ns) listed.tallied listed.names)
