use Rattle.std.proofs.Common.{[], List, sym, subst}
use Rattle.vk_order.specs.declared.fronts.Front.{Front}
use Rattle.vk_order.specs.NodeViews.{nodes_after}
use Rattle.vk_order.specs.Inner.Tallies.{lines_of, AreFronts}
use Rattle.vk_order.proofs.StampedLemmas.{stamped_longer}
use Rattle.vk_order.proofs.adding.stamped.Goals as goal

pub returns : goal.returns
returns c = λ old stamps is front can.
    let ls = lines_of c.list.new.self.tallies.items in
    let listed = c.in_ok-list.ensures.kept (nodes_after [] old) front in
    c.in_ok-more.ensures old stamps (stamped_longer old stamps (lines_of c.args.frontier.now.tallies.items) ls c.in_ok-list.ensures.longer is) listed can
    (subst (λ (l : List Front). AreFronts (nodes_after [] old) ls c.args.rows.now l) (sym c.as_slice.ensures.value) (c.in_ok-fronts.ensures.fronts (nodes_after [] old) listed))
