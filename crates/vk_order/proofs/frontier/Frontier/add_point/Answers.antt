use Rattle.std.proofs.Common.{List, subst}
use Rattle.vk_model.specs.Sync.Node.{Node}
use Rattle.vk_order.specs.declared.acts.Row.{Row}
use Rattle.vk_order.specs.declared.fronts.Front.{Front}
use Rattle.vk_order.specs.NodeViews.{nodes_after}
use Rattle.vk_order.specs.Inner.Tallies.{lines_of, CanFollow, AreFronts}
use Rattle.vk_order.specs.Frontiers.{IsFrontier}
use Rattle.vk_order.proofs.PointLemmas.{can_follow}
use Rattle.vk_order.proofs.frontier.Frontier.add_point.Goals as goal

pub returns : goal.returns
returns c = λ ns new is.
    let rows = c.in_ok-rows.rows.items in
    let fronts = c.in_ok-fronts.fronts.items in
    let listed = c.in_ok-list.ensures.kept ns is in
    let ls = lines_of c.list.new.self.tallies.items in
    let can : CanFollow ns rows = can_follow ns rows c.args.point.now c.in_ok-rows.ensures.points c.in_ok-rows.ensures.acts new in
    let are : AreFronts ns ls rows fronts = subst (λ (l : List Row). AreFronts ns ls l fronts) c.as_slice-2.ensures.value (c.in_ok-fronts.ensures.fronts ns listed) in
    let known : CanFollow ns rows → AreFronts ns ls rows fronts → IsFrontier c.list.new.self ns → IsFrontier c.add_all.new.self (nodes_after ns rows) =
    subst (λ (l : List Row). CanFollow ns l → AreFronts ns ls l fronts → IsFrontier c.list.new.self ns → IsFrontier c.add_all.new.self (nodes_after ns l)) c.as_slice-3.ensures.value
    (subst (λ (l : List Front). CanFollow ns c.as_slice-3.result.now → AreFronts ns ls c.as_slice-3.result.now l → IsFrontier c.list.new.self ns → IsFrontier c.add_all.new.self (nodes_after ns c.as_slice-3.result.now)) c.as_slice-4.ensures.value
    (c.in_ok-add_all.ensures ns)) in
    subst (λ (l : List Node). IsFrontier c.add_all.new.self l) (c.in_ok-rows.ensures.nodes ns) (known can are listed)
