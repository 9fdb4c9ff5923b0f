use Rattle.std.proofs.Common.{◌≡◌, ◌∷◌, [], List, sym, subst}
use Rattle.vk_model.specs.Sync.Node.{Act, acts, with_acts}
use Rattle.vk_order.specs.declared.acts.Row.{Row}
use Rattle.vk_model.specs.Trace.PointViews.{action_of, point_of}
use Rattle.vk_order.specs.NodeViews.{act_of}
use Rattle.vk_order.specs.Frontiers.{IsFrontier}
use Rattle.vk_order.proofs.PointLemmas.{one_follows}
use Rattle.vk_order.proofs.frontier.Frontier.advance.Goals as goal

pub returns-in_ok-add_single-in-Some : goal.returns-in_ok-add_single-in-Some
returns-in_ok-add_single-in-Some c = λ ns new is.
    let p = c.args.point.now in
    let row : Row = record { point = p; act = c.in-Some.act } in
    let are : acts (action_of p.action) ≡ act_of c.in-Some.act ∷ [] = c.in-Some.ensures in
    subst (λ (l : List Act). IsFrontier c.add_single.new.self (with_acts (point_of p) l ns)) (sym are) (c.in_ok-add_single-in-Some.ensures ns (one_follows ns row are new) is)
