use Rattle.std.proofs.Common.{◌≡◌, ◌++◌, [], List, Option, Some, refl, sym, subst, rules}
use Rattle.vk_model.specs.Sync.Node.{Node}
use Rattle.vk_order.specs.declared.acts.Row.{Row}
use Rattle.vk_order.specs.declared.frontier.Frontier.{Frontier}
use Rattle.vk_model.specs.Trace.PointViews.{point_of}
use Rattle.vk_order.specs.NodeViews.{nodes_after}
use Rattle.vk_order.specs.Queries.{IsNew}
use Rattle.vk_order.specs.Inner.Kept.{IsStamped}
use Rattle.vk_order.specs.Inner.Ready.{IsOf}
use Rattle.vk_order.specs.Inner.Tallies.{lines_of, CanFollow}
use Rattle.vk_order.specs.Frontiers.{IsFrontier}
use Rattle.vk_order.proofs.ListLemmas.{longer_same}
use Rattle.vk_order.proofs.PointLemmas.{can_follow}
use Rattle.vk_order.proofs.StampedLemmas.{stamped_longer}
use Rattle.vk_order.proofs.points.Points.add.Goals as goal

pub invariant_of-self-2 : goal.invariant_of-self-2
invariant_of-self-2 c =
    let rows = c.self.inside.rows.items in
    let stamps = c.self.inside.stamps.items in
    let fresh = c.in_ok-rows.rows.items in
    let more = c.in_ok-stamps.stamps.items in
    let f : Frontier = c.in-Some.frontier in
    let g : Frontier = c.stamped.new.frontier in
    let old : IsOf (Some f) rows c.self.inside.lines.items = subst (λ (o : Option Frontier). IsOf o rows c.self.inside.lines.items) (sym c.in-Some.ensures.value) c.self.invariant.next in
    let new : IsNew (point_of c.args.point) (nodes_after [] rows) = subst (λ (l : List Node). IsNew (point_of c.args.point) l) (sym c.self.view_is) c.requires in
    let can : CanFollow (nodes_after [] rows) fresh = can_follow (nodes_after [] rows) fresh c.args.point c.in_ok-rows.ensures.points c.in_ok-rows.ensures.acts new in
    let was : IsStamped rows stamps (lines_of f.tallies.items) = stamped_longer rows stamps c.self.inside.lines.items (lines_of f.tallies.items) old.1 c.self.invariant.stamped in
    let known : CanFollow (nodes_after [] rows) fresh → IsStamped (rows ++ fresh) (stamps ++ more) (lines_of g.tallies.items) × IsFrontier g (nodes_after [] (rows ++ fresh)) =
    subst (λ (l : List Row). CanFollow (nodes_after [] rows) l → IsStamped (rows ++ l) (stamps ++ more) (lines_of g.tallies.items) × IsFrontier g (nodes_after [] (rows ++ l))) c.as_slice.ensures.value
    (c.in_ok-stamps.ensures rows stamps was old.0) in
    let more_rows : c.append-2.new.self.items ≡ rows ++ fresh = search rules in
    let more_stamps : c.append.new.self.items ≡ stamps ++ more = search rules in
    let lines : c.in_ok-lines.lines.items ≡ lines_of g.tallies.items = c.in_ok-lines.ensures in
    rw (more_rows, more_stamps, lines) (record { stamped = (known can).0; next = ((known can).1, longer_same (lines_of g.tallies.items) (lines_of g.tallies.items) refl) })
