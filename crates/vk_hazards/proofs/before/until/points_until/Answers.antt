use Rattle.std.proofs.Common.{◌≡◌, ◌<◌, ◌+◌, ℕ, List, Some, sym, subst, length, take}
use Rattle.std.specs.Prelude.{slice_get}
use Rattle.vk_model.specs.Trace.Order.{order}
use Rattle.vk_model.specs.Trace.Point.{at_of}
use Rattle.vk_model.specs.Sync.Node.{nodes}
use Rattle.vk_model.specs.declared.point.Point.{Point}
use Rattle.vk_model.specs.Trace.PointViews.{point_of}
use Rattle.vk_order.specs.Places.{IsApart}
use Rattle.vk_order.specs.Queries.{IsNew}
use Rattle.vk_queues.specs.PointViews.{past_of}
use Rattle.vk_hazards.specs.Until.{IsUntil}
use Rattle.vk_hazards.proofs.UntilLemmas.{new_first, until_at, until_apart}
use Rattle.vk_hazards.proofs.before.until.points_until.Goals as goal

pub returns : goal.returns
returns c =
    let ps = c.in_ok-points.points.items in
    let i = c.in-Some.index in
    let value = c.as_slice.ensures.value in
    let whole = order c.args.entries.now in
    let cut = c.truncate.ensures.items in
    let until : IsUntil whole c.args.at (past_of (take (i + 1) ps)) =
    until_at ps i c.args.at whole (past_of (take (i + 1) ps)) (subst (λ (l : List Point). i < length l) value c.in-Some.ensures.within)
    (subst (λ (l : List Point). (p : Point) → slice_get l i ≡ Some p → at_of (point_of p) ≡ c.args.at) value c.in-Some.ensures.found)
    c.in_ok-points.ensures.order (λ j. past_of (take (i + 1) ps)) in
    record {
      until = subst (λ (l : List Point). IsUntil whole c.args.at (past_of l)) (sym cut) until;
      new = subst (λ (l : List Point). (k : ℕ) (p : Point) → slice_get l k ≡ Some p → IsNew (point_of p) (nodes (past_of (take k l)))) (sym cut) (new_first ps (i + 1) c.in_ok-points.ensures.new);
      apart = subst (λ (l : List Point). IsApart (past_of l)) (sym cut) (until_apart c.args.entries.now c.args.at (past_of (take (i + 1) ps)) until);
    }
