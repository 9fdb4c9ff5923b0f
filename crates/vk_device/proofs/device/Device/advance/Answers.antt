use Rattle.std.proofs.Common.{◌≡◌, ◌<◌, ℕ, ◌+◌, length, take, ap, sym, ◌∙◌, subst, arith, refl}
use Rattle.vk_model.specs.Trace.Order.{after_entry}
use Rattle.vk_model.specs.Trace.Point.{Past}
use Rattle.vk_queues.specs.PointViews.{past_after}
use Rattle.vk_offers.specs.declared.offers.Offers.{Offers}
use Rattle.vk_offers.specs.IsOffers.{IsOffers}
use Rattle.vk_device.specs.Led.{AreWorks}
use Rattle.vk_device.proofs.Coming.{coming, prepare_ready, prepared_next, past_more, advanced, arrived}
use Rattle.vk_device.proofs.device.Device.advance.Goals as goal

pub loop-point-init : goal.loop-point-init
loop-point-init c = record { resources = refl; passes = refl; waiting = refl; count = refl; failed = refl; offers = λ t steps s xs atoms h. h.offers; works = λ t steps s xs atoms h. rw c.reserve.ensures.items h.works }

pub prepare-requires : goal.prepare-requires
prepare-requires c =
    let r = c.requires in
    let h = r.5 in
    let come = coming r.0 r.1 r.2 c.args.entry.now r.3 c.args.self.now c.order_is_structured.ensures.ordered c.order_is_structured.ensures.entries c.no_fault_is_sound.ensures c.direct_runs_are_runs.ensures c.defined_runs_follow.ensures c.commands_name_live.ensures h in
    let are : past_after r.2.front.past c.as_slice-point-items.result.now ≡ (after_entry r.2.count c.args.entry.now r.2.front).past =
    rw c.as_slice-point-items.ensures.value (arrived c.args.self.now r.2 c.args.entry.now c.in_ok-points.points.items h.counts (c.in_ok-points.ensures r.2.front h.waits).0) in
    prepare_ready r.0 r.2.count c.args.entry.now r.2.front c.args.self.now.resources come c.as_slice-point-items.result.now are c.loop-point.point-index c.point-item.result c.point-item.is (omega (arith, c.loop-point-test.true))
    c.growth_keeps.ensures c.loop-point.self c.loop-point.invariant.resources

pub add-requires : goal.add-requires
add-requires c =
    let r = c.requires in
    let h = r.5 in
    let come = coming r.0 r.1 r.2 c.args.entry.now r.3 c.args.self.now c.order_is_structured.ensures.ordered c.order_is_structured.ensures.entries c.no_fault_is_sound.ensures c.direct_runs_are_runs.ensures c.defined_runs_follow.ensures c.commands_name_live.ensures h in
    let are : past_after r.2.front.past c.as_slice-point-items.result.now ≡ (after_entry r.2.count c.args.entry.now r.2.front).past =
    rw c.as_slice-point-items.ensures.value (arrived c.args.self.now r.2 c.args.entry.now c.in_ok-points.points.items h.counts (c.in_ok-points.ensures r.2.front h.waits).0) in
    let low : c.loop-point.point-index < length c.as_slice-point-items.result.now = omega (arith, c.loop-point-test.true) in (
      past_after r.2.front.past (take c.loop-point.point-index c.as_slice-point-items.result.now),
      r.2.done,
      subst (λ (o : Offers). IsOffers o (past_after r.2.front.past (take c.loop-point.point-index c.as_slice-point-items.result.now)) r.2.done) (sym c.in_ok-pieces.ensures.prepared.offers) (c.loop-point.invariant.offers r.0 r.1 r.2 r.3 r.4 h),
      prepared_next r.0 r.2.count c.args.entry.now r.2.front c.args.self.now.resources come c.as_slice-point-items.result.now are c.loop-point.point-index c.point-item.result c.point-item.is low c.in_ok-pieces.pieces
          c.points_come_next.ensures c.growth_keeps.ensures c.loop-point.self.resources c.loop-point.invariant.resources c.in_ok-pieces.ensures.prepared.counted,
    )

pub overflow_add-self : goal.overflow_add-self
overflow_add-self c =
    let r = c.requires in
    let h = r.5 in
    let come = coming r.0 r.1 r.2 c.args.entry.now r.3 c.args.self.now c.order_is_structured.ensures.ordered c.order_is_structured.ensures.entries c.no_fault_is_sound.ensures c.direct_runs_are_runs.ensures c.defined_runs_follow.ensures c.commands_name_live.ensures h in
    let below = come.below in
    let counts = h.counts in
    let same = c.loop-point.invariant.count in
    omega arith

pub returns-clause-advanced : goal.returns-clause-advanced
returns-clause-advanced c t steps s xs atoms h =
    let here = c.in_ok-points.ensures s.front h.waits in
    advanced t steps s c.args.entry.now xs c.args.self.now _ c.points_after.new.waiting c.as_slice-point-items.result.now c.loop-point.point-index atoms h c.loop-point.invariant.resources c.loop-point.invariant.passes
    (ap (λ (n : ℕ). n + 1) c.loop-point.invariant.count) c.loop-point.invariant.waiting here.1 (rw c.as_slice-point-items.ensures.value here.0) (omega (arith, c.loop-point-test.false))
    (c.loop-point.invariant.works t steps s xs atoms h) (c.loop-point.invariant.offers t steps s xs atoms h)

pub loop-point-preserved : goal.loop-point-preserved
loop-point-preserved c = record {
  resources = c.prepare.ensures.resources ∙ c.loop-point.invariant.resources;
  passes = c.prepare.ensures.passes ∙ c.loop-point.invariant.passes;
  waiting = c.in_ok-pieces.ensures.prepared.waiting ∙ c.loop-point.invariant.waiting;
  count = c.in_ok-pieces.ensures.prepared.count ∙ c.loop-point.invariant.count;
  failed = c.prepare.ensures.failed ∙ c.loop-point.invariant.failed;
  offers = λ t steps s xs atoms h.
      let come = coming t steps s c.args.entry.now xs c.args.self.now c.order_is_structured.ensures.ordered c.order_is_structured.ensures.entries c.no_fault_is_sound.ensures c.direct_runs_are_runs.ensures c.defined_runs_follow.ensures c.commands_name_live.ensures h in
      let are : past_after s.front.past c.as_slice-point-items.result.now ≡ (after_entry s.count c.args.entry.now s.front).past =
      rw c.as_slice-point-items.ensures.value (arrived c.args.self.now s c.args.entry.now c.in_ok-points.points.items h.counts (c.in_ok-points.ensures s.front h.waits).0) in
      let low : c.loop-point.point-index < length c.as_slice-point-items.result.now = omega (arith, c.loop-point-test.true) in
      let next = prepared_next t s.count c.args.entry.now s.front c.args.self.now.resources come c.as_slice-point-items.result.now are c.loop-point.point-index c.point-item.result c.point-item.is low c.in_ok-pieces.pieces
      c.points_come_next.ensures c.growth_keeps.ensures c.loop-point.self.resources c.loop-point.invariant.resources c.in_ok-pieces.ensures.prepared.counted in
      subst (λ (l : Past). IsOffers c.add.new.self l s.done) (sym (past_more s.front.past c.as_slice-point-items.result.now c.loop-point.point-index c.point-item.result c.point-item.is low))
      (c.in_ok-add.ensures (past_after s.front.past (take c.loop-point.point-index c.as_slice-point-items.result.now)) s.done
      (subst (λ (o : Offers). IsOffers o (past_after s.front.past (take c.loop-point.point-index c.as_slice-point-items.result.now)) s.done) (sym c.in_ok-pieces.ensures.prepared.offers) (c.loop-point.invariant.offers t steps s xs atoms h)) next);
  works = λ t steps s xs atoms h.
      subst (λ (l : Past). AreWorks c.prepare.new.self.works.items l) (sym (past_more s.front.past c.as_slice-point-items.result.now c.loop-point.point-index c.point-item.result c.point-item.is (omega (arith, c.loop-point-test.true))))
      (c.in_ok-pieces.ensures.prepared.works (past_after s.front.past (take c.loop-point.point-index c.as_slice-point-items.result.now)) (c.loop-point.invariant.works t steps s xs atoms h));
}

pub returns-in_err-pieces-clause-failed : goal.returns-in_err-pieces-clause-failed
returns-in_err-pieces-clause-failed c = c.prepare.ensures.failed ∙ c.loop-point.invariant.failed
