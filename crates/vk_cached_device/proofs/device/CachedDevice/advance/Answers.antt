use Rattle.std.proofs.Common.{ℕ, ◌+◌, take, ap, sym, ◌∙◌, subst, arith}
use Rattle.vk_queues.specs.PointViews.{past_after}
use Rattle.vk_offers.specs.declared.happenings.Happenings.{Happenings}
use Rattle.vk_offers.specs.IsHappenings.{IsHappenings}
use Rattle.vk_model.specs.Run.CachedRuns.{happening}
use Rattle.vk_cached_device.specs.declared.device.CachedDevice.{CachedDevice}
use Rattle.vk_cached_device.proofs.Advancing.{stage_after, ArePoints, is_ready, comes_next, on_queue, below, happens_on, writers_on, has_advanced}
use Rattle.vk_cached_device.proofs.device.CachedDevice.advance.Goals as goal

pub pieces-requires : goal.pieces-requires
pieces-requires c =
    let r = c.requires in
    let h = r.5 in
    let points = c.as_slice-point-items.result.now in
    let are : ArePoints c.args.self.now r.2 c.args.entry.now points = rw c.as_slice-point-items.ensures.value (c.in_ok-points.ensures r.2.front h.waits).0 in
    is_ready r.0 r.1 r.2 c.args.entry.now r.3 r.4 c.args.self.now h points are c.order_is_structured.ensures.ordered c.order_is_structured.ensures.entries c.no_fault_is_sound.ensures c.direct_runs_are_runs.ensures c.defined_runs_follow.ensures c.commands_name_live.ensures
    c.loop-point.point-index c.point-item.result c.point-item.is c.loop-point-test.true c.growth_keeps.ensures c.loop-point.self.device c.loop-point.invariant.device

pub add-requires-clause-next : goal.add-requires-clause-next
add-requires-clause-next c =
    let r = c.requires in
    let h = r.5 in
    let points = c.as_slice-point-items.result.now in
    let are : ArePoints c.args.self.now r.2 c.args.entry.now points = rw c.as_slice-point-items.ensures.value (c.in_ok-points.ensures r.2.front h.waits).0 in
    let k = c.loop-point.point-index in
    let past = past_after r.2.front.past (take k points) in (
      past,
      r.2.done,
      happening r.2 (stage_after r.2 (take k points)),
      subst (λ (o : Happenings). IsHappenings o past r.2.done (happening r.2 (stage_after r.2 (take k points)))) (sym (ap (λ (d : CachedDevice). d.happenings) c.add_writer.ensures.same)) (c.loop-point.invariant.happenings r.0 r.1 r.2 r.3 r.4 h),
      comes_next r.0 r.1 r.2 c.args.entry.now r.3 r.4 c.args.self.now h points are c.order_is_structured.ensures.ordered c.order_is_structured.ensures.entries c.no_fault_is_sound.ensures c.direct_runs_are_runs.ensures c.defined_runs_follow.ensures c.commands_name_live.ensures
          k c.point-item.result c.point-item.is c.loop-point-test.true c.points_come_next.ensures c.growth_keeps.ensures c.loop-point.self.device c.loop-point.invariant.device c.in_ok-pieces.pieces c.in_ok-pieces.ensures,
    )

pub add-requires-clause-queue : goal.add-requires-clause-queue
add-requires-clause-queue c =
    let r = c.requires in
    let h = r.5 in
    let points = c.as_slice-point-items.result.now in
    let are : ArePoints c.args.self.now r.2 c.args.entry.now points = rw c.as_slice-point-items.ensures.value (c.in_ok-points.ensures r.2.front h.waits).0 in
    on_queue r.0 r.1 r.2 c.args.entry.now r.3 r.4 c.args.self.now h points are c.order_is_structured.ensures.ordered c.order_is_structured.ensures.entries c.no_fault_is_sound.ensures c.direct_runs_are_runs.ensures c.defined_runs_follow.ensures c.commands_name_live.ensures
    c.loop-point.point-index c.point-item.result c.point-item.is c.loop-point-test.true c.points_are_on_queues.ensures

pub overflow_add-self : goal.overflow_add-self
overflow_add-self c =
    let r = c.requires in
    let h = r.5 in
    let points = c.as_slice-point-items.result.now in
    let are : ArePoints c.args.self.now r.2 c.args.entry.now points = rw c.as_slice-point-items.ensures.value (c.in_ok-points.ensures r.2.front h.waits).0 in
    let low = below r.0 r.1 r.2 c.args.entry.now r.3 r.4 c.args.self.now h points are c.order_is_structured.ensures.ordered c.order_is_structured.ensures.entries c.no_fault_is_sound.ensures c.direct_runs_are_runs.ensures c.defined_runs_follow.ensures c.commands_name_live.ensures in
    let same = c.loop-point.invariant.count in
    omega (arith, low, same)

pub loop-point-preserved : goal.loop-point-preserved
loop-point-preserved c =
    let points = c.as_slice-point-items.result.now in
    let k = c.loop-point.point-index in
    let kept = c.add_writer.ensures.same in
    record {
      device = ap (λ (d : CachedDevice). d.device) kept ∙ c.loop-point.invariant.device;
      lags = ap (λ (d : CachedDevice). d.lags) kept ∙ c.loop-point.invariant.lags;
      waiting = ap (λ (d : CachedDevice). d.waiting) kept ∙ c.loop-point.invariant.waiting;
      count = ap (λ (d : CachedDevice). d.count) kept ∙ c.loop-point.invariant.count;
      failed = ap (λ (d : CachedDevice). d.failed) kept ∙ c.loop-point.invariant.failed;
      happenings = λ t steps s xs atoms h.
          let are : ArePoints c.args.self.now s c.args.entry.now points = rw c.as_slice-point-items.ensures.value (c.in_ok-points.ensures s.front h.waits).0 in
          let next = comes_next t steps s c.args.entry.now xs atoms c.args.self.now h points are c.order_is_structured.ensures.ordered c.order_is_structured.ensures.entries c.no_fault_is_sound.ensures c.direct_runs_are_runs.ensures c.defined_runs_follow.ensures c.commands_name_live.ensures
          k c.point-item.result c.point-item.is c.loop-point-test.true c.points_come_next.ensures c.growth_keeps.ensures c.loop-point.self.device c.loop-point.invariant.device c.in_ok-pieces.pieces c.in_ok-pieces.ensures in
          happens_on t steps s c.args.entry.now xs atoms c.args.self.now h points are k c.point-item.result c.point-item.is c.loop-point-test.true c.add_writer.new.self.happenings c.add.new.self c.in_ok-pieces.pieces next c.in_ok-add.ensures.happening
          (subst (λ (o : Happenings). IsHappenings o (past_after s.front.past (take k points)) s.done (happening s (stage_after s (take k points)))) (sym (ap (λ (d : CachedDevice). d.happenings) kept)) (c.loop-point.invariant.happenings t steps s xs atoms h));
      writers = λ t steps s xs atoms h.
          let are : ArePoints c.args.self.now s c.args.entry.now points = rw c.as_slice-point-items.ensures.value (c.in_ok-points.ensures s.front h.waits).0 in
          writers_on t steps s c.args.entry.now xs atoms c.args.self.now h points are k c.point-item.result c.point-item.is c.loop-point-test.true c.loop-point.self.writers.items c.add_writer.new.self.writers.items
          (c.in_ok-add_writer.ensures.adds (past_after s.front.past (take k points)) s.done (happening s (stage_after s (take k points))) (c.loop-point.invariant.happenings t steps s xs atoms h))
          (c.loop-point.invariant.writers t steps s xs atoms h);
    }

pub returns-clause-advances : goal.returns-clause-advances
returns-clause-advances c = record {
  device = c.loop-point.invariant.device;
  lags = c.loop-point.invariant.lags;
  advanced = λ t steps s xs atoms h.
      let points = c.as_slice-point-items.result.now in
      let k = c.loop-point.point-index in
      let here = c.in_ok-points.ensures s.front h.waits in
      let are : ArePoints c.args.self.now s c.args.entry.now points = rw c.as_slice-point-items.ensures.value here.0 in
      let known = c.loop-point.invariant.happenings t steps s xs atoms h in
      has_advanced t steps s c.args.entry.now xs atoms c.args.self.now h points are _ _ k c.node_count.result c.loop-point-test.false (rw c.loop-point.invariant.waiting here.1) (ap (λ (n : ℕ). n + 1) c.loop-point.invariant.count)
      known (c.node_count.ensures (past_after s.front.past (take k points)) s.done (happening s (stage_after s (take k points))) known) c.if-node_count.false (c.loop-point.invariant.writers t steps s xs atoms h);
}
