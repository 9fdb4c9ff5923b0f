use Rattle.std.proofs.Common.{◌∷◌, List, refl, sym, ◌∙◌, subst}
use Rattle.vk_model.specs.Trace.PointViews.{point_of}
use Rattle.vk_lag.specs.declared.late.Writer.{Writer}
use Rattle.vk_cached_device.specs.LedLate.{AreWriters}
use Rattle.vk_cached_device.proofs.Coming.{writers_more, writers_same}
use Rattle.vk_cached_device.proofs.device.CachedDevice.add_writer.Goals as goal

pub returns-in_default-clause-adds : goal.returns-in_default-clause-adds
returns-in_default-clause-adds c past done left known are = writers_same c.args.self.now.writers.items past (point_of c.args.point.now) c.in_default.ensures.none are

pub returns-clause-adds : goal.returns-clause-adds
returns-clause-adds c past done left known are =
    let some = c.in-Some.ensures.some in
    let w : Writer = record { queue = c.args.point.now.queue; node = c.in-Ok.node } in
    subst (λ (ws : List Writer). AreWriters ws (point_of c.args.point.now ∷ past)) (sym c.in_ok-push.ensures.items)
    (writers_more c.args.self.now.writers.items past (point_of c.args.point.now) c.in-Some.field-0.now w some.0 some.1 refl (c.in-Ok.ensures.1 ∙ c.node_count.ensures past done left known) are)
