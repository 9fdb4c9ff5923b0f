use Rattle.std.proofs.Common.{sym}
use Rattle.vk_model.specs.Trace.PointViews.{point_of}
use Rattle.vk_touches.proofs.PartChanges.{on_three}
use Rattle.vk_history.proofs.Kept.SignalSteps.{signaled_step, unsignaled_step}
use Rattle.vk_history.proofs.semaphores.Semaphores.note.Goals as goal

pub returns-in-Some : goal.returns-in-Some
returns-in-Some c = on_three c.signal.result c.signal.ensures.values c.signal.ensures.spots c.signal.ensures.values (λ values spots more past line_is place_is are.
    signaled_step c.args.self.now c.signal.new.self past (point_of c.args.point.now) c.in-Some.signal.semaphore c.in-Some.signal.value (sym c.in-Some.ensures) c.args.line c.args.place line_is place_is values spots are)

pub returns-in-None : goal.returns-in-None
returns-in-None c = λ past line_is place_is are. unsignaled_step c.args.self.now past (point_of c.args.point.now) (sym c.in-None.ensures) are
