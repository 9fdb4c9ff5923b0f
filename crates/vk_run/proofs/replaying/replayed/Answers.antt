use Rattle.vk_run.proofs.Answering.{answered}
use Rattle.vk_run.proofs.replaying.replayed.Goals as goal

pub returns-in-Ok-clause-answer : goal.returns-in-Ok-clause-answer
returns-in-Ok-clause-answer g c =
    let e = c.in-Ok.ensures.stop in
    answered c.args.config c.args.accepted.now c.in-Ok.field-0.reads c.in-Ok.field-0.stop c.in-Ok.ensures.sound (e.allocated, c.parts_follow.ensures.ends e.parts c.args.config c.args.accepted.now c.in-Ok.field-0.stop e.allocated e.ends) c.in-Ok.ensures.meaning

pub returns-in-Ok-clause-view : goal.returns-in-Ok-clause-view
returns-in-Ok-clause-view g c =
    let e = c.in-Ok.ensures.stop in
    (e.parts, e.allocated, e.ends, e.led.1)
