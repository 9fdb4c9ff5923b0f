use Rattle.std.proofs.Common.{◌≡◌, rules}
use Rattle.vk_run.specs.Run.{Ends}
use Rattle.vk_run.proofs.Answering.{answered}
use Rattle.vk_run.proofs.replaying.replayed_through_caches.Goals as goal

pub returns-in-Ok-clause-answer : goal.returns-in-Ok-clause-answer
returns-in-Ok-clause-answer g c =
    let same : c.in-Ok.field-0 ≡ c.in-Ok.reads-1-own.given.0.0 = search rules in
    let e = c.in-Ok.ensures.stop in
    let ends : Ends c.args.config c.args.accepted.now c.in-Ok.field-0.stop = (e.allocated, c.parts_follow.ensures.ends e.parts c.args.config c.args.accepted.now c.in-Ok.field-0.stop e.allocated e.ends) in
    answered c.args.config c.args.accepted.now c.in-Ok.reads-1-own.given.0.0.reads c.in-Ok.reads-1-own.given.0.0.stop c.in-Ok.ensures.sound (rw same at ends) (rw same at c.in-Ok.ensures.meaning)

pub returns-in-Ok-clause-view : goal.returns-in-Ok-clause-view
returns-in-Ok-clause-view g c =
    let same : c.in-Ok.field-0 ≡ c.in-Ok.reads-1-own.given.0.0 = search rules in
    let e = c.in-Ok.ensures.stop in
    (e.parts, e.allocated, rw same at e.ends, rw same at e.led.1)
