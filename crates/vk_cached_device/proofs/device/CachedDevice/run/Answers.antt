use Rattle.std.proofs.Common.{refl, ap, sym, ◌∙◌, subst, arith, Some}
use Rattle.std.proofs.lemmas.Option.{slice_get-get_or}
use Rattle.vk_lag.specs.declared.late.Writer.{Writer}
use Rattle.vk_resources.specs.Held.{Held}
use Rattle.vk_availability.specs.AreLate.{BecomesBehind}
use Rattle.vk_availability.specs.Pieces.{MayBeLate}
use Rattle.vk_cached_device.specs.declared.device.CachedDevice.{CachedDevice}
use Rattle.vk_cached_device.specs.Inner.{RunsPlain}
use Rattle.vk_cached_device.proofs.Running.{its, writer_low, has_run}
use Rattle.vk_cached_device.proofs.device.CachedDevice.run.Goals as goal

pub index-writer-requires : goal.index-writer-requires
index-writer-requires c =
    let m = c.requires in
    let low = writer_low m.t m.steps m.s m.memory m.late c.args.self.now m.led m.sound c.args.piece m.among in
    let long = c.args.self.now.writers.ok.0 in
    omega (arith, low, long)

pub make_late-requires : goal.make_late-requires
make_late-requires c =
    let m = c.requires in
    let writes = c.written-written.ensures m.t m.steps m.s m.led.led m.sound in
    subst (λ (r : Held). MayBeLate r c.args.self.now.lags c.written-written.result) (sym c.resources.ensures) (record { place = writes.place; here = writes.here; inside = writes.inside; room = m.led.room c.written-written.result.resource writes.place writes.here })

pub finish-requires-clause-ready : goal.finish-requires-clause-ready
finish-requires-clause-ready c =
    let m = c.requires in
    c.offers_agree.ensures m.s.front.past m.s.done c.args.self.now.device.offers c.args.self.now.happenings.offers c.args.piece m.led.led.offers m.led.happenings.offers m.among

pub returns-clause-ran : goal.returns-clause-ran
returns-clause-ran c t steps s memory late led sound =
    let at = c.requires.among in
    let low = writer_low t steps s memory late c.args.self.now led sound c.args.piece at in
    let here = slice_get-get_or c.args.self.now.writers.items c.args.piece.command c.index-writer.result.now low ∙ ap (λ (w : Writer). Some w) (sym c.index-writer.ensures) in
    let node = its t steps s memory late c.args.self.now led sound c.args.piece at in (
      node.0,
      node.1,
      has_run t steps s memory late c.args.self.now led sound c.args.piece at c.late_runs_go_on.ensures.pieces c.step.new.self c.make_late.new.lags c.finish.new.self c.settle.new.self c.written-written.result c.index-writer.result.now
          (record { ran = c.in-Ok.ensures.ran; written = c.in-Ok.ensures.written; becomes = c.in-Ok.ensures.becomes; placed = c.step.ensures.placed; shapes = c.step.ensures.shapes; same_allotted = c.step.ensures.allotted; stays = c.step.ensures.stays }) c.step.ensures.failed (c.written-written.ensures t steps s led.led sound) here
          (subst (λ (r : Held). BecomesBehind r c.args.self.now.lags c.make_late.new.lags c.written-written.result c.index-writer.result.now) c.resources.ensures c.make_late.ensures.behind) c.make_late.ensures.room c.finish.ensures c.settle.ensures,
    )

pub returns-clause-plain : goal.returns-clause-plain
returns-clause-plain c = subst (λ (d : CachedDevice). RunsPlain c.args.self.now.device d.device c.args.piece) (sym c.settle.ensures.same) (record { ran = c.in-Ok.ensures.ran; written = c.in-Ok.ensures.written; becomes = c.in-Ok.ensures.becomes; placed = c.step.ensures.placed; shapes = c.step.ensures.shapes; same_allotted = c.step.ensures.allotted; stays = c.step.ensures.stays })
