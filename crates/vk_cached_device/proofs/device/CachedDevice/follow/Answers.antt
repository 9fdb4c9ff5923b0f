use Rattle.std.proofs.Common.{◌∙◌, ℕ, List, refl, ap, sym, subst}
use Rattle.std.proofs.lemmas.List.{take_all}
use Rattle.vk_model.specs.declared.entry.Entry.{Entry}
use Rattle.vk_model.specs.Trace.Objects.{ended_by, resource_in}
use Rattle.vk_cached_device.specs.declared.device.CachedDevice.{CachedDevice}
use Rattle.vk_cached_device.specs.Applies.{moved_at}
use Rattle.vk_cached_device.proofs.Moving.{StayBut, stay_more, follows_ended, follows_moved}
use Rattle.vk_cached_device.proofs.device.CachedDevice.follow.Goals as goal

pub loop-id-init : goal.loop-id-init
loop-id-init c = record { same = refl; stay = λ id away. refl }

pub loop-id-preserved : goal.loop-id-preserved
loop-id-preserved c = record {
  same = ap (λ (d : CachedDevice). record d { lags = c.remove-in-loop-id.new.self }) c.loop-id.invariant.same;
  stay = stay_more c.as_slice-id-items.result.now c.loop-id.id-index c.args.self.now.lags c.loop-id.self.lags c.remove-in-loop-id.new.self c.loop-id-test.true c.loop-id.invariant.stay c.remove-in-loop-id.ensures;
}

pub returns-in-Pass-clause-follows : goal.returns-in-Pass-clause-follows
returns-in-Pass-clause-follows c =
    let is = c.in-Pass.is in
    follows_moved c.args.self.now.device c.args.self.now.lags c.catch_up_moving.new.self.lags c.args.entry.now c.args.self.now.device.passes.moving
    (ap (λ (x : Entry). moved_at x c.args.self.now.device.passes) is) (ap resource_in is) c.catch_up_moving.ensures.follows

pub returns-after-loop-id-clause-follows : goal.returns-after-loop-id-clause-follows
returns-after-loop-id-clause-follows c =
    let is = c.in-EndPass.is in
    follows_ended c.args.self.now.device c.args.self.now.lags c.loop-id.self.lags c.args.entry.now c.as_slice-id-items.result.now
    (ap ended_by is ∙ sym c.as_slice-id-items.ensures) (ap resource_in is) (ap (λ (x : Entry). moved_at x c.args.self.now.device.passes) is)
    (subst (λ (l : List ℕ). StayBut l c.args.self.now.lags c.loop-id.self.lags) (take_all c.loop-id.id-index c.as_slice-id-items.result.now c.loop-id-test.false) c.loop-id.invariant.stay)

pub returns-after-loop-id-clause-same : goal.returns-after-loop-id-clause-same
returns-after-loop-id-clause-same c = c.loop-id.invariant.same
