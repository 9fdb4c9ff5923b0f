use Rattle.std.proofs.Common.{◌≡◌, ◌<◌, ◌∙◌, ℕ, List, length, take, refl, ap, arith, sym, subst}
use Rattle.std.specs.Prelude.{get_or}
use Rattle.std.proofs.Math.Seq.{take-length}
use Rattle.std.proofs.lemmas.Option.{get_or_from_slice_get}
use Rattle.vk_backing.specs.Passing.{Passing}
use Rattle.vk_lag.specs.declared.late.Due.TheVariants as due
use Rattle.vk_lag.specs.Lags.{Changes, caught_up}
use Rattle.vk_cached_device.specs.declared.device.CachedDevice.{CachedDevice}
use Rattle.vk_cached_device.specs.Inner.{CatchesUpMoving}
use Rattle.vk_cached_device.proofs.Moving.{none_caught, more_caught}
use Rattle.vk_cached_device.proofs.device.CachedDevice.catch_up_moving.Goals as goal

pub loop-index-init : goal.loop-index-init
loop-index-init c = record { same = refl; caught = none_caught c.args.self.now.lags }

pub nth_id-id-requires : goal.nth_id-id-requires
nth_id-id-requires c =
    let end = c.moves-index-end.ensures ∙ ap (λ (p : Passing). length p.moving) c.passes.ensures in
    let here = ap (λ (p : Passing). length p.moving) (c.passes-in-loop-index.ensures ∙ ap (λ (d : CachedDevice). d.device.passes) c.loop-index.invariant.same) in
    record { there = omega (arith, c.loop-index-test.true, end, here) }

pub loop-index-preserved : goal.loop-index-preserved
loop-index-preserved c =
    let ids = c.args.self.now.device.passes.moving in
    let end = c.moves-index-end.ensures ∙ ap (λ (p : Passing). length p.moving) c.passes.ensures in
    let lt : c.loop-index.index < length ids = omega (arith, c.loop-index-test.true, end) in
    let here = ap (λ (p : Passing). p.moving) (c.passes-in-loop-index.ensures ∙ ap (λ (d : CachedDevice). d.device.passes) c.loop-index.invariant.same) in
    let is : c.nth_id-id.result ≡ get_or ids c.loop-index.index 0 = sym (get_or_from_slice_get ids c.loop-index.index c.nth_id-id.result 0 (rw (sym here) c.nth_id-id.ensures)) in
    record {
      same = ap (λ (d : CachedDevice). record d { lags = c.catch_up_whole.new.self }) c.loop-index.invariant.same;
      caught = more_caught ids c.loop-index.index c.args.self.now.lags c.loop-index.self.lags c.catch_up_whole.new.self lt c.loop-index.invariant.caught
          (subst (λ (i : ℕ). Changes i (λ k byte. caught_up due.All byte) c.loop-index.self.lags c.catch_up_whole.new.self) is c.catch_up_whole.ensures);
    }

pub returns-clause-follows : goal.returns-clause-follows
returns-clause-follows c =
    let end = c.moves-index-end.ensures ∙ ap (λ (p : Passing). length p.moving) c.passes.ensures in
    let ids = c.args.self.now.device.passes.moving in
    let all : c.loop-index.index ≡ length ids = omega (arith, c.loop-index.auto.index-end, c.loop-index-test.false, end) in
    subst (λ (l : List ℕ). CatchesUpMoving l c.args.self.now.lags c.loop-index.self.lags) (ap (λ (k : ℕ). take k ids) all ∙ take-length ids) c.loop-index.invariant.caught

pub returns-clause-same : goal.returns-clause-same
returns-clause-same c = c.loop-index.invariant.same
