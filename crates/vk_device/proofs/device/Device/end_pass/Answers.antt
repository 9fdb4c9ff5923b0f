use Rattle.std.proofs.Common.{◌≡◌, ℕ, List, Option, Some, refl, sym, subst}
use Rattle.std.specs.Prelude.{IfSome, IsSome}
use Rattle.vk_backing.specs.PassSteps.{AreDestroyed, Closes}
use Rattle.vk_backing.specs.PassAllots.{EndAllots}
use Rattle.vk_resources.specs.Allocating.{allotted}
use Rattle.vk_device.proofs.Changing.{end_goes}
use Rattle.vk_device.proofs.PassRules.{end_pass_fits}
use Rattle.vk_device.proofs.Resting.{end_padding}
use Rattle.vk_device.proofs.device.Device.end_pass.Goals as goal

-- what is so of the one that is there
if_there : {X : Type 0} (P : X → Type 0) (o : Option X) (x : X) → o ≡ Some x → IfSome o P → P x
if_there {X = X} P o x is all = subst (λ (y : Option X). IfSome y P) is all

pub end_pass-requires-clause-open : goal.end_pass-requires-clause-open
end_pass-requires-clause-open c =
    let r = c.requires in
    subst (λ (o : Option ℕ). IsSome o) (sym (end_pass_fits r.number r.past c.args.self.now.resources c.args.self.now.passes c.args.defrag c.args.ignored.now c.args.destroyed.now r.clean r.stands r.passes.matches).0) refl

pub end_pass-requires-clause-passing : goal.end_pass-requires-clause-passing
end_pass-requires-clause-passing c = c.requires.passes.passing

pub end_pass-requires-clause-agree : goal.end_pass-requires-clause-agree
end_pass-requires-clause-agree c = c.requires.passes.agree

pub end_pass-requires-clause-clean : goal.end_pass-requires-clause-clean
end_pass-requires-clause-clean c = c.requires.passes.clean

pub end_pass-requires-clause-stands : goal.end_pass-requires-clause-stands
end_pass-requires-clause-stands c = (c.requires.past, c.requires.stands)

pub end_pass-requires-clause-destroyed : goal.end_pass-requires-clause-destroyed
end_pass-requires-clause-destroyed c =
    let r = c.requires in
    subst (λ (l : List ℕ). AreDestroyed c.args.self.now.passes c.args.self.now.resources.backed l) (sym c.as_slice-2.ensures)
    (end_pass_fits r.number r.past c.args.self.now.resources c.args.self.now.passes c.args.defrag c.args.ignored.now c.args.destroyed.now r.clean r.stands r.passes.matches).1

pub returns-clause-done : goal.returns-clause-done
returns-clause-done c = λ e past parts clean stands has.
    let w = rw (c.as_slice.ensures, c.as_slice-2.ensures) at c.in_ok-end_pass.ensures in
    let p = c.args.self.now.passes in
    let q = c.end_pass.new.passes in
    let s = c.args.self.now.resources in
    let t = c.end_pass.new.self in
    let ready = end_pass_fits e past s p c.args.defrag c.args.ignored.now c.args.destroyed.now clean stands has.matches in (
      end_goes e past parts s p q has t c.args.defrag c.args.ignored.now c.args.destroyed.now clean
          (if_there (λ (d : ℕ). Closes p q s.backed t.backed s.memory t.memory d c.args.ignored.now c.args.destroyed.now) p.opened c.args.defrag ready.0 w.closes) w.passing w.cells w.resources (w.stands e c.args.defrag past stands ready.2),
      λ b o n is. absurd cc,
    )

pub returns-clause-allots : goal.returns-clause-allots
returns-clause-allots c = λ d is.
    let w = rw (c.as_slice.ensures, c.as_slice-2.ensures) at c.in_ok-end_pass.ensures in
    let r = c.requires in
    let p = c.args.self.now.passes in
    let q = c.end_pass.new.passes in
    let s = c.args.self.now.resources in
    let t = c.end_pass.new.self in
    let ready = end_pass_fits r.number r.past s p c.args.defrag c.args.ignored.now c.args.destroyed.now r.clean r.stands r.passes.matches in
    (_, refl, if_there (λ (k : ℕ). EndAllots (allotted s) p (allotted t) q k c.args.ignored.now c.args.destroyed.now) p.opened c.args.defrag ready.0 w.allots d is, refl)

pub returns-clause-rest : goal.returns-clause-rest
returns-clause-rest c =
    let w = rw (c.as_slice.ensures, c.as_slice-2.ensures) at c.in_ok-end_pass.ensures in
    let r = c.requires in
    let p = c.args.self.now.passes in
    let q = c.end_pass.new.passes in
    let s = c.args.self.now.resources in
    let t = c.end_pass.new.self in
    let ready = end_pass_fits r.number r.past s p c.args.defrag c.args.ignored.now c.args.destroyed.now r.clean r.stands r.passes.matches in
    end_padding c.args.self.now (record c.args.self.now { resources = t; passes = q }) c.args.defrag c.args.ignored.now c.args.destroyed.now (if_there (λ (d : ℕ). Closes p q s.backed t.backed s.memory t.memory d c.args.ignored.now c.args.destroyed.now) p.opened c.args.defrag ready.0 w.closes)
