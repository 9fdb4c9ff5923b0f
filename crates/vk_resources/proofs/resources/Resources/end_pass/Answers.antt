use Rattle.std.proofs.Common.{◌≡◌, ◌∙◌, ℕ, List, OnOk, Option, refl, sym, subst}
use Rattle.std.specs.Prelude.{IfSome}
use Rattle.std.proofs.lemmas.Result.{on_ok_weaker}
use Rattle.vk_model.specs.Trace.Objects.{live}
use Rattle.vk_backing.specs.Allotted.{Allotted}
use Rattle.vk_backing.specs.Backed.{Backed}
use Rattle.vk_backing.specs.PassAllots.{EndAllots}
use Rattle.vk_backing.specs.Passing.{ArePassing}
use Rattle.vk_backing.specs.PassSteps.{AreDestroyed}
use Rattle.vk_backing.proofs.Grown.{some_there}
use Rattle.vk_resources.specs.Allocating.{allotted}
use Rattle.vk_resources.specs.Inner.PassEnds.{ForgetsEach, HoldsNoneOf, Settles}
use Rattle.vk_resources.proofs.EndingPasses.{ended_stands, ends_from, ends_resources, forgot_allotted, forgot_stands, have_homes}
use Rattle.vk_resources.proofs.EndedCells.{drops}
use Rattle.vk_resources.proofs.PuttingAnew.{none_held}
use Rattle.vk_resources.proofs.resources.Resources.end_pass.Goals as goal

pub settle-requires-clause-unheld : goal.settle-requires-clause-unheld
settle-requires-clause-unheld c =
    let same = c.deref.ensures.value ∙ sym c.deref-2.ensures.value in
    subst (λ (l : List ℕ). HoldsNoneOf c.forget_each-2.new.self l c.args.destroyed.now) same
    (none_held c.args.self.now c.forget_each.new.self c.forget_each-2.new.self c.deref.result.now c.args.destroyed.now c.forget_each.ensures.forgets c.forget_each-2.ensures.forgets)

pub settle-requires-clause-stands : goal.settle-requires-clause-stands
settle-requires-clause-stands c =
    let past = c.requires.stands.0 in (
      past,
      forgot_stands c.args.destroyed.now c.forget_each.new.self c.forget_each-2.new.self c.forget_each-2.ensures.forgets past
          (forgot_stands c.deref.result.now c.args.self.now c.forget_each.new.self c.forget_each.ensures.forgets past c.requires.stands.1),
    )

pub returns-clause-cells : goal.returns-clause-cells
returns-clause-cells c =
    let p = c.args.passes.now in let q = c.settle.new.passes in
    let old = c.args.self.now in let first = c.forget_each.new.self in let s = c.forget_each-2.new.self in let new = c.settle.new.self in
    let ignored = c.args.ignored.now in let destroyed = c.args.destroyed.now in let moving = p.moving in
    let f : ForgetsEach moving old first = subst (λ (l : List ℕ). ForgetsEach l old first) (c.deref.ensures.value ∙ c.in_ok-moving.ensures) c.forget_each.ensures.forgets in
    let g : ForgetsEach destroyed first s = c.forget_each-2.ensures.forgets in
    let passing : ArePassing p s.backed = subst (λ (b : Backed). ArePassing p b) (sym (g.backed ∙ f.backed)) c.requires.passing in
    let stands = forgot_stands destroyed first s g c.requires.stands.0 (forgot_stands moving old first f c.requires.stands.0 c.requires.stands.1) in
    let homes = have_homes (live c.requires.stands.0) s stands.live in
    let open_id = some_there p.opened c.requires.open in
    on_ok_weaker c.settle.result (λ settles.
    let e : Settles p q s new moving ignored destroyed open_id.0 = subst (λ (l : List ℕ). Settles p q s new l ignored destroyed open_id.0) (c.deref-2.ensures.value ∙ c.in_ok-moving.ensures)
    (subst (λ (o : Option ℕ). IfSome o (λ i. Settles p q s new c.deref-2.result.now ignored destroyed i)) open_id.1 settles) in
    drops old first s new c.forget_each.ensures.consistent c.settle.ensures.consistent homes p q passing open_id.0 moving ignored destroyed refl f g e (none_held old first s moving destroyed f g) c.requires.clean)
    c.settle.ensures.settles

pub returns-clause-resources : goal.returns-clause-resources
returns-clause-resources c =
    let p = c.args.passes.now in let q = c.settle.new.passes in
    let old = c.args.self.now in let first = c.forget_each.new.self in let s = c.forget_each-2.new.self in let new = c.settle.new.self in
    let ignored = c.args.ignored.now in let destroyed = c.args.destroyed.now in let moving = p.moving in
    let f : ForgetsEach c.deref.result.now old first = c.forget_each.ensures.forgets in
    let g : ForgetsEach destroyed first s = c.forget_each-2.ensures.forgets in
    let passing : ArePassing p s.backed = subst (λ (b : Backed). ArePassing p b) (sym (g.backed ∙ f.backed)) c.requires.passing in
    let open_id = some_there p.opened c.requires.open in
    on_ok_weaker c.settle.result (λ settles.
    let e : Settles p q s new moving ignored destroyed open_id.0 = subst (λ (l : List ℕ). Settles p q s new l ignored destroyed open_id.0) (c.deref-2.ensures.value ∙ c.in_ok-moving.ensures)
    (subst (λ (o : Option ℕ). IfSome o (λ i. Settles p q s new c.deref-2.result.now ignored destroyed i)) open_id.1 settles) in
    ends_from old s new moving destroyed (g.resources ∙ f.resources) (g.shapes ∙ f.shapes) (ends_resources s new p q passing open_id.0 moving ignored destroyed refl e))
    c.settle.ensures.settles

pub returns-clause-stands : goal.returns-clause-stands
returns-clause-stands c =
    let p = c.args.passes.now in let q = c.settle.new.passes in
    let old = c.args.self.now in let first = c.forget_each.new.self in let s = c.forget_each-2.new.self in let new = c.settle.new.self in
    let ignored = c.args.ignored.now in let destroyed = c.args.destroyed.now in let moving = p.moving in
    let f : ForgetsEach c.deref.result.now old first = c.forget_each.ensures.forgets in
    let g : ForgetsEach destroyed first s = c.forget_each-2.ensures.forgets in
    let passing : ArePassing p s.backed = subst (λ (b : Backed). ArePassing p b) (sym (g.backed ∙ f.backed)) c.requires.passing in
    let are_ended : AreDestroyed p s.backed destroyed = subst (λ (b : Backed). AreDestroyed p b destroyed) (sym (g.backed ∙ f.backed)) c.requires.destroyed in
    let open_id = some_there p.opened c.requires.open in
    on_ok_weaker c.settle.result (λ settles n d past m lives.
    let e : Settles p q s new moving ignored destroyed open_id.0 = subst (λ (l : List ℕ). Settles p q s new l ignored destroyed open_id.0) (c.deref-2.ensures.value ∙ c.in_ok-moving.ensures)
    (subst (λ (o : Option ℕ). IfSome o (λ i. Settles p q s new c.deref-2.result.now ignored destroyed i)) open_id.1 settles) in
    let stands = forgot_stands destroyed first s g past (forgot_stands c.deref.result.now old first f past m) in
    ended_stands s new p q passing open_id.0 moving ignored destroyed refl e c.settle.ensures.consistent past stands.live are_ended lives n d)
    c.settle.ensures.settles

pub returns-clause-allots : goal.returns-clause-allots
returns-clause-allots c =
    let p = c.args.passes.now in let q = c.settle.new.passes in let new = c.settle.new.self in
    let f = c.forget_each.ensures.forgets in let g = c.forget_each-2.ensures.forgets in
    let same : allotted c.forget_each-2.new.self ≡ allotted c.args.self.now = forgot_allotted c.args.destroyed.now c.forget_each.new.self c.forget_each-2.new.self g ∙ forgot_allotted c.deref.result.now c.args.self.now c.forget_each.new.self f in
    subst (λ (a : Allotted). OnOk c.settle.result (IfSome p.opened (λ id. EndAllots a p (allotted new) q id c.args.ignored.now c.args.destroyed.now))) same c.settle.ensures.allots
