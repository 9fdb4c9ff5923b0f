use Rattle.std.proofs.Common.{◌≡◌, ◌<◌, ◌≤◌, Some, ⊎_elim, ap, sym, ◌∙◌, get_or, arith}
use Rattle.std.specs.Prelude.{slice_get}
use Rattle.std.proofs.lemmas.Bool.{cases_lt}
use Rattle.std.proofs.lemmas.List.Elements.{Contains-get_or}
use Rattle.std.proofs.lemmas.Option.{slice_get-get_or}
use Rattle.vk_order.specs.declared.lines.Line.TheVariants.{Host}
use Rattle.vk_hazards.specs.declared.availability.First.{First}
use Rattle.vk_hazards.proofs.nodes.Nodes.is_after_some.Goals as goal

abbrev none : First
none = record { line = Host; number = 0 }

pub comes_before-requires-clause-first : goal.comes_before-requires-clause-first
comes_before-requires-clause-first c = c.requires.within (get_or c.args.firsts.now c.loop-first.first-index none) (Contains-get_or c.args.firsts.now c.loop-first.first-index none c.loop-first-test.true)

pub returns-then-comes_before-clause-yes : goal.returns-then-comes_before-clause-yes
returns-then-comes_before-clause-yes c = λ on n cn is.
    let f : First = get_or c.args.firsts.now c.loop-first.first-index none in
    (f, Contains-get_or c.args.firsts.now c.loop-first.first-index none c.loop-first-test.true, λ m cm at. sym (c.comes_before.ensures m n cm cn at is) ∙ c.if-comes_before.true)

pub loop-first-preserved : goal.loop-first-preserved
loop-first-preserved c = λ n cn is i f lt at_f m cm at. ⊎_elim
    (λ (low : i < c.loop-first.first-index). c.loop-first.invariant n cn is i f low at_f m cm at)
    (λ (high : c.loop-first.first-index ≤ i).
    let k = c.loop-first.first-index in
    let same : i ≡ k = omega arith in
    let own : First = get_or c.args.firsts.now k none in
    let here : own ≡ f = inside own f (sym (slice_get-get_or c.args.firsts.now k none c.loop-first-test.true) ∙ ap (slice_get c.args.firsts.now) (sym same) ∙ at_f) in
    sym (c.comes_before.ensures m n cm cn (at ∙ ap (λ (g : First). g.number) (sym here)) is) ∙ c.if-comes_before.false)
    (cases_lt i c.loop-first.first-index)
  where
    inside : (f g : First) → Some f ≡ Some g → f ≡ g
    inside f g h = cc

pub returns-clause-no : goal.returns-clause-no
returns-clause-no c = λ off n cn is f has m cm at.
    let at_i : slice_get c.args.firsts.now has.0 ≡ Some f = slice_get-get_or c.args.firsts.now has.0 f has.1 ∙ ap Some has.2 in
    c.loop-first.invariant n cn is has.0 f (let a = has.1 in let b = c.loop-first-test.false in omega arith) at_i m cm at
