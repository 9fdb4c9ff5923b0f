use Rattle.std.proofs.Common.{◌≡◌, Some, refl, ap, sym, ◌∙◌, subst, length, arith, ⊎_elim}
use Rattle.std.specs.Prelude.{slice_get}
use Rattle.std.proofs.lemmas.Bool.{cases_lt}
use Rattle.std.proofs.lemmas.Option.{slice_get_read, slice_get-get_or}
use Rattle.vk_model.specs.Sync.Seen.{covers}
use Rattle.vk_order.specs.declared.parts.Part.{Part}
use Rattle.vk_order.specs.Units.{unit_byte}
use Rattle.vk_order.proofs.UnitLemmas.{have_fewer}
use Rattle.vk_order.proofs.unseen.parts_until.Goals as goal
use Rattle.vk_model.proofs.Lists.Items.{some_same}

pub element_until-until-requires : goal.element_until-until-requires
element_until-until-requires c = record { order = c.loop-part.invariant.0; numbers = have_fewer c.args.units c.loop-part.until c.args.end c.loop-part.invariant.1 c.requires.numbers }

pub loop-part-preserved : goal.loop-part-preserved
loop-part-preserved c =
    let within = c.element_until-until.ensures.within in
    let before = c.loop-part.invariant.1 in (
      c.element_until-until.ensures.further,
      omega arith,
      λ i x lt there k from to. ⊎_elim
          (λ low. c.loop-part.invariant.2 i x low there k from (omega arith))
          (λ high.
          let xs = c.args.parts.now in
          let at = c.loop-part.part-index in
          let here : slice_get xs at ≡ Some c.part-item.result = slice_get_read xs (length xs) at c.part-item.result refl c.loop-part-test.true c.part-item.is in
          let same : x ≡ c.part-item.result = some_same x c.part-item.result (sym there ∙ ap (slice_get xs) (let e : i ≡ at = omega arith in e) ∙ here) in
          subst (λ (y : Part). covers y.element (unit_byte c.args.units k) ≡ covers y.element (unit_byte c.args.units c.args.at)) (sym same) (c.element_until-until.ensures.alike k from to))
          (cases_lt i c.loop-part.part-index),
    )

pub returns : goal.returns
returns c = record {
  further = c.loop-part.invariant.0;
  within = c.loop-part.invariant.1;
  alike = λ x has k from to. c.loop-part.invariant.2 has.0 x (let a = has.1 in let b = c.loop-part-test.false in omega arith) (slice_get-get_or c.args.parts.now has.0 x has.1 ∙ ap Some has.2) k from to;
}
