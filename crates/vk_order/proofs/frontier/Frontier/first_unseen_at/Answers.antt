use Rattle.std.proofs.Common.{◌≡◌, ap, sym, ◌∙◌, subst, arith, ⊎_elim, Bool, true, List}
use Rattle.std.proofs.lemmas.Bool.{cases_lt}
use Rattle.vk_model.specs.World.Bytes.{Byte}
use Rattle.vk_order.specs.SeenWrites.{SaysSeenAt}
use Rattle.vk_order.specs.Units.{unit_byte, units_resource}
use Rattle.vk_order.specs.declared.parts.Part.{Part}
use Rattle.vk_order.specs.Inner.Parts.{parts_at, AreInOrder, AreFrom}
use Rattle.vk_order.proofs.UnseenLemmas.{units_alike_at, reached_each}
use Rattle.vk_order.proofs.frontier.Frontier.first_unseen_at.Goals as goal

pub returns-then-reaches-clause-seen : goal.returns-then-reaches-clause-seen
returns-then-reaches-clause-seen c = λ k low high. reached_each c.args.self.now c.args.part.now c.args.write c.args.from (unit_byte c.args.units k) (sym c.reaches.ensures ∙ c.if-reaches.true)

pub loop-at-preserved-in-Some : goal.loop-at-preserved-in-Some
loop-at-preserved-in-Some c =
    let low = c.loop-at.invariant.0 in
    let further = c.in-Some.ensures.further in
    let is_kept : c.parts_on.result.now ≡ parts_at c.args.self.now.parts (units_resource c.args.units) = c.parts_on.ensures ∙ ap (parts_at c.args.self.now.parts) c.resource.ensures in
    let among : AreInOrder (parts_at c.args.self.now.parts (units_resource c.args.units)) → AreFrom c.args.from (parts_at c.args.self.now.parts (units_resource c.args.units)) c.parts_from-parts.result.now =
    subst (λ (l : List Part). AreInOrder l → AreFrom c.args.from l c.parts_from-parts.result.now) is_kept c.parts_from-parts.ensures in
    (omega arith, λ k from to. ⊎_elim (λ before. c.loop-at.invariant.1 k from before) (λ after. c.in-Some.ensures.seen c.args.from among k after to) (cases_lt k c.loop-at.at))

pub loop-at-preserved : goal.loop-at-preserved
loop-at-preserved c =
    let low = c.loop-at.invariant.0 in
    let further = c.element_until-at.ensures.further in
    let parts_end = c.element_until-at.ensures.within in (
      omega arith,
      λ k from to. ⊎_elim (λ before. c.loop-at.invariant.1 k from before) (λ after.
          units_alike_at c.args.self.now c.args.part.now c.args.write c.args.from c.args.units c.loop-at.at k c.parts_on.result.now c.parts_from-parts.result.now
          (c.parts_on.ensures ∙ ap (parts_at c.args.self.now.parts) c.resource.ensures) c.parts_from-parts.ensures
          (λ x has. c.parts_until-until.ensures.alike x has k after (omega arith)) (c.element_until-at.ensures.alike k after to) true
          (subst (λ (t : Bool). SaysSeenAt c.args.self.now c.args.part.now c.args.write c.args.from (unit_byte c.args.units c.loop-at.at) t) c.if-not-is_seen_at.false
          (subst (λ (b : Byte). SaysSeenAt c.args.self.now c.args.part.now c.args.write c.args.from b c.is_seen_at.result) c.byte.ensures c.is_seen_at.ensures)))
          (cases_lt k c.loop-at.at),
    )
