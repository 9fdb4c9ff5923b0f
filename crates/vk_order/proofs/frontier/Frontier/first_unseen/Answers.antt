use Rattle.std.proofs.Common.{◌≡◌, ap, ◌∙◌, subst, arith, ⊎_elim, Bool, true, List}
use Rattle.std.proofs.lemmas.Bool.{cases_lt}
use Rattle.vk_model.specs.World.Bytes.{Byte}
use Rattle.vk_order.specs.SeenWrites.{SaysSeen}
use Rattle.vk_order.specs.Units.{unit_byte, units_resource}
use Rattle.vk_order.specs.Wide.{access_of}
use Rattle.vk_order.specs.declared.parts.Part.{Part}
use Rattle.vk_order.specs.Inner.Parts.{parts_at, AreInOrder, AreFrom}
use Rattle.vk_order.proofs.ServeLemmas.{answered_any}
use Rattle.vk_order.proofs.UnseenLemmas.{units_alike, visible_each}
use Rattle.vk_order.proofs.frontier.Frontier.first_unseen.Goals as goal

pub returns-then-shows-clause-seen : goal.returns-then-shows-clause-seen
returns-then-shows-clause-seen c = λ k low high.
    visible_each c.args.self.now c.args.new_node.now c.args.write c.args.from c.args.access (unit_byte c.args.units k)
    (λ ns n w cached new_node wrote on place asked. (c.shows.ensures ns n w new_node wrote.there on place (answered_any cached n.act (access_of c.args.access) (unit_byte c.args.units k) asked)).0 c.if-shows.true)

pub loop-at-init : goal.loop-at-init
loop-at-init c = (omega arith, λ k low high. absurd (omega arith))

pub returns-then-not-is_seen-clause-within : goal.returns-then-not-is_seen-clause-within
returns-then-not-is_seen-clause-within c = (c.loop-at.invariant.0, c.loop-at-test.true)

pub loop-at-preserved-in-Some : goal.loop-at-preserved-in-Some
loop-at-preserved-in-Some c =
    let low = c.loop-at.invariant.0 in
    let further = c.in-Some.ensures.further in
    let is_kept : c.parts_on.result.now ≡ parts_at c.args.self.now.parts (units_resource c.args.units) = c.parts_on.ensures ∙ ap (parts_at c.args.self.now.parts) c.resource.ensures in
    let among : AreInOrder (parts_at c.args.self.now.parts (units_resource c.args.units)) → AreFrom c.args.from (parts_at c.args.self.now.parts (units_resource c.args.units)) c.parts_from-parts.result.now =
    subst (λ (l : List Part). AreInOrder l → AreFrom c.args.from l c.parts_from-parts.result.now) is_kept c.parts_from-parts.ensures in
    (omega arith, λ k from to. ⊎_elim (λ before. c.loop-at.invariant.1 k from before) (λ after. c.in-Some.ensures.seen c.args.from among k after to) (cases_lt k c.loop-at.at))

pub loop-at-preserved : goal.loop-at-preserved
loop-at-preserved c =
    let low = c.loop-at.invariant.0 in
    let further = c.parts_until-at.ensures.further in (
      omega arith,
      λ k from to. ⊎_elim (λ before. c.loop-at.invariant.1 k from before) (λ after.
          units_alike c.args.self.now c.args.new_node.now c.args.write c.args.from c.args.access c.args.units c.loop-at.at k c.parts_on.result.now c.parts_from-parts.result.now
          (c.parts_on.ensures ∙ ap (parts_at c.args.self.now.parts) c.resource.ensures) c.parts_from-parts.ensures
          (λ x has. c.parts_until-at.ensures.alike x has k after to) true
          (subst (λ (t : Bool). SaysSeen c.args.self.now c.args.new_node.now c.args.write c.args.from c.args.access (unit_byte c.args.units c.loop-at.at) t) c.if-not-is_seen.false
          (subst (λ (b : Byte). SaysSeen c.args.self.now c.args.new_node.now c.args.write c.args.from c.args.access b c.is_seen.result) c.byte-byte.ensures c.is_seen.ensures)))
          (cases_lt k c.loop-at.at),
    )

pub returns-clause-seen : goal.returns-clause-seen
returns-clause-seen c = λ k low high. let end = c.loop-at-test.false in c.loop-at.invariant.1 k low (omega arith)
