use Rattle.std.proofs.Common.{◌≡◌, ◌≢◌, ℕ, Option, false, sym, ◌∙◌, subst, arith}
use Rattle.std.specs.Ordering.{nat_cmp, is_eq}
use Rattle.std.specs.BTreeMap.{get}
use Rattle.vk_order.specs.declared.fronts.Front.{Front}
use Rattle.vk_order.specs.Inner.Fronts.{IsNamed}
use Rattle.vk_order.proofs.NameLemmas.{submits_step, submits_same}
use Rattle.vk_order.proofs.names.add_submit.Goals as goal

differ : (a b : ℕ) → a ≢ b → is_eq (nat_cmp a b) ≡ false
differ a b ne = grind arith

pub returns-else-is_submit : goal.returns-else-is_submit
returns-else-is_submit c = λ ns ls n next each. submits_same ns ls n c.args.row.now c.args.own.now next (get nat_cmp c.args.submits.now) (sym c.is_submit.ensures ∙ c.if-is_submit.false) each

pub returns-in_ok-insert : goal.returns-in_ok-insert
returns-in_ok-insert c = λ ns ls n next each.
    submits_step ns ls n c.args.row.now c.args.own.now next (get nat_cmp c.args.submits.now) (get nat_cmp c.insert.new.self) c.in_ok-front.front (sym c.is_submit.ensures ∙ c.if-is_submit.true)
    c.in_ok-insert.ensures.updates.1 (λ q ne. c.in_ok-insert.ensures.updates.2 q (differ c.args.row.now.point.entry q ne))
    (λ test passes whole named. c.in_ok-front.ensures ns ls test n next.numbers passes whole (subst (λ (o : Option Front). IsNamed ns ls test o) (sym c.get.ensures.value) named) next.front)
    each
