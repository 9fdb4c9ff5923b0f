use Rattle.std.proofs.Common.{◌≡◌, Some, ⊎_elim, refl, ap, sym, ◌∙◌, subst, length, arith, slice_get}
use Rattle.std.proofs.lemmas.Bool.{cases_lt}
use Rattle.std.proofs.lemmas.Option.{slice_get_read, slice_get-get_or}
use Rattle.vk_order.specs.declared.parts.Part.{Part}
use Rattle.vk_order.specs.Bytes.{byte_of}
use Rattle.vk_order.specs.Inner.Alone.{AlwaysMarks, NeverMarks}
use Rattle.vk_order.proofs.frontier.Frontier.marked_by.Goals as goal
use Rattle.vk_model.proofs.Lists.Items.{some_same}

pub returns-then-is_mark_at-clause-marks : goal.returns-then-is_mark_at-clause-marks
returns-then-is_mark_at-clause-marks c = λ x there.
    let xs = c.args.parts.now in
    let i = c.loop-index.index in
    let here : slice_get xs i ≡ Some c.index-parts-index.result = slice_get_read xs (length xs) i c.index-parts-index.result refl c.loop-index-test.true c.index-parts-index.is in
    let same : c.index-parts-index.result ≡ x = some_same c.index-parts-index.result x (sym here ∙ there) in
    subst (λ (y : Part). AlwaysMarks c.args.self.now c.args.part.now c.args.write (byte_of c.args.byte) y) same (c.is_mark_at.ensures.marks c.if-is_mark_at.true)

pub loop-index-preserved : goal.loop-index-preserved
loop-index-preserved c = λ i x lt there.
    ⊎_elim
    (λ low. c.loop-index.invariant i x low there)
    (λ high.
    let xs = c.args.parts.now in
    let k = c.loop-index.index in
    let here : slice_get xs k ≡ Some c.index-parts-index.result = slice_get_read xs (length xs) k c.index-parts-index.result refl c.loop-index-test.true c.index-parts-index.is in
    let at_k : k ≡ i = omega arith in
    let same : c.index-parts-index.result ≡ x = some_same c.index-parts-index.result x (sym here ∙ ap (slice_get xs) at_k ∙ there) in
    subst (λ (y : Part). NeverMarks c.args.self.now c.args.part.now c.args.write (byte_of c.args.byte) y) same (c.is_mark_at.ensures.none c.if-is_mark_at.false))
    (cases_lt i c.loop-index.index)

pub returns-clause-none : goal.returns-clause-none
returns-clause-none c = λ x has. c.loop-index.invariant has.0 x (let a = has.1 in let b = c.loop-index-test.false in omega arith) (slice_get-get_or c.args.parts.now has.0 x has.1 ∙ ap Some has.2)
