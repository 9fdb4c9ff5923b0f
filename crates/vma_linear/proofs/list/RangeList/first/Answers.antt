use Rattle.std.proofs.Common.{◌≡◌, sym, ap, ◌∙◌, arith, get_or}
use Rattle.std.specs.Prelude.{Some}
use Rattle.std.proofs.lemmas.Bool.{eqb-false}
use Rattle.vma_linear.specs.Inner.Slots.{range_of, Ranges}
use Rattle.vk_model.specs.Memory.TakenRanges.{taken_of}
use Rattle.vma_linear.specs.Inner.Gaps.{first_of}
use Rattle.vma_linear.proofs.SlotLists.{ranges_from_head}
use Rattle.vma_linear.proofs.list.RangeList.first.Goals as goal

pub index-requires : goal.index-requires
index-requires c =
    let some = eqb-false _ 0 (sym c.is_empty.ensures ∙ c.if-is_empty.false) in
    omega (arith, c.self.invariant.within (omega (arith, some)))

pub returns : goal.returns
returns c =
    let slots = c.self.inside.slots.items in
    let d = c.index.result.now in
    let some = eqb-false _ 0 (sym c.is_empty.ensures ∙ c.if-is_empty.false) in
    let within = c.self.invariant.within (omega (arith, some)) in
    let from = ranges_from_head c.self.inside.head slots d (λ k e low there. c.self.invariant.front k e low) within (c.self.invariant.first d (omega (arith, some))) in
    let here : range_of (get_or slots c.self.inside.head d) ≡ taken_of c.range.result = ap range_of (sym c.index.ensures) ∙ ap taken_of (sym c.range.ensures) in
    ap Some (sym here) ∙ ap first_of (sym from.1) ∙ ap (λ (v : Ranges). first_of v.taken) c.self.view_is
