use Rattle.std.proofs.Common.{◌≡◌, ◌-◌, suc, sym, ap, ◌∙◌, arith, length, get_or}
use Rattle.std.specs.Prelude.{Some, None}
use Rattle.vma_linear.specs.Inner.Slots.{range_of, Ranges}
use Rattle.vk_model.specs.Memory.TakenRanges.{taken_of}
use Rattle.vma_linear.specs.Inner.Gaps.{last_after}
use Rattle.vma_linear.proofs.SlotLists.{ranges_last}
use Rattle.vma_linear.proofs.list.RangeList.last.Goals as goal

pub returns : goal.returns
returns c =
    let slots = c.self.inside.slots.items in
    let d = c.index.result.now in
    let end = c.len-count.result - 1 in
    let long : length slots ≡ suc end = omega (arith, c.self.inside.slots.ok.0) in
    let at : length slots - 1 ≡ end = omega arith in
    let live = ap (λ k. (get_or slots k d).live) (sym at) ∙ c.self.invariant.last d (omega arith) in
    let here : range_of (get_or slots end d) ≡ taken_of c.range.result = ap range_of (sym c.index.ensures) ∙ ap taken_of (sym c.range.ensures) in
    sym (ap (λ (v : Ranges). last_after None v.taken) (sym c.self.view_is) ∙ ranges_last None end slots d long live ∙ ap Some here)
