use Rattle.std.proofs.Common.{◌≡◌, ◌<◌, ◌-◌, ◌/◌, ℕ, List, length, None, ap, sym, ◌∙◌, arith, get_or}
use Rattle.std.proofs.lemmas.List.{get_or_read}
use Rattle.vk_map_cache.specs.declared.mark.Mark.{Mark}
use Rattle.vk_map_cache.specs.Inner.Marks.{mark_at}
use Rattle.vk_map_cache.proofs.HoldingLemmas.{absent_behind, length-with_absent}
use Rattle.vk_map_cache.proofs.marks.Marks.run.Goals as goal

pub returns-in-Some-clause-alike : goal.returns-in-Some-clause-alike
returns-in-Some-clause-alike c = λ k ge lt.
    let i = c.self.inside in
    let was = c.self.invariant in
    let size = ap (λ (l : List Mark). length l) (sym c.self.view_is) ∙ length-with_absent i.marks.items i.size was.within in
    let named : c.args.low / 4096 < length i.alike.items = omega (arith, was.chunks, c.requires.order, c.requires.room, size) in
    let chunk : k / 4096 ≡ c.args.low / 4096 = omega (arith, ge, lt, c.min.ensures) in
    let known = ap (λ (j : ℕ). get_or i.alike.items j None) chunk ∙ sym (get_or_read i.alike.items (c.args.low / 4096) c.index.result.now named c.index.ensures None) ∙ c.in-Some.is in
    sym (ap (λ (l : List Mark). mark_at l k) c.self.view_is) ∙ absent_behind i.marks.items (i.size - length i.marks.items) k
    ∙ was.alike k c.in-Some.mark (omega (arith, lt, c.min.ensures, c.requires.room, c.requires.order, size)) known

pub returns-in-None-clause-alike : goal.returns-in-None-clause-alike
returns-in-None-clause-alike c = λ k ge lt.
    let i = c.self.inside in
    sym (ap (λ (l : List Mark). mark_at l k) c.self.view_is) ∙ absent_behind i.marks.items (i.size - length i.marks.items) k
    ∙ sym (ap (λ (l : List Mark). mark_at l k) c.as_slice.ensures.value) ∙ c.scan.ensures.alike k ge lt
