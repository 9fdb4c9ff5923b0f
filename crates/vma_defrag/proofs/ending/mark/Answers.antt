use Rattle.std.proofs.Common.{◌≡◌, ℕ, ◌+◌, List, map, set, take, slice_index_or, Vec, Option, sym, ap, subst, ◌∙◌, Global, Bor}
use Rattle.std.specs.Option.{option_copied}
use Rattle.vma_defrag.specs.declared.open.Fate.{Fate}
use Rattle.vma_defrag.specs.declared.open.Planned.{Planned}
use Rattle.vma_defrag.specs.Inner.Planned.{AreIndexed}
use Rattle.vma_defrag.specs.Inner.Ending.{marked}
use Rattle.std.proofs.lemmas.List.{take_all, take_more}
use Rattle.vma_defrag.proofs.Marking.{mark_one, marks_none, all_more, found_marked, none_marked, marked_indexed}
use Rattle.vma_defrag.proofs.ending.mark.Goals.{in-Some, in_default}
use Rattle.vma_defrag.proofs.ending.mark.Goals as goal

pub loop-allocation-init : goal.loop-allocation-init
loop-allocation-init c = sym (marks_none c.args.fate c.args.planned.now.items)

pub loop-allocation-preserved : goal.loop-allocation-preserved
loop-allocation-preserved c =
    let k = c.loop-allocation.allocation-index in let ns = c.args.allocations.now in let a : ℕ = slice_index_or ns k 0 in
    let f = c.args.fate in let old = c.args.planned.now.items in let now = c.loop-allocation.planned.items in
    let indexed : AreIndexed now c.args.by_number.now.entries =
    subst (λ (l : List Planned). AreIndexed l c.args.by_number.now.entries) (sym c.loop-allocation.invariant) (marked_indexed f (take k ns) old c.args.by_number.now.entries c.requires) in
    let next : map (mark_one f a) now ≡ map (marked (take (k + 1) ns) f) old =
    ap (λ (l : List Planned). map (mark_one f a) l) c.loop-allocation.invariant ∙ sym (all_more f (take k ns) a old)
    ∙ ap (λ (l : List ℕ). map (marked l f) old) (sym (take_more ns k 0 c.loop-allocation-test.true)) in
    elim c.match-get.branch [
      | in-Some w ↦
          let i = w.in-Some.index.now in let r : Planned = w.index_mut.result.now in
          let at = sym c.get.ensures.value ∙ ap (λ (o : Option (Bor ℕ)). option_copied o) w.in-Some.is in
          ap (λ (v : Vec Planned Global). v.items) w.planned-is
          ∙ ap (λ (p : Planned). set now i (record p { fate = f })) w.index_mut.ensures.value
          ∙ found_marked f now c.args.by_number.now.entries indexed a i r at ∙ next
      | in_default w ↦
          let none = sym c.get.ensures.value ∙ ap (λ (o : Option (Bor ℕ)). option_copied o) w.in_default.is in
          ap (λ (v : Vec Planned Global). v.items) w.planned-is
          ∙ none_marked f now c.args.by_number.now.entries indexed a (no_plan f) none ∙ next
    ]
  where
    no_plan : Fate → Planned
    no_plan f = record { allocation = 0; to = record { block = 0; start = 0 }; bytes = 0; fate = f }

pub returns : goal.returns
returns c = c.loop-allocation.invariant ∙ ap (λ (ns : List ℕ). map (marked ns c.args.fate) c.args.planned.now.items) (take_all c.loop-allocation.allocation-index c.args.allocations.now c.loop-allocation-test.false)
