use Rattle.std.proofs.Common.{sym, ◌∙◌, arith}
use Rattle.std.proofs.lemmas.Bool.{both_ways, and_from, eq-eqb}
use Rattle.vma_linear.proofs.SlotLists.{none_given_back}
use Rattle.vma_linear.proofs.Searching.{free_past, free_elsewhere}
use Rattle.vma_linear.proofs.list.find.Goals as goal
use Rattle.vma_linear.proofs.list.find.Goals.{else-place-count-via-then-place-count+else-is_here-3, else-place-count-via-else-place-count}

pub returns-else-place-count-clause-none : goal.returns-else-place-count-clause-none
returns-else-place-count-clause-none c =
    let inside = c.place_of-place.ensures.within in
    elim c.else-place-count.branch [
      | else-place-count-via-then-place-count+else-is_here-3 w ↦
          none_given_back _ _ (free_elsewhere _ _ _ _ _ c.requires c.place_of-place.ensures w.if-place-count.true
          (λ lives here. both_ways _ (sym w.is_here-then-place-count.ensures ∙ w.if-is_here-3.false) (and_from _ _ lives (eq-eqb _ _ here))))
      | else-place-count-via-else-place-count w ↦
          let past = w.if-place-count.false in
          none_given_back _ _ (free_past _ _ _ _ c.place_of-place.ensures (omega arith))
    ]
