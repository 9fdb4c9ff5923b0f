use Rattle.std.proofs.Common.{[], ◌∷◌, ◌∙◌, ap, sym}
use Rattle.std.proofs.lemmas.List.{append-nil}
use Rattle.vma_pools.proofs.ListingLemmas.{listed-more}
use Rattle.vma_pools.proofs.listing.listed_in.Goals as goal
use Rattle.vma_pools.proofs.listing.listed_in.Goals.{in-Some+in_ok-push, in_default}

pub loop-number-preserved : goal.loop-number-preserved
loop-number-preserved c =
    let xs = c.args.allocations.now in let ns = c.args.numbers.now in let i = c.loop-number.number-index in let found = c.loop-number.found.items in let new = c.match-listed_at.found.items in let o = c.entry_at.result in
    elim c.match-listed_at.branch [
      | in-Some+in_ok-push w ↦ listed-more c.args.pool i xs ns found (w.in-Some.one ∷ []) new o c.loop-number-test.true c.loop-number.invariant c.entry_at.ensures w.in-Some.ensures (ap (λ v. v.items) w.found-is ∙ w.in_ok-push.ensures.items)
      | in_default w ↦ listed-more c.args.pool i xs ns found [] new o c.loop-number-test.true c.loop-number.invariant c.entry_at.ensures w.in_default.ensures (ap (λ v. v.items) w.found-is ∙ sym (append-nil found))
    ]
