use Rattle.std.proofs.Common.{ℕ, List, None, ◌∙◌, ap, filter, sym, subst}
use Rattle.std.specs.Prelude.{is_some, slice_index_or}
use Rattle.vma_pools.specs.Inner.Numbers.{AreNumbers}
use Rattle.vma_pools.proofs.KeptNumbers.{numbers-left}
use Rattle.vma_pools.proofs.numbers.leave_ended.Goals as goal

pub returns-in-Ok : goal.returns-in-Ok
returns-in-Ok c =
    let xs = c.args.allocations.now in
    let is = c.in-Ok.ensures ∙ ap (λ (ns : List ℕ). filter (λ n. is_some (slice_index_or xs n None)) ns) c.deref.ensures.value in
    subst (λ (ns : List ℕ). AreNumbers ns xs) (sym is) (numbers-left c.args.numbers.now.items xs c.requires)
