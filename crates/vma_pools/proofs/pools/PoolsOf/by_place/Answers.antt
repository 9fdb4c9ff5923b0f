use Rattle.std.proofs.Common.{ℕ, ◌+◌, List, length, Option, None, ◌≡◌, ◌∙◌, map, ap, sym, subst, arith}
use Rattle.std.specs.Prelude.{Contains, slice_index_or}
use Rattle.std.proofs.lemmas.Result.{IfOk-weaker}
use Rattle.vma_pools.specs.declared.allocations.Allocation.{Allocation}
use Rattle.vma_pools.specs.declared.listing.Listed.{Listed}
use Rattle.vma_pools.specs.State.{PoolsState}
use Rattle.vma_pools.specs.Listing.{AreByPlace}
use Rattle.vma_pools.specs.Inner.Numbers.{Rise, residents_at}
use Rattle.vma_pools.proofs.ListingLemmas.{listed-by-place}
use Rattle.vma_pools.proofs.KeptNumbers.{all-listed}
use Rattle.vma_pools.proofs.pools.PoolsOf.by_place.Goals as goal

pub returns : goal.returns
returns g c =
    let f = c.self.inside in let pool = c.args.pool in let xs = c.in_ok-found.found.items in let ys = c.sort_by_place.new.found.items in
    let s : PoolsState = record { pools = f.pools.items; allocations = f.allocations.items } in
    let z : 0 + length f.allocations.items ≡ length f.allocations.items = omega arith in
    let all = all-listed pool f.allocations.items 0 f.allocations.items f.numbers.items (λ i. ap (λ (n : ℕ). slice_index_or f.allocations.items n None) (let e : i ≡ 0 + i = omega arith in e))
    (subst (λ (n : ℕ). Rise 0 f.numbers.items n) (sym z) c.self.invariant.numbers.rise)
    (λ i some. subst (λ (n : ℕ). Contains f.numbers.items n) (let e : i ≡ 0 + i = omega arith in e) (c.self.invariant.numbers.each i some)) in
    let listed = c.in_ok-found.ensures ∙ ap (λ (l : List (Option Allocation)). residents_at pool l c.deref-2.result.now) c.deref.ensures.value ∙ ap (λ (ns : List ℕ). residents_at pool f.allocations.items ns) c.deref-2.ensures.value ∙ all in
    let turned = c.deref-3.ensures.value ∙ c.reverse.ensures.items in
    IfOk-weaker c.numbers_of.result (λ numbers. numbers.items ≡ map (λ one. one.number) c.deref-3.result.now) (λ numbers. AreByPlace c.args.self.now pool numbers.items)
    (λ numbers is. subst (λ (t : PoolsState). AreByPlace t pool numbers.items) c.self.view_is
    (listed-by-place s c.self.invariant.pools pool xs ys numbers.items listed c.sort_by_place.ensures.permutation c.in_ok-sort_by_place.ensures.sorted (is ∙ ap (λ (l : List Listed). map (λ one. one.number) l) turned)))
    c.numbers_of.ensures
