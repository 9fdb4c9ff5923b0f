use Rattle.std.proofs.Common.{◌≡◌, Result, Ok, Err, rules}
use Rattle.std.specs.Prelude.{OnOk}
use Rattle.std.proofs.lemmas.Fn.{always_returns_same}
use Rattle.std.proofs.lemmas.List.Sorted.{IsPermutation-trans}
use Rattle.vma_pools.proofs.ListingLemmas.{block_in, in-order, start_in}
use Rattle.vma_pools.proofs.listing.sort_by_place.Goals as goal

on_ok : {T E : Type 0} (P Q : Type 0) (r : Result T E) → OnOk r P → (P → Q) → OnOk r Q
on_ok P Q (Ok x) p f = f p
on_ok P Q (Err e) p f = p

pub returns-clause-permutation : goal.returns-clause-permutation
returns-clause-permutation c = IsPermutation-trans _ _ _ c.in_ok-sort_by_key.ensures.permutation c.sort_by_key-2.ensures.permutation

pub returns-clause-sorted : goal.returns-clause-sorted
returns-clause-sorted c =
    on_ok _ _ c.sort_by_key-2.result c.sort_by_key-2.ensures.sorted (λ sorted. in-order c.sort_by_key.new.self.items c.sort_by_key-2.new.self.items
    (c.in_ok-sort_by_key.ensures.sorted start_in (always_returns_same _ (λ a r. r ≡ start_in a.0.now) _ (λ a r q k. search rules)))
    (sorted block_in (always_returns_same _ (λ a r. r ≡ block_in a.0.now) _ (λ a r q k. search rules)))
    (c.sort_by_key-2.ensures.stable block_in (always_returns_same _ (λ a r. r ≡ block_in a.0.now) _ (λ a r q k. search rules))))
