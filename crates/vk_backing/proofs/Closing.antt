-- A pass ends.
use Rattle.std.proofs.Common.{◌≡◌, ℕ, List, [], ◌∷◌, get_or, Option, Some, None, refl, sym, ap, subst, ◌∙◌}
use Rattle.std.specs.Prelude.{AllPairs, Contains, IsSome}
use Rattle.std.specs.List.{cons_option, filter_map}
use Rattle.std.proofs.lemmas.List.{get_or_default}
use Rattle.std.proofs.lemmas.List.Elements.{All-contains}
use Rattle.std.proofs.lemmas.List.Kept.{AllPairs-cons}
use Rattle.vk_memory.specs.MemoryState.{MemoryState}
use Rattle.vk_model.proofs.Lists.Members.{chosen_from}
use Rattle.vk_model.proofs.Memory.AllPairs.{pairs_first, pairs_rest}
use Rattle.vma_pools.specs.declared.pool.PoolPlace.{PoolPlace}
use Rattle.vma_pools.specs.State.{allocation_at, shared_place}
use Rattle.vma_pools.proofs.CallLemmas.{live-and}
use Rattle.vma_pools.proofs.StateLemmas.{some-is}
use Rattle.vma_defrag.specs.State.{DefragState, left_in, moves_in}
use Rattle.vma_defrag.specs.Plans.{ArePlanned}
use Rattle.vma_defrag.specs.Bytes.{AreCopied}
use Rattle.vma_defrag.specs.Ends.{AreOfPool}
use Rattle.vk_backing.specs.Backed.{Backed, allocation_of, IsBacked}
use Rattle.vk_backing.specs.Passing.{Passing, CopiesAgree, defrag_in, open_defrag, left_by, moves_by, ArePassing}
use Rattle.vk_backing.specs.PassSteps.{AreDestroyed}
use Rattle.vk_backing.proofs.Passing.{open_is, open_planned}

-- the numbers of two ids are two
numbers_apart : (h : ℕ → Option ℕ) → ((i j a : ℕ) → h i ≡ Some a → h j ≡ Some a → i ≡ j) → (ids : List ℕ) → AllPairs (λ i j. i ≡ j → ⊥) ids → AllPairs (λ i j. i ≡ j → ⊥) (filter_map h ids)
numbers_apart h one [] once = once
numbers_apart h one (i ∷ is) once = go (h i) refl (numbers_apart h one is (pairs_rest (λ i j. i ≡ j → ⊥) i is once))
  where
    go : (o : Option ℕ) → h i ≡ o → AllPairs (λ i j. i ≡ j → ⊥) (filter_map h is) → AllPairs (λ i j. i ≡ j → ⊥) (cons_option o (filter_map h is))
    go None e rest = rest
    go (Some a) e rest = AllPairs-cons (λ i j. i ≡ j → ⊥) a (filter_map h is) (λ k d lt same.
        let c = chosen_from h is (get_or (filter_map h is) k d) (k, lt, get_or_default (filter_map h is) k (get_or (filter_map h is) k d) d lt) in
        All-contains (λ j. i ≡ j → ⊥) is c.0 (pairs_first (λ i j. i ≡ j → ⊥) i is once) c.1 (one i c.0 a e (c.2 ∙ ap (λ (n : ℕ). Some n) (sym same)))) rest

module _ (old : Passing) (b : Backed) (m : MemoryState) (hp : ArePassing old b) (h : IsBacked b m) (id : ℕ) (is : old.opened ≡ Some id) (d : DefragState) (was : defrag_in old id ≡ Some d) where
  pub its_open : open_defrag old ≡ Some d
  its_open = open_is old id is ∙ was

  pub current : IsSome d.current
  current = let o = hp.opened id is in subst (λ (x : DefragState). IsSome x.current) (some-is o.0 d (sym o.1 ∙ was)) o.2

  pub plan : ArePlanned b.pools d.pool (moves_in d.current)
  plan = open_planned old b hp d its_open

  pub copied : CopiesAgree old b m → AreCopied b.pools m (moves_in d.current) (left_in d.current)
  copied agree = subst (λ (o : Option DefragState). AreCopied b.pools m (moves_by o) (left_by o)) its_open agree

  module _ (destroyed lost : List ℕ) (lost_are : lost ≡ filter_map (allocation_of b) destroyed) (ends : AreDestroyed old b destroyed) where
    -- whose allocation ends
    pub lost_of : (a : ℕ) → Contains lost a → (i : ℕ) × Contains destroyed i × (allocation_of b i ≡ Some a)
    lost_of a there = chosen_from (allocation_of b) destroyed a (subst (λ (l : List ℕ). Contains l a) lost_are there)

    pub of_pool : AreOfPool b.pools d.pool lost
    of_pool = record {
      each = λ a there.
          let i = lost_of a there in let e = ends.each i.0 i.1 in
          let pool : d.pool ≡ e.0.pool = ap (λ (x : DefragState). x.pool) (some-is d e.0 (sym its_open ∙ e.2)) in
          let l = e.3 in
          let same = some-is l.number a (sym l.has ∙ i.2) in
          live-and b.pools a l.allocation (λ x. (place : PoolPlace) × (shared_place x.home ≡ Some (d.pool, place))) (ap (λ (n : ℕ). allocation_at b.pools n) (sym same) ∙ l.live)
          (l.place, ap shared_place l.lies ∙ ap (λ (p : ℕ). Some (p, l.place)) (sym pool));
      once = subst (λ (l : List ℕ). AllPairs (λ i j. i ≡ j → ⊥) l) (sym lost_are) (numbers_apart (allocation_of b) h.one destroyed ends.once);
    }
