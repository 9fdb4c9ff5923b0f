-- What pools were made with stays.
use Rattle.std.proofs.Common.{◌≡◌, ℕ, List, [], ◌∷◌, ◌++◌, set, length, Bool, Option, Some, None, refl, sym, ap, ◌∙◌, inl, inr}
use Rattle.std.specs.Option.{option_and_then, option_map}
use Rattle.std.proofs.lemmas.Bool.{cases_eq}
use Rattle.vk_memory.specs.MemoryState.{MemoryState}
use Rattle.vk_model.specs.declared.resource.PoolInfo.{PoolInfo}
use Rattle.vk_model.specs.Memory.Pools.{empty_pool}
use Rattle.vma_pools.specs.declared.pool.PoolPlace.{PoolPlace}
use Rattle.vma_pools.specs.declared.allocations.Asked.{Asked}
use Rattle.vma_pools.specs.declared.allocations.Allocation.{Allocation}
use Rattle.vma_pools.specs.Pools.{Kept, Takes}
use Rattle.vma_pools.specs.State.{PoolsState, pool_at, allocation_at, request_in, start_of, IsGivenBack}
use Rattle.vma_pools.proofs.NumberLemmas.{at-old, at-new, at-other}
use Rattle.vma_pools.proofs.StateLemmas.{given-info, takes-gives}
use Rattle.vk_backing.specs.Backed.{Backed, number_in, pool_of, info_by, IsBacked}
use Rattle.vk_backing.proofs.Sharing.{given_pools, pool_here, pool_other}
use Rattle.vk_backing.proofs.Releasing.{back_pools, back_here, back_other}

pub same_info : (s t : PoolsState) (o : Option ℕ) → ((p : ℕ) → o ≡ Some p → (k : Kept) × (l : Kept) × (pool_at s p ≡ Some k) × (pool_at t p ≡ Some l) × (l.pool.info ≡ k.pool.info))
    → option_map (λ k. k.pool.info) (option_and_then (pool_at t) o) ≡ option_map (λ k. k.pool.info) (option_and_then (pool_at s) o)
same_info s t None each = refl
same_info s t (Some p) each =
    let e = each p refl in
    ap (λ (x : Option Kept). option_map (λ (k : Kept). k.pool.info) x) e.3 ∙ ap (λ (i : PoolInfo). Some i) e.4 ∙ sym (ap (λ (x : Option Kept). option_map (λ (k : Kept). k.pool.info) x) e.2)

numbered_info : (s : PoolsState) (o q : Option ℕ) → o ≡ q → option_map (λ k. k.pool.info) (option_and_then (pool_at s) o) ≡ option_map (λ k. k.pool.info) (option_and_then (pool_at s) q)
numbered_info s o q e = ap (λ (x : Option ℕ). option_map (λ (k : Kept). k.pool.info) (option_and_then (pool_at s) x)) e

module _ (b : Backed) (m : MemoryState) (h : IsBacked b m) where
  -- one more pool
  module _ (info : PoolInfo) (id : ℕ) (numbers : List (ℕ × ℕ)) (here : number_in numbers id ≡ Some (length b.pools.pools)) (others : (i : ℕ) → (i ≡ id → ⊥) → number_in numbers i ≡ pool_of b i) where
    abbrev first : Option Kept
    first = Some (record { pool = empty_pool info; memories = [] })

    abbrev more : Backed
    more = record b { pools = record b.pools { pools = b.pools.pools ++ first ∷ [] }; numbers = numbers }

    pub more_info : info_by more id ≡ Some info
    more_info = numbered_info more.pools (number_in numbers id) (Some (length b.pools.pools)) here ∙ ap (λ (x : Option Kept). option_map (λ (k : Kept). k.pool.info) x) (at-new b.pools.pools first)

    pub more_infos : (i : ℕ) → (i ≡ id → ⊥) → info_by more i ≡ info_by b i
    more_infos i other =
        numbered_info more.pools (number_in numbers i) (pool_of b i) (others i other)
        ∙ same_info b.pools more.pools (pool_of b i) (λ p e. let k = h.named i p e in (k.0, k.0, k.1, at-old b.pools.pools first p k.0 k.1, refl))

  -- one less
  module _ (id p : ℕ) (its : pool_of b id ≡ Some p) (numbers : List (ℕ × ℕ)) (gone : number_in numbers id ≡ None) (others : (i : ℕ) → (i ≡ id → ⊥) → number_in numbers i ≡ pool_of b i) where
    abbrev less : Backed
    less = record b { pools = record b.pools { pools = set b.pools.pools p None }; numbers = numbers }

    pub less_info : info_by less id ≡ None
    less_info = numbered_info less.pools (number_in numbers id) None gone

    pub less_infos : (i : ℕ) → (i ≡ id → ⊥) → info_by less i ≡ info_by b i
    less_infos i other =
        numbered_info less.pools (number_in numbers i) (pool_of b i) (others i other)
        ∙ same_info b.pools less.pools (pool_of b i) (λ q e. let k = h.named i q e in (k.0, k.0, k.1, at-other b.pools.pools p q None (λ f. other (h.one_pool i id p (e ∙ ap (λ (n : ℕ). Some n) f) its)) ∙ k.1, refl))

  -- where a pool gives a place
  pub share_infos : (p : ℕ) (was now : Kept) (there : pool_at b.pools p ≡ Some was) (place : PoolPlace) (asked : Asked) (upper : Bool) (after : MemoryState) (takes : Takes was now m after (request_in asked) upper (start_of place)) (i : ℕ)
      → option_map (λ k. k.pool.info) (option_and_then (pool_at (given_pools b m h p was now there place asked upper after takes)) (pool_of b i)) ≡ info_by b i
  share_infos p was now there place asked upper after takes i = same_info b.pools (given_pools b m h p was now there place asked upper after takes) (pool_of b i) (λ q e. let k = h.named i q e in elim (cases_eq q p) [
    | inl is ↦ (
      was,
      now,
      ap (λ (n : ℕ). pool_at b.pools n) is ∙ there,
      ap (λ (n : ℕ). pool_at (given_pools b m h p was now there place asked upper after takes) n) is ∙ pool_here b m h p was now there place asked upper after takes,
      (takes-gives was now m after (request_in asked) upper (start_of place) takes).1.info ∙ given-info was.pool (request_in asked) upper (start_of place),
    )
    | inr other ↦ (k.0, k.0, k.1, pool_other b m h p was now there place asked upper after takes q other ∙ k.1, refl)
  ])

  -- where a place is given back
  pub back_infos : (a : ℕ) (x : Allocation) (live : allocation_at b.pools a ≡ Some x) (new : PoolsState) (p : ℕ) (place : PoolPlace) (gone : Option ℕ) (g : IsGivenBack b.pools new a p place gone) (i : ℕ)
      → option_map (λ k. k.pool.info) (option_and_then (pool_at (back_pools b m h a x live new p place gone g)) (pool_of b i)) ≡ info_by b i
  back_infos a x live new p place gone g i = same_info b.pools (back_pools b m h a x live new p place gone g) (pool_of b i) (λ q e. let k = h.named i q e in elim (cases_eq q p) [
    | inl is ↦ (
      g.was,
      g.now,
      ap (λ (n : ℕ). pool_at b.pools n) is ∙ g.there,
      ap (λ (n : ℕ). pool_at (back_pools b m h a x live new p place gone g) n) is ∙ back_here b m h a x live new p place gone g,
      g.pool_is.info,
    )
    | inr other ↦ (k.0, k.0, k.1, back_other b m h a x live new p place gone g q other ∙ k.1, refl)
  ])
