-- What a call that ends an allocation leaves.
use Rattle.std.proofs.Common.{◌≡◌, ℕ, List, Option, Some, None, sym, subst}
use Rattle.vk_memory.specs.MemoryState.{MemoryState}
use Rattle.vk_model.specs.Memory.Allocations.{Allocated, without}
use Rattle.vma_pools.specs.declared.allocations.Home.{Home}
use Rattle.vma_pools.specs.State.{PoolsState, ArePools, Backs, IfLive, IsEnded, IsGivenBack, released}
use Rattle.vma_pools.proofs.CallLemmas.{live-holds}
use Rattle.vk_backing.specs.Backed.{Backed, number_in, allocation_of, info_by, LiesIn, IsBacked, IsShared, IsWhole}
use Rattle.vk_model.specs.declared.resource.Spot.{Spot}
use Rattle.vk_backing.specs.Allotted.{allotted, Fulfils}
use Rattle.vk_backing.proofs.Releasing.{back_released, back_whole}
use Rattle.vk_backing.proofs.Keeping.{back_keeps}
use Rattle.vk_backing.proofs.Infos.{back_infos}
use Rattle.vk_backing.proofs.GivenBack.{back_allotted}

module _ (b : Backed) (m : MemoryState) (h : IsBacked b m) (id a : ℕ) (its : allocation_of b id ≡ Some a) (new : PoolsState) (gone : Option ℕ) (ended : IfLive b.pools a (λ x. IsEnded b.pools new a x.home gone)) (allocations : List (ℕ × ℕ)) (none : number_in allocations id ≡ None) (others : (i : ℕ) → (i ≡ id → ⊥) → number_in allocations i ≡ allocation_of b i) where
  abbrev s : IsShared b a
  s = h.shared id a its

  given_back : IsGivenBack b.pools new a s.pool s.place gone
  given_back = subst (λ (l : Home). IsEnded b.pools new a l gone) s.lies (live-holds b.pools a (λ x. IsEnded b.pools new a x.home gone) ended s.allocation s.live)

  pub shared_released : ArePools new → Backs new (released m gone) → IsBacked (record b { pools = new; allocations = allocations }) (released m gone)
  shared_released always backs =
      subst (λ (t : PoolsState). IsBacked (record b { pools = t; allocations = allocations }) (released m gone)) (sym given_back.state)
      (back_released b m h a s.allocation s.live new s.pool s.place gone given_back id its allocations none others (subst ArePools given_back.state always) (subst (λ (t : PoolsState). Backs t (released m gone)) given_back.state backs))

  pub shared_whole : IsWhole b → IsWhole (record b { pools = new; allocations = allocations })
  shared_whole whole =
      subst (λ (t : PoolsState). IsWhole (record b { pools = t; allocations = allocations })) (sym given_back.state)
      (back_whole b m h a s.allocation s.live new s.pool s.place gone given_back id its allocations none others whole)

  pub shared_allotted : (d : Allocated) → Fulfils (allotted b m) d → Fulfils (allotted (record b { pools = new; allocations = allocations }) (released m gone)) (without id d)
  shared_allotted d is =
      subst (λ (t : PoolsState). Fulfils (allotted (record b { pools = t; allocations = allocations }) (released m gone)) (without id d)) (sym given_back.state)
      (back_allotted b m h a s.allocation s.live new s.pool s.place s.lies gone given_back id its allocations none others s.id s.named d is)

  pub shared_keeps : IsBacked (record b { pools = new; allocations = allocations }) (released m gone) → (i q : ℕ) (t : Spot) → (i ≡ id → ⊥) → LiesIn b i q t → LiesIn (record b { pools = new; allocations = allocations }) i q t
  shared_keeps after i q t other l =
      subst (λ (x : PoolsState). LiesIn (record b { pools = x; allocations = allocations }) i q t) (sym given_back.state)
      (back_keeps b m h a s.allocation s.live new s.pool s.place gone given_back id its allocations none others (subst (λ (x : PoolsState). IsBacked (record b { pools = x; allocations = allocations }) (released m gone)) given_back.state after) i q t other l)

  pub shared_infos : (i : ℕ) → info_by (record b { pools = new; allocations = allocations }) i ≡ info_by b i
  shared_infos i =
      subst (λ (x : PoolsState). info_by (record b { pools = x; allocations = allocations }) i ≡ info_by b i) (sym given_back.state)
      (back_infos b m h a s.allocation s.live new s.pool s.place gone given_back i)
