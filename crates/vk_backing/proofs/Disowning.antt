-- What an id has of its own ends.
use Rattle.std.proofs.Common.{◌≡◌, ℕ, List, Option, Some, None, refl, sym, ap, subst, ◌∙◌}
use Rattle.vk_memory.specs.MemoryState.{MemoryState, with_object}
use Rattle.vk_model.specs.Memory.Allocations.{Allocated, without}
use Rattle.vma_pools.specs.State.{PoolsState, allocation_at, IfLive, IsEnded, Owner, Alone, BlockOf, Has, ArePools, Backs, released}
use Rattle.vma_pools.proofs.ReleaseLemmas.{kept-backs}
use Rattle.vk_backing.specs.declared.backing.Own.{Own}
use Rattle.vk_backing.specs.Backed.{Backed, own_in, object_of, dedicated_of, allocation_of, info_by, LiesIn, IsBacked, IsOwner, IsWhole}
use Rattle.vk_backing.specs.Allotted.{allotted, Fulfils}
use Rattle.vk_backing.specs.Steps.{Releases, EndsIn, EndsOwn}
use Rattle.vk_backing.proofs.Owned.{object_is, dedicated_is}
use Rattle.vk_backing.proofs.Turned.{Stays, stays, turned_keeps}
use Rattle.vk_backing.proofs.Freed.{freed_other}
use Rattle.vk_backing.proofs.Releasing.{own_live, own_released, own_whole_left, object_gone, object_left, dedicated_left, unshared}
use Rattle.vk_backing.proofs.Without.{freed_allotted}
use Rattle.vk_backing.proofs.Dedicating.{less, less_had, less_was, shared_stays, alone_stays, its_gone, its_state, its_memory}

-- no allocation is no owner
no_owner : (d : Option ℕ) → d ≡ None → (x : Owner) → IsOwner d x → ⊥
no_owner d none (Alone i) is = let e = sym none ∙ is in cc
no_owner d none (BlockOf p j) is = is

module _ (b : Backed) (m : MemoryState) (h : IsBacked b m) (id : ℕ) (o : Own) (its : own_in b.owned id ≡ Some o) (owned : List (ℕ × Own)) (none : own_in owned id ≡ None) (others : (i : ℕ) → (i ≡ id → ⊥) → own_in owned i ≡ own_in b.owned i) where
  has : object_of b id ≡ Some o.object
  has = object_is b.owned id (Some o) its

  -- ---- a memory object that is no allocation's

  module _ (alone : o.allocation ≡ None) where
    no_allocation : dedicated_of b id ≡ None
    no_allocation = dedicated_is b.owned id (Some o) its ∙ alone

    same : (j a : ℕ) → allocation_of b j ≡ Some a → Stays (allocation_at b.pools a) (allocation_at b.pools a)
    same j a e = stays (allocation_at b.pools a) (allocation_at b.pools a) (λ x is. is)

    pub memory_released : IsBacked (record b { owned = owned }) (with_object m o.object None)
    memory_released =
        own_released b m h id o.object has owned none others b.pools.allocations same h.pools
        (kept-backs b.pools b.pools m (with_object m o.object None) h.backs (λ x. x) (λ x z e. e) (λ i a at. (at, refl)) (λ p k at. (k, at, refl))
        (λ x k its. (its, freed_other m o.object (own_live b m h id o.object has owned none others b.pools.allocations same) k (λ e. no_owner (dedicated_of b id) no_allocation x (h.apart id o.object x has (subst (λ (j : ℕ). Has b.pools x j) e its))))) (λ p j. (j, refl)))
        (λ x k its. its) (λ i a other e. stays (allocation_at b.pools a) (allocation_at b.pools a) (λ x is. is))

    pub memory_releases : Releases b (record b { owned = owned }) m (with_object m o.object None) id (Some o.object)
    memory_releases = record {
      memory = refl;
      no_object = object_gone b m h id o.object has owned none others b.pools.allocations same;
      objects = object_left b m h id o.object has owned none others b.pools.allocations same;
      no_allocation = unshared b m h id o.object has (allocation_of b id) refl;
      allocations = λ i other. refl;
      mapped = dedicated_left b m h id o.object has owned none others b.pools.allocations same;
      numbers = refl;
      keeps = λ i q s other l. turned_keeps b m h owned b.pools.allocations same i q s l;
      infos = λ i. refl;
      ends = subst (λ (x : Option Own). EndsIn x (allocation_of b id) b.pools b.pools (Some o.object)) (sym its) (subst (λ (a : Option ℕ). EndsOwn o.object a b.pools b.pools (Some o.object)) (sym alone) (refl, refl));
    }

    pub memory_allotted : (d : Allocated) → Fulfils (allotted b m) d → Fulfils (allotted (record b { owned = owned }) (with_object m o.object None)) (without id d)
    memory_allotted d is = freed_allotted b m h d is id (unshared b m h id o.object has (allocation_of b id) refl) o.object has owned none others b.pools.allocations same

  -- ---- an allocation's

  module _ (a : ℕ) (of : o.allocation ≡ Some a) (new : PoolsState) (gone : Option ℕ) (ended : IfLive b.pools a (λ x. IsEnded b.pools new a x.home gone)) where
    stay : (j k : ℕ) → allocation_of b j ≡ Some k → Stays (allocation_at b.pools k) (allocation_at (record b.pools { allocations = less b m h id a o its of }) k)
    stay = shared_stays b m h id a o its of

    abbrev pub left : Backed
    left = record b { owned = owned; pools = record b.pools { allocations = less b m h id a o its of } }

    state : new ≡ left.pools
    state = its_state b m h id a o its of new gone ended

    memory : released m gone ≡ with_object m o.object None
    memory = its_memory b m h id a o its of new gone ended

    pub dedicated_released : ArePools new → Backs new (released m gone) → IsBacked (record b { owned = owned; pools = new }) (released m gone)
    dedicated_released always backs =
        subst (λ (n : MemoryState). IsBacked (record b { owned = owned; pools = new }) n) (sym memory)
        (subst (λ (s : PoolsState). IsBacked (record b { owned = owned; pools = s }) (with_object m o.object None)) (sym state)
        (own_released b m h id o.object has owned none others (less b m h id a o its of) stay (subst ArePools state always) (subst (λ (s : PoolsState). Backs s (with_object m o.object None)) state (subst (λ (n : MemoryState). Backs new n) memory backs))
        (less_had b m h id a o its of) (alone_stays b m h id a o its of)))

    pub dedicated_whole : IsWhole b → IsWhole (record b { owned = owned; pools = new })
    dedicated_whole whole = subst (λ (s : PoolsState). IsWhole (record b { owned = owned; pools = s })) (sym state) (own_whole_left b m h id o.object has owned none others (less b m h id a o its of) stay (less_was b m h id a o its of) whole)

    pub dedicated_releases : Releases b (record b { owned = owned; pools = new }) m (released m gone) id gone
    dedicated_releases = record {
      memory = refl;
      no_object = object_gone b m h id o.object has owned none others (less b m h id a o its of) stay;
      objects = object_left b m h id o.object has owned none others (less b m h id a o its of) stay;
      no_allocation = unshared b m h id o.object has (allocation_of b id) refl;
      allocations = λ i other. refl;
      mapped = dedicated_left b m h id o.object has owned none others (less b m h id a o its of) stay;
      numbers = refl;
      keeps = λ i q s other l. subst (λ (x : PoolsState). LiesIn (record b { owned = owned; pools = x }) i q s) (sym state) (turned_keeps b m h owned (less b m h id a o its of) stay i q s l);
      infos = λ i. ap (λ (x : PoolsState). info_by (record b { owned = owned; pools = x }) i) state;
      ends = subst (λ (x : Option Own). EndsIn x (allocation_of b id) b.pools new gone) (sym its) (subst (λ (k : Option ℕ). EndsOwn o.object k b.pools new gone) (sym of) (its_gone b m h id a o its of new gone ended, ended));
    }

    pub dedicated_allotted : (d : Allocated) → Fulfils (allotted b m) d → Fulfils (allotted (record b { owned = owned; pools = new }) (released m gone)) (without id d)
    dedicated_allotted d is =
        subst (λ (n : MemoryState). Fulfils (allotted (record b { owned = owned; pools = new }) n) (without id d)) (sym memory)
        (subst (λ (s : PoolsState). Fulfils (allotted (record b { owned = owned; pools = s }) (with_object m o.object None)) (without id d)) (sym state)
        (freed_allotted b m h d is id (unshared b m h id o.object has (allocation_of b id) refl) o.object has owned none others (less b m h id a o its of) stay))
