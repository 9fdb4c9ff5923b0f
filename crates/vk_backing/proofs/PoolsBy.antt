-- The pools of a device by their ids, when one of them has changed.
use Rattle.std.proofs.Common.{◌≡◌, ℕ, List, [], ◌∷◌, map, Bool, true, false, ◌==◌, Option, Some, refl, sym, ap, subst, ◌∙◌}
use Rattle.std.specs.Prelude.{if◌then◌else◌}
use Rattle.std.specs.List.{filter}
use Rattle.std.proofs.lemmas.Bool.{ne_eqb, eq-eqb, eqb-true}
use Rattle.vk_memory.specs.MemoryState.{MemoryState}
use Rattle.vk_model.specs.Memory.Allocations.{Allocated, PoolMemory, pool_by_id, with_pool}
use Rattle.vma_pools.specs.Pools.{Kept}
use Rattle.vma_pools.specs.State.{pool_at}
use Rattle.vk_backing.specs.Backed.{Backed, pool_of}
use Rattle.vk_backing.specs.Allotted.{allotted, ArePoolsOf, Fulfils, IsPoolMemory}
use Rattle.vk_backing.proofs.Keyed.{found_some, picked_map}

module _ (r : PoolMemory) where
  -- this one in place of that of its id
  abbrev pub change : PoolMemory → PoolMemory
  change o = if o.id == r.id then r else o

  pub change_other : (o : PoolMemory) → (o.id ≡ r.id → ⊥) → change o ≡ o
  change_other o other = ap (λ (v : Bool). if v then r else o) (ne_eqb o.id r.id other)

  pub change_it : (o : PoolMemory) → o.id ≡ r.id → change o ≡ r
  change_it o is = ap (λ (v : Bool). if v then r else o) (eq-eqb o.id r.id is)

  pub keeps_id : (o : PoolMemory) → (change o).id ≡ o.id
  keeps_id o = go (o.id == r.id) refl
    where
      go : (v : Bool) → (o.id == r.id) ≡ v → (if v then r else o).id ≡ o.id
      go true e = sym (eqb-true o.id r.id e)
      go false e = refl

  picked_changed : (d : Allocated) (i : ℕ) (q : PoolMemory) → filter (λ o. o.id == i) d.pools ≡ q ∷ [] → filter (λ o. o.id == i) (map change d.pools) ≡ change q ∷ []
  picked_changed d i q one = picked_map (λ (o : PoolMemory). o.id) change keeps_id i d.pools ∙ ap (λ (l : List PoolMemory). map change l) one

  -- the one that has changed
  pub found_changed : (d : Allocated) (q : PoolMemory) → q.id ≡ r.id → filter (λ o. o.id == r.id) d.pools ≡ q ∷ [] → pool_by_id r.id (with_pool r d) ≡ Some r
  found_changed d q is one = found_some (λ (o : PoolMemory). o.id) r.id (map change d.pools) r (picked_changed d r.id q one ∙ ap (λ (o : PoolMemory). o ∷ []) (change_it q is))

  -- another one
  pub found_other : (d : Allocated) (i : ℕ) (q : PoolMemory) → (q.id ≡ r.id → ⊥) → filter (λ o. o.id == i) d.pools ≡ q ∷ [] → pool_by_id i (with_pool r d) ≡ Some q
  found_other d i q other one = found_some (λ (o : PoolMemory). o.id) i (map change d.pools) q (picked_changed d i q one ∙ ap (λ (o : PoolMemory). o ∷ []) (change_other q other))

-- the pool of an id
module _ (b : Backed) (m : MemoryState) (d : Allocated) (is : Fulfils (allotted b m) d) (i n : ℕ) (named : pool_of b i ≡ Some n) where
  pub pool_by : (q : PoolMemory) × (k : Kept) × (filter (λ o. o.id == i) d.pools ≡ q ∷ []) × (pool_at b.pools n ≡ Some k) × IsPoolMemory b i n k q
  pool_by = subst (λ (o : Option ℕ). ArePoolsOf b i o (filter (λ o. o.id == i) d.pools)) named (is.pools i)

  pub pool_found : pool_by_id i d ≡ Some pool_by.0
  pool_found = found_some (λ (o : PoolMemory). o.id) i d.pools pool_by.0 pool_by.2
