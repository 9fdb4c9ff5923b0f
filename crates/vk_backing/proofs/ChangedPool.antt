-- What is allocated when one pool has changed.
use Rattle.std.proofs.Common.{◌≡◌, ℕ, ◌+◌, List, [], ◌∷◌, map, length, Bool, ◌==◌, Option, Some, None, refl, sym, ap, subst, ◌∙◌, arith, inl, inr}
use Rattle.std.specs.Prelude.{if◌then◌else◌, sum_by}
use Rattle.std.specs.Option.{option_and_then}
use Rattle.std.specs.List.{filter}
use Rattle.std.proofs.lemmas.Bool.{cases_eq}
use Rattle.vk_memory.specs.MemoryState.{MemoryState}
use Rattle.vk_model.specs.Memory.Allocations.{Allocated, PoolMemory, pool_bytes, with_pool}
use Rattle.vma_pools.specs.Alike.{IsAlikePool}
use Rattle.vma_pools.specs.Pools.{Kept}
use Rattle.vma_pools.specs.State.{pool_at}
use Rattle.vk_backing.specs.Backed.{Backed, object_of, pool_of, allocation_by}
use Rattle.vk_backing.specs.Allotted.{allotted, kind_of, bytes_on, one_if, own_memory, resident_of, ArePoolsOf, Fulfils}
use Rattle.vk_backing.proofs.Keyed.{picked_map, sum_one}
use Rattle.vk_backing.proofs.PoolsBy.{change, change_it, change_other, keeps_id}
use Rattle.vk_backing.proofs.Places.{its_pools, its}
use Rattle.vk_backing.proofs.Without.{kind_at}

-- what is so of a pool that has changed, and of the others
pub record ChangesPool (b c : Backed) (m n : MemoryState) (id p : ℕ) (now : Kept) (q r : PoolMemory) : Type 0 where
  pub named : pool_of b id ≡ Some p
  pub here : pool_at c.pools p ≡ Some now
  pub others : (t : ℕ) → (t ≡ p → ⊥) → pool_at c.pools t ≡ pool_at b.pools t
  pub names : (i : ℕ) → pool_of c i ≡ pool_of b i
  pub owned : (i : ℕ) → object_of c i ≡ object_of b i
  pub one_pool : (i j t : ℕ) → pool_of b i ≡ Some t → pool_of b j ≡ Some t → i ≡ j
  pub id_is : r.id ≡ id
  pub alike : IsAlikePool r.pool now.pool
  pub residents : (j : ℕ) → filter (λ a. a.id == j) r.residents ≡ resident_of p j (allocation_by c j)
  pub elsewhere : (t : ℕ) → (t ≡ p → ⊥) → (j : ℕ) → resident_of t j (allocation_by b j) ≡ resident_of t j (allocation_by c j)
  pub sizes : n.sizes ≡ m.sizes
  pub bytes : (first : Bool) → pool_bytes (if first then 0 else 1) q + sum_by (bytes_on first) (map kind_of n.objects) ≡ sum_by (bytes_on first) (map kind_of m.objects) + pool_bytes (if first then 0 else 1) r
  pub count : length q.pool.blocks + sum_by one_if (map kind_of n.objects) ≡ sum_by one_if (map kind_of m.objects) + length r.pool.blocks
  pub kinds : (i k : ℕ) → object_of b i ≡ Some k → kind_at n k ≡ kind_at m k

module _ (b : Backed) (m : MemoryState) (d : Allocated) (is : Fulfils (allotted b m) d) (id p : ℕ) (named : pool_of b id ≡ Some p) (was : Kept) (there : pool_at b.pools p ≡ Some was) (c : Backed) (n : MemoryState) (now : Kept) (r : PoolMemory)
    (h : ChangesPool b c m n id p now (its b m d is id p named was there) r) where
  abbrev q : PoolMemory
  q = its b m d is id p named was there

  q_id : q.id ≡ id
  q_id = (its_pools b m d is id p named was there).4.id_is

  changed_sum : (f : PoolMemory → ℕ) → sum_by f (map (change r) d.pools) + f q ≡ sum_by f d.pools + f r
  changed_sum f =
      sum_one (λ (o : PoolMemory). o.id) f (change r) id q d.pools (its_pools b m d is id p named was there).2 (λ x there other. ap f (change_other r x (λ e. other (e ∙ h.id_is))))
      ∙ ap (λ (o : PoolMemory). sum_by f d.pools + f o) (change_it r q (q_id ∙ sym h.id_is))

  own_same : (i : ℕ) → own_memory i (option_and_then (kind_at m) (object_of b i)) ≡ own_memory i (option_and_then (kind_at n) (object_of c i))
  own_same i = go (object_of b i) refl ∙ ap (λ (o : Option ℕ). own_memory i (option_and_then (kind_at n) o)) (sym (h.owned i))
    where
      go : (o : Option ℕ) → object_of b i ≡ o → own_memory i (option_and_then (kind_at m) o) ≡ own_memory i (option_and_then (kind_at n) o)
      go None e = refl
      go (Some k) e = ap (λ (x : Option (ℕ × ℕ)). own_memory i x) (sym (h.kinds i k e))

  other_pools : (i : ℕ) → (i ≡ id → ⊥) → (o : Option ℕ) → pool_of b i ≡ o → (qs : List PoolMemory) → ArePoolsOf b i o qs → ArePoolsOf c i o (map (change r) qs)
  other_pools i other None e qs are = ap (λ (l : List PoolMemory). map (change r) l) are
  other_pools i other (Some t) e qs are =
      let away : t ≡ p → ⊥ = λ (f : t ≡ p). other (h.one_pool i id p (e ∙ ap (λ (k : ℕ). Some k) f) named) in (
        are.0,
        are.1,
        ap (λ (l : List PoolMemory). map (change r) l) are.2 ∙ ap (λ (x : PoolMemory). x ∷ []) (change_other r are.0 (λ f. other (sym are.4.id_is ∙ f ∙ h.id_is))),
        h.others t away ∙ are.3,
        record { id_is = are.4.id_is; pool = are.4.pool; residents = λ j. are.4.residents j ∙ h.elsewhere t away j },
      )

  its_new : ArePoolsOf c id (Some p) (map (change r) (filter (λ o. o.id == id) d.pools))
  its_new = (
    r,
    now,
    ap (λ (l : List PoolMemory). map (change r) l) (its_pools b m d is id p named was there).2 ∙ ap (λ (x : PoolMemory). x ∷ []) (change_it r q (q_id ∙ sym h.id_is)),
    h.here,
    record { id_is = h.id_is; pool = h.alike; residents = h.residents },
  )

  mapped_pools : (i : ℕ) → ArePoolsOf c i (pool_of b i) (map (change r) (filter (λ o. o.id == i) d.pools))
  mapped_pools i = elim (cases_eq i id) [
    | inl e ↦ subst (λ (j : ℕ). ArePoolsOf c j (pool_of b j) (map (change r) (filter (λ o. o.id == j) d.pools))) (sym e) (subst (λ (o : Option ℕ). ArePoolsOf c id o (map (change r) (filter (λ o. o.id == id) d.pools))) (sym named) its_new)
    | inr other ↦ other_pools i other (pool_of b i) refl (filter (λ o. o.id == i) d.pools) (is.pools i)
  ]

  pub pool_changed : Fulfils (allotted c n) (with_pool r d)
  pool_changed = record {
    sizes = h.sizes ∙ is.sizes;
    used = λ first.
        let s = changed_sum (pool_bytes (if first then 0 else 1)) in let u = is.used first in let k = h.bytes first in omega (arith, s, u, k);
    count = (let s = changed_sum (λ (o : PoolMemory). length o.pool.blocks) in let k = h.count in omega (arith, s, is.count, k));
    objects = λ i. is.objects i ∙ own_same i;
    pools = λ i.
        subst (λ (o : Option ℕ). ArePoolsOf c i o (filter (λ o. o.id == i) (map (change r) d.pools))) (sym (h.names i))
        (subst (λ (qs : List PoolMemory). ArePoolsOf c i (pool_of b i) qs) (sym (picked_map (λ (o : PoolMemory). o.id) (change r) (keeps_id r) i d.pools)) (mapped_pools i));
  }
