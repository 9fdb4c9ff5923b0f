-- An id gets a memory object of its own.
use Rattle.std.proofs.Common.{◌≡◌, ℕ, List, [], ◌∷◌, ◌++◌, map, length, Bool, true, false, ◌==◌, Option, Some, None, refl, sym, ap, subst, ◌∙◌, arith, inl, inr, ◌⊎◌}
use Rattle.std.specs.Prelude.{if◌then◌else◌, slice_index_or, sum_by}
use Rattle.std.specs.Option.{option_and_then}
use Rattle.std.specs.List.{filter}
use Rattle.std.proofs.lemmas.Bool.{cases_eq}
use Rattle.std.proofs.lemmas.List.{length-append}
use Rattle.std.proofs.lemmas.List.Sums.{sum_by_push}
use Rattle.vk_memory.specs.MemoryState.{MemoryState, IsLive}
use Rattle.vk_model.specs.Memory.Room.{heap_of}
use Rattle.vk_model.specs.Memory.Allocations.{Allocated, OwnMemory, with_object}
use Rattle.vma_pools.specs.declared.allocations.Allocation.{Allocation}
use Rattle.vma_pools.specs.State.{PoolsState, allocation_at, Owner, Has, ArePools, Backs}
use Rattle.vma_pools.proofs.BacksLemmas.{has-bytes, live-below}
use Rattle.vma_pools.proofs.StateLemmas.{some-is}
use Rattle.vk_backing.specs.declared.backing.Own.{Own}
use Rattle.vk_backing.specs.Backed.{Backed, own_in, object_in, dedicated_in, object_of, dedicated_of, pool_of, allocation_of, IsBacked, IsDedicated, IsOwner, IsWhole}
use Rattle.vk_backing.specs.Allotted.{allotted, kind_of, bytes_on, one_if, own_memory, Fulfils}
use Rattle.vk_backing.proofs.Keyed.{push_here, push_other}
use Rattle.vk_backing.proofs.Grown.{grown, grown_live, new_live, grown_sized, grown_kinds, kind_stays, kind_new}
use Rattle.vk_backing.proofs.Owned.{object_is, dedicated_is, no_dedicated}
use Rattle.vk_backing.proofs.Turned.{Stays, stays, dedicated_stays, turned, turned_shared, turned_pools}
use Rattle.vk_memory.proofs.LiveObjects.{live_below}

-- the bytes on a heap
pub heap_bytes : (t size : ℕ) (first : Bool) → (if heap_of t == (if first then 0 else 1) then size else 0) ≡ bytes_on first (Some (t, size))
heap_bytes t size true = go (t == 0)
  where
    go : (v : Bool) → (if (if v then 0 else 1) == 0 then size else 0) ≡ (if v then size else 0)
    go true = refl
    go false = refl
heap_bytes t size false = go (t == 0)
  where
    go : (v : Bool) → (if (if v then 0 else 1) == 1 then size else 0) ≡ (if v then 0 else size)
    go true = refl
    go false = refl

-- allocations that are what they were, and perhaps one more, where there is a new memory object
module _ (b : Backed) (m : MemoryState) (h : IsBacked b m) (t size : ℕ) (allocations : List (Option Allocation)) (kept : (a : ℕ) (x : Allocation) → allocation_at b.pools a ≡ Some x → slice_index_or allocations a None ≡ Some x) where
  abbrev pub pools_now : PoolsState
  pools_now = record b.pools { allocations = allocations }

  pub stay : (a : ℕ) → Stays (allocation_at b.pools a) (slice_index_or allocations a None)
  stay a = stays (allocation_at b.pools a) (slice_index_or allocations a None) (λ x is. kept a x is)

  not_new : (i n : ℕ) → object_of b i ≡ Some n → n ≡ length m.objects → ⊥
  not_new i n has is = let l = live_below m n (h.live i n has) in absurd (omega (arith, l, is))

  -- those that no id has change nothing
  pub more_backed : ArePools pools_now → Backs pools_now (grown m t size) → ((x : Owner) (n : ℕ) → Has pools_now x n → Has b.pools x n ⊎ (n ≡ length m.objects)) → IsBacked (record b { pools = pools_now }) (grown m t size)
  more_backed always backs had = record {
    pools = always;
    backs = backs;
    matched = h.matched;
    sized = grown_sized m t size h.sized;
    live = λ i n has. grown_live m t size n (h.live i n has);
    own = h.own;
    apart = λ i n x has its. elim (had x n its) [ inl old ↦ h.apart i n x has old | inr new ↦ absurd (not_new i n has new) ];
    dedicated = λ i a has. dedicated_stays (allocation_at b.pools a) (slice_index_or allocations a None) (object_of b i) (object_of b i) (stay a) refl (h.dedicated i a has);
    either = h.either;
    named = h.named;
    one_pool = h.one_pool;
    shared = λ i a has. turned_shared b m h b.owned allocations (λ j k e. stay k) i a has;
    one = h.one;
  }

  -- the memory object of an id that had none
  module _ (id : ℕ) (absent : object_of b id ≡ None) (apart : allocation_of b id ≡ None) (owned : List (ℕ × Own)) (o : Own) (here : own_in owned id ≡ Some o) (others : (i : ℕ) → (i ≡ id → ⊥) → own_in owned i ≡ own_in b.owned i) (number : o.object ≡ length m.objects) where
    abbrev pub owning : Backed
    owning = turned b m h owned allocations (λ j a e. stay a)

    pub object_here : object_in owned id ≡ Some (length m.objects)
    object_here = object_is owned id (Some o) here ∙ ap (λ (n : ℕ). Some n) number

    pub object_other : (i : ℕ) → (i ≡ id → ⊥) → object_in owned i ≡ object_of b i
    object_other i other = object_is owned i (own_in b.owned i) (others i other)

    pub dedicated_other : (i : ℕ) → (i ≡ id → ⊥) → dedicated_in owned i ≡ dedicated_of b i
    dedicated_other i other = dedicated_is owned i (own_in b.owned i) (others i other)

    pub dedicated_here : dedicated_in owned id ≡ o.allocation
    dedicated_here = dedicated_is owned id (Some o) here

    owned_was : (i n : ℕ) → object_in owned i ≡ Some n → ((object_of b i ≡ Some n) × (i ≡ id → ⊥)) ⊎ ((i ≡ id) × (n ≡ length m.objects))
    owned_was i n has = elim (cases_eq i id) [
      | inl is ↦ inr (is, some-is n (length m.objects) (sym has ∙ ap (λ (j : ℕ). object_in owned j) is ∙ object_here))
      | inr other ↦ inl (sym (object_other i other) ∙ has, other)
    ]

    pub own_backed : ArePools pools_now → Backs pools_now (grown m t size) → ((x : Owner) (n : ℕ) → Has pools_now x n → Has b.pools x n ⊎ ((n ≡ length m.objects) × IsOwner o.allocation x))
        → ((a : ℕ) → o.allocation ≡ Some a → IsDedicated (slice_index_or allocations a None) (Some (length m.objects))) → IsBacked owning (grown m t size)
    own_backed always backs had new_one = record {
      pools = always;
      backs = backs;
      matched = h.matched;
      sized = grown_sized m t size h.sized;
      live = λ i n has. elim (owned_was i n has) [
        | inl old ↦ grown_live m t size n (h.live i n old.0)
        | inr new ↦ subst (λ (k : ℕ). IsLive (grown m t size) k) (sym new.1) (new_live m t size)
      ];
      own = λ i j n x y. elim (owned_was i n x) [
        | inl old ↦ elim (owned_was j n y) [ inl too ↦ h.own i j n old.0 too.0 | inr new ↦ absurd (not_new i n old.0 new.1) ]
        | inr new ↦ elim (owned_was j n y) [ inl old ↦ absurd (not_new j n old.0 new.1) | inr too ↦ new.0 ∙ sym too.0 ]
      ];
      apart = λ i n x has its. elim (owned_was i n has) [
        | inl old ↦ elim (had x n its) [
          | inl was ↦ subst (λ (d : Option ℕ). IsOwner d x) (sym (dedicated_other i old.1)) (h.apart i n x old.0 was)
          | inr new ↦ absurd (not_new i n old.0 new.0)
        ]
        | inr new ↦ elim (had x n its) [
          | inl was ↦ (let l = live-below m t size n (has-bytes b.pools h.pools m h.backs x n was) in absurd (omega (arith, l, new.1)))
          | inr of ↦ subst (λ (d : Option ℕ). IsOwner d x) (sym (ap (λ (j : ℕ). dedicated_in owned j) new.0 ∙ dedicated_here)) of.1
        ]
      ];
      dedicated = λ i a has. elim (cases_eq i id) [
        | inl is ↦ subst (λ (n : Option ℕ). IsDedicated (slice_index_or allocations a None) n) (sym (ap (λ (j : ℕ). object_in owned j) is ∙ object_here)) (new_one a (sym dedicated_here ∙ ap (λ (j : ℕ). dedicated_in owned j) (sym is) ∙ has))
        | inr other ↦ dedicated_stays (allocation_at b.pools a) (slice_index_or allocations a None) (object_of b i) (object_in owned i) (stay a) (object_other i other) (h.dedicated i a (sym (dedicated_other i other) ∙ has))
      ];
      either = λ i n a has its. elim (owned_was i n has) [
        | inl old ↦ h.either i n a old.0 its
        | inr new ↦ (let e = sym apart ∙ ap (λ (j : ℕ). allocation_of b j) (sym new.0) ∙ its in cc)
      ];
      named = h.named;
      one_pool = h.one_pool;
      shared = λ i a has. turned_shared b m h owned allocations (λ j k e. stay k) i a has;
      one = h.one;
    }

    -- each allocation is an id's, as it was, and so is the new one
    pub own_whole : ((a : ℕ) (x : Allocation) → slice_index_or allocations a None ≡ Some x → ((y : Allocation) × (allocation_at b.pools a ≡ Some y)) ⊎ (o.allocation ≡ Some a)) → IsWhole b → IsWhole owning
    own_whole was whole a x live = elim (was a x live) [
      | inl old ↦ (let w = whole a old.0 old.1 in elim w.1 [
        | inl shares ↦ (w.0, inl shares)
        | inr alone ↦ (w.0, inr (dedicated_other w.0 (λ is. let e = sym (no_dedicated b.owned id absent) ∙ ap (λ (j : ℕ). dedicated_of b j) (sym is) ∙ alone in cc) ∙ alone))
      ])
      | inr new ↦ (id, inr (dedicated_here ∙ new))
    ]

    module _ (d : Allocated) (is : Fulfils (allotted b m) d) where
      abbrev made : OwnMemory
      made = record { owner = id; memory_type = t; size = size }

      pub own_allotted : Fulfils (allotted owning (grown m t size)) (with_object id t size d)
      own_allotted = record {
        sizes = is.sizes;
        used = λ first.
            let heap : ℕ = if first then 0 else 1 in
            let p = sum_by_push (λ (o : OwnMemory). if heap_of o.memory_type == heap then o.size else 0) d.objects made in
            let q = is.used first in
            let r = ap (λ (l : List (Option (ℕ × ℕ))). sum_by (bytes_on first) l) (grown_kinds m t size) ∙ sum_by_push (bytes_on first) (map kind_of m.objects) (Some (t, size)) in
            let e = heap_bytes t size first in
            omega (arith, p, q, r, e);
        count =
            let p = length-append d.objects (made ∷ []) in
            let r = ap (λ (l : List (Option (ℕ × ℕ))). sum_by one_if l) (grown_kinds m t size) ∙ sum_by_push one_if (map kind_of m.objects) (Some (t, size)) in
            omega (arith, p, is.count, r);
        objects = λ i. elim (cases_eq i id) [
          | inl e ↦ push_here (λ (o : OwnMemory). o.owner) i d.objects made (sym e)
              ∙ ap (λ (l : List OwnMemory). l ++ made ∷ []) (is.objects i ∙ ap (λ (o : Option ℕ). own_memory i (option_and_then (λ n. slice_index_or (map kind_of m.objects) n None) o)) (ap (λ (j : ℕ). object_of b j) e ∙ absent))
              ∙ ap (λ (j : ℕ). record { owner = j; memory_type = t; size = size } ∷ []) (sym e)
              ∙ ap (λ (o : Option (ℕ × ℕ)). own_memory i o) (sym (kind_new m t size))
              ∙ ap (λ (o : Option ℕ). own_memory i (option_and_then (λ n. slice_index_or (map kind_of (grown m t size).objects) n None) o)) (sym object_here ∙ ap (λ (j : ℕ). object_in owned j) (sym e))
          | inr other ↦ push_other (λ (o : OwnMemory). o.owner) i d.objects made (λ e. other (sym e)) ∙ is.objects i ∙ ap (λ (o : Option (ℕ × ℕ)). own_memory i o) (kept_kind i (object_of b i) refl)
              ∙ ap (λ (o : Option ℕ). own_memory i (option_and_then (λ n. slice_index_or (map kind_of (grown m t size).objects) n None) o)) (sym (object_other i other))
        ];
        pools = λ i. turned_pools b m h owned allocations (λ j k e. stay k) i (pool_of b i) (filter (λ q. q.id == i) d.pools) (is.pools i);
      }
        where
          kept_kind : (i : ℕ) (o : Option ℕ) → object_of b i ≡ o → option_and_then (λ n. slice_index_or (map kind_of m.objects) n None) o ≡ option_and_then (λ n. slice_index_or (map kind_of (grown m t size).objects) n None) o
          kept_kind i None e = refl
          kept_kind i (Some n) e = sym (kind_stays m t size n (live_below m n (h.live i n e)))
