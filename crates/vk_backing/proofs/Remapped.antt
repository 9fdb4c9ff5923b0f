-- What backs ids stays so where a memory object is mapped or unmapped.
use Rattle.std.proofs.Common.{◌≡◌, ℕ, List, map, set, length, Bool, true, false, Option, Some, None, Result, Ok, Err, OnOk, OnErr, IsOk, refl, sym, ap, subst, ◌∙◌}
use Rattle.std.specs.Prelude.{◌↔◌, IsErr, IsTrue, is_some, slice_index_or}
use Rattle.std.proofs.Math.ListN.{get_or-map}
use Rattle.std.proofs.Math.Seq.{map-set_same}
use Rattle.std.proofs.lemmas.List.{set-get_or}
use Rattle.vk_memory.specs.declared.memories.MapState.{MapState}
use Rattle.vk_memory.specs.declared.memories.Object.{Object}
use Rattle.vk_memory.specs.MemoryState.{MemoryState, IsLive, object_at, region_of, type_of, bytes_of, type_in, is_mapped, maps, remapped, with_mapped}
use Rattle.vk_model.specs.Memory.Allocations.{Allocated}
use Rattle.vma_pools.proofs.StateLemmas.{some-is}
use Rattle.vk_backing.specs.Backed.{Backed, AreSized, IsBacked}
use Rattle.vk_backing.specs.Allotted.{allotted, kind_of, Fulfils}

module _ (m : MemoryState) (n : ℕ) (v : Bool) where
  abbrev after : MemoryState
  after = with_mapped m n v

  -- whatever doesn't tell whether an object is mapped is of each what it was
  module _ {B : Type 0} (f : Option Object → B) (same : (o : Option Object) → f (remapped v o) ≡ f o) where
    pub all_stay : map f after.objects ≡ map f m.objects
    all_stay = map-set_same f m.objects n (remapped v (object_at m n)) None (same (object_at m n))

    pub each_stays : (k : ℕ) → f (object_at after k) ≡ f (object_at m k)
    each_stays k = sym (get_or-map f after.objects k None) ∙ ap (λ (l : List B). slice_index_or l k (f None)) all_stay ∙ get_or-map f m.objects k None

  pub region_stays : (k : ℕ) → region_of after k ≡ region_of m k
  region_stays = each_stays bytes_of same
    where
      same : (o : Option Object) → bytes_of (remapped v o) ≡ bytes_of o
      same None = refl
      same (Some o) = refl

  pub type_stays : (k : ℕ) → type_of after k ≡ type_of m k
  type_stays = each_stays type_in same
    where
      same : (o : Option Object) → type_in (remapped v o) ≡ type_in o
      same None = refl
      same (Some o) = refl

  pub live_stays : (k : ℕ) → IsLive m k → IsLive after k
  live_stays k live = each_stays is_some same k ∙ live
    where
      same : (o : Option Object) → is_some (remapped v o) ≡ is_some o
      same None = refl
      same (Some o) = refl

  kinds_stay : map kind_of after.objects ≡ map kind_of m.objects
  kinds_stay = all_stay kind_of same
    where
      same : (o : Option Object) → kind_of (remapped v o) ≡ kind_of o
      same None = refl
      same (Some o) = refl

  -- the bytes that an object has, and those that it is said to have
  abbrev sizes : Option Object → Option (ℕ × ℕ)
  sizes None = None
  sizes (Some o) = Some (length o.region, o.size)

  sized_stays : AreSized m → AreSized after
  sized_stays sized k o at = go (object_at m k) refl (sym (each_stays sizes same k) ∙ ap sizes at)
    where
      same : (o : Option Object) → sizes (remapped v o) ≡ sizes o
      same None = refl
      same (Some o) = refl

      go : (p : Option Object) → object_at m k ≡ p → sizes p ≡ Some (length o.region, o.size) → length o.region ≡ o.size
      go None e both = absurd cc
      go (Some x) e both =
          let both_are = some-is (length x.region, x.size) (length o.region, o.size) both in
          sym (ap (λ (p : ℕ × ℕ). p.0) both_are) ∙ sized k x e ∙ ap (λ (p : ℕ × ℕ). p.1) both_are

  pub remapped_backed : (b : Backed) → IsBacked b m → IsBacked b after
  remapped_backed b h = record {
    pools = h.pools;
    backs = record {
      own = λ i a k at lies. ap length (region_stays k) ∙ h.backs.own i a k at lies;
      blocks = λ p k j at lt. let o = h.backs.blocks p k j at lt in record { bytes = ap length (region_stays _) ∙ o.bytes; kind = type_stays _ ∙ o.kind };
      apart = h.backs.apart;
    };
    matched = h.matched;
    sized = sized_stays h.sized;
    live = λ i k has. live_stays k (h.live i k has);
    own = h.own;
    apart = h.apart;
    dedicated = h.dedicated;
    either = h.either;
    named = h.named;
    one_pool = h.one_pool;
    shared = h.shared;
    one = h.one;
  }

  pub remapped_allotted : (b : Backed) (d : Allocated) → Fulfils (allotted b m) d → Fulfils (allotted b after) d
  remapped_allotted b d is = subst (λ (l : List (Option (ℕ × ℕ))). Fulfils (record { sizes = m.sizes; objects = l; backed = b }) d) (sym kinds_stay) is

-- ---- what a call that maps leaves

-- where an object is as it is to be nothing changes
same_mapped : (m : MemoryState) (n : ℕ) (v : Bool) → is_mapped m n ≡ v → m ≡ with_mapped m n v
same_mapped m n v is = ap (λ (l : List (Option Object)). record m { objects = l }) (sym (set-get_or m.objects n None) ∙ ap (λ (o : Option Object). set m.objects n o) (sym (go (object_at m n) is)))
  where
    go : (o : Option Object) → maps o ≡ v → remapped v o ≡ o
    go None e = refl
    go (Some o) e = ap (λ (w : Bool). Some (record o { mapped = w })) (sym e)

pub map_leaves : (m new : MemoryState) (n : ℕ) (r : Result (Unit {0}) MapState) → OnOk r (new ≡ with_mapped m n true) → IsErr r ↔ IsTrue (is_mapped m n) → OnErr r (new ≡ m) → new ≡ with_mapped m n true
map_leaves m new n (Ok u) ok state err = ok
map_leaves m new n (Err e) ok state err = err ∙ same_mapped m n true (state.0 refl)

pub unmap_leaves : (m new : MemoryState) (n : ℕ) (r : Result (Unit {0}) MapState) → OnOk r (new ≡ with_mapped m n false) → IsOk r ↔ IsTrue (is_mapped m n) → OnErr r (new ≡ m) → new ≡ with_mapped m n false
unmap_leaves m new n (Ok u) ok state err = ok
unmap_leaves m new n (Err e) ok state err = err ∙ same_mapped m n false (none (is_mapped m n) state.1)
  where
    none : (v : Bool) → (IsTrue v → IsOk {T = Unit {0}} {E = MapState} (Err e)) → v ≡ false
    none false refused = refl
    none true refused = absurd (let f = refused refl in cc)
