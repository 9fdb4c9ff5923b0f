-- Buffers lie in live memory objects and share no byte, whatever happens to them.
use Rattle.std.proofs.Common.{◌≡◌, inl, inr, ℕ, ◌+◌, ◌-◌, ◌≤◌, List, [], ◌∷◌, ◌++◌, length, Bool, true, false, eqb, refl, ap, sym, ◌∙◌, subst, arith, get_or-set_same, get_or-set_other, slice_index_or, Option, Some, None}
use Rattle.std.proofs.lemmas.Bool.{eqb-true, eqb-false, cases_lt}
use Rattle.std.proofs.Math.Seq.{get_or-append_right}
use Rattle.std.proofs.lemmas.List.{get_or_append_left, get_or_past, length-set}
use Rattle.std.specs.Prelude.{IsSome, IfSome, slice_set}
use Rattle.vk_memory.specs.declared.memories.Object.{Object}
use Rattle.vk_memory.specs.MemoryState.{MemoryState, IsLive, object_at, region_of, bytes_of, rewritten, with_region, with_object}
use Rattle.vk_memory.proofs.LiveObjects.{live_below, region_of-same, region_of-other}
use Rattle.vk_transfer.specs.Ran.{AreApart}
use Rattle.vk_resources.specs.declared.resources.Placed.{Placed}
use Rattle.vma_pools.specs.State.{released}
use Rattle.vk_backing.specs.Backed.{Backed, IsBacked}
use Rattle.vk_backing.specs.Steps.{Grows}
use Rattle.vk_backing.proofs.Grown.{some_there}
use Rattle.vk_backing.proofs.Rewritten.{rewritten_backed}
use Rattle.vk_resources.specs.Held.{IsApart, IsInside, placed_in}

-- what holds of a buffer before holds of it afterwards
some_more : (x : Option Placed) (P Q : Placed → Type 0) → ((b : Placed) → x ≡ Some b → P b → Q b) → IfSome x P → IfSome x Q
some_more None P Q more h = h
some_more (Some b) P Q more h = more b refl h

pub inside_of : (m : MemoryState) (backed : Backed) (resources : List (ℕ × Placed)) → IsApart m backed resources → (b : ℕ) (p : Placed) → placed_in resources b ≡ Some p → IsInside m p
inside_of m backed resources apart b p here = subst (λ (x : Option Placed). IfSome x (IsInside m)) here (apart.inside b)

pub one_place : (x : Option Placed) (p q : Placed) → x ≡ Some p → x ≡ Some q → p ≡ q
one_place x p q a b = let both : Some p ≡ Some q = sym a ∙ b in cc

pub turned : (p q a b : ℕ) → AreApart p a q b → AreApart q b p a
turned p q a b (inl le) = inr le
turned p q a b (inr le) = inl le

-- ---- other bytes in an object

rewritten_live : (x : Option Object) (bytes : List ℕ) → IsSome x → IsSome (rewritten bytes x)
rewritten_live (Some o) bytes live = live
rewritten_live None bytes live = let none : IsSome {T = Object} None = live in absurd cc

module _ (m : MemoryState) (o : ℕ) (bytes : List ℕ) (live : IsLive m o) (long : length bytes ≡ length (region_of m o)) where
  still_live : (q : ℕ) → IsLive m q → IsLive (with_region m o bytes) q
  still_live q h = go (eqb q o) refl
    where
      here : object_at (with_region m o bytes) o ≡ rewritten bytes (object_at m o)
      here = get_or-set_same m.objects o (rewritten bytes (object_at m o)) None (live_below m o live)

      there : (q ≡ o → ⊥) → object_at (with_region m o bytes) q ≡ object_at m q
      there ne = get_or-set_other m.objects o q (rewritten bytes (object_at m o)) None ne

      go : (t : Bool) → eqb q o ≡ t → IsLive (with_region m o bytes) q
      go true e =
          subst (λ (k : ℕ). IsLive (with_region m o bytes) k) (sym (eqb-true q o e))
          (subst (λ (x : Option Object). IsSome x) (sym here) (rewritten_live (object_at m o) bytes live))
      go false e = subst (λ (x : Option Object). IsSome x) (sym (there (eqb-false q o e))) h

  pub still_long : (q : ℕ) → length (region_of (with_region m o bytes) q) ≡ length (region_of m q)
  still_long q = go (eqb q o) refl
    where
      go : (t : Bool) → eqb q o ≡ t → length (region_of (with_region m o bytes) q) ≡ length (region_of m q)
      go true e =
          subst (λ (k : ℕ). length (region_of (with_region m o bytes) k) ≡ length (region_of m k)) (sym (eqb-true q o e))
          (ap (λ (l : List ℕ). length l) (region_of-same m o bytes live) ∙ long)
      go false e = ap (λ (l : List ℕ). length l) (region_of-other m o q bytes (eqb-false q o e))

  pub apart_rewritten : (backed : Backed) (resources : List (ℕ × Placed)) → IsApart m backed resources → IsApart (with_region m o bytes) backed resources
  apart_rewritten backed resources apart = record {
    inside = λ id. some_more (placed_in resources id) (IsInside m) (IsInside (with_region m o bytes)) (λ b here h. record {
      live = still_live b.object h.live;
      some = h.some;
      room = subst (λ (n : ℕ). b.offset + b.size ≤ n) (sym (still_long b.object)) h.room;
    }) (apart.inside id);
    apart = apart.apart;
    backed_is = rewritten_backed m o bytes live long backed apart.backed_is;
  }

-- ---- an object more

module _ (m : MemoryState) (o : Object) where
  abbrev pub more : MemoryState
  more = record m { objects = m.objects ++ Some o ∷ [] }

  pub kept_object : (q : ℕ) → IsLive m q → object_at more q ≡ object_at m q
  kept_object q live = get_or_append_left m.objects (Some o ∷ []) None q (live_below m q live)

  pub new_object : object_at more (length m.objects) ≡ Some o
  new_object =
      let none : length m.objects - length m.objects ≡ 0 = omega arith in
      let there : object_at more (length m.objects) ≡ slice_index_or (Some o ∷ []) (length m.objects - length m.objects) None = get_or-append_right m.objects (Some o ∷ []) (length m.objects) None (omega arith) in
      there ∙ rw none refl

-- memory objects stay as they were, but for new ones
module _ (m n : MemoryState) (grows : Grows m n) where
  pub grown_object : (q : ℕ) → IsLive m q → object_at n q ≡ object_at m q
  grown_object q live = let o = some_there (object_at m q) live in grows q o.0 o.1 ∙ sym o.1

-- ---- a buffer more

pub apart_put : (m : MemoryState) (backed : Backed) (old new : List (ℕ × Placed)) (id : ℕ) (p : Placed) → placed_in new id ≡ Some p → ((q : ℕ) → (q ≡ id → ⊥) → placed_in new q ≡ placed_in old q) → IsInside m p
    → ((c : ℕ) (q : Placed) → (c ≡ id → ⊥) → placed_in old c ≡ Some q → q.object ≡ p.object → AreApart p.offset p.size q.offset q.size) → IsApart m backed old → IsApart m backed new
apart_put m backed old new id p here others fits beside apart = record {
  inside = λ q. insides q (eqb q id) refl;
  apart = λ b c r q ne at_b at_c same. aparts b c r q ne at_b at_c same (eqb b id) (eqb c id) refl refl;
  backed_is = apart.backed_is;
}
  where
    insides : (q : ℕ) (t : Bool) → eqb q id ≡ t → IfSome (placed_in new q) (IsInside m)
    insides q true e = subst (λ (x : Option Placed). IfSome x (IsInside m)) (sym (ap (λ (k : ℕ). placed_in new k) (eqb-true q id e) ∙ here)) fits
    insides q false e = subst (λ (x : Option Placed). IfSome x (IsInside m)) (sym (others q (eqb-false q id e))) (apart.inside q)

    is_new : (b : ℕ) (r : Placed) → placed_in new b ≡ Some r → eqb b id ≡ true → r ≡ p
    is_new b r at e = one_place (placed_in new b) r p at (ap (λ (k : ℕ). placed_in new k) (eqb-true b id e) ∙ here)

    was : (b : ℕ) (r : Placed) → placed_in new b ≡ Some r → eqb b id ≡ false → placed_in old b ≡ Some r
    was b r at e = sym (others b (eqb-false b id e)) ∙ at

    with_new : (c : ℕ) (r q : Placed) → r ≡ p → placed_in new c ≡ Some q → eqb c id ≡ false → r.object ≡ q.object → AreApart r.offset r.size q.offset q.size
    with_new c r q is at f same =
        subst (λ (z : Placed). AreApart z.offset z.size q.offset q.size) (sym is) (beside c q (eqb-false c id f) (was c q at f) (sym same ∙ ap (λ (z : Placed). z.object) is))

    aparts : (b c : ℕ) (r q : Placed) → (b ≡ c → ⊥) → placed_in new b ≡ Some r → placed_in new c ≡ Some q → r.object ≡ q.object → (s t : Bool) → eqb b id ≡ s → eqb c id ≡ t → AreApart r.offset r.size q.offset q.size
    aparts b c r q ne at_b at_c same true true e f = absurd (ne (eqb-true b id e ∙ sym (eqb-true c id f)))
    aparts b c r q ne at_b at_c same true false e f = with_new c r q (is_new b r at_b e) at_c f same
    aparts b c r q ne at_b at_c same false true e f = turned q.offset r.offset q.size r.size (with_new b q r (is_new c q at_c f) at_b e (sym same))
    aparts b c r q ne at_b at_c same false false e f = apart.apart b c r q ne (was b r at_b e) (was c q at_c f) same

-- ---- an id that ends

-- a memory object that is live when one has been freed is as it was
pub released_object : (m : MemoryState) (gone : Option ℕ) (q : ℕ) → IsLive (released m gone) q → object_at (released m gone) q ≡ object_at m q
released_object m None q live = refl
released_object m (Some n) q live = go (eqb q n) refl
  where
    here : object_at (with_object m n None) n ≡ None
    here = elim (cases_lt n (length m.objects)) [
      | inl lt ↦ get_or-set_same m.objects n None None lt
      | inr ge ↦ get_or_past (slice_set m.objects n None) n None (omega (arith, ge, length-set m.objects n None))
    ]

    go : (t : Bool) → eqb q n ≡ t → object_at (with_object m n None) q ≡ object_at m q
    go false e = get_or-set_other m.objects n q None None (eqb-false q n e)
    go true e = let dead : IsSome {T = Object} None = subst (λ (x : Option Object). IsSome x) (ap (λ (k : ℕ). object_at (with_object m n None) k) (eqb-true q n e) ∙ here) live in absurd cc

-- one that has been freed isn't live
pub released_dead : (m : MemoryState) (n : ℕ) → IsLive (released m (Some n)) n → ⊥
released_dead m n live = let dead : IsSome {T = Object} None = subst (λ (x : Option Object). IsSome x) here live in absurd cc
  where
    here : object_at (with_object m n None) n ≡ None
    here = elim (cases_lt n (length m.objects)) [
      | inl lt ↦ get_or-set_same m.objects n None None lt
      | inr ge ↦ get_or_past (slice_set m.objects n None) n None (omega (arith, ge, length-set m.objects n None))
    ]

pub apart_ended : (m : MemoryState) (gone : Option ℕ) (backed new : Backed) (resources resources' : List (ℕ × Placed)) (id : ℕ) → placed_in resources' id ≡ None → ((b : ℕ) → (b ≡ id → ⊥) → placed_in resources' b ≡ placed_in resources b)
    → ((b : ℕ) (p : Placed) → (b ≡ id → ⊥) → placed_in resources b ≡ Some p → IsLive (released m gone) p.object) → IsBacked new (released m gone) → IsApart m backed resources → IsApart (released m gone) new resources'
apart_ended m gone backed new resources resources' id none places stays is apart = record {
  inside = λ q. some_of (placed_in resources' q) (IsInside (released m gone)) (λ p at. insides q p at);
  apart = λ b c p q ne at_b at_c same. apart.apart b c p q ne (was b p at_b) (was c q at_c) same;
  backed_is = is;
}
  where
    other : (b : ℕ) (p : Placed) → placed_in resources' b ≡ Some p → b ≡ id → ⊥
    other b p at same = let both : Some p ≡ None = sym at ∙ ap (λ (k : ℕ). placed_in resources' k) same ∙ none in cc

    was : (b : ℕ) (p : Placed) → placed_in resources' b ≡ Some p → placed_in resources b ≡ Some p
    was b p at = sym (places b (other b p at)) ∙ at

    some_of : (x : Option Placed) (P : Placed → Type 0) → ((p : Placed) → x ≡ Some p → P p) → IfSome x P
    some_of None P each = tt
    some_of (Some p) P each = each p refl

    insides : (b : ℕ) (p : Placed) → placed_in resources' b ≡ Some p → IsInside (released m gone) p
    insides b p at =
        let inside = inside_of m backed resources apart b p (was b p at) in
        let lives = stays b p (other b p at) (was b p at) in
        record { live = lives; some = inside.some; room = subst (λ (x : Option Object). p.offset + p.size ≤ length (bytes_of x)) (sym (released_object m gone p.object lives)) inside.room }
