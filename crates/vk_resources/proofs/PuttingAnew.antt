-- Resources are forgotten, are gone, or get other places, one after another.
use Rattle.std.proofs.Common.{◌≡◌, ◌⊎◌, ◌∙◌, ℕ, ◌+◌, ◌<◌, List, [], ◌∷◌, ◌++◌, length, take, get_or, Some, None, refl, sym, ap, subst, inl, inr}
use Rattle.std.specs.Prelude.{Contains}
use Rattle.std.specs.Ordering.{nat_cmp}
use Rattle.std.specs.Map.{lookup}
use Rattle.std.specs.BTreeMap.{is_at}
use Rattle.std.proofs.lemmas.Bool.{cases_eq}
use Rattle.std.proofs.lemmas.List.{take_more}
use Rattle.std.proofs.lemmas.List.Elements.{Contains-append_cases, Contains-append_left, Contains-append_right}
use Rattle.vk_model.proofs.Lists.Members.{contains-head, none_in, only_one}
use Rattle.vk_model.specs.declared.resource.Spot.{Spot}
use Rattle.vk_backing.specs.Backed.{Backed, allocation_of, LiesIn}
use Rattle.vk_backing.proofs.Numbers.{listed_or}
use Rattle.vk_resources.specs.declared.resources.Placed.{Placed}
use Rattle.vk_resources.specs.Held.{Held, placed_in}
use Rattle.vk_resources.specs.Inner.Steps.{Forgets, cached_at}
use Rattle.vk_resources.specs.Inner.PassEnds.{ForgetsEach, HoldsNoneOf, LeavesOut, LiesAnew, PlacesAnew}

-- ---- lists

module _ (xs : List ℕ) (id : ℕ) where
  has_last : Contains (xs ++ id ∷ []) id
  has_last = Contains-append_right xs (id ∷ []) id (contains-head id [])

  before_last : (i : ℕ) → (i ≡ id → ⊥) → Contains (xs ++ id ∷ []) i → Contains xs i
  before_last i other there = elim (Contains-append_cases xs (id ∷ []) i there) [ inl seen ↦ seen | inr last ↦ absurd (other (sym (only_one id i last))) ]

  not_last : (i : ℕ) → (Contains (xs ++ id ∷ []) i → ⊥) → i ≡ id → ⊥
  not_last i away e = away (subst (λ (j : ℕ). Contains (xs ++ id ∷ []) j) (sym e) has_last)

  not_before : (i : ℕ) → (Contains (xs ++ id ∷ []) i → ⊥) → Contains xs i → ⊥
  not_before i away seen = away (Contains-append_left xs (id ∷ []) i seen)

-- ---- values that are left out

pub none_left : {V : Type 0} (old : List (ℕ × V)) → LeavesOut old old []
none_left old = record { gone = λ i there. absurd (none_in i there); others = λ i away. refl }

pub more_left : {V : Type 0} (old mid new : List (ℕ × V)) (ids : List ℕ) (k : ℕ) → k < length ids → LeavesOut old mid (take k ids) → lookup (is_at (nat_cmp (get_or ids k 0))) new ≡ None
    → ((i : ℕ) → (i ≡ get_or ids k 0 → ⊥) → lookup (is_at (nat_cmp i)) new ≡ lookup (is_at (nat_cmp i)) mid) → LeavesOut old new (take (k + 1) ids)
more_left {V} old mid new ids k lt h none others = subst (λ (l : List ℕ). LeavesOut old new l) (sym (take_more ids k 0 lt)) (record {
  gone = λ i there. elim (cases_eq i id) [
    | inl e ↦ ap (λ (j : ℕ). lookup (is_at (nat_cmp j)) new) e ∙ none
    | inr other ↦ others i other ∙ h.gone i (before_last (take k ids) id i other there)
  ];
  others = λ i away. others i (not_last (take k ids) id i away) ∙ h.others i (not_before (take k ids) id i away);
})
  where
    id : ℕ
    id = get_or ids k 0

-- ---- places

pub none_anew : (b : Backed) (old : List (ℕ × Placed)) → PlacesAnew b [] old old
none_anew b old = record { moved = λ i a p there has at. absurd (none_in i there); none = λ i none. none; others = λ i away. refl }

-- one stays, as it has no place in a pool or lies nowhere
pub stays_anew : (b : Backed) (id : ℕ) (old : List (ℕ × Placed)) → ((a : ℕ) (p : Placed) → allocation_of b id ≡ Some a → placed_in old id ≡ Some p → ⊥) → PlacesAnew b (id ∷ []) old old
stays_anew b id old never = record {
  moved = λ i a p there has at. let e = only_one id i there in absurd (never a p (ap (λ (j : ℕ). allocation_of b j) e ∙ has) (ap (λ (j : ℕ). placed_in old j) e ∙ at));
  none = λ i none. none;
  others = λ i away. refl;
}

-- and one lies elsewhere
pub puts_anew : (b : Backed) (id pool : ℕ) (spot : Spot) (old new : List (ℕ × Placed)) (was : Placed) → LiesIn b id pool spot → placed_in old id ≡ Some was → placed_in new id ≡ Some (record { size = was.size; object = spot.memory; offset = spot.offset })
    → ((i : ℕ) → (i ≡ id → ⊥) → placed_in new i ≡ placed_in old i) → PlacesAnew b (id ∷ []) old new
puts_anew b id pool spot old new was lies at here others = record {
  moved = λ i a p there has is.
      let e = only_one id i there in
      let both : Some was ≡ Some p = sym at ∙ ap (λ (j : ℕ). placed_in old j) e ∙ is in
      let same : was ≡ p = cc in
      subst (λ (j : ℕ). LiesAnew b j p new) e (record { pool = pool; spot = spot; lies = lies; here = here ∙ ap (λ (q : Placed). Some (record { size = q.size; object = spot.memory; offset = spot.offset })) same });
  none = λ i none. elim (cases_eq i id) [
    | inl e ↦ let f : Some was ≡ None = sym at ∙ ap (λ (j : ℕ). placed_in old j) (sym e) ∙ none in absurd cc
    | inr other ↦ others i other ∙ none
  ];
  others = λ i away. others i (λ e. away (subst (λ (j : ℕ). Contains (id ∷ []) j) (sym e) (contains-head id [])));
}

pub more_anew : (b : Backed) (old mid new : List (ℕ × Placed)) (ids : List ℕ) (k : ℕ) → k < length ids → PlacesAnew b (take k ids) old mid → PlacesAnew b (get_or ids k 0 ∷ []) mid new → PlacesAnew b (take (k + 1) ids) old new
more_anew b old mid new ids k lt h one = subst (λ (l : List ℕ). PlacesAnew b l old new) (sym (take_more ids k 0 lt)) (record {
  moved = λ i a p there has at. elim (cases_eq i id) [
    | inl e ↦ last i a p e has at (listed_or xs i)
    | inr other ↦
        let l = h.moved i a p (before_last xs id i other there) has at in
        record { pool = l.pool; spot = l.spot; lies = l.lies; here = one.others i (λ t. other (sym (only_one id i t))) ∙ l.here }
  ];
  none = λ i none. one.none i (h.none i none);
  others = λ i away. one.others i (λ t. not_last xs id i away (sym (only_one id i t))) ∙ h.others i (not_before xs id i away);
})
  where
    id : ℕ
    id = get_or ids k 0

    xs : List ℕ
    xs = take k ids

    last : (i a : ℕ) (p : Placed) → i ≡ id → allocation_of b i ≡ Some a → placed_in old i ≡ Some p → Contains xs i ⊎ (Contains xs i → ⊥) → LiesAnew b i p new
    last i a p e has at (inl seen) =
        let l = h.moved i a p seen has at in
        let m = one.moved i a _ (subst (λ (j : ℕ). Contains (id ∷ []) j) (sym e) (contains-head id [])) has l.here in
        record { pool = m.pool; spot = m.spot; lies = m.lies; here = m.here }
    last i a p e has at (inr away) = one.moved i a p (subst (λ (j : ℕ). Contains (id ∷ []) j) (sym e) (contains-head id [])) has (h.others i away ∙ at)

-- ---- what the host's cache holds

same_cached : (old mid : Held) → mid.memory ≡ old.memory → mid.resources ≡ old.resources → (i : ℕ) → cached_at mid i ≡ cached_at old i
same_cached old mid memory resources i = rw (memory, resources) refl

pub none_forgotten : (s : Held) → ForgetsEach [] s s
none_forgotten s = record { memory = refl; backed = refl; resources = refl; shapes = refl; gone = λ i p k there at in_it. absurd (none_in i there); fewer = λ number k none. none; others = λ b k away. refl }

pub more_forgotten : (old mid new : Held) (ids : List ℕ) (k : ℕ) → k < length ids → ForgetsEach (take k ids) old mid → new.memory ≡ mid.memory → new.backed ≡ mid.backed → new.resources ≡ mid.resources → new.shapes ≡ mid.shapes → Forgets mid new (get_or ids k 0)
    → ForgetsEach (take (k + 1) ids) old new
more_forgotten old mid new ids k lt h memory backed resources shapes one = subst (λ (l : List ℕ). ForgetsEach l old new) (sym (take_more ids k 0 lt)) (record {
  memory = memory ∙ h.memory;
  backed = backed ∙ h.backed;
  resources = resources ∙ h.resources;
  shapes = shapes ∙ h.shapes;
  gone = λ i p j there at in_it. elim (cases_eq i id) [
    | inl e ↦ one.gone p j (ap (cached_at mid) (sym e) ∙ same_cached old mid h.memory h.resources i ∙ at) in_it
    | inr other ↦ one.fewer p.object j (h.gone i p j (before_last xs id i other there) at in_it)
  ];
  fewer = λ number j none. one.fewer number j (h.fewer number j none);
  others = λ b j away. one.others b j (not_last xs id b away) ∙ h.others b j (not_before xs id b away);
})
  where
    id : ℕ
    id = get_or ids k 0

    xs : List ℕ
    xs = take k ids

-- of two lists of resources nothing is held
pub none_held : (old mid new : Held) (ids more : List ℕ) → ForgetsEach ids old mid → ForgetsEach more mid new → HoldsNoneOf new ids more
none_held old mid new ids more f g = record {
  first = λ i p k there at in_it. g.fewer p.object k (f.gone i p k there (sym (same_cached old mid f.memory f.resources i) ∙ sym (same_cached mid new g.memory g.resources i) ∙ at) in_it);
  second = λ i p k there at in_it. g.gone i p k there (sym (same_cached mid new g.memory g.resources i) ∙ at) in_it;
}
