-- Which resources have allocations, by the numbers of these, and which move.
use Rattle.std.proofs.Common.{◌≡◌, ℕ, ◌+◌, ◌<◌, List, [], ◌∷◌, ◌++◌, length, get_or, true, Some, refl, sym, ap, subst, ◌∙◌, arith, inl, inr}
use Rattle.std.specs.Prelude.{Contains, IsSome}
use Rattle.std.specs.Ordering.{nat_cmp}
use Rattle.std.specs.Map.{lookup}
use Rattle.std.specs.BTreeMap.{BTreeMap, Updates, is_at}
use Rattle.std.proofs.lemmas.Bool.{cases_eq, cases_lt}
use Rattle.std.proofs.lemmas.List.{length-append, get_or_append_left}
use Rattle.std.proofs.lemmas.List.Elements.{Contains-append_cases}
use Rattle.std.proofs.lemmas.Map.Views.{Contains-from_lookup}
use Rattle.std.proofs.Math.Seq.{get_or-append_seam}
use Rattle.vk_model.specs.Memory.MoveTargets.{Moved}
use Rattle.vk_model.proofs.Lists.Keys.{other_key}
use Rattle.vk_model.proofs.Lists.Members.{none_in, only_one}
use Rattle.vma_defrag.specs.Bytes.{no_move}
use Rattle.vk_backing.specs.Backed.{Backed, allocation_of}
use Rattle.vk_backing.specs.Passing.{AreMovers}

-- each number that is found is that of a resource's allocation, and those that were seen are found
pub record AreNamed (allocations seen ids : List (ℕ × ℕ)) : Type 0 where
  pub found : (a id : ℕ) → lookup (is_at (nat_cmp a)) ids ≡ Some id → lookup (is_at (nat_cmp id)) allocations ≡ Some a
  pub all : (id a : ℕ) → Contains seen (id, a) → IsSome (lookup (is_at (nat_cmp a)) ids)

pub none_named : (allocations ids : List (ℕ × ℕ)) → ids ≡ [] → AreNamed allocations [] ids
none_named allocations ids e = record {
  found = λ a id is. absurd (let f = ap (λ (l : List (ℕ × ℕ)). lookup (is_at (nat_cmp a)) l) e in let g = sym is ∙ f in cc);
  all = λ id a there. absurd (none_in (id, a) there);
}

pub more_named : (allocations seen : List (ℕ × ℕ)) (old new : BTreeMap ℕ ℕ) (id a : ℕ) → AreNamed allocations seen old.entries → Updates nat_cmp old new a (Some id) → lookup (is_at (nat_cmp id)) allocations ≡ Some a → AreNamed allocations (seen ++ (id, a) ∷ []) new.entries
more_named allocations seen old new id a h update is = record {
  found = λ b i at. elim (cases_eq b a) [
    | inl e ↦ (let f = sym update.1 ∙ ap (λ (j : ℕ). lookup (is_at (nat_cmp j)) new.entries) (sym e) ∙ at in
        let same : id ≡ i = cc in subst (λ (j : ℕ). lookup (is_at (nat_cmp j)) allocations ≡ Some b) same (is ∙ ap (λ (j : ℕ). Some j) (sym e)))
    | inr other ↦ h.found b i (sym (update.2 b (other_key a b other)) ∙ at)
  ];
  all = λ i b there. elim (cases_eq b a) [
    | inl e ↦ subst (λ (j : ℕ). IsSome (lookup (is_at (nat_cmp j)) new.entries)) (sym e) (subst (λ o. IsSome o) (sym update.1) refl)
    | inr other ↦ elim (Contains-append_cases seen ((id, a) ∷ []) (i, b) there) [
      | inl old-one ↦ subst (λ o. IsSome o) (sym (update.2 b (other_key a b other))) (h.all i b old-one)
      | inr new-one ↦ absurd (other (sym (ap (λ (p : ℕ × ℕ). p.1) (only_one (id, a) (i, b) new-one))))
    ]
  ];
}

same_key : (x y : ℕ) → is_at (nat_cmp x) y ≡ true → x ≡ y
same_key x y is = elim (cases_eq y x) [ inl e ↦ sym e | inr other ↦ absurd (let f = sym (other_key x y other) ∙ is in cc) ]

pub all_named : (allocations ids : List (ℕ × ℕ)) → AreNamed allocations allocations ids → (a id : ℕ) → lookup (is_at (nat_cmp id)) allocations ≡ Some a → IsSome (lookup (is_at (nat_cmp a)) ids)
all_named allocations ids h a id is = h.all id a (Contains-from_lookup {eq = λ x y. is_at (nat_cmp x) y} same_key id a allocations is)

-- ---- what moves

-- the ids of the resources of the first moves
pub record AreMoversTo (b : Backed) (ids : List ℕ) (moves : List Moved) (n : ℕ) : Type 0 where
  pub long : length ids ≡ n
  pub each : (k : ℕ) → k < n → allocation_of b (get_or ids k 0) ≡ Some (get_or moves k no_move).id

pub no_movers : (b : Backed) (ids : List ℕ) (moves : List Moved) → ids ≡ [] → AreMoversTo b ids moves 0
no_movers b ids moves e = record { long = ap (λ (l : List ℕ). length l) e; each = λ k lt. absurd (omega (arith, lt)) }

pub more_movers : (b : Backed) (ids : List ℕ) (moves : List Moved) (n id : ℕ) → AreMoversTo b ids moves n → allocation_of b id ≡ Some (get_or moves n no_move).id → AreMoversTo b (ids ++ id ∷ []) moves (n + 1)
more_movers b ids moves n id h is = record {
  long = (let e = length-append ids (id ∷ []) in omega (arith, e, h.long));
  each = λ k lt. elim (cases_lt k n) [
    | inl less ↦ subst (λ (j : ℕ). allocation_of b j ≡ Some (get_or moves k no_move).id) (sym (get_or_append_left ids (id ∷ []) 0 k (omega (arith, less, h.long)))) (h.each k less)
    | inr ge ↦ (let last : k ≡ length ids = omega (arith, lt, ge, h.long) in let same : k ≡ n = omega (arith, lt, ge) in
        ap (λ (j : ℕ). allocation_of b j) (ap (λ (i : ℕ). get_or (ids ++ id ∷ []) i 0) last ∙ get_or-append_seam ids id [] 0) ∙ is ∙ ap (λ (j : ℕ). Some (get_or moves j no_move).id) (sym same))
  ];
}

pub all_movers : (b : Backed) (ids : List ℕ) (moves : List Moved) (n : ℕ) → n ≡ length moves → AreMoversTo b ids moves n → AreMovers b ids moves
all_movers b ids moves n e h = record { long = h.long ∙ e; each = λ k lt. h.each k (omega (arith, lt, e)) }
