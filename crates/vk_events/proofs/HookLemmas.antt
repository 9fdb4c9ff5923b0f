-- The least of what hangs comes first.
use Rattle.std.proofs.Common.{◌≡◌, inl, inr, ℕ, ◌≤◌, List, [], ◌∷◌, map, length, true, false, refl, sym, ◌∙◌, subst, arith}
use Rattle.std.specs.Prelude.{Contains, Option, Some, None, IfNone}
use Rattle.std.specs.BinaryHeap.{IsUpperBound}
use Rattle.std.specs.Ordering.{is_lt}
use Rattle.std.specs.declared.cmp.Reverse.{Reverse}
use Rattle.std.proofs.lemmas.Bool.{cases_lt, lt-ltb}
use Rattle.vk_model.proofs.Lists.Members.{none_in, contains-cons}
use Rattle.vk_events.specs.Inner.Hooks.{by_least}

-- what isn't less by the order has no greater count
not_less : (x y : Reverse (ℕ × ℕ)) → is_lt (by_least x y) ≡ false → x.0.0 ≤ y.0.0
not_less x y e = elim (cases_lt y.0.0 x.0.0) [
  | inl lt ↦ absurd (let yes : is_lt (by_least x y) ≡ true = rw (lt-ltb y.0.0 x.0.0 lt) refl in let z : false ≡ true = sym e ∙ yes in cc)
  | inr le ↦ le
]

-- no count is below that of the first
pub least : (x : Reverse (ℕ × ℕ)) (xs : List (Reverse (ℕ × ℕ))) → IsUpperBound by_least x xs → (y : ℕ × ℕ) → Contains (map (λ r. r.0) xs) y → x.0.0 ≤ y.0
least x [] bound y c = absurd (none_in y c)
least x (z ∷ zs) bound y c = elim (contains-cons z.0 (map (λ (r : Reverse (ℕ × ℕ)). r.0) zs) y c) [
  | inl same ↦ subst (λ (p : ℕ × ℕ). x.0.0 ≤ p.0) same (not_less x z bound.0)
  | inr later ↦ least x zs bound.1 y later
]

-- where there is no first one nothing hangs
pub none_there : (xs : List (Reverse (ℕ × ℕ))) → length xs ≤ 0 → (y : ℕ × ℕ) → Contains (map (λ r. r.0) xs) y → ⊥
none_there [] empty y c = none_in y c
none_there (x ∷ xs) empty y c = absurd (omega arith)

pub IfNone_then : {X : Type 0} (r : Option X) {P Q : Type 0} → IfNone r P → (P → Q) → IfNone r Q
IfNone_then None h f = f h
IfNone_then (Some x) h f = h
