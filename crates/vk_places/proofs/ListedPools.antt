-- The pools of ids, one after another.
use Rattle.std.proofs.Common.{◌≡◌, ◌∙◌, ℕ, List, [], ◌∷◌, ◌++◌, map, Some, ap, sym, subst}
use Rattle.std.proofs.lemmas.List.{map-append}
use Rattle.std.proofs.lemmas.List.Elements.{All-push}
use Rattle.vma_pools.specs.State.{IfKept}
use Rattle.vk_backing.specs.Backed.{Backed, pool_of}
use Rattle.vk_places.specs.declared.states.Taken.{Taken}
use Rattle.vk_places.specs.declared.states.LivePool.{LivePool}
use Rattle.vk_places.specs.States.{IsPoolOf, ArePoolsOf}

-- the pools of some ids with one more
pub pools_more : (b : Backed) (ranges : List Taken) (numbers : List (ℕ × ℕ)) (id number : ℕ) (found : List LivePool) (one : LivePool) → one.id ≡ id → pool_of b id ≡ Some number → IfKept b.pools number (IsPoolOf ranges id number one) → ArePoolsOf b ranges numbers found
    → ArePoolsOf b ranges (numbers ++ (id, number) ∷ []) (found ++ one ∷ [])
pools_more b ranges numbers id number found one is named new before = record {
  ids = map-append (λ (p : LivePool). p.id) found (one ∷ []) ∙ ap (λ (l : List ℕ). l ++ one.id ∷ []) before.ids ∙ ap (λ (n : ℕ). map (λ (e : ℕ × ℕ). e.0) numbers ++ n ∷ []) is
      ∙ sym (map-append (λ (e : ℕ × ℕ). e.0) numbers ((id, number) ∷ []));
  each = All-push (λ (p : LivePool). (k : ℕ) × (pool_of b p.id ≡ Some k) × IfKept b.pools k (IsPoolOf ranges p.id k p)) found one before.each
      (subst (λ (i : ℕ). (k : ℕ) × (pool_of b i ≡ Some k) × IfKept b.pools k (IsPoolOf ranges i k one)) (sym is) (number, named, new));
}
