-- What becomes of a count where the count of one id is changed in its place.
use Rattle.std.proofs.Common.{◌≡◌, ◌==◌, ℕ, Bool, true, false, refl, ap, sym, ◌∙◌, Option, Some}
use Rattle.std.specs.Prelude.{unwrap_or, if◌then◌else◌}
use Rattle.std.proofs.lemmas.Bool.{eqb-true}

-- the count of the id is another one, and others stay
pub changed_at : (new old : ℕ → Option ℕ) (id count next : ℕ) → Some count ≡ old id → ((i : ℕ) → new i ≡ (if i == id then Some next else old i))
    → (change : Bool → ℕ → ℕ) → next ≡ change true count → ((n : ℕ) → n ≡ change false n) → (i : ℕ) → unwrap_or (new i) 0 ≡ change (i == id) (unwrap_or (old i) 0)
changed_at new old id count next was is change here others i = ap (λ o. unwrap_or o 0) (is i) ∙ go (i == id) refl where
  go : (b : Bool) → (i == id) ≡ b → unwrap_or (if b then Some next else old i) 0 ≡ change b (unwrap_or (old i) 0)
  go true e = here ∙ ap (λ o. change true (unwrap_or o 0)) (was ∙ ap old (sym (eqb-true i id e)))
  go false e = others (unwrap_or (old i) 0)
