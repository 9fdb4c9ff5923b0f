-- What a change of the value of one id says of that id, and of others.
use Rattle.std.proofs.Common.{◌≡◌, ◌≢◌, ℕ, Bool, ◌==◌, refl, ap, ◌∙◌, Option}
use Rattle.std.specs.Prelude.{if◌then◌else◌}
use Rattle.std.proofs.lemmas.Bool.{eq-eqb, ne_eqb}

module _ {T : Type 0} (old new : ℕ → Option T) (id : ℕ) (value : Option T) (is : (other : ℕ) → new other ≡ (if other == id then value else old other)) where
  pub changed : new id ≡ value
  changed = is id ∙ ap (λ (b : Bool). if b then value else old id) (eq-eqb id id refl)

  pub unchanged : (other : ℕ) → other ≢ id → new other ≡ old other
  unchanged other apart = is other ∙ ap (λ (b : Bool). if b then value else old other) (ne_eqb other id apart)
