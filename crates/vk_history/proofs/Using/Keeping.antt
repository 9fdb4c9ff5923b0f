-- The uses that are kept of a resource, when one of its line is put in their place.
use Rattle.std.proofs.Common.{◌≡◌, ℕ, ◌==◌, List, [], ◌∷◌, Bool, true, false, ◌||◌, refl, ap, ◌∙◌, Option, Some, None}
use Rattle.std.specs.Prelude.{if◌then◌else◌}
use Rattle.std.specs.Global.{Vec}
use Rattle.std.proofs.lemmas.Bool.{eqb-true}
use Rattle.vk_ids.specs.Ids.{value_of}
use Rattle.vk_history.specs.declared.last_uses.LastUse.{LastUse}
use Rattle.vk_history.specs.declared.last_uses.LastUses.{LastUses}
use Rattle.vk_history.specs.Uses.{AreKeptNow, IsKeptNow, uses_in}

-- what is kept of a resource that has this value
abbrev pub items_of : Option (Vec LastUse) → List LastUse
items_of o = elim o [ None ↦ [] | Some kept ↦ kept.items ]

-- a value changes for one resource alone
pub kept_at_one : (old new : LastUses) (id : ℕ) (now : Vec LastUse) (u : LastUse) → ((r : ℕ) → value_of new.uses r ≡ (if r == id then Some now else value_of old.uses r))
    → IsKeptNow (uses_in old id) now.items u → AreKeptNow old new (id ∷ []) u
kept_at_one old new id now u is kept = record { these = λ r. here r (r == id) refl; others = λ r. there r (r == id) refl } where
  here : (r : ℕ) (b : Bool) → (r == id) ≡ b → (b || false) ≡ true → IsKeptNow (uses_in old r) (uses_in new r) u
  here r true e one =
      let now_is : uses_in new r ≡ now.items = ap items_of (is r ∙ ap (λ (b : Bool). if b then Some now else value_of old.uses r) e) in
      rw (now_is, eqb-true r id e) kept
  here r false e one = absurd cc

  there : (r : ℕ) (b : Bool) → (r == id) ≡ b → (b || false) ≡ false → uses_in new r ≡ uses_in old r
  there r true e none = absurd cc
  there r false e none = ap items_of (is r ∙ ap (λ (b : Bool). if b then Some now else value_of old.uses r) e)
