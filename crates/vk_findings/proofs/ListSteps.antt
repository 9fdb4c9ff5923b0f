-- What a loop over a list finds of a test.
use Rattle.std.proofs.Common.{◌≡◌, ℕ, ◌+◌, ◌<◌, List, length, take, get_or, Bool, false, ◌||◌, ap, sym, ◌∙◌}
use Rattle.std.specs.List.{list_any}
use Rattle.std.proofs.lemmas.List.Folds.{list_any_more}

-- no item so far passes it, nor the next one
pub test_more : {X : Type 0} (p : X → Bool) (xs : List X) (i : ℕ) (x : X) → i < length xs → x ≡ get_or xs i x → list_any p (take i xs) ≡ false → false ≡ p x → list_any p (take (i + 1) xs) ≡ false
test_more p xs i x lt is before fails = list_any_more p xs i x lt ∙ ap (λ (b : Bool). b || p (get_or xs i x)) before ∙ ap p (sym is) ∙ sym fails
