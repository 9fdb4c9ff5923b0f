-- Texts one behind another.
use Rattle.std.proofs.Common.{◌≡◌, ℕ, List, ◌++◌, ap, ◌∙◌, append_assoc, Result, Ok, Err, OnOk}
use Rattle.std.specs.Prelude.{if◌then◌else◌}
use Rattle.std.specs.Result.{is_ok}

-- two texts more
pub two_more : (t a b t1 t2 : List ℕ) → t1 ≡ t ++ a → t2 ≡ t1 ++ b → t2 ≡ t ++ (a ++ b)
two_more t a b t1 t2 e f = f ∙ (ap (λ l. l ++ b) e ∙ append_assoc t a b)

-- three texts more
pub three_more : (t a b c t1 t2 t3 : List ℕ) → t1 ≡ t ++ a → t2 ≡ t1 ++ b → t3 ≡ t2 ++ c → t3 ≡ t ++ ((a ++ b) ++ c)
three_more t a b c t1 t2 t3 e f g = two_more t (a ++ b) c t2 t3 (two_more t a b t1 t2 e f) g

-- what is one thing on a success, and another one on an error
pub on_success : {T E : Type 0} (r : Result T E) (text one other : List ℕ) → text ≡ (if is_ok r then one else other) → OnOk r (text ≡ one)
on_success (Ok t) text one other e = e
on_success (Err t) text one other e = tt
