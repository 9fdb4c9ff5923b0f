-- Texts one behind another.
use Rattle.std.proofs.Common.{◌≡◌, ℕ, List, ◌++◌, ap, ◌∙◌, append_assoc}

-- two texts more
pub two_more : (t a b t1 t2 : List ℕ) → t1 ≡ t ++ a → t2 ≡ t1 ++ b → t2 ≡ t ++ (a ++ b)
two_more t a b t1 t2 e f = f ∙ (ap (λ l. l ++ b) e ∙ append_assoc t a b)

-- five texts more
pub five_more : (t a b c d e t1 t2 t3 t4 t5 : List ℕ) → t1 ≡ t ++ a → t2 ≡ t1 ++ b → t3 ≡ t2 ++ c → t4 ≡ t3 ++ d → t5 ≡ t4 ++ e → t5 ≡ t ++ ((((a ++ b) ++ c) ++ d) ++ e)
five_more t a b c d e t1 t2 t3 t4 t5 f g h i j =
    two_more t (((a ++ b) ++ c) ++ d) e t4 t5 (two_more t ((a ++ b) ++ c) d t3 t4 (two_more t (a ++ b) c t2 t3 (two_more t a b t1 t2 f g) h) i) j
