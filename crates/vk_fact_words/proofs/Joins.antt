-- Texts one after another.
use Rattle.std.proofs.Common.{◌≡◌, ℕ, List, ◌++◌, ap, ◌∙◌, append_assoc}

-- two more texts
pub two_more : (s t u a b : List ℕ) → t ≡ s ++ a → u ≡ t ++ b → u ≡ s ++ (a ++ b)
two_more s t u a b e f = f ∙ ap (λ l. l ++ b) e ∙ append_assoc s a b

-- three more
pub three_more : (s t u v a b c : List ℕ) → t ≡ s ++ a → u ≡ t ++ b → v ≡ u ++ c → v ≡ s ++ (a ++ (b ++ c))
three_more s t u v a b c e f g = two_more s t v a (b ++ c) e (two_more t u v b c f g)
