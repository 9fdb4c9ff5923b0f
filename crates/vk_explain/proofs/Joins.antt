-- Texts one after another.
use Rattle.vk_words.specs.Points.{BeginsWith}
use Rattle.vk_fact_words.proofs.Joins.{two_more}
use Rattle.std.proofs.Common.{◌≡◌, ℕ, List, ◌++◌, ap, ◌∙◌}

-- a text that goes on after three texts begins with them
pub goes_on : (l p q x y t0 t1 t2 t3 t4 : List ℕ) → t0 ≡ l → t1 ≡ t0 ++ p → t2 ≡ t1 ++ q → t3 ≡ t2 ++ x → t4 ≡ t3 ++ y → BeginsWith (l ++ (p ++ q)) t4
goes_on l p q x y t0 t1 t2 t3 t4 a b c d e = record { rest = x ++ y; whole = two_more t2 t3 t4 x y d e ∙ ap (λ s. s ++ (x ++ y)) (two_more t0 t1 t2 p q b c ∙ ap (λ s. s ++ (p ++ q)) a) }
