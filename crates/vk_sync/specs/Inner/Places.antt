-- Where in a list elements are that pass a test.
use Rattle.std.specs.Prelude.{ℕ, ◌+◌, List, [], ◌∷◌, Bool, if◌then◌else◌}

-- The places, counted from `start` on, of the elements that pass a test, rising. (profile)
abbrev pub places : {A : Type 0} → (A → Bool) → ℕ → List A → List ℕ
places p start [] = []
places p start (x ∷ xs) = if p x then start ∷ places p (start + 1) xs else places p (start + 1) xs

-- 1 for what is so, and 0 for what isn't. (profile)
abbrev pub one_if : Bool → ℕ
one_if b = if b then 1 else 0

-- A truth as it is. (profile)
abbrev pub is_so : Bool → Bool
is_so b = b
