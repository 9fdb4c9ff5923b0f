-- A scheduler that picks the last option first, and then answers as another one.
use Rattle.std.specs.Prelude.{ℕ, zero, suc, pred, List, [], ◌∷◌}

-- What it holds: whether the last option is picked next, a name of the other one, and what that one holds. Its answers: the last option first, and then those of the other one (profile).
abbrev pub last_first : (List ℕ → ℕ → ℕ) → List ℕ → ℕ → ℕ
last_first answer (suc m ∷ held) n = pred n
last_first answer (zero ∷ name ∷ held) n = answer held n
last_first answer _ n = answer [] n

-- What it holds then.
abbrev pub rest_after : (List ℕ → ℕ → List ℕ) → List ℕ → ℕ → List ℕ
rest_after next (suc m ∷ held) n = 0 ∷ held
rest_after next (zero ∷ name ∷ held) n = 0 ∷ name ∷ next held n
rest_after next _ n = next [] n
