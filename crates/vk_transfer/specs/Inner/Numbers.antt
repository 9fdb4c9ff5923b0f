-- How the numbers of pieces that come before each part are kept.
use Rattle.std.specs.Prelude.{ℕ, List, [], ◌∷◌, Option, Some, None}

-- How many pieces come before each part, and at last all of them: none come before the first part; where there is one, its own pieces come next, and then the numbers that follow.
abbrev pub numbers_of : Option ℕ → List ℕ → List ℕ
numbers_of None more = 0 ∷ []
numbers_of (Some first) more = 0 ∷ first ∷ more
