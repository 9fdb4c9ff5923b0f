-- Two runs that meet at an index become one, where they have one value.
use Rattle.std.specs.Prelude.{ℕ, ◌≡◌, ◌≢◌, ◌⊎◌, List, [], ◌∷◌, ◌++◌}

module _ {T : Type 0} where
  -- The last of the runs, if there is one, has another value. (profile)
  abbrev pub EndsApart : List (ℕ × T) → T → Type 0
  EndsApart [] value = Unit {0}
  EndsApart (run ∷ []) value = run.1 ≢ value
  EndsApart (run ∷ next ∷ runs) value = EndsApart (next ∷ runs) value

  -- The last of the runs ends at the index and has this value. (profile)
  pub record EndsWith (at : ℕ) (runs : List (ℕ × T)) (value : T) (kept : List (ℕ × T)) : Type 0 where
    pub last : T
    pub is : runs ≡ kept ++ (at, last) ∷ []
    pub same : last ≡ value

  -- What is kept of runs that end at the index, before a run with this value: all but the last one, where that has the value too. (profile)
  abbrev pub JoinsTo : ℕ → List (ℕ × T) → T → List (ℕ × T) → Type 0
  JoinsTo at runs value kept = ((kept ≡ runs) × EndsApart runs value) ⊎ EndsWith at runs value kept

  -- The runs became one where they meet. (profile)
  pub record IsJoined (at : ℕ) (left right new : List (ℕ × T)) (value : T) : Type 0 where
    pub kept : List (ℕ × T)
    pub is : new ≡ kept ++ right
    pub joins : JoinsTo at left value kept

  -- Runs that end at an index, and those after it, put together: there is nothing to join at the end. (profile)
  abbrev pub Closes : ℕ → List (ℕ × T) → List (ℕ × T) → List (ℕ × T) → Type 0
  Closes at left [] new = new ≡ left
  Closes at left (run ∷ rest) new = IsJoined at left (run ∷ rest) new run.1
