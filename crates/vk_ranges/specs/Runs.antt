-- A list of values as runs: each run is its end and the value of the indices from the end of the run before it.
use Rattle.std.specs.Prelude.{ℕ, ◌≡◌, ◌≢◌, ◌<◌, ◌-◌, List, [], ◌∷◌, ◌++◌, replicate, min, nat_lt, if◌then◌else◌, Option, Some, None}

module _ {T : Type 0} where
  -- The values of the runs from an index on, one for each index. (profile)
  abbrev pub values_from : ℕ → List (ℕ × T) → List T
  values_from start [] = []
  values_from start (run ∷ runs) = replicate (run.0 - start) run.1 ++ values_from run.0 runs

  -- The runs cover the indices from `start` to `end` in order, none of them empty. (profile)
  abbrev pub IsTiling : ℕ → ℕ → List (ℕ × T) → Type 0
  IsTiling start end [] = start ≡ end
  IsTiling start end (run ∷ runs) = (start < run.0) × IsTiling run.0 end runs

  -- The first of the runs, if there is one, has another value. (profile)
  abbrev pub DiffersFromFirst : T → List (ℕ × T) → Type 0
  DiffersFromFirst value [] = Unit {0}
  DiffersFromFirst value (run ∷ runs) = value ≢ run.1

  -- Runs that follow each other have different values. (profile)
  abbrev pub IsMaximal : List (ℕ × T) → Type 0
  IsMaximal [] = Unit {0}
  IsMaximal (run ∷ runs) = DiffersFromFirst run.1 runs × IsMaximal runs

  -- The value of an index: that of the first run that ends after it. (profile)
  abbrev pub value_at : List (ℕ × T) → ℕ → Option T
  value_at [] index = None
  value_at (run ∷ runs) index = if nat_lt index run.0 then Some run.1 else value_at runs index

  -- The runs that end after an index. (profile)
  abbrev pub after : ℕ → List (ℕ × T) → List (ℕ × T)
  after index [] = []
  after index (run ∷ runs) = if nat_lt index run.0 then run ∷ runs else after index runs

  -- What the runs from `start` on cover of the indices below `end`. (profile)
  abbrev pub upto : ℕ → ℕ → List (ℕ × T) → List (ℕ × T)
  upto start end [] = []
  upto start end (run ∷ runs) = if nat_lt start end then (min end run.0, run.1) ∷ upto (min end run.0) end runs else []

  -- The runs cover `0..len`, and none of them could be longer. (profile)
  pub record AreRuns (len : ℕ) (runs : List (ℕ × T)) : Type 0 where
    pub tiling : IsTiling 0 len runs
    pub maximal : IsMaximal runs
