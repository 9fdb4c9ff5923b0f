-- A walk over the runs of a range, from the one that its first index is in to the one that its last index is in.
use Rattle.std.specs.Prelude.{ℕ, ◌≡◌, ◌<◌, ◌≤◌, List, [], ◌∷◌, ◌++◌, Some}
use Rattle.std.specs.Option.{IsSomeAnd}
use Rattle.vk_ranges.specs.Runs.{IsTiling, IsMaximal, value_at}
use Rattle.vk_ranges.specs.declared.changes.Change.{Change}
use Rattle.vk_ranges.specs.declared.changes.Edge.{Edge}
use Rattle.vk_ranges.specs.Inner.Plans.{runs_of, ends_of, run_ends}
use Rattle.vk_ranges.specs.Inner.Edges.{IsClosed}

module _ {T : Type 0} where
  -- The walk has come to a run, and there are changes for those before it, which end before `high`. (profile)
  pub record WalksTo (low high : ℕ) (runs : List (ℕ × T)) (changes : List (Change T)) (run : ℕ × T) (rest : List (ℕ × T)) : Type 0 where
    pub done : List (ℕ × T)
    pub cursor : ℕ
    pub whole : runs ≡ done ++ run ∷ rest
    pub tiling : IsTiling low cursor done
    pub below : cursor < high
    pub some : cursor < run.0
    pub ends : ends_of changes ≡ run_ends done

  -- The walk has come to the end: the last run reaches `high`, and what becomes of that edge is known. (profile)
  pub record Walked (low high : ℕ) (runs : List (ℕ × T)) (changes : List (Change T)) (edge : Edge T) (last : T) : Type 0 where
    pub run : ℕ × T
    pub rest : List (ℕ × T)
    pub walk : WalksTo low high runs changes run rest
    pub reaches : high ≤ run.0
    pub closed : IsClosed high run rest last edge

  -- Each run has a value, and a new run gives it one that belongs to it. (profile)
  abbrev pub Gives : (T → T → Type 0) → List (ℕ × T) → List (ℕ × T) → ℕ → Type 0
  Gives gives old new index = IsSomeAnd (value_at old index) (λ before. IsSomeAnd (value_at new index) (λ after. gives before after))

  -- The new runs of `low..end`, of which the last one has this value. (profile)
  abbrev pub with_last : List (Change T) → ℕ → T → List (ℕ × T)
  with_last changes end last = runs_of changes ++ (end, last) ∷ []

  -- Runs for `low..high` that begin with a value, and give each index what belongs to it. (profile)
  pub record AreNew (gives : T → T → Type 0) (low high : ℕ) (old new : List (ℕ × T)) (first : T) : Type 0 where
    pub tiling : IsTiling low high new
    pub maximal : IsMaximal new
    pub starts : value_at new low ≡ Some first
    pub values : (index : ℕ) → low ≤ index → index < high → Gives gives old new index

  -- A walk that has given each run of the range a value. (profile)
  pub record IsMapped (gives : T → T → Type 0) (low high : ℕ) (runs : List (ℕ × T)) (changes : List (Change T)) (edge : Edge T) (first : T) : Type 0 where
    pub last : T
    pub walked : Walked low high runs changes edge last
    pub new : AreNew gives low high runs (with_last changes high last) first
