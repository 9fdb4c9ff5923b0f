-- What is found at the edges of a range, and what becomes of them.
use Rattle.std.specs.Prelude.{ℕ, ◌≡◌, ◌≢◌, ◌<◌, Bool, true, false, List, [], ◌∷◌, ◌++◌, Option, Some, None}
use Rattle.vk_ranges.specs.Runs.{after, upto}
use Rattle.vk_ranges.specs.declared.changes.Edge.{Edge}
use Rattle.vk_ranges.specs.declared.changes.Edge.TheVariants.{Stays, Goes, Becomes, New}

-- Whether the run ends with the range, or after it. (profile)
abbrev pub EndsAt : ℕ → ℕ → Bool → Type 0
EndsAt high end true = end ≡ high
EndsAt high end false = high < end

module _ {T : Type 0} where
  -- The value of the first of the runs. (profile)
  abbrev pub first_value : List (ℕ × T) → Option T
  first_value [] = None
  first_value (run ∷ runs) = Some run.1

  -- The runs in front of those after an index, the value before the index if there is one, and whether a run ends there. (profile)
  abbrev pub IsBefore : ℕ → List (ℕ × T) → Option T → Bool → List (ℕ × T) → Type 0
  IsBefore low runs None is_end front = (low ≡ 0) × (is_end ≡ true) × (front ≡ [])
  IsBefore low runs (Some value) true front = (upto 0 low runs ≡ front ++ (low, value) ∷ []) × (runs ≡ front ++ (low, value) ∷ after low runs)
  IsBefore low runs (Some value) false front = (upto 0 low runs ≡ front ++ (low, value) ∷ []) × (runs ≡ front ++ after low runs)

  -- Where a range begins: the first run after its low edge, those after it, and what lies before. (profile)
  pub record Begins (low : ℕ) (runs : List (ℕ × T)) (left : Option T) (is_end : Bool) (run : ℕ × T) (rest : List (ℕ × T)) : Type 0 where
    pub front : List (ℕ × T)
    pub before : IsBefore low runs left is_end front
    pub here : after low runs ≡ run ∷ rest

  -- What becomes of the edge between a value and the first one of the range. (profile)
  abbrev pub IsEdgeBefore : Bool → Option T → T → Edge T → Type 0
  IsEdgeBefore is_end left first Stays = (is_end ≡ true → left ≢ Some first) × (is_end ≡ false → left ≡ Some first)
  IsEdgeBefore is_end left first Goes = (is_end ≡ true) × (left ≡ Some first)
  IsEdgeBefore is_end left first (Becomes value) = ⊥
  IsEdgeBefore is_end left first (New value) = (is_end ≡ false) × (left ≡ Some value) × (value ≢ first)

  -- What becomes of the edge between the last value of the range and one after it. (profile)
  abbrev pub IsEdgeAfter : Bool → Option T → T → Edge T → Type 0
  IsEdgeAfter is_end right last Stays = (is_end ≡ false) × (right ≡ Some last)
  IsEdgeAfter is_end right last Goes = (is_end ≡ true) × (right ≡ Some last)
  IsEdgeAfter is_end right last (Becomes value) = (is_end ≡ true) × (value ≡ last) × (right ≢ Some last)
  IsEdgeAfter is_end right last (New value) = (is_end ≡ false) × (value ≡ last) × (right ≢ Some last)

  -- The value after a range, whose last index is in this run. (profile)
  abbrev pub right_of : Bool → ℕ × T → List (ℕ × T) → Option T
  right_of true run rest = first_value rest
  right_of false run rest = Some run.1

  -- What becomes of the high edge, which the last run of the range reaches. (profile)
  pub record IsClosed (high : ℕ) (run : ℕ × T) (rest : List (ℕ × T)) (last : T) (edge : Edge T) : Type 0 where
    pub is_end : Bool
    pub ends : EndsAt high run.0 is_end
    pub edge_is : IsEdgeAfter is_end (right_of is_end run rest) last edge
