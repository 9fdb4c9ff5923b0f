-- The runs that overlap a range.
use Rattle.std.specs.Prelude.{ℕ, ◌≡◌, ◌≢◌, ◌<◌, ◌≤◌, List, [], ◌∷◌, slice_get, Some}
use Rattle.vk_ranges.specs.Runs.{upto}
use Rattle.vk_ranges.specs.declared.runs.Overlapping.{Overlapping}
use Rattle.vk_ranges.specs.declared.runs.Run.{Run}

-- Some indices in a row, and the value that each of them has. (profile)
pub record Piece (T : Type 0) : Type 0 where
  pub start : ℕ
  pub end : ℕ
  pub value : T

module _ {T : Type 0} where
  -- The first of the pieces, if there is one, has another value. (profile)
  abbrev pub DiffersFromNext : T → List (Piece T) → Type 0
  DiffersFromNext value [] = Unit {0}
  DiffersFromNext value (piece ∷ pieces) = value ≢ piece.value

  -- Each index of the piece has the piece's value. (profile)
  abbrev pub HasOneValue : List T → Piece T → Type 0
  HasOneValue values piece = (index : ℕ) → piece.start ≤ index → index < piece.end → slice_get values index ≡ Some piece.value

  -- The pieces cover `low..high` in order and without gaps, each has the value of all of its indices, and neighbours differ. (profile)
  abbrev pub AreRunsOf : List T → ℕ → ℕ → List (Piece T) → Type 0
  AreRunsOf values low high [] = low ≡ high
  AreRunsOf values low high (piece ∷ pieces) =
      (piece.start ≡ low) × (low < piece.end) × (piece.end ≤ high) × HasOneValue values piece × DiffersFromNext piece.value pieces × AreRunsOf values piece.end high pieces

  -- Runs with their starts. (profile)
  abbrev pub with_starts : ℕ → List (ℕ × T) → List (Piece T)
  with_starts start [] = []
  with_starts start (run ∷ runs) = record { start = start; end = run.0; value = run.1 } ∷ with_starts run.0 runs

  -- A run that an iterator gave, with its value in place of the reference. (profile)
  abbrev pub piece_of : Run T → Piece T
  piece_of run = record { start = run.start; end = run.end; value = run.value.now }

  -- The runs that an iterator has left. (profile)
  abbrev pub pieces_left : Overlapping T → List (Piece T)
  pieces_left runs = with_starts runs.start (upto runs.start runs.end runs.runs)
