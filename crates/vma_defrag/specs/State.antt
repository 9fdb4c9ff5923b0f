-- A defragmentation of a pool, as it is seen.
use Rattle.std.specs.Prelude.{ℕ, ◌+◌, ◌/◌, List, [], take, sum_by, Option, Some, None, option_map}
use Rattle.vk_model.specs.Memory.MoveTargets.{Moved}

-- A pass that is open: its moves, each of an allocation by its number, from the highest place down; and the numbers of the parts that are left to be copied, rising (VMA, "Defragmentation"; parts: profile).
pub record PassState : Type 0 where
  pub moves : List Moved
  pub left : List ℕ

-- A defragmentation: the number of its pool, the limits of a pass on bytes and on moves, 0 for none, and its open pass (VMA, "Defragmentation", on `VmaDefragmentationInfo`).
pub record DefragState : Type 0 where
  pub pool : ℕ
  pub max_bytes : ℕ
  pub max_moves : ℕ
  pub current : Option PassState

-- The moves of the open pass; none where none is open.
abbrev pub moves_in : Option PassState → List Moved
moves_in None = []
moves_in (Some p) = p.moves

-- The parts of the open pass that are left.
abbrev pub left_in : Option PassState → List ℕ
left_in None = []
left_in (Some p) = p.left

-- How many parts a move is copied in: of 4,096 bytes, and the last of what is left (profile).
abbrev pub part_count : Moved → ℕ
part_count m = (m.bytes + 4095) / 4096

-- How many parts come before those of a move, by its index.
abbrev pub parts_before : List Moved → ℕ → ℕ
parts_before moves i = sum_by part_count (take i moves)

-- The number of the part that has the byte of a move at an offset.
abbrev pub part_at : List Moved → ℕ → ℕ → ℕ
part_at moves i at = parts_before moves i + at / 4096

-- An open pass of which these parts are left.
abbrev pub pass_with : List ℕ → PassState → PassState
pass_with left p = record p { left = left }

-- A defragmentation with these parts left of its open pass.
abbrev pub with_left : List ℕ → DefragState → DefragState
with_left left d = record d { current = option_map (pass_with left) d.current }
