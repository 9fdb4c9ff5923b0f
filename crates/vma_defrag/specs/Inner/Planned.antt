-- The moves of a pass as they are kept.
use Rattle.std.specs.Prelude.{◌≡◌, ℕ, ◌<◌, List, length, map, sum_by, All, Contains, Some, get_or}
use Rattle.std.specs.Ordering.{nat_cmp}
use Rattle.std.specs.Map.{lookup}
use Rattle.std.specs.BTreeMap.{is_at}
use Rattle.vk_model.specs.Memory.MoveTargets.{Moved}
use Rattle.vma_pools.specs.State.{start_of}
use Rattle.vk_transfer.specs.Counted.{AreCounted}
use Rattle.vma_defrag.specs.declared.open.Fate.TheVariants.{Made}
use Rattle.vma_defrag.specs.declared.open.Planned.{Planned}
use Rattle.vma_defrag.specs.State.{part_count}

-- A move that was chosen, as one of the pass.
abbrev pub move_of : Planned → Moved
move_of p = record { id = p.allocation; to = start_of p.to; bytes = p.bytes }

-- Moves that were chosen, in their order.
abbrev pub moves_of : List Planned → List Moved
moves_of planned = map move_of planned

-- The index of each move stands beside the number of its allocation, and no other does.
pub record AreIndexed (planned : List Planned) (indices : List (ℕ × ℕ)) : Type 0 where
  pub found : (i k : ℕ) → lookup (is_at (nat_cmp i)) indices ≡ Some k → (k < length planned) × ((p : Planned) → (get_or planned k p).allocation ≡ i)
  pub all : (k : ℕ) (p : Planned) → k < length planned → lookup (is_at (nat_cmp (get_or planned k p).allocation)) indices ≡ Some k

-- No move was ended yet.
abbrev pub AreMade : List Planned → Type 0
AreMade planned = All (λ p. p.fate ≡ Made) planned

-- What always holds of an open pass: its parts are counted, those that are left are among them, and its moves are found by the numbers of their allocations.
pub record IsOpen (planned : List Planned) (counts left : List ℕ) (indices : List (ℕ × ℕ)) : Type 0 where
  pub counted : AreCounted part_count (moves_of planned) (length (moves_of planned)) counts
  pub within : (k : ℕ) → Contains left k → k < sum_by part_count (moves_of planned)
  pub made : AreMade planned
  pub indexed : AreIndexed planned indices
