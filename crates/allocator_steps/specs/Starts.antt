-- The starts of the ranges of a block.
use Rattle.std.specs.Prelude.{◌≡◌, ℕ, ◌+◌, ◌==◌, if◌then◌else◌, List, sum_by}
use Rattle.vma_tlsf.specs.Block.{Block, taken}

-- 1 for the start itself, 0 for any other one.
abbrev pub is_start : ℕ → ℕ → ℕ
is_start start other = if other == start then 1 else 0

-- How many ranges of a block start here (VMA, "Virtual allocator").
abbrev pub ranges_from : ℕ → Block → ℕ
ranges_from start b = sum_by (λ t. is_start start t.start) (taken b)

-- A list has each start as often as a range of the block starts there (VMA, "Virtual allocator").
abbrev pub AreStarts : Block → List ℕ → Type 0
AreStarts b starts = (start : ℕ) → sum_by (is_start start) starts ≡ ranges_from start b

-- One range more starts here, and all others stay (VMA, "Virtual allocator").
abbrev pub AddsStart : Block → Block → ℕ → Type 0
AddsStart old new start = (other : ℕ) → ranges_from other new ≡ is_start other start + ranges_from other old
