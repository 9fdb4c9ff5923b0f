-- How much of a pool's blocks is taken, as it is counted.
use Rattle.std.specs.Prelude.{◌≡◌, ℕ, ◌*◌, ◌<◌, ◌^◌, length}
use Rattle.std.specs.List.{sum_by}
use Rattle.vk_model.specs.Memory.Pools.{Pool, numbered_blocks}

-- How many ranges are taken (VMA, "Statistics").
abbrev pub range_count : Pool → ℕ
range_count p = sum_by (λ b. length b.taken) (numbered_blocks p.blocks)

-- The bytes of these ranges (VMA, "Statistics").
abbrev pub range_bytes : Pool → ℕ
range_bytes p = sum_by (λ b. sum_by (λ t. t.size) b.taken) (numbered_blocks p.blocks)

-- Both counts are right, and the bytes of all blocks can be counted.
pub record IsCounted (p : Pool) (ranges bytes : ℕ) : Type 0 where
  pub ranges_are : ranges ≡ range_count p
  pub bytes_are : bytes ≡ range_bytes p
  pub blocks_fit : length p.blocks * p.info.block_size < 2 ^ 64
