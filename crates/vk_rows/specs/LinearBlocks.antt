-- Linear blocks through requests and frees: a ring and a double stack.
use Rattle.std.specs.Prelude.{◌≡◌, ℕ, [], ◌∷◌, true, Some, None}
use Rattle.vk_model.specs.Memory.Room.{Linear, lower_place, upper_place, all_taken}
use Rattle.vk_model.specs.Memory.LinearBlocks.{empty_linear, after_lower, after_upper, after_free}
use Rattle.vk_rows.specs.NoRoom.{buffer_at, buffer_of}
use Rattle.vk_rows.specs.Places.{linear}

-- A block of 4,096 bytes in a pool of one block.
abbrev pub block : Linear
block = empty_linear 4096 true

-- A buffer of this many bytes more, on the lower stack or at the start of a ring.
abbrev pub add_lower : ℕ → Linear → Linear
add_lower size b = after_lower b (buffer_of size)

-- A buffer of this many bytes more on the upper stack.
abbrev pub add_upper : ℕ → Linear → Linear
add_upper size b = after_upper b (buffer_of size)

-- Two buffers of half the block, of which the first has gone.
abbrev pub half_free : Linear
half_free = after_free (add_lower 2048 (add_lower 2048 block)) 0

-- Two buffers of a quarter have then come to the start.
abbrev pub ring_full : Linear
ring_full = add_lower 1024 (add_lower 1024 half_free)

-- Buffers on both stacks that meet.
abbrev pub stacks_full : Linear
stacks_full = add_lower 1024 (add_upper 1024 (add_lower 2048 block))

-- Linear blocks through requests and frees.
pub record LinearBlocks : Type 0 where
  -- A ring: each place, and what is taken in the end; then 16 bytes find no place.
  pub first : lower_place block (buffer_of 2048) ≡ Some 0
  pub second : lower_place (add_lower 2048 block) (buffer_of 2048) ≡ Some 2048
  pub third : lower_place half_free (buffer_of 1024) ≡ Some 0
  pub fourth : lower_place (add_lower 1024 half_free) (buffer_of 1024) ≡ Some 1024
  pub ring : ring_full ≡ linear (buffer_at 2048 2048 ∷ []) (buffer_at 0 1024 ∷ buffer_at 1024 1024 ∷ []) []
  pub none_in_ring : lower_place ring_full (buffer_of 16) ≡ None
  -- The last buffer of the lower stack goes: those at the start are the lower stack, and the rest of the block is free again.
  pub turned : after_free ring_full 2048 ≡ linear (buffer_at 0 1024 ∷ buffer_at 1024 1024 ∷ []) [] []
  pub after_round : lower_place (after_free ring_full 2048) (buffer_of 2048) ≡ Some 2048
  -- The first of those that went round goes: its place isn't free before the second one goes too.
  pub behind : lower_place (after_free ring_full 0) (buffer_of 16) ≡ None
  -- An upper request in an empty block.
  pub upper_first : upper_place block (buffer_of 1024) ≡ Some 3072
  -- A double stack: each place, and what is taken in the end; then 16 bytes find no place on either stack.
  pub lower_next : lower_place (add_upper 1024 (add_lower 2048 block)) (buffer_of 1024) ≡ Some 2048
  pub stacks : stacks_full ≡ linear (buffer_at 0 2048 ∷ buffer_at 2048 1024 ∷ []) [] (buffer_at 3072 1024 ∷ [])
  pub none_below : lower_place stacks_full (buffer_of 16) ≡ None
  pub none_above : upper_place stacks_full (buffer_of 16) ≡ None
  -- The block is seen as its ranges.
  pub seen : all_taken ring_full ≡ buffer_at 2048 2048 ∷ buffer_at 0 1024 ∷ buffer_at 1024 1024 ∷ []
