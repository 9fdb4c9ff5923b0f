-- Pools through allocations and frees: blocks, places, statistics and the moves of a pass.
use Rattle.std.specs.Prelude.{◌≡◌, ℕ, List, [], ◌∷◌, false, Some}
use Rattle.vk_model.specs.declared.resource.PoolKind.{PoolKind}
use Rattle.vk_model.specs.declared.resource.PoolKind.TheVariants as algorithm
use Rattle.vk_model.specs.Memory.Room.{Stack, NoRoomInPool}
use Rattle.vk_model.specs.Memory.MoveTargets.{Numbered, BlockStart, Resident, move_target, reserved, pass_moves}
use Rattle.vk_model.specs.Memory.Pools.{Pool, empty_pool, pool_with, pool_without, state_of, Gives, numbered_blocks, IsAt, IsByPlace, AreStatistics, rank, rank_sum}
use Rattle.vk_rows.specs.NoRoom.{heaps, buffer_at, buffer_of}
use Rattle.vk_rows.specs.Places.{linear, resident, move_to}

-- A pool of memory type 1 with blocks of 4,096 bytes: its algorithm and its block limit.
abbrev pub pool : PoolKind → ℕ → Pool
pool kind limit = empty_pool (record { kind = kind; memory_type = 1; block_size = 4096; block_limit = limit })

-- A place: a block and a start.
abbrev pub at_place : ℕ → ℕ → BlockStart
at_place block start = record { block = block; start = start }

-- A buffer of this many bytes is put at a place.
abbrev pub with_buffer : ℕ → ℕ → ℕ → Pool → Pool
with_buffer size block start p = pool_with p (buffer_of size) false (at_place block start)

-- What is at a place is given back.
abbrev pub without_buffer : ℕ → ℕ → Pool → Pool
without_buffer block start p = pool_without p (at_place block start)

-- Four buffers of 1,024 bytes fill a block.
abbrev pub one_full : Pool
one_full = with_buffer 1024 0 3072 (with_buffer 1024 0 2048 (with_buffer 1024 0 1024 (with_buffer 1024 0 0 (pool algorithm.Tlsf 2))))

-- Four more fill a second one.
abbrev pub two_full : Pool
two_full = with_buffer 1024 1 3072 (with_buffer 1024 1 2048 (with_buffer 1024 1 1024 (with_buffer 1024 1 0 one_full)))

-- The first, third, fifth and seventh have gone.
abbrev pub holed : Pool
holed = without_buffer 1 2048 (without_buffer 1 0 (without_buffer 0 2048 (without_buffer 0 0 two_full)))

-- The buffers that are left, in the order in which they came.
abbrev pub left : List Resident
left = resident 11 0 1024 ∷ resident 13 0 3072 ∷ resident 15 1 1024 ∷ resident 17 1 3072 ∷ []

-- And from the highest place down.
abbrev pub from_above : List Resident
from_above = resident 17 1 3072 ∷ resident 15 1 1024 ∷ resident 13 0 3072 ∷ resident 11 0 1024 ∷ []

-- The blocks as ranges.
abbrev pub holed_ranges : List Numbered
holed_ranges = record { number = 0; size = 4096; taken = buffer_at 3072 1024 ∷ buffer_at 1024 1024 ∷ [] }
    ∷ record { number = 1; size = 4096; taken = buffer_at 3072 1024 ∷ buffer_at 1024 1024 ∷ [] } ∷ []

-- The pool after a pass without limits that moved two of them.
abbrev pub moved_down : Pool
moved_down = without_buffer 1 1024 (without_buffer 1 3072 (with_buffer 1024 0 2048 (with_buffer 1024 0 0 holed)))

-- Its buffers.
abbrev pub packed : List Resident
packed = resident 11 0 1024 ∷ resident 13 0 3072 ∷ resident 15 0 2048 ∷ resident 17 0 0 ∷ []

-- Pools through allocations and frees.
pub record PoolBlocks : Type 0 where
  -- The first buffer gets the start of block 0; when that is full, the next one gets that of block 1.
  pub first_place : Gives (pool algorithm.Tlsf 2) (buffer_of 1024) false (at_place 0 0)
  pub next_block : Gives one_full (buffer_of 1024) false (at_place 1 0)
  -- Two blocks with holes: 2 blocks, 4 allocations of 4,096 bytes together, 8,192 bytes held, 1,024 at most free in one piece.
  pub holes : numbered_blocks holed.blocks ≡ holed_ranges
  pub statistics : AreStatistics (numbered_blocks holed.blocks) (record { blocks = 2; allocations = 4; used = 4096; held = 8192; largest_free = 1024 })
  -- 2,048 bytes find no room in it, as a third block is over its limit.
  pub none_for_half : NoRoomInPool (heaps 4194304 4194304 0 8192 2) (state_of holed) (buffer_of 2048) false
  -- The last buffer is at its place.
  pub last_at_place : IsAt (numbered_blocks holed.blocks) (resident 17 1 3072)
  -- From the highest place down, and where the first two of these move to.
  pub by_place : IsByPlace left from_above
  pub target_of_last : move_target (numbered_blocks holed.blocks) (resident 17 1 3072) ≡ Some (at_place 0 0)
  pub target_of_third : move_target (reserved (at_place 0 0) (buffer_of 1024) (numbered_blocks holed.blocks)) (resident 15 1 1024) ≡ Some (at_place 0 2048)
  pub pass : pass_moves 0 0 (numbered_blocks holed.blocks) from_above ≡ move_to 17 0 0 ∷ move_to 15 0 2048 ∷ []
  -- Places of 16 bytes below a place: 256 of block 0, and 192 of block 1. The moves bring the sum from 1,024 down to 384.
  pub highest_rank : rank 4096 (numbered_blocks holed.blocks) (at_place 1 3072) ≡ 448
  pub ranks_before : rank_sum 4096 (numbered_blocks holed.blocks) left ≡ 1024
  pub ranks_after : rank_sum 4096 (numbered_blocks moved_down.blocks) packed ≡ 384
  -- The second block is empty and given back; the next one gets number 2, and its rank counts the one block below it.
  pub given_back : numbered_blocks moved_down.blocks ≡ record { number = 0; size = 4096; taken = buffer_at 2048 1024 ∷ buffer_at 0 1024 ∷ buffer_at 3072 1024 ∷ buffer_at 1024 1024 ∷ [] } ∷ []
  pub next_number : moved_down.next ≡ 2
  pub third_block : Gives moved_down (buffer_of 1024) false (at_place 2 0)
  pub its_rank : rank 4096 (numbered_blocks (with_buffer 1024 2 0 moved_down).blocks) (at_place 2 0) ≡ 256
  -- A linear pool of one block: a ring, whose block is given back when its one buffer goes.
  pub ring : (with_buffer 2048 0 0 (pool algorithm.Linear 1)).blocks ≡ record { number = 0; block = Stack (linear (buffer_at 0 2048 ∷ []) [] []) } ∷ []
  pub no_ring_left : (without_buffer 0 0 (with_buffer 2048 0 0 (pool algorithm.Linear 1))).blocks ≡ []
