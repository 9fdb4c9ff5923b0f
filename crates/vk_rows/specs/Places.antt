-- Places in blocks, and the moves of a pass.
use Rattle.std.specs.Prelude.{◌≡◌, ℕ, List, [], ◌∷◌, true, Option, Some, None}
use Rattle.vk_model.specs.declared.resource.Kind.TheVariants as kind
use Rattle.vk_model.specs.Memory.Suballocation.{Taken, Request}
use Rattle.vk_model.specs.Memory.Room.{Linear, lowest, lower_place, upper_place}
use Rattle.vk_model.specs.Memory.MoveTargets.{Numbered, Resident, Moved, pass_moves}
use Rattle.vk_rows.specs.NoRoom.{buffer_at, buffer_of}

-- An image that asks for 256 bytes at a multiple of 256.
abbrev pub small_image : Request
small_image = record { size = 256; align = 256; kind = kind.Optimal }

-- The place of a buffer in a block of 4,096 bytes.
abbrev pub place_of : List Taken → ℕ → Option ℕ
place_of taken size = lowest taken (buffer_of size) 0 4096

-- A linear block of 4,096 bytes in a pool of one block.
abbrev pub linear : List Taken → List Taken → List Taken → Linear
linear lower wrapped upper = record { size = 4096; ring = true; lower = lower; wrapped = wrapped; upper = upper }

-- A buffer of 1,024 bytes in a pool: its id, its block and where it starts.
abbrev pub resident : ℕ → ℕ → ℕ → Resident
resident id block start = record { id = id; from = record { block = block; start = start }; request = buffer_of 1024 }

-- It goes to this block and this start.
abbrev pub move_to : ℕ → ℕ → ℕ → Moved
move_to id block start = record { id = id; to = record { block = block; start = start }; bytes = 1024 }

-- Two blocks of 4,096 bytes with 1,024 taken after each 1,024 free.
abbrev pub holed_blocks : List Numbered
holed_blocks = record { number = 0; size = 4096; taken = buffer_at 1024 1024 ∷ buffer_at 3072 1024 ∷ [] }
    ∷ record { number = 1; size = 4096; taken = buffer_at 1024 1024 ∷ buffer_at 3072 1024 ∷ [] } ∷ []

-- Their buffers, from the highest place down.
abbrev pub residents : List Resident
residents = resident 17 1 3072 ∷ resident 15 1 1024 ∷ resident 13 0 3072 ∷ resident 11 0 1024 ∷ []

-- Places in blocks, and the moves of a pass.
pub record Places : Type 0 where
  -- Four buffers of 1,024 bytes follow one another; a fifth finds no place.
  pub first : place_of [] 1024 ≡ Some 0
  pub second : place_of (buffer_at 0 1024 ∷ []) 1024 ≡ Some 1024
  pub third : place_of (buffer_at 0 1024 ∷ buffer_at 1024 1024 ∷ []) 1024 ≡ Some 2048
  pub fourth : place_of (buffer_at 0 1024 ∷ buffer_at 1024 1024 ∷ buffer_at 2048 1024 ∷ []) 1024 ≡ Some 3072
  pub fifth : place_of (buffer_at 0 1024 ∷ buffer_at 1024 1024 ∷ buffer_at 2048 1024 ∷ buffer_at 3072 1024 ∷ []) 1024 ≡ None
  -- When the first two go, the lowest place is at the start again.
  pub again : place_of (buffer_at 2048 1024 ∷ buffer_at 3072 1024 ∷ []) 1024 ≡ Some 0
  -- An optimal image doesn't share a page with a buffer.
  pub next_page : lowest (buffer_at 0 16 ∷ []) small_image 0 4096 ≡ Some 1024
  -- A ring: two buffers of half a block, and when the first one goes, two smaller ones at the start.
  pub stack_start : lower_place (linear [] [] []) (buffer_of 2048) ≡ Some 0
  pub stack_next : lower_place (linear (buffer_at 0 2048 ∷ []) [] []) (buffer_of 2048) ≡ Some 2048
  pub ring_start : lower_place (linear (buffer_at 2048 2048 ∷ []) [] []) (buffer_of 1024) ≡ Some 0
  pub ring_next : lower_place (linear (buffer_at 2048 2048 ∷ []) (buffer_at 0 1024 ∷ []) []) (buffer_of 1024) ≡ Some 1024
  -- The upper end of an empty block.
  pub upper_end : upper_place (linear [] [] []) (buffer_of 1024) ≡ Some 3072
  -- A pass without limits fills the first block, and the others then have no move target.
  pub whole_pass : pass_moves 0 0 holed_blocks residents ≡ move_to 17 0 0 ∷ move_to 15 0 2048 ∷ []
  -- With a limit of 1,024 bytes, or of one move, it ends after the first move.
  pub byte_limit : pass_moves 1024 0 holed_blocks residents ≡ move_to 17 0 0 ∷ []
  pub move_limit : pass_moves 0 1 holed_blocks residents ≡ move_to 17 0 0 ∷ []
