-- Where the traces that stop find no room: the device as it is before the entry that allocates.
use Rattle.std.specs.Prelude.{◌≡◌, ℕ, List, [], ◌∷◌, true, false, if◌then◌else◌, ◌==◌}
use Rattle.vk_model.specs.declared.resource.PoolKind.{PoolKind}
use Rattle.vk_model.specs.declared.resource.PoolKind.TheVariants as algorithm
use Rattle.vk_model.specs.declared.resource.Kind.TheVariants as kind
use Rattle.vk_model.specs.Memory.Suballocation.{Taken, Request}
use Rattle.vk_model.specs.Memory.Room.{Heaps, no_object, Block, General, Stack, PoolState, NoRoomInPool}

-- Heaps of these sizes, so much of which is used, and how many memory objects are live.
abbrev pub heaps : ℕ → ℕ → ℕ → ℕ → ℕ → Heaps
heaps size0 size1 used0 used1 objects = record { limit = λ h. if h == 0 then size0 else size1; used = λ h. if h == 0 then used0 else used1; objects = objects }

-- A range that a buffer takes: its start and its bytes.
abbrev pub buffer_at : ℕ → ℕ → Taken
buffer_at start size = record { start = start; size = size; kind = kind.Linear }

-- What a buffer asks of a block.
abbrev pub buffer_of : ℕ → Request
buffer_of size = record { size = size; align = 16; kind = kind.Linear }

-- A pool of memory type 1: its algorithm, block size, block limit and blocks.
abbrev pub pool_of : PoolKind → ℕ → ℕ → List Block → PoolState
pool_of k size limit blocks = record { info = record { kind = k; memory_type = 1; block_size = size; block_limit = limit }; blocks = blocks }

-- 1,024 bytes are taken after each 1,024 free ones.
abbrev pub holed : List Taken
holed = buffer_at 1024 1024 ∷ buffer_at 3072 1024 ∷ []

-- Two buffers have all of 65,536 bytes.
abbrev pub halves : List Taken
halves = buffer_at 0 32768 ∷ buffer_at 32768 32768 ∷ []

-- A ring whose newest ranges have come round to its oldest one.
abbrev pub ring : Block
ring = Stack (record { size = 4096; ring = true; lower = buffer_at 2048 2048 ∷ []; wrapped = buffer_at 0 1024 ∷ buffer_at 1024 1024 ∷ []; upper = [] })

-- Two stacks that meet.
abbrev pub stacks : Block
stacks = Stack (record { size = 4096; ring = true; lower = buffer_at 0 2048 ∷ buffer_at 2048 1024 ∷ []; wrapped = []; upper = buffer_at 3072 1024 ∷ [] })

-- Traces that stop, each with the heaps and blocks that it has made.
pub record NoRoom : Type 0 where
  -- A buffer has all of heap 1, and another one is asked for.
  pub heap_used : no_object (heaps 4194304 4194304 0 4194304 1) 1 16 ≡ true
  -- The first of them fits.
  pub heap_fits : no_object (heaps 4194304 4194304 0 0 0) 1 4194304 ≡ false
  -- A memory object has all of a heap of 65,536 bytes, and one byte more is asked for.
  pub small_heap_used : no_object (heaps 4194304 65536 0 65536 1) 1 1 ≡ true
  -- In a heap of the usual size it fits.
  pub usual_heap_fits : no_object (heaps 4194304 4194304 0 65536 1) 1 1 ≡ false
  -- 4,096 memory objects are live.
  pub most_objects : no_object (heaps 4194304 4194304 0 65536 4096) 1 16 ≡ true
  -- One more of 4,095 is possible.
  pub one_more_object : no_object (heaps 4194304 4194304 0 65520 4095) 1 16 ≡ false
  -- Two blocks of 4,096 bytes with holes of 1,024, and 2,048 are asked for.
  pub holes : NoRoomInPool (heaps 4194304 4194304 0 8192 2) (pool_of algorithm.Tlsf 4096 2 (General 4096 holed ∷ General 4096 holed ∷ [])) (buffer_of 2048) false
  -- A block is full, and its heap has no room for a second one.
  pub block_full : NoRoomInPool (heaps 4194304 65536 0 65536 1) (pool_of algorithm.Tlsf 65536 2 (General 65536 halves ∷ [])) (buffer_of 16) false
  -- A full ring.
  pub ring_full : NoRoomInPool (heaps 4194304 4194304 0 4096 1) (pool_of algorithm.Linear 4096 1 (ring ∷ [])) (buffer_of 16) false
  -- A full double stack.
  pub stacks_meet : NoRoomInPool (heaps 4194304 4194304 0 4096 1) (pool_of algorithm.Linear 4096 1 (stacks ∷ [])) (buffer_of 16) false
