-- The blocks of a pool, where its resources are, and how much of its memory is in use.
use Rattle.std.specs.Prelude.{◌≡◌, ℕ, ◌+◌, ◌*◌, ◌/◌, ◌<◌, ◌≤◌, List, [], ◌∷◌, ◌++◌, map, length, Bool, not, ◌==◌, nat_lt, if◌then◌else◌, Some, ◌⊎◌, IsTrue, All, AllPairs, Any, Contains, IsPermutation}
use Rattle.std.specs.List.{filter, sum_by, count_by}
use Rattle.vk_model.specs.declared.resource.PoolInfo.{PoolInfo}
use Rattle.vk_model.specs.declared.resource.PoolKind.{PoolKind}
use Rattle.vk_model.specs.declared.resource.PoolKind.TheVariants as algorithm
use Rattle.vk_model.specs.declared.statistics.Statistics.{Statistics}
use Rattle.vk_model.specs.Memory.Suballocation.{Taken, Request, IsSound, taken_at, is_free}
use Rattle.vk_model.specs.Memory.Room.{Block, General, Stack, BlockHolds, PoolState, fits, all_taken, is_none_left, lower_place, upper_place}
use Rattle.vk_model.specs.Memory.MoveTargets.{Numbered, BlockStart, Resident}
use Rattle.vk_model.specs.Memory.LinearBlocks.{empty_linear, after_lower, after_upper, after_free, others, IsLinearBlock}

-- ---- blocks

-- A block of a pool with its number.
pub record PoolBlock : Type 0 where
  pub number : ℕ
  pub block : Block

-- A pool: what it was made with, its blocks, the oldest first, and the number that its next block gets. Numbers rise and are never used again (VMA, "Custom memory pools"; numbers: profile).
pub record Pool : Type 0 where
  pub info : PoolInfo
  pub blocks : List PoolBlock
  pub next : ℕ

-- The bytes of a block.
abbrev pub block_bytes : Block → ℕ
block_bytes (General size taken) = size
block_bytes (Stack b) = b.size

-- The ranges that are taken in a block.
abbrev pub block_taken : Block → List Taken
block_taken (General size taken) = taken
block_taken (Stack b) = all_taken b

-- The blocks of a pool by their ranges, whatever its algorithm.
abbrev pub numbered_blocks : List PoolBlock → List Numbered
numbered_blocks blocks = map (λ b. record { number = b.number; size = block_bytes b.block; taken = block_taken b.block }) blocks

-- A pool as it is asked for room.
abbrev pub state_of : Pool → PoolState
state_of p = record { info = p.info; blocks = map (λ b. b.block) p.blocks }

-- A pool begins without blocks (profile).
abbrev pub empty_pool : PoolInfo → Pool
empty_pool info = record { info = info; blocks = []; next = 0 }

-- ---- taking

-- A block of which nothing is taken; a linear one may be a ring where its pool has no other (VMA, "Linear allocation algorithm").
abbrev pub empty_block : PoolKind → PoolInfo → Block
empty_block algorithm.Tlsf info = General info.block_size []
empty_block algorithm.Linear info = Stack (empty_linear info.block_size (info.block_limit == 1))

-- The next new block of a pool.
abbrev pub new_block : PoolInfo → Block
new_block info = empty_block info.kind info

-- A block gives a request this start: any where it fits in a block that can be defragmented, its one place in a linear block, from above for an upper request (VMA, "Custom memory pools").
abbrev pub BlockGives : Block → Request → Bool → ℕ → Type 0
BlockGives (General size taken) r upper start = IsTrue (fits taken r 0 size start)
BlockGives (Stack b) r upper start = (if upper then upper_place b r else lower_place b r) ≡ Some start

-- Blocks are tried in rising number, and the first that holds a request gives it a start; where none does, a new block does, with the next number (VMA, "Custom memory pools"; the order: profile).
abbrev pub GivesFrom : PoolInfo → ℕ → List PoolBlock → Request → Bool → BlockStart → Type 0
GivesFrom info next [] r upper s = (s.block ≡ next) × BlockGives (new_block info) r upper s.start
GivesFrom info next (b ∷ bs) r upper s = ((s.block ≡ b.number) × BlockGives b.block r upper s.start) ⊎ ((BlockHolds b.block r upper → ⊥) × GivesFrom info next bs r upper s)

-- A pool gives a request this place; whether a new block is possible is the matter of `NoRoomInPool`.
abbrev pub Gives : Pool → Request → Bool → BlockStart → Type 0
Gives p r upper s = GivesFrom p.info p.next p.blocks r upper s

-- A block when a request has been put at a start.
abbrev pub block_with : Block → Request → Bool → ℕ → Block
block_with (General size taken) r upper start = General size (taken_at start r ∷ taken)
block_with (Stack b) r upper start = Stack (if upper then after_upper b r else after_lower b r)

-- A block, changed where its number is this one.
abbrev pub with_change : (Block → Block) → ℕ → PoolBlock → PoolBlock
with_change change n b = if b.number == n then record b { block = change b.block } else b

-- The blocks when the one of a number is changed.
abbrev pub in_block : (Block → Block) → ℕ → List PoolBlock → List PoolBlock
in_block change n blocks = map (with_change change n) blocks

-- The pool when a request has been put at a place: in a block that it has, or in a new one, which gets the next number (VMA, "Custom memory pools").
abbrev pub pool_with : Pool → Request → Bool → BlockStart → Pool
pool_with p r upper s =
    if s.block == p.next
    then record p { blocks = p.blocks ++ record { number = p.next; block = block_with (new_block p.info) r upper s.start } ∷ []; next = p.next + 1 }
    else record p { blocks = in_block (λ b. block_with b r upper s.start) s.block p.blocks }

-- ---- giving back

-- A block when the range at a start is given back.
abbrev pub block_without : Block → ℕ → Block
block_without (General size taken) start = General size (others start taken)
block_without (Stack b) start = Stack (after_free b start)

-- Whether something is taken in a block.
abbrev pub has_some_taken : PoolBlock → Bool
has_some_taken b = not (is_none_left (block_taken b.block))

-- The pool when the range at a place is given back; a block of which nothing is taken then is given back too, at once (VMA, "Custom memory pools"; at once: profile).
abbrev pub pool_without : Pool → BlockStart → Pool
pool_without p s = record p { blocks = filter has_some_taken (in_block (λ b. block_without b s.start) s.block p.blocks) }

-- ---- what always holds of a pool

-- The ranges of a block have bytes, lie in it and don't conflict.
abbrev pub IsSoundBlock : Block → Type 0
IsSoundBlock (General size taken) = All (λ t. 0 < t.size) taken × IsSound size taken
IsSoundBlock (Stack b) = IsLinearBlock b

-- A pool as it can be: the numbers of its blocks rise and are below the next one, no block is empty, and each is sound (VMA, "Custom memory pools").
pub record IsPool (p : Pool) : Type 0 where
  pub rising : AllPairs (λ b c. b.number < c.number) p.blocks
  pub before_next : All (λ b. b.number < p.next) p.blocks
  pub none_empty : All (λ b. IsTrue (has_some_taken b)) p.blocks
  pub sound : All (λ b. IsSoundBlock b.block) p.blocks

-- ---- resources of a pool

-- A resource is at its place: that range of that block is taken for it.
pub record IsAt (blocks : List Numbered) (a : Resident) : Type 0 where
  pub block : Numbered
  pub there : Contains blocks block
  pub number : block.number ≡ a.from.block
  pub range : Contains block.taken (taken_at a.from.start a.request)

-- One place is higher than another: in a later block, or further on in the same one.
abbrev pub IsHigher : BlockStart → BlockStart → Type 0
IsHigher s t = (t.block < s.block) ⊎ ((s.block ≡ t.block) × (t.start < s.start))

-- Resources are listed by place, from the highest down (VMA, "Defragmentation"; the order: profile).
pub record IsByPlace (residents listed : List Resident) : Type 0 where
  pub same : IsPermutation residents listed
  pub falling : AllPairs (λ a b. IsHigher a.from b.from) listed

-- How many blocks have a lower number.
abbrev pub blocks_below : List Numbered → ℕ → ℕ
blocks_below blocks n = count_by (λ b. nat_lt b.number n) blocks

-- The rank of a place: how many places of 16 bytes are below it in blocks of this size (profile).
abbrev pub rank : ℕ → List Numbered → BlockStart → ℕ
rank size blocks s = blocks_below blocks s.block * (size / 16) + s.start / 16

-- The sum of the ranks of a pool's resources (profile).
abbrev pub rank_sum : ℕ → List Numbered → List Resident → ℕ
rank_sum size blocks residents = sum_by (λ a. rank size blocks a.from) residents

-- ---- statistics

-- The length of the longest range of some block of which no byte is taken; 0 where there is none (VMA, "Statistics").
pub record IsLargestIn (blocks : List Numbered) (largest : ℕ) : Type 0 where
  pub found : (largest ≡ 0) ⊎ Any (λ b. (start : ℕ) × IsTrue (is_free b.size b.taken start largest)) blocks
  pub most : All (λ b. (start n : ℕ) → IsTrue (is_free b.size b.taken start n) → n ≤ largest) blocks

-- How many blocks there are and how many ranges are taken, the bytes of both, and the longest free range; a range that is reserved for a move counts (VMA, "Statistics").
pub record AreStatistics (blocks : List Numbered) (s : Statistics) : Type 0 where
  pub block_count : s.blocks ≡ length blocks
  pub range_count : s.allocations ≡ sum_by (λ b. length b.taken) blocks
  pub range_bytes : s.used ≡ sum_by (λ b. sum_by (λ t. t.size) b.taken) blocks
  pub total_bytes : s.held ≡ sum_by (λ b. b.size) blocks
  pub longest : IsLargestIn blocks s.largest_free
