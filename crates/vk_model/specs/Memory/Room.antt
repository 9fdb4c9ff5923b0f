-- When an allocation finds no room.
use Rattle.std.specs.Prelude.{ℕ, suc, ◌+◌, ◌%◌, List, [], ◌∷◌, ◌++◌, length, Bool, not, ◌&&◌, ◌||◌, ◌==◌, nat_lt, nat_le, max, if◌then◌else◌, Option, None, is_some, IsTrue, All, reverse}
use Rattle.std.specs.List.{list_any, find}
use Rattle.std.specs.Option.{option_or}
use Rattle.vk_model.specs.declared.resource.PoolInfo.{PoolInfo}
use Rattle.vk_model.specs.Memory.Suballocation.{Taken, Request, conflict}
use Rattle.vk_model.specs.Trace.Objects.{Resource}
use Rattle.vk_model.specs.Basics.{below}

-- ---- places in a block

-- What a resource asks of a block: on type 2 an alignment of at least 64, so that no two buffers share an atom (Vulkan, "Resource Memory Association"; 64: profile).
abbrev pub request_of : Resource → ℕ → Request
request_of r t = record { size = r.size; align = if t == 2 then max 64 r.align else r.align; kind = r.kind }

-- Whether a request fits at a start between two bounds: aligned, and with no conflict with a taken range (Vulkan, "Resource Memory Association"; VMA, "Custom memory pools").
abbrev pub fits : List Taken → Request → ℕ → ℕ → ℕ → Bool
fits taken r low high start = start % r.align == 0 && nat_le low start && nat_le (start + r.size) high
    && not (list_any (λ t. conflict r.kind start r.size t.kind t.start t.size) taken)

-- A block of a pool that can be defragmented holds a request where it fits anywhere (VMA, "Custom memory pools").
abbrev pub CanHold : ℕ → List Taken → Request → Type 0
CanHold size taken r = (start : ℕ) × IsTrue (fits taken r 0 size start)

-- The lowest place between two bounds.
abbrev pub lowest : List Taken → Request → ℕ → ℕ → Option ℕ
lowest taken r low high = find (fits taken r low high) (below (suc high))

-- The highest place between two bounds.
abbrev pub highest : List Taken → Request → ℕ → ℕ → Option ℕ
highest taken r low high = find (fits taken r low high) (reverse (below (suc high)))

-- ---- linear blocks: a stack, a ring, or stacks from both ends

-- A linear block: its size, whether it may be a ring (its pool has one block), and the ranges of its lower stack, of those that went round to the start, and of its upper stack, each in the order in which they were taken (VMA, "Linear allocation algorithm").
pub record Linear : Type 0 where
  pub size : ℕ
  pub ring : Bool
  pub lower : List Taken
  pub wrapped : List Taken
  pub upper : List Taken

-- The end of the last range, or else e.
abbrev pub end_after : ℕ → List Taken → ℕ
end_after e [] = e
end_after e (t ∷ ts) = end_after (t.start + t.size) ts

-- The start of the first range, or else d.
abbrev pub first_start : ℕ → List Taken → ℕ
first_start d [] = d
first_start d (t ∷ ts) = t.start

-- The start of the last range, or else d.
abbrev pub last_start : ℕ → List Taken → ℕ
last_start d [] = d
last_start d (t ∷ ts) = last_start t.start ts

-- All ranges of a linear block.
abbrev pub all_taken : Linear → List Taken
all_taken b = b.lower ++ b.wrapped ++ b.upper

-- Whether there is no range.
abbrev pub is_none_left : List Taken → Bool
is_none_left ts = length ts == 0

-- The place on the lower stack: the lowest after its last range and below the upper stack (VMA, "Linear allocation algorithm", on stacks).
abbrev pub stack_place : Linear → Request → Option ℕ
stack_place b r = if is_none_left b.wrapped then lowest (all_taken b) r (end_after 0 b.lower) (last_start b.size b.upper) else None

-- The place at the start of a ring: the lowest after what went round and below the lower stack's first range (VMA, "Linear allocation algorithm", on ring buffers).
abbrev pub ring_place : Linear → Request → Option ℕ
ring_place b r =
    if b.ring && is_none_left b.upper && not (is_none_left b.lower)
    then lowest (all_taken b) r (end_after 0 b.wrapped) (first_start 0 b.lower)
    else None

-- The place of a lower request: on the stack, or else at the start of a ring (VMA, "Linear allocation algorithm").
abbrev pub lower_place : Linear → Request → Option ℕ
lower_place b r = option_or (stack_place b r) (ring_place b r)

-- The place of an upper request: the highest below the upper stack and after the lower one (VMA, "Linear allocation algorithm", on double stacks).
abbrev pub upper_place : Linear → Request → Option ℕ
upper_place b r = if is_none_left b.wrapped then highest (all_taken b) r (end_after 0 b.lower) (last_start b.size b.upper) else None

-- ---- pools and heaps

-- A block of a pool: one that can be defragmented, with its size and what is taken, or a linear one.
pub data Block : Type 0 where
  General : (size : ℕ) → List Taken → Block
  Stack : Linear → Block

-- A block holds a request, or one for its upper end.
abbrev pub BlockHolds : Block → Request → Bool → Type 0
BlockHolds (General size taken) r upper = CanHold size taken r
BlockHolds (Stack b) r upper = IsTrue (is_some (if upper then upper_place b r else lower_place b r))

-- The heaps: the size and the use of each, and how many memory objects there are (Vulkan, "Device Memory").
pub record Heaps : Type 0 where
  pub limit : ℕ → ℕ
  pub used : ℕ → ℕ
  pub objects : ℕ

-- The heap of a memory type (Vulkan, "Device Memory", on `VkMemoryType`; which: profile).
abbrev pub heap_of : ℕ → ℕ
heap_of t = if t == 0 then 0 else 1

-- Whether no memory object of this type and size can be made: its heap would be passed, or 4,096 objects are live (Vulkan, "Device Memory", on `maxMemoryAllocationCount`; the number: profile).
abbrev pub no_object : Heaps → ℕ → ℕ → Bool
no_object h t size = nat_lt (h.limit (heap_of t)) (h.used (heap_of t) + size) || nat_le 4096 h.objects

-- A pool: what it was made with, and its blocks (VMA, "Custom memory pools").
pub record PoolState : Type 0 where
  pub info : PoolInfo
  pub blocks : List Block

-- A pool has no room for a request: no block holds it, and a new one isn't possible (VMA, "Custom memory pools").
pub record NoRoomInPool (h : Heaps) (p : PoolState) (r : Request) (upper : Bool) : Type 0 where
  pub none_holds : All (λ b. BlockHolds b r upper → ⊥) p.blocks
  pub no_new : IsTrue (nat_le p.info.block_limit (length p.blocks) || no_object h p.info.memory_type p.info.block_size)
