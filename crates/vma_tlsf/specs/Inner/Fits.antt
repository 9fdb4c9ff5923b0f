-- Where a request fits in a free range.
use Rattle.std.specs.Prelude.{◌≡◌, ℕ, ◌+◌, ◌*◌, ◌/◌, ◌<◌, ◌≤◌, ◌^◌, Bool, true, false, List, Option, Some, None, IsTrue, get_or, if◌then◌else◌}
use Rattle.vk_nodes.specs.declared.node.Node.{Node}
use Rattle.vk_nodes.specs.declared.node.RangeState.{RangeState}
use Rattle.vk_nodes.specs.declared.node.RangeState.TheVariants as state
use Rattle.vk_model.specs.declared.resource.Kind.{Kind}
use Rattle.vk_model.specs.declared.resource.Kind.TheVariants as kind
use Rattle.vk_model.specs.Memory.Suballocation.{Request}
use Rattle.vk_model.specs.Memory.Room.{fits}
use Rattle.vma_tlsf.specs.Block.{is_sound}
use Rattle.vma_tlsf.specs.Inner.Changes.{IsPlaceIn}
use Rattle.vma_tlsf.specs.Inner.Chain.{Range, seen, IsChain, taken_in}

-- Whether a range is taken by a resource of the other kind.
abbrev pub is_other : RangeState → Kind → Bool
is_other state.Free k = false
is_other state.Linear kind.Linear = false
is_other state.Linear kind.Optimal = true
is_other state.Optimal kind.Linear = true
is_other state.Optimal kind.Optimal = false

-- Whether there is a range that is taken by a resource of the other kind.
abbrev pub other_in : Option Range → Kind → Bool
other_in None k = false
other_in (Some q) k = is_other q.state k

-- Whether the slot has such a range.
abbrev pub other_at : (ℕ → Option Range) → Option ℕ → Kind → Bool
other_at f None k = false
other_at f (Some j) k = other_in (f j) k

-- Where a resource of a kind may start in a free range: after the page of a neighbour of the other kind (Vulkan, "Resource Memory Association"; the page's 1,024 bytes: profile).
abbrev pub low_of : (ℕ → Option Range) → Range → Kind → ℕ
low_of f r k = if other_at f r.before k then (r.start + 1023) / 1024 * 1024 else r.start

-- Where it must end: before the page of a neighbour of the other kind (Vulkan, "Resource Memory Association"; the page's 1,024 bytes: profile).
abbrev pub high_of : (ℕ → Option Range) → Range → Kind → ℕ
high_of f r k = if other_at f r.after k then (r.start + r.size) / 1024 * 1024 else r.start + r.size

-- The slots have the ranges of a block, and what is taken is sound.
pub record IsBlock (whole root : ℕ) (nodes : List (Option Node)) : Type 0 where
  pub bound : whole < 2 ^ 62
  pub chain : IsChain whole root (seen nodes)
  pub sound : is_sound whole (taken_in nodes) ≡ true

-- They are those of some block that reaches as far.
abbrev pub HasBlock : List (Option Node) → ℕ → Type 0
HasBlock nodes limit = (whole : ℕ) × (root : ℕ) × IsBlock whole root nodes × (limit ≤ whole)

-- The node is that of a slot, has bytes, and is free.
abbrev pub IsFreeNode : List (Option Node) → Node → Type 0
IsFreeNode nodes node = (slot : ℕ) × (get_or nodes slot None ≡ Some node) × (0 < node.size) × (node.state ≡ state.Free)

-- The lowest start in a free range at which a request fits, if there is one.
pub record IsLowestIn (nodes : List (Option Node)) (node : Node) (r : Request) (limit : ℕ) (found : Option ℕ) : Type 0 where
  pub fitting : (start : ℕ) → found ≡ Some start → IsTrue (fits (taken_in nodes) r 0 limit start)
  pub from : (start : ℕ) → found ≡ Some start → node.start ≤ start
  pub to : (start : ℕ) → found ≡ Some start → start + r.size ≤ node.start + node.size
  pub lowest : (start other : ℕ) → found ≡ Some start → node.start ≤ other → other < start → IsTrue (fits (taken_in nodes) r 0 limit other) → ⊥
  pub none : found ≡ None → (other : ℕ) → node.start ≤ other → other < node.start + node.size → IsTrue (fits (taken_in nodes) r 0 limit other) → ⊥

-- A request fits at a start, in the free range of a slot.
pub record IsPlaceFor (nodes : List (Option Node)) (r : Request) (limit slot start : ℕ) : Type 0 where
  pub fitting : IsTrue (fits (taken_in nodes) r 0 limit start)
  pub place : IsPlaceIn nodes slot start r.size

-- The slots have the ranges of a block that reaches as far, from this slot on.
abbrev pub HasBlockFrom : List (Option Node) → ℕ → ℕ → Type 0
HasBlockFrom nodes root limit = (whole : ℕ) × IsBlock whole root nodes × (limit ≤ whole)

-- A request fits at no lower start.
abbrev pub NoneBelow : List (Option Node) → Request → ℕ → ℕ → Type 0
NoneBelow nodes r limit start = (other : ℕ) → other < start → IsTrue (fits (taken_in nodes) r 0 limit other) → ⊥

-- The slot has a range, before which a request fits nowhere.
abbrev pub NoneBefore : List (Option Node) → Request → ℕ → ℕ → Type 0
NoneBefore nodes r limit slot = (q : Range) × (seen nodes slot ≡ Some q) × NoneBelow nodes r limit q.start

-- The node is that of a slot, and has bytes.
abbrev pub IsNodeOf : List (Option Node) → Node → Type 0
IsNodeOf nodes node = (slot : ℕ) × (get_or nodes slot None ≡ Some node) × (0 < node.size)

-- The slot has a range.
abbrev pub IsLive : List (Option Node) → ℕ → Type 0
IsLive nodes slot = (r : Range) × (seen nodes slot ≡ Some r)

-- The slots have the ranges of some block, which has this byte.
abbrev pub HasByte : List (Option Node) → ℕ → Type 0
HasByte nodes byte = (whole : ℕ) × (root : ℕ) × (whole < 2 ^ 62) × IsChain whole root (seen nodes) × (byte < whole)

-- The range of the slot has this byte.
abbrev pub IsSlotOf : List (Option Node) → ℕ → ℕ → Type 0
IsSlotOf nodes slot byte = (r : Range) × (seen nodes slot ≡ Some r) × (r.start ≤ byte) × (byte < r.start + r.size)

-- The range of the slot starts here.
abbrev pub IsSlotAt : List (Option Node) → ℕ → ℕ → Type 0
IsSlotAt nodes slot start = (r : Range) × (seen nodes slot ≡ Some r) × (r.start ≡ start)

-- The range of the slot starts before here.
abbrev pub StartsBelow : List (Option Node) → ℕ → ℕ → Type 0
StartsBelow nodes slot start = (r : Range) × (seen nodes slot ≡ Some r) × (r.start < start)

-- The free range of a whole block.
abbrev pub whole_node : ℕ → Node
whole_node size = record { start = 0; size = size; before = None; after = None; previous_free = None; next_free = None; state = state.Free }

-- What a state gives of a size: all where it is free.
abbrev pub free_part : RangeState → ℕ → ℕ
free_part state.Free n = n
free_part state.Linear n = 0
free_part state.Optimal n = 0

-- The bytes of a free range, and none of a taken one.
abbrev pub free_size : Range → ℕ
free_size r = free_part r.state r.size
