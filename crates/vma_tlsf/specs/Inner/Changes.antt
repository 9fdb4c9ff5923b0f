-- What taking and giving back do with the ranges of a block.
use Rattle.std.specs.Prelude.{◌≡◌, ℕ, ◌+◌, ◌<◌, ◌≤◌, ◌^◌, List, [], ◌∷◌, Option, Some, None, IsPermutation}
use Rattle.vk_nodes.specs.declared.node.Node.{Node}
use Rattle.vk_nodes.specs.declared.node.RangeState.{RangeState}
use Rattle.vk_nodes.specs.declared.node.RangeState.TheVariants as state
use Rattle.vk_model.specs.Memory.Suballocation.{Taken}
use Rattle.vma_tlsf.specs.Inner.Chain.{Range, seen, IsChain, AfterNotFree, taken_here, taken_in}
use Rattle.vma_tlsf.specs.Inner.Steps.{IsHeld, KeepsOthers, KeepsHeld}

-- The slots have the ranges of some block.
abbrev pub HasChain : List (Option Node) → Type 0
HasChain nodes = (whole : ℕ) × (root : ℕ) × (whole < 2 ^ 62) × IsChain whole root (seen nodes)

-- The ranges of a block stay such.
abbrev pub KeepsChain : List (Option Node) → List (Option Node) → Type 0
KeepsChain old new = (whole root : ℕ) → IsChain whole root (seen old) → IsChain whole root (seen new)

-- A slot is held, and has no range.
abbrev pub IsFresh : List (Option Node) → ℕ → Type 0
IsFresh nodes slot = IsHeld nodes slot × (seen nodes slot ≡ None)

-- Fresh slots but one stay fresh.
abbrev pub KeepsFresh : List (Option Node) → List (Option Node) → ℕ → Type 0
KeepsFresh old new fresh = (i : ℕ) → (i ≡ fresh → ⊥) → IsFresh old i → IsFresh new i

-- A free range is taken from a place on, at some slot.
pub record IsFrontCut (old new : List (Option Node)) (node : Node) (start slot fresh : ℕ) (kind : RangeState) : Type 0 where
  pub chain : KeepsChain old new
  pub range : Range
  pub there : seen new slot ≡ Some range
  pub begins : range.start ≡ start
  pub ends : range.start + range.size ≡ node.start + node.size
  pub state : range.state ≡ kind
  pub next : AfterNotFree (seen new) range
  pub others : KeepsOthers old new slot
  pub none : taken_here (seen old slot) ≡ []
  pub held : KeepsHeld old new fresh
  pub rest_held : node.start < start → slot ≡ fresh
  pub rest_fresh : KeepsFresh old new fresh

-- A taken range ends after some bytes, and what was behind is free.
pub record IsBackCut (old new : List (Option Node)) (node : Node) (slot fresh size : ℕ) : Type 0 where
  pub chain : KeepsChain old new
  pub range : Range
  pub there : seen new slot ≡ Some range
  pub begins : range.start ≡ node.start
  pub long : range.size ≡ size
  pub state : range.state ≡ node.state
  pub others : KeepsOthers old new slot
  pub held : KeepsHeld old new fresh
  pub rest_held : size < node.size → IsHeld new fresh

-- One range more is taken.
pub record TakesMore (old new : List (Option Node)) (t : Taken) : Type 0 where
  pub chain : KeepsChain old new
  pub more : IsPermutation (taken_in new) (t ∷ taken_in old)

-- The range of a slot is free, where it was taken.
pub record IsReleased (old new : List (Option Node)) (slot : ℕ) : Type 0 where
  pub chain : KeepsChain old new
  pub less : (t : Taken) → taken_here (seen old slot) ≡ t ∷ [] → IsPermutation (taken_in old) (t ∷ taken_in new)

-- Where a request is put: in a free range.
pub record IsPlaceIn (nodes : List (Option Node)) (slot start size : ℕ) : Type 0 where
  pub range : Range
  pub there : seen nodes slot ≡ Some range
  pub free : range.state ≡ state.Free
  pub from : range.start ≤ start
  pub to : start + size ≤ range.start + range.size

-- A slot has a taken range.
pub record IsTakenIn (nodes : List (Option Node)) (slot : ℕ) : Type 0 where
  pub range : Range
  pub there : seen nodes slot ≡ Some range
  pub taken : range.state ≡ state.Free → ⊥

-- The range after that of a slot is taken.
abbrev pub IsNextTaken : List (Option Node) → ℕ → Type 0
IsNextTaken nodes slot = (r : Range) → seen nodes slot ≡ Some r → AfterNotFree (seen nodes) r

-- A taken range reaches to the next taken one; what else is taken stays.
pub record IsJoinedAfter (old new : List (Option Node)) (slot : ℕ) : Type 0 where
  pub chain : KeepsChain old new
  pub there : IsTakenIn new slot
  pub next : IsNextTaken new slot
  pub others : KeepsOthers old new slot

-- A taken range is free; what else is taken stays.
pub record IsFreed (old new : List (Option Node)) (slot : ℕ) : Type 0 where
  pub chain : KeepsChain old new
  pub others : KeepsOthers old new slot
  pub none : taken_here (seen new slot) ≡ []
