-- Ranges of a block, taken and free, as slots of nodes.
use Rattle.std.specs.Prelude.{◌≡◌, ℕ, ◌+◌, ◌<◌, ◌≤◌, ◌⊎◌, ◌==◌, List, [], ◌∷◌, ◌++◌, Option, Some, None, get_or, if◌then◌else◌}
use Rattle.vk_nodes.specs.declared.node.Node.{Node}
use Rattle.vk_nodes.specs.declared.node.RangeState.{RangeState}
use Rattle.vk_nodes.specs.declared.node.RangeState.TheVariants as state
use Rattle.vk_model.specs.declared.resource.Kind.TheVariants as kind
use Rattle.vk_model.specs.Memory.Suballocation.{Taken}

-- A range of a block: its bytes, the slots of the ranges before and after it, and what it is.
pub record Range : Type 0 where
  pub start : ℕ
  pub size : ℕ
  pub before : Option ℕ
  pub after : Option ℕ
  pub state : RangeState

-- The range of a node.
abbrev pub range : Node → Range
range n = record { start = n.start; size = n.size; before = n.before; after = n.after; state = n.state }

-- The range that a slot holds, if it has bytes.
abbrev pub range_in : Option Node → Option Range
range_in None = None
range_in (Some n) = if n.size == 0 then None else Some (range n)

-- The range of each slot.
abbrev pub seen : List (Option Node) → ℕ → Option Range
seen nodes slot = range_in (get_or nodes slot None)

-- What is taken by a range.
abbrev pub taken_by : ℕ → ℕ → RangeState → List Taken
taken_by start size state.Free = []
taken_by start size state.Linear = record { start = start; size = size; kind = kind.Linear } ∷ []
taken_by start size state.Optimal = record { start = start; size = size; kind = kind.Optimal } ∷ []

-- What is taken by a range, if there is one.
abbrev pub taken_here : Option Range → List Taken
taken_here None = []
taken_here (Some r) = taken_by r.start r.size r.state

-- What is taken by all slots.
abbrev pub taken_in : List (Option Node) → List Taken
taken_in [] = []
taken_in (x ∷ xs) = taken_here (range_in x) ++ taken_in xs

-- Two ranges have no byte in common.
abbrev pub AreApart : Range → Range → Type 0
AreApart r q = (r.start + r.size ≤ q.start) ⊎ (q.start + q.size ≤ r.start)

-- The slot holds the range that follows another by place; not both are free.
pub record Follows (f : ℕ → Option Range) (slot : ℕ) (r : Range) (next : ℕ) : Type 0 where
  pub range : Range
  pub there : f next ≡ Some range
  pub back : range.before ≡ Some slot
  pub touches : range.start ≡ r.start + r.size
  pub not_both : r.state ≡ state.Free → range.state ≡ state.Free → ⊥

-- The slot holds a range that another follows.
pub record Leads (f : ℕ → Option Range) (slot before : ℕ) : Type 0 where
  pub range : Range
  pub there : f before ≡ Some range
  pub on : range.after ≡ Some slot

-- What a slot holds is a range of the block, between those that it names.
pub record IsLinked (size : ℕ) (f : ℕ → Option Range) (slot : ℕ) (r : Range) : Type 0 where
  pub some : 0 < r.size
  pub inside : r.start + r.size ≤ size
  pub last : r.after ≡ None → r.start + r.size ≡ size
  pub after : (next : ℕ) → r.after ≡ Some next → Follows f slot r next
  pub first : r.before ≡ None → r.start ≡ 0
  pub before : (previous : ℕ) → r.before ≡ Some previous → Leads f slot previous

-- The ranges of slots follow one another from the start of the block to its end.
pub record IsChain (size first : ℕ) (f : ℕ → Option Range) : Type 0 where
  pub begin : Range
  pub begin_there : f first ≡ Some begin
  pub begin_start : begin.start ≡ 0
  pub linked : (slot : ℕ) (r : Range) → f slot ≡ Some r → IsLinked size f slot r
  pub apart : (i j : ℕ) (r q : Range) → f i ≡ Some r → f j ≡ Some q → (i ≡ j → ⊥) → AreApart r q

-- The range after is taken, if there is one.
abbrev pub AfterNotFree : (ℕ → Option Range) → Range → Type 0
AfterNotFree f r = (j : ℕ) (q : Range) → r.after ≡ Some j → f j ≡ Some q → q.state ≡ state.Free → ⊥

-- The range before is taken, if there is one.
abbrev pub BeforeNotFree : (ℕ → Option Range) → Range → Type 0
BeforeNotFree f r = (j : ℕ) (q : Range) → r.before ≡ Some j → f j ≡ Some q → q.state ≡ state.Free → ⊥
