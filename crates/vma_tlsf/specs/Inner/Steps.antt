-- What single steps do with the ranges of a block.
use Rattle.std.specs.Prelude.{◌≡◌, ℕ, ◌+◌, ◌-◌, List, Option, Some, None, MatchOption, IsSome, get_or}
use Rattle.vk_nodes.specs.declared.node.Node.{Node}
use Rattle.vk_nodes.specs.declared.node.RangeState.{RangeState}
use Rattle.vma_tlsf.specs.Inner.Chain.{Range, seen, taken_here}

-- Each slot that held a node holds one, and all have their ranges: only the links of lists by size may be others.
pub record AreAlike (old new : List (Option Node)) : Type 0 where
  pub ranges : (slot : ℕ) → seen new slot ≡ seen old slot
  pub held : (slot : ℕ) → IsSome (get_or old slot None) → IsSome (get_or new slot None)

-- A slot holds some node.
abbrev pub IsHeld : List (Option Node) → ℕ → Type 0
IsHeld nodes slot = IsSome (get_or nodes slot None)

-- The slot of the range after is held, and is another than two slots.
abbrev pub IsAfterHeld : List (Option Node) → Node → ℕ → ℕ → Type 0
IsAfterHeld nodes node slot other = MatchOption node.after (Unit {0}) (λ j. IsHeld nodes j × (j ≡ slot → ⊥) × (j ≡ other → ⊥))

-- The slot of the range after, if there is one, has another slot before it; all others stay.
pub record IsRelinked (old new : List (Option Node)) (after : Option ℕ) (before : ℕ) : Type 0 where
  pub next : (j : ℕ) (n : Node) → after ≡ Some j → get_or old j None ≡ Some n → get_or new j None ≡ Some (record n { before = Some before })
  pub others : (i : ℕ) → (after ≡ Some i → ⊥) → get_or new i None ≡ get_or old i None

-- The range of a slot ends after some bytes, and that of a fresh slot begins there.
pub record IsSplit (f g : ℕ → Option Range) (slot fresh : ℕ) (r : Range) (size : ℕ) (front back : RangeState) : Type 0 where
  pub front_there : g slot ≡ Some (record { start = r.start; size = size; before = r.before; after = Some fresh; state = front })
  pub back_there : g fresh ≡ Some (record { start = r.start + size; size = r.size - size; before = Some slot; after = r.after; state = back })
  pub next : (j : ℕ) → r.after ≡ Some j → (q : Range) → f j ≡ Some q → g j ≡ Some (record q { before = Some fresh })
  pub others : (i : ℕ) → (i ≡ slot → ⊥) → (i ≡ fresh → ⊥) → (r.after ≡ Some i → ⊥) → g i ≡ f i

-- The range of a slot reaches to the end of the next one, whose slot holds nothing.
pub record IsMerged (f g : ℕ → Option Range) (slot gone : ℕ) (r last : Range) (state : RangeState) : Type 0 where
  pub there : g slot ≡ Some (record { start = r.start; size = r.size + last.size; before = r.before; after = last.after; state = state })
  pub none : g gone ≡ None
  pub next : (j : ℕ) → last.after ≡ Some j → (q : Range) → f j ≡ Some q → g j ≡ Some (record q { before = Some slot })
  pub others : (i : ℕ) → (i ≡ slot → ⊥) → (i ≡ gone → ⊥) → (last.after ≡ Some i → ⊥) → g i ≡ f i

-- The range of a slot is of another state.
pub record IsPainted (f g : ℕ → Option Range) (slot : ℕ) (r : Range) (state : RangeState) : Type 0 where
  pub there : g slot ≡ Some (record r { state = state })
  pub others : (i : ℕ) → (i ≡ slot → ⊥) → g i ≡ f i

-- What is taken by all slots but one stays.
abbrev pub KeepsOthers : List (Option Node) → List (Option Node) → ℕ → Type 0
KeepsOthers old new slot = (i : ℕ) → (i ≡ slot → ⊥) → taken_here (seen new i) ≡ taken_here (seen old i)

-- Each slot but one that held a node holds one.
abbrev pub KeepsHeld : List (Option Node) → List (Option Node) → ℕ → Type 0
KeepsHeld old new slot = (i : ℕ) → (i ≡ slot → ⊥) → IsHeld old i → IsHeld new i
