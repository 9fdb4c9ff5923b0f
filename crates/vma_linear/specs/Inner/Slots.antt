-- A list of ranges of which some were given back, as slots.
use Rattle.std.specs.Prelude.{◌≡◌, ℕ, ◌-◌, ◌<◌, ◌≤◌, List, map, length, slice_index_or, Bool, true, false, nat_lt, AllPairs}
use Rattle.std.specs.List.{filter}
use Rattle.vk_model.specs.Memory.Suballocation.{Taken}
use Rattle.vma_linear.specs.declared.slots.Slot.{Slot}
use Rattle.vma_linear.specs.declared.slots.Direction.{Direction}
use Rattle.vma_linear.specs.declared.slots.Direction.TheVariants.{Up, Down}

-- The range of a slot.
abbrev pub range_of : Slot → Taken
range_of s = record { start = s.start; size = s.size; kind = s.kind }

-- The ranges of the slots that are live, in their order.
abbrev pub ranges_of : List Slot → List Taken
ranges_of slots = map range_of (filter (λ s. s.live) slots)

-- Whether what starts at one place comes before what starts at another.
abbrev pub comes_before : Direction → ℕ → ℕ → Bool
comes_before Up one other = nat_lt one other
comes_before Down one other = nat_lt other one

-- Each slot comes before all later ones.
abbrev pub IsOrdered : Direction → List Slot → Type 0
IsOrdered direction slots = AllPairs (λ s t. comes_before direction s.start t.start ≡ true) slots

-- The slots before a place come before what starts here, and the others don't.
pub record IsPlaceOf (direction : Direction) (slots : List Slot) (start place : ℕ) : Type 0 where
  pub within : place ≤ length slots
  pub before : (k : ℕ) (d : Slot) → k < place → comes_before direction (slice_index_or slots k d).start start ≡ true
  pub after : (k : ℕ) (d : Slot) → place ≤ k → k < length slots → comes_before direction (slice_index_or slots k d).start start ≡ false

-- The slots of a list: in order, those before `head` given back, and the first and the last of the others live.
pub record AreSlots (direction : Direction) (slots : List Slot) (head live : ℕ) : Type 0 where
  pub ordered : IsOrdered direction slots
  pub front : (k : ℕ) (d : Slot) → k < head → (slice_index_or slots k d).live ≡ false
  pub within : 0 < length slots → head < length slots
  pub first : (d : Slot) → 0 < length slots → (slice_index_or slots head d).live ≡ true
  pub last : (d : Slot) → 0 < length slots → (slice_index_or slots (length slots - 1) d).live ≡ true
  pub count : live ≡ length (ranges_of slots)
  pub start : length slots ≡ 0 → head ≡ 0

-- What contracts see of a list of ranges.
pub record Ranges : Type 0 where
  pub direction : Direction
  pub taken : List Taken
