-- How a linear block changes when ranges of it are taken and given back.
use Rattle.std.specs.Prelude.{◌≡◌, ℕ, ◌+◌, ◌<◌, ◌≤◌, List, [], ◌∷◌, ◌++◌, Bool, true, false, not, ◌==◌, if◌then◌else◌, Option, Some, None, All}
use Rattle.std.specs.List.{filter}
use Rattle.vk_model.specs.Memory.Suballocation.{Taken, Request, IsSound, taken_at}
use Rattle.vk_model.specs.Memory.Room.{Linear, all_taken, is_none_left, last_start, stack_place, ring_place, upper_place}

-- A block of which nothing is taken (VMA, "Linear allocation algorithm").
abbrev pub empty_linear : ℕ → Bool → Linear
empty_linear size ring = record { size = size; ring = ring; lower = []; wrapped = []; upper = [] }

-- ---- taking

-- The block with one more range: on its lower stack where there is a place on it, else after those that went round to the start; as it was where there is no place.
abbrev pub with_lower : Linear → Request → Option ℕ → Option ℕ → Linear
with_lower b r (Some start) round = record b { lower = b.lower ++ taken_at start r ∷ [] }
with_lower b r None (Some start) = record b { wrapped = b.wrapped ++ taken_at start r ∷ [] }
with_lower b r None None = b

-- The block after a lower request (VMA, "Linear allocation algorithm", on stacks and ring buffers).
abbrev pub after_lower : Linear → Request → Linear
after_lower b r = with_lower b r (stack_place b r) (ring_place b r)

-- The block with one more range on its upper stack; as it was where there is no place.
abbrev pub with_upper : Linear → Request → Option ℕ → Linear
with_upper b r (Some start) = record b { upper = b.upper ++ taken_at start r ∷ [] }
with_upper b r None = b

-- The block after an upper request (VMA, "Linear allocation algorithm", on double stacks).
abbrev pub after_upper : Linear → Request → Linear
after_upper b r = with_upper b r (upper_place b r)

-- ---- giving back

-- The ranges that don't start here.
abbrev pub others : ℕ → List Taken → List Taken
others start taken = filter (λ t. not (t.start == start)) taken

-- When nothing is left of the lower stack, what went round to the start becomes the lower stack (VMA, "Linear allocation algorithm", on ring buffers).
abbrev pub lower_from_wrapped : Linear → Linear
lower_from_wrapped b = if is_none_left b.lower then record b { lower = b.wrapped; wrapped = [] } else b

-- The block when the range at this start is given back (VMA, "Linear allocation algorithm").
abbrev pub after_free : Linear → ℕ → Linear
after_free b start = lower_from_wrapped (record b { lower = others start b.lower; wrapped = others start b.wrapped; upper = others start b.upper })

-- ---- what always holds of a linear block

-- Each range starts at or after the end of the one before it, the first at or after one bound, and the last ends at or before the other.
abbrev pub Rises : ℕ → List Taken → ℕ → Type 0
Rises low [] high = low ≤ high
Rises low (t ∷ ts) high = (low ≤ t.start) × Rises (t.start + t.size) ts high

-- Each range ends at or before the start of the one before it, the first at or before one bound, and the last starts at or after the other.
abbrev pub Falls : ℕ → List Taken → ℕ → Type 0
Falls high [] low = low ≤ high
Falls high (t ∷ ts) low = (t.start + t.size ≤ high) × Falls t.start ts low

-- A linear block as it can be: its ranges have bytes, lie in it and don't conflict; what went round, the lower and the upper stack follow each other, the upper one from its last range up; and only in a ring with a lower and no upper stack do ranges go round (VMA, "Linear allocation algorithm").
pub record IsLinearBlock (b : Linear) : Type 0 where
  pub sized : All (λ t. 0 < t.size) (all_taken b)
  pub sound : IsSound b.size (all_taken b)
  pub rises : Rises 0 (b.wrapped ++ b.lower) (last_start b.size b.upper)
  pub falls : Falls b.size b.upper 0
  pub round : is_none_left b.wrapped ≡ false → (b.ring ≡ true) × (is_none_left b.lower ≡ false) × (is_none_left b.upper ≡ true)
