-- The bytes between two ranges that others may take, and the lowest and the highest place in them.
use Rattle.std.specs.Prelude.{ℕ, ◌+◌, ◌-◌, ◌*◌, ◌/◌, ◌&&◌, nat_le, List, [], ◌∷◌, Option, Some, None, if◌then◌else◌}
use Rattle.vk_model.specs.declared.resource.Kind.{Kind}
use Rattle.vk_model.specs.Basics.{round_up}
use Rattle.vk_model.specs.Memory.Suballocation.{Taken, same_kind}

-- The first byte that a resource of a kind may take after a range: the next one, or else that of the next page (Vulkan, "Resource Memory Association"; the page's 1,024 bytes: profile).
abbrev pub free_from : Kind → Option Taken → ℕ
free_from kind None = 0
free_from kind (Some t) = if same_kind t.kind kind then t.start + t.size else round_up (t.start + t.size) 1024

-- The byte after the last one that a resource of a kind may take before a range; without one, at the end of the block.
abbrev pub free_to : ℕ → Kind → Option Taken → ℕ
free_to size kind None = size
free_to size kind (Some t) = if same_kind kind t.kind then t.start else t.start / 1024 * 1024

-- The lowest multiple of the alignment from which on n bytes lie in a gap.
abbrev pub lowest_in : ℕ → ℕ → ℕ → ℕ → Option ℕ
lowest_in from to n align = if nat_le (round_up from align + n) to then Some (round_up from align) else None

-- The highest multiple of the alignment from which on n bytes lie in a gap.
abbrev pub highest_in : ℕ → ℕ → ℕ → ℕ → Option ℕ
highest_in from to n align = if nat_le n to && nat_le from ((to - n) / align * align) then Some ((to - n) / align * align) else None

-- The last range, where there is one.
abbrev pub last_after : Option Taken → List Taken → Option Taken
last_after o [] = o
last_after o (t ∷ ts) = last_after (Some t) ts

-- The first range, where there is one.
abbrev pub first_of : List Taken → Option Taken
first_of [] = None
first_of (t ∷ ts) = Some t
