-- A block that can be defragmented, as contracts see it.
use Rattle.std.specs.Prelude.{◌≡◌, ℕ, Bool, true, false, ◌+◌, ◌<◌, ◌&&◌, not, nat_le, List, [], ◌∷◌, if◌then◌else◌}
use Rattle.std.specs.List.{list_any}
use Rattle.vk_model.specs.Memory.Suballocation.{Taken, Request, conflict}
use Rattle.vk_model.specs.Memory.Room.{fits}

-- The size of a block in bytes, and what is taken of it (VMA, "Virtual allocator").
pub record Block : Type 0 where
  pub size : ℕ
  pub taken : List Taken

-- Whether each range lies in the block, and no two conflict (VMA, "Virtual allocator").
abbrev pub is_sound : ℕ → List Taken → Bool
is_sound size [] = true
is_sound size (t ∷ ts) = nat_le (t.start + t.size) size && not (list_any (λ u. conflict t.kind t.start t.size u.kind u.start u.size) ts) && is_sound size ts

-- What is taken of a block; nothing of what no block can be (profile).
abbrev pub taken : Block → List Taken
taken b = if is_sound b.size b.taken then b.taken else []

-- A request fits nowhere below a start, in a block of this size of which these ranges are taken: a search may begin there (VMA, "Defragmentation"; what a search begins at: profile).
abbrev pub IsExhaustedBelow : ℕ → List Taken → Request → ℕ → Type 0
IsExhaustedBelow size taken r low = (start : ℕ) → start < low → fits taken r 0 size start ≡ false
