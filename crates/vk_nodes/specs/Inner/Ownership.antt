-- What a block of slots owns, and what it lends.
use Rattle.std.specs.Prelude.{ℕ, ◌^◌, List}
use base.Fraction.{full_share}
use base.Fml.{Lft, Fml, flt, fsep}
use mir.Syntax.{Ty, ty_array}
use denote.Array.{Array}
use denote.Memory.{lone}
use denote.RawPtr.{Ptr, lies_at}
use denote.Sharing.{said, beside}
use denote.Struct.Lending.{lent_at}
use Rattle.vk_nodes.specs.declared.slot.Slot.{Slot}
use Rattle.vk_nodes.specs.contracts.slot.Slot.{the_row}

-- The type that a block of n slots is allocated for.
abbrev pub slots_type : ℕ → Ty
slots_type n = ty_array (lone the_row.mir) n

-- A block can have so many slots.
abbrev pub fits : ℕ → Fml
fits n = flt n (2 ^ 32)

-- The n slots at p are xs.
abbrev pub slots_at : Ptr → ℕ → List Slot → Fml
slots_at p n xs = fsep (fits n) (lies_at (Array the_row n) full_share p xs)

-- What a `&` to the block holds.
abbrev pub slots_lent : Ptr → ℕ → List Slot → Lft → Fml
slots_lent p n xs = beside (said (fits n)) (lent_at (Array the_row n) p xs)
