-- The text of a mask: the names of its bits. The format is our own (profile).
use Rattle.std.specs.Prelude.{ℕ, ◌-◌, ◌^◌, Bool, true, false, List, [], ◌∷◌, ◌++◌, ◌==◌, if◌then◌else◌, codes}
use Rattle.std.specs.Int.RustNames.{bit_and}
use Rattle.std.specs.Fmt.{digits}
use Rattle.bitflags.specs.Sets.{known_bits}

-- A bar, where something stands before it (profile).
abbrev pub bar_text : Bool → List ℕ
bar_text begun = if begun then codes " | " else []

-- Bits that no flag has, in hex; where there are none and nothing stands before, a word for no bits (profile).
abbrev pub others_text : Bool → ℕ → List ℕ
others_text begun others = if others == 0 then (if begun then [] else codes "none") else bar_text begun ++ codes "0x" ++ digits 16 false others

-- The names of the flags that a mask has all bits of, in the order of the table, with bars between, and then the other bits (profile).
abbrev pub names_text : Bool → List (List ℕ × ℕ) → ℕ → ℕ → List ℕ
names_text begun [] mask others = others_text begun others
names_text begun (flag ∷ flags) mask others = if bit_and mask flag.1 == flag.1 then bar_text begun ++ flag.0 ++ names_text true flags mask others else names_text begun flags mask others

-- The text of a mask of 32 bits, by the table of its flags (profile).
abbrev pub mask_text : List (List ℕ × ℕ) → ℕ → List ℕ
mask_text table mask = names_text false table mask (bit_and mask (2 ^ 32 - 1 - known_bits table))
