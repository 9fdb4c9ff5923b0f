-- The pieces left of a command.
use Rattle.std.specs.Prelude.{ℕ, ◌≡◌, ◌≤◌, List, Option, None, Some, Box, length}
use Rattle.std.specs.Global.{Global}
use Rattle.std.specs.List.{range_with_len}

-- The pieces left: the first so many of at most one, or a set of more. (profile)
abbrev pub all_left : ℕ → Option (Box (List ℕ) Global) → List ℕ
all_left count None = range_with_len 0 count
all_left count (Some many) = many.value

-- So many are left, where there was at most one or there is a set. (profile)
abbrev pub IsCounted : ℕ → Option (Box (List ℕ) Global) → Type 0
IsCounted count None = count ≤ 1
IsCounted count (Some many) = count ≡ length many.value
