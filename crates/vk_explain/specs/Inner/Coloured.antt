-- A text that is written in colours, line by line.
use Rattle.std.specs.Prelude.{◌≡◌, ℕ, List, ◌++◌}
use Rattle.vk_explain.specs.Colours.{IsColoured}

-- What was written is a front of the text, in colours, up to a rest.
pub record IsBegun (text shown rest : List ℕ) : Type 0 where
  pub done : List ℕ
  pub whole : done ++ rest ≡ text
  pub coloured : IsColoured done shown

-- A line was added in colours.
abbrev pub IsAdded : (old line new : List ℕ) → Type 0
IsAdded old line new = (shown : List ℕ) × IsColoured line shown × (new ≡ old ++ shown)
