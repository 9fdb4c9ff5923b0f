-- Words in colours of a terminal (profile).
use Rattle.std.specs.Prelude.{◌≡◌, ℕ, List, [], ◌∷◌, ◌++◌, codes}
use Rattle.std.specs.List.{flat_map}
use Rattle.vk_explain.specs.declared.colours.Style.{Style}
use Rattle.vk_explain.specs.declared.colours.Style.TheVariants.{Plain, Accepted, Refused, RuleName, Repair, Note}

-- The escape before words of a style (ECMA-48, "SGR").
abbrev pub beginning : Style → List ℕ
beginning Plain = []
beginning Accepted = 27 ∷ codes "[1;32m"
beginning Refused = 27 ∷ codes "[1;31m"
beginning RuleName = 27 ∷ codes "[1m"
beginning Repair = 27 ∷ codes "[36m"
beginning Note = 27 ∷ codes "[33m"

-- The escape after them (ECMA-48, "SGR").
abbrev pub end : Style → List ℕ
end Plain = []
end _ = 27 ∷ codes "[0m"

-- Words in a style.
abbrev pub styled : Style → List ℕ → List ℕ
styled style words = beginning style ++ words ++ end style

-- The words of a piece.
abbrev pub words_of : Style × List ℕ → List ℕ
words_of p = p.1

-- What is seen of it.
abbrev pub seen_of : Style × List ℕ → List ℕ
seen_of p = styled p.0 p.1

-- A text in pieces of some styles: without the escapes around its pieces it is the text as it was.
pub record IsColoured (text shown : List ℕ) : Type 0 where
  pub pieces : List (Style × List ℕ)
  pub words : flat_map words_of pieces ≡ text
  pub seen : flat_map seen_of pieces ≡ shown
