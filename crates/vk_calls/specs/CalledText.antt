-- Texts that say which calls the points that they name stand for (profile).
use Rattle.std.specs.Prelude.{◌≡◌, ℕ, List, [], ◌++◌, codes, decimal, Option, Some, None}
use Rattle.std.specs.List.{flat_map}
use Rattle.serde_json.specs.Data.{Data}
use Rattle.vk_model.specs.declared.rule.At.{At}
use Rattle.vk_words.specs.Points.{at_text}
use Rattle.vk_calls.specs.Calls.{SaidCall, call_in}

-- What a point stands for beyond its call (profile).
abbrev pub why_text : Option (List ℕ) → List ℕ
why_text None = []
why_text (Some why) = codes ": " ++ why

-- A call, behind the name of a point (profile).
abbrev pub call_text : Option SaidCall → List ℕ
call_text None = []
call_text (Some c) = codes " (call " ++ decimal c.number ++ codes " " ++ c.name ++ why_text c.why ++ codes ")"

-- The name of a point, and that name with its call.
abbrev pub name_text : Option At → List ℕ
name_text None = []
name_text (Some at) = at_text at

abbrev pub called_name : Data → Option At → List ℕ
called_name d None = []
called_name d (Some at) = at_text at ++ call_text (call_in d at)

-- A piece of a text: words, and the name of a point behind them, where its call is said.
abbrev pub words_of : List ℕ × Option At → List ℕ
words_of p = p.0 ++ name_text p.1

-- What is shown of it.
abbrev pub shown_of : Data → List ℕ × Option At → List ℕ
shown_of d p = p.0 ++ called_name d p.1

-- A text with calls: what is shown is the text in pieces, and behind the name of a point at most the call that the file says.
pub record IsCalled (d : Data) (text shown : List ℕ) : Type 0 where
  pub pieces : List (List ℕ × Option At)
  pub words : flat_map words_of pieces ≡ text
  pub seen : flat_map (shown_of d) pieces ≡ shown
