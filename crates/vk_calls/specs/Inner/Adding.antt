-- Texts with calls, part by part.
use Rattle.std.specs.Prelude.{◌≡◌, ◌<◌, ℕ, List, [], ◌++◌, length, Bool, true, false, Option}
use Rattle.serde_json.specs.Data.{Data}
use Rattle.vk_words.specs.Points.{at_text}
use Rattle.vk_calls.specs.Calls.{SaidCall}
use Rattle.vk_calls.specs.CalledText.{IsCalled, call_text}
use Rattle.vk_calls.specs.declared.names.Named.{Named}
use Rattle.vk_calls.specs.declared.parts.Parts.{Parts}

-- A part of a text was added with calls.
abbrev pub IsAdded : Data → (old text new : List ℕ) → Type 0
IsAdded d old text new = (shown : List ℕ) × IsCalled d text shown × (new ≡ old ++ shown)

-- What was added is a front of a text, with calls, up to a rest.
pub record IsBegun (d : Data) (text old new rest : List ℕ) : Type 0 where
  pub done : List ℕ
  pub whole : done ++ rest ≡ text
  pub added : IsAdded d old done new

-- A text is words, the name of a point, and what comes behind it.
pub record IsNamedIn (text : List ℕ) (n : Named) : Type 0 where
  pub whole : text ≡ n.front.now ++ (at_text n.at ++ n.after.now)
  pub shorter : length n.after.now < length text

-- A text is its parts, one behind another.
abbrev pub AreParts : List ℕ → Parts → Type 0
AreParts text p = text ≡ p.verdict.now ++ (p.said.now ++ (p.repair.now ++ p.notes.now))

-- The call of a point, unless it was said before.
abbrev pub call_unless : Bool → Option SaidCall → List ℕ
call_unless true c = []
call_unless false c = call_text c
