-- How what is said of an input is written beside what is said of others (profile).
use Rattle.std.specs.Prelude.{◌≡◌, ℕ, List, [], ◌∷◌, ◌++◌, drop, codes, Bool, true, false, Option, Some, None, option_map}
use Rattle.vk_calls.specs.declared.calls.Calls.{Calls}
use Rattle.vk_calls.specs.Calls.{data_of}
use Rattle.vk_calls.specs.CalledText.{IsCalled}
use Rattle.vk_calls.specs.CalledObject.{IsListed}
use Rattle.vk_explain.specs.declared.forms.Form.TheVariants.{Text, Json}
use Rattle.vk_explain.specs.declared.forms.Wanted.{Wanted}
use Rattle.vk_explain.specs.declared.forms.Wanted.TheVariants.{Explained, Repaired, ExplainedAndRepaired}
use Rattle.vk_explain.specs.declared.explaining.Judgment.{Judgment}
use Rattle.vk_explain.specs.declared.presentation.Presentation.{Presentation}
use Rattle.vk_explain.specs.Colours.{IsColoured}
use Rattle.vk_explain.specs.Explained.{Answers}

-- The name of an input, where it has one.
abbrev pub name_of : Presentation → Option (List ℕ)
name_of d = option_map (λ s. s.now) d.name

-- The calls of its points, where they are to be said.
abbrev pub calls_of : Presentation → Option Calls
calls_of d = option_map (λ c. c.now) d.calls

-- Lines with the calls of the points that they name, or as they are.
abbrev pub AreCalled : Option Calls → List ℕ → List ℕ → Type 0
AreCalled None text called = called ≡ text
AreCalled (Some c) text called = IsCalled (data_of c) text called

-- An object with a member of such calls, or as it is.
abbrev pub IsCalledObject : Option Calls → List ℕ → List ℕ → Type 0
IsCalledObject None text called = called ≡ text
IsCalledObject (Some c) text called = IsListed (data_of c) text called

-- An empty line, where something was written before.
abbrev pub gap : Bool → List ℕ
gap true = []
gap false = 10 ∷ []

-- The line with a name, if there is one.
abbrev pub heading_of : Bool → Option (List ℕ) → List ℕ
heading_of is_first None = []
heading_of is_first (Some name) = gap is_first ++ (name ++ codes ":\n")

-- Lines in colours, or as they are.
abbrev pub AreLines : Bool → List ℕ → List ℕ → Type 0
AreLines true text lines = IsColoured text lines
AreLines false text lines = lines ≡ text

-- An object with a name, quoted, as its first member.
abbrev pub IsNamed : Option (List ℕ) → List ℕ → List ℕ → Type 0
IsNamed None text shown = shown ≡ text
IsNamed (Some name) text shown = (quoted : List ℕ) × (shown ≡ codes "{\"file\":" ++ (quoted ++ (codes "," ++ drop 1 text)))

-- Lines below their heading, which alone may have colours.
abbrev pub AreShown : Presentation → List ℕ → List ℕ → Type 0
AreShown d called shown = (lines : List ℕ) × AreLines d.is_coloured called lines × (shown ≡ heading_of d.is_first (name_of d) ++ lines)

-- What is written of a text: its lines, with calls where there are any; an object with a name, the same; a trace as it is.
abbrev pub IsPresented : Wanted → Presentation → List ℕ → List ℕ → Type 0
IsPresented (Explained Text) d text shown = (called : List ℕ) × AreCalled (calls_of d) text called × AreShown d called shown
IsPresented (Explained Json) d text shown = (called : List ℕ) × IsCalledObject (calls_of d) text called × IsNamed (name_of d) called shown
IsPresented Repaired d text shown = shown ≡ text
IsPresented ExplainedAndRepaired d text shown = (called : List ℕ) × IsCalledObject (calls_of d) text called × IsNamed (name_of d) called shown

-- What is written is the answer to an input, as it is presented.
abbrev pub IsAnswer : Wanted → Presentation → List ℕ → List ℕ → Judgment → Type 0
IsAnswer wanted d input shown judgment = (text : List ℕ) × Answers wanted input text judgment × IsPresented wanted d text shown
