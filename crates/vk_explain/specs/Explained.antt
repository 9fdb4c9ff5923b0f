-- What is said of a trace. The forms are our own (profile).
use Rattle.std.specs.Prelude.{◌≡◌, ℕ, List, ◌++◌, codes, Option, Some, None}
use Rattle.vk_model.specs.declared.entry.Entry.{Entry}
use Rattle.vk_model.specs.declared.rule.At.{At}
use Rattle.vk_model.specs.declared.rule.Rule.{Rule}
use Rattle.vk_model.specs.Rules.Names.{rule_name}
use Rattle.vk_model.specs.Rules.Table.{first_fault}
use Rattle.vk_words.specs.Points.{kind_text, at_text, BeginsWith}
use Rattle.vk_words.specs.Sentences.{rule_sentence}
use Rattle.vk_trace.specs.declared.printing.Outcome.TheVariants.{Refused as RefusedBy}
use Rattle.vk_trace.specs.Trace.{IsTrace}
use Rattle.vk_trace.specs.Text.{lines_of}
use Rattle.vk_hazards.specs.declared.facts.Fact.{Fact}
use Rattle.vk_hazards.specs.Facts.{IsReportedOf}
use Rattle.vk_hazards.specs.declared.links.Links.{Links}
use Rattle.vk_fact_words.specs.FactText.{fact_line, fact_member}
use Rattle.vk_hazards.specs.Faults.{AreLinksOf}
use Rattle.vk_fact_words.specs.LinksText.{links_line, links_member}
use Rattle.vk_explain.specs.declared.forms.Form.{Form}
use Rattle.vk_explain.specs.declared.forms.Form.TheVariants.{Text, Json}
use Rattle.vk_explain.specs.declared.forms.Wanted.{Wanted}
use Rattle.vk_explain.specs.declared.forms.Wanted.TheVariants.{Explained, Repaired, ExplainedAndRepaired}
use Rattle.vk_explain.specs.declared.explaining.Judgment.{Judgment}
use Rattle.vk_explain.specs.declared.explaining.Judgment.TheVariants.{Accepted, Refused, NoTrace}

-- The verdict on a trace with this first fault (profile).
abbrev pub judgment_of : Option (At × Rule) → Judgment
judgment_of None = Accepted
judgment_of (Some fault) = Refused

-- The line with what a rule says (profile).
abbrev pub rule_line : Rule → List ℕ
rule_line rule = codes "  " ++ rule_name rule ++ codes ": " ++ rule_sentence rule ++ codes "\n"

-- The text begins with the line of the refusal, as a replay writes it; then come what begins with the name of that point, what that rule says, the fact that is so of the point that breaks it, and of a hazard its links (profile).
pub record IsRefusalText (entries : List Entry) (at : At) (rule : Rule) (text : List ℕ) : Type 0 where
  pub point : List ℕ
  pub fact : Option Fact
  pub links : Option Links
  pub named : BeginsWith (kind_text at ++ at_text at) point
  pub so : IsReportedOf entries at rule fact
  pub linked : AreLinksOf entries at fact links
  pub reported : BeginsWith (lines_of (RefusedBy at rule) ++ point ++ rule_line rule ++ fact_line fact ++ links_line links) text

-- The text begins with a line that says that the trace is accepted (profile).
abbrev pub IsAcceptanceText : List ℕ → Type 0
IsAcceptanceText text = BeginsWith (codes "accepted\n") text

-- The first members of the object on a refused trace (profile).
abbrev pub json_verdict : At → Rule → List ℕ
json_verdict at rule = codes "{\"verdict\":\"refused\",\"at\":\"" ++ at_text at ++ codes "\",\"rule\":\"" ++ rule_name rule ++ codes "\""

-- The text begins with the verdict, the point and the rule, the fact that is so of the point that breaks it, and of a hazard its links (profile).
pub record IsRefusalJson (entries : List Entry) (at : At) (rule : Rule) (text : List ℕ) : Type 0 where
  pub fact : Option Fact
  pub links : Option Links
  pub so : IsReportedOf entries at rule fact
  pub linked : AreLinksOf entries at fact links
  pub reported : BeginsWith (json_verdict at rule ++ fact_member fact ++ links_member links) text

-- The text begins with the verdict (profile).
abbrev pub IsAcceptanceJson : List ℕ → Type 0
IsAcceptanceJson text = BeginsWith (codes "{\"verdict\":\"accepted\"") text

-- What the text on a trace with these entries and this first fault says (profile).
abbrev pub IsExplanation : Form → List Entry → Option (At × Rule) → List ℕ → Type 0
IsExplanation Text entries None text = IsAcceptanceText text
IsExplanation Text entries (Some fault) text = IsRefusalText entries fault.0 fault.1 text
IsExplanation Json entries None text = IsAcceptanceJson text
IsExplanation Json entries (Some fault) text = IsRefusalJson entries fault.0 fault.1 text

-- The input is a trace, and what is said of it is its verdict: accepted exactly where the definitions find no fault, else refused by its first fault.
pub record IsExplained (form : Form) (input text : List ℕ) (judgment : Judgment) : Type 0 where
  pub entries : List Entry
  pub trace : IsTrace input entries
  pub judged : judgment ≡ judgment_of (first_fault entries)
  pub said : IsExplanation form entries (first_fault entries) text

-- The text on an input that is no trace begins with that verdict (profile).
abbrev pub IsMistakeText : Form → List ℕ → Type 0
IsMistakeText Text text = BeginsWith (codes "no trace\n") text
IsMistakeText Json text = BeginsWith (codes "{\"verdict\":\"no trace\"") text

-- The input is no trace.
abbrev pub MeansNothing : List ℕ → Type 0
MeansNothing input = (t : List Entry) → IsTrace input t → ⊥

-- What is said of an input: that it is no trace, or what is said of the trace.
abbrev pub Explains : Form → List ℕ → List ℕ → Judgment → Type 0
Explains form input text NoTrace = MeansNothing input × IsMistakeText form text
Explains form input text Accepted = IsExplained form input text Accepted
Explains form input text Refused = IsExplained form input text Refused

-- The text is a trace, and the verdict is on it.
pub record IsJudgedTrace (text : List ℕ) (judgment : Judgment) : Type 0 where
  pub entries : List Entry
  pub trace : IsTrace text entries
  pub judged : judgment ≡ judgment_of (first_fault entries)

-- What is asked of an input: an explanation; or a trace that was made of it, with the verdict on that one; or that the input is no trace. An object with repairs begins as the one without, and what its last members say is promised by nothing.
abbrev pub Answers : Wanted → List ℕ → List ℕ → Judgment → Type 0
Answers (Explained form) input text judgment = Explains form input text judgment
Answers Repaired input text NoTrace = MeansNothing input × IsMistakeText Text text
Answers Repaired input text Accepted = IsJudgedTrace text Accepted
Answers Repaired input text Refused = IsJudgedTrace text Refused
Answers ExplainedAndRepaired input text judgment = Explains Json input text judgment
