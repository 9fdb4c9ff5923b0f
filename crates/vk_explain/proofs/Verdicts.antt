-- What is said of a trace, by its first fault.
use Rattle.std.proofs.Common.{◌≡◌, ℕ, List, Option, Some, None, ap, subst}
use Rattle.vk_model.specs.declared.entry.Entry.{Entry}
use Rattle.vk_model.specs.declared.rule.At.{At}
use Rattle.vk_model.specs.declared.rule.Rule.{Rule}
use Rattle.vk_model.specs.Rules.Table.{first_fault}
use Rattle.vk_trace.specs.Trace.{IsTrace}
use Rattle.vk_explain.specs.declared.forms.Form.{Form}
use Rattle.vk_explain.specs.declared.forms.Wanted.TheVariants.{Repaired}
use Rattle.vk_explain.specs.Explained.{Answers, IsJudgedTrace, Explains, IsExplanation, IsExplained, judgment_of}

-- what is said of a trace with this first fault is so
pub explained_by : (form : Form) → (input text : List ℕ) → (entries : List Entry) → (fault : Option (At × Rule)) → IsTrace input entries → fault ≡ first_fault entries → IsExplanation form entries fault text → IsExplained form input text (judgment_of fault)
explained_by form input text entries fault trace same said = record { entries = entries; trace = trace; judged = ap judgment_of same; said = let P : Option (At × Rule) → Type 0 = λ f. IsExplanation form entries f text in subst P same said }

-- and it explains the input
pub explains : (form : Form) → (input text : List ℕ) → (entries : List Entry) → (fault : Option (At × Rule)) → IsTrace input entries → fault ≡ first_fault entries → IsExplanation form entries fault text → Explains form input text (judgment_of fault)
explains form input text entries None trace same said = explained_by form input text entries None trace same said
explains form input text entries (Some fault) trace same said = explained_by form input text entries (Some fault) trace same said

-- a text that is a trace, with the verdict by its first fault, answers what is asked of an input after repairs
pub judges : (input text : List ℕ) → (entries : List Entry) → (fault : Option (At × Rule)) → IsTrace text entries → fault ≡ first_fault entries → Answers Repaired input text (judgment_of fault)
judges input text entries None trace same = record { entries = entries; trace = trace; judged = ap judgment_of same }
judges input text entries (Some fault) trace same = record { entries = entries; trace = trace; judged = ap judgment_of same }
