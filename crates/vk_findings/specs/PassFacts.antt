-- What is reported of a point and a rule that it breaks.
use Rattle.std.specs.Prelude.{◌≡◌, Bool, true, false, Option, Some, None, IsTrue}
use Rattle.vk_model.specs.declared.rule.Rule.{Rule}
use Rattle.vk_model.specs.declared.rule.Rule.TheVariants as rule
use Rattle.vk_model.specs.Trace.Point.{Past, Point}
use Rattle.vk_model.specs.Rules.Table.{breaks}
use Rattle.vk_findings.specs.declared.pass_facts.PassFact.{PassFact}
use Rattle.vk_findings.specs.declared.pass_facts.PassFact.TheVariants as fact
use Rattle.vk_findings.specs.PassStates.{IsPassState}
use Rattle.vk_findings.specs.Busy.{IsBusyResource}
use Rattle.vk_findings.specs.Writes.{IsPassWrite}

-- Whether a fact is reported of a rule, wherever it is broken.
abbrev pub is_reported : Rule → Bool
is_reported rule.PassState = true
is_reported rule.PassBusy = true
is_reported rule.PassWrite = true
is_reported _ = false

-- The rule that a fact is reported of.
abbrev pub rule_of : PassFact → Rule
rule_of (fact.State s) = rule.PassState
rule_of (fact.Busy b) = rule.PassBusy
rule_of (fact.Write m) = rule.PassWrite

-- A fact is so of a point that comes next.
abbrev pub IsSo : Past → Point → PassFact → Type 0
IsSo past p (fact.State s) = IsPassState past p.action s
IsSo past p (fact.Busy b) = IsBusyResource past p b
IsSo past p (fact.Write m) = IsPassWrite past p m

-- What is reported of a rule and a point that comes next: a fact of this rule is so, and the rule is broken. Where none is reported of one of the three rules, it isn't broken.
abbrev pub IsFound : Rule → Past → Point → Option PassFact → Type 0
IsFound r past p None = is_reported r ≡ true → breaks r past p ≡ false
IsFound r past p (Some f) = (rule_of f ≡ r) × IsTrue (breaks r past p) × IsSo past p f
