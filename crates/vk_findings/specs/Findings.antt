-- What is found of a point and a rule that it breaks.
use Rattle.std.specs.Prelude.{◌≡◌, false, Option, Some, None, IsTrue}
use Rattle.vk_model.specs.declared.rule.Rule.{Rule}
use Rattle.vk_model.specs.declared.rule.Rule.TheVariants as rule
use Rattle.vk_model.specs.Trace.Point.{Past, Point}
use Rattle.vk_model.specs.Rules.Table.{breaks}
use Rattle.vk_findings.specs.Measures.{IsMeasured}
use Rattle.vk_findings.specs.States as states
use Rattle.vk_findings.specs.PassFacts as passes
use Rattle.vk_findings.specs.Parts.{IsOverlap}
use Rattle.vk_findings.specs.declared.pairs.Overlap.{Overlap}
use Rattle.vk_findings.specs.declared.findings.Finding.{Finding}
use Rattle.vk_findings.specs.declared.findings.Finding.TheVariants as finding

-- A point that comes next breaks a rule by these two parts, and the rule is OVERLAP; or, if it is, it isn't broken.
abbrev pub AreOverlapping : Rule → Past → Point → Option Overlap → Type 0
AreOverlapping r past p None = r ≡ rule.Overlap → breaks r past p ≡ false
AreOverlapping r past p (Some o) = (r ≡ rule.Overlap) × IsTrue (breaks r past p) × IsOverlap past p.action o

-- A point that comes next breaks a rule by what is found; or nothing is found that is reported of the rule.
abbrev pub IsFound : Rule → Past → Point → Option Finding → Type 0
IsFound r past p None = IsMeasured r past p None × states.IsFound r past p None × passes.IsFound r past p None × AreOverlapping r past p None
IsFound r past p (Some (finding.Measure m)) = IsMeasured r past p (Some m)
IsFound r past p (Some (finding.State s)) = states.IsFound r past p (Some s)
IsFound r past p (Some (finding.Pass f)) = passes.IsFound r past p (Some f)
IsFound r past p (Some (finding.Overlap o)) = AreOverlapping r past p (Some o)
