-- What is known of the point at which a trace is refused.
use Rattle.std.specs.Prelude.{◌≡◌, List, Option}
use Rattle.vk_model.specs.declared.entry.Entry.{Entry}
use Rattle.vk_model.specs.declared.rule.At.{At}
use Rattle.vk_model.specs.declared.rule.Rule.{Rule}
use Rattle.vk_model.specs.Trace.Point.{Past, Point, at_of}
use Rattle.vk_model.specs.Trace.Order.{order}
use Rattle.vk_model.specs.Rules.Fault.{Comes}
use Rattle.vk_hazards.specs.Facts.{IsReportedOf}
use Rattle.vk_hazards.specs.Faults.{AreLinksOf}
use Rattle.vk_findings.specs.declared.findings.Finding.{Finding}
use Rattle.vk_findings.specs.declared.reports.Report.{Report}
use Rattle.vk_findings.specs.Findings.{IsFound}

-- The fault that a report is of.
abbrev pub fault_in : Report → At × Rule
fault_in r = (r.at, r.rule)

-- A point of a past that is reported so breaks this rule by what is found, with what came before it there; or nothing is found that is reported of the rule.
pub record IsFoundAt (whole : Past) (at : At) (rule : Rule) (found : Option Finding) : Type 0 where
  pub before : Past
  pub point : Point
  pub comes : Comes whole before point
  pub is_reported : at_of point ≡ at
  pub is_found : IsFound rule before point found

-- What is reported is so of the trace's point at this place.
pub record IsReport (entries : List Entry) (r : Report) : Type 0 where
  pub found : IsFoundAt (order entries) r.at r.rule r.finding
  pub so : IsReportedOf entries r.at r.rule r.fact
  pub linked : AreLinksOf entries r.at r.fact r.links
