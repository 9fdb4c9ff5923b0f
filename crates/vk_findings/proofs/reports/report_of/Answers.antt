use Rattle.std.proofs.Common.{◌∙◌, ap, sym}
use Rattle.std.specs.Option.{option_map}
use Rattle.vk_queues.specs.PointViews.{past_of}
use Rattle.vk_validate.specs.Refusals.{refused_by}
use Rattle.vk_validate.proofs.Judging.Faults.{ordered, reports}
use Rattle.vk_findings.proofs.Found.{found_at, refused_ordered}
use Rattle.vk_findings.proofs.reports.report_of.Goals as goal

pub refusal_of-requires : goal.refusal_of-requires
refusal_of-requires c = ordered c.args.entries.now _ c.requires

pub returns-in_default-clause-exact : goal.returns-in_default-clause-exact
returns-in_default-clause-exact c = sym (ap (option_map refused_by) c.in_default.is) ∙ reports c.args.entries.now _ c.requires _ c.in_ok-refusal.ensures.exact

pub finding_of-requires : goal.finding_of-requires
finding_of-requires c = record { ordered = refused_ordered (past_of c.args.points.now) (ordered c.args.entries.now _ c.requires) _ c.in_ok-refusal.ensures.there c.in-Some.refusal c.in-Some.is }

pub known_of-requires : goal.known_of-requires
known_of-requires c = sym (sym (ap (option_map refused_by) c.in-Some.is) ∙ reports c.args.entries.now _ c.requires _ c.in_ok-refusal.ensures.exact)

pub returns-clause-exact : goal.returns-clause-exact
returns-clause-exact c = sym (ap (option_map refused_by) c.in-Some.is) ∙ reports c.args.entries.now _ c.requires _ c.in_ok-refusal.ensures.exact

pub returns-clause-so : goal.returns-clause-so
returns-clause-so c = record {
  found = found_at c.args.entries.now (past_of c.args.points.now) c.requires _ c.in_ok-refusal.ensures.there c.in-Some.refusal c.in-Some.is c.in_ok-finding.finding c.in_ok-finding.ensures;
  so = c.in_ok-fact.ensures.so;
  linked = c.in_ok-fact.ensures.linked;
}
