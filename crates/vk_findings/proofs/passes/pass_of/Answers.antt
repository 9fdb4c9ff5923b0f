use Rattle.vk_history.specs.PointViews.{past}
use Rattle.vk_findings.proofs.BegunLemmas.{pass_of_is}
use Rattle.vk_findings.proofs.passes.pass_of.Goals as goal

pub returns-clause-same : goal.returns-clause-same
returns-clause-same c = (pass_of_is (past c.args.history.now) c.in_ok-found.found c.args.defrag c.in_ok-found.ensures.reported).0

pub returns-clause-reported : goal.returns-clause-reported
returns-clause-reported c = (pass_of_is (past c.args.history.now) c.in_ok-found.found c.args.defrag c.in_ok-found.ensures.reported).1
