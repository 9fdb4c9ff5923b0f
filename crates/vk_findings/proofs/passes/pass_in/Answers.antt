use Rattle.vk_history.specs.PointViews.{past}
use Rattle.vk_findings.proofs.BegunLemmas.{pass_in_is}
use Rattle.vk_findings.proofs.passes.pass_in.Goals as goal

pub returns-clause-defrag : goal.returns-clause-defrag
returns-clause-defrag c = (pass_in_is (past c.args.history.now) c.in_ok-found.found c.args.pool c.in_ok-found.ensures.reported).0

pub returns-clause-reported : goal.returns-clause-reported
returns-clause-reported c = (pass_in_is (past c.args.history.now) c.in_ok-found.found c.args.pool c.in_ok-found.ensures.reported).1
