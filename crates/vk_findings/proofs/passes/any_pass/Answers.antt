use Rattle.vk_history.specs.PointViews.{past}
use Rattle.vk_findings.proofs.BegunLemmas.{any_pass_is}
use Rattle.vk_findings.proofs.passes.any_pass.Goals as goal

pub returns-clause-defrag : goal.returns-clause-defrag
returns-clause-defrag c = (any_pass_is (past c.args.history.now) c.in_ok-found.found c.in_ok-found.ensures.reported).0

pub returns-clause-reported : goal.returns-clause-reported
returns-clause-reported c = (any_pass_is (past c.args.history.now) c.in_ok-found.found c.in_ok-found.ensures.reported).1
