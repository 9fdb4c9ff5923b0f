use Rattle.std.proofs.Common.{refl}
use Rattle.vk_history.specs.PointViews.{past}
use Rattle.vk_findings.proofs.BegunLemmas.{open_defrag_is}
use Rattle.vk_findings.proofs.defrags.open_defrag.Goals as goal

pub returns-clause-reported : goal.returns-clause-reported
returns-clause-reported c = (refl, open_defrag_is (past c.args.history.now) c.in_ok-found.found c.args.pool c.in_ok-found.ensures.reported)
