use Rattle.std.proofs.Common.{sym, ◌∙◌}
use Rattle.vk_queues.specs.PointViews.{past_of}
use Rattle.vk_history.specs.PointViews.{past}
use Rattle.vk_findings.proofs.BegunLemmas.{none_there, point_is, id_is, is_begun}
use Rattle.vk_findings.proofs.begun.began.Goals as goal

pub returns-in_err-point-clause-found : goal.returns-in_err-point-clause-found
returns-in_err-point-clause-found c = λ there.
    absurd (none_there (past c.args.history.now) (past_of c.happened.result.now) c.args.sought c.newest.result c.happened.ensures c.newest.ensures c.in_err-point.was there)

pub returns-in_err-defrag-clause-found : goal.returns-in_err-defrag-clause-found
returns-in_err-defrag-clause-found c = λ there.
    absurd (id_is (past c.args.history.now) (past_of c.happened.result.now) c.args.sought c.newest.result c.happened.ensures c.newest.ensures c.in_ok-point.point c.in_ok-point.was c.defrag_at.result c.defrag_at.ensures c.in_err-defrag.was)

pub returns-clause-reported : goal.returns-clause-reported
returns-clause-reported c =
    let all = past c.args.history.now in
    is_begun all c.args.sought c.in_ok-point.point c.in_ok-defrag.defrag
    (point_is all (past_of c.happened.result.now) c.args.sought c.newest.result c.happened.ensures c.newest.ensures c.in_ok-point.point c.in_ok-point.was)
    (sym c.defrag_at.ensures ∙ c.in_ok-defrag.was)
