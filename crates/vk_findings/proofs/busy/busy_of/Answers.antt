use Rattle.vk_model.specs.Trace.PointViews.{action_of, point_of}
use Rattle.vk_queues.specs.PointViews.{past_of}
use Rattle.vk_history.specs.PointViews.{past}
use Rattle.vk_findings.proofs.BusyLemmas.{is_host, busy_reported, some_user}
use Rattle.vk_findings.proofs.busy.busy_of.Goals as goal

pub of-requires : goal.of-requires
of-requires c = let resident = rw c.in-Some.is at c.in_ok-resident.ensures.reported in is_host (action_of c.args.point.now.action) c.in-Some.resident.defrag resident.pass

pub returns-in-Some-2-clause-reported : goal.returns-in-Some-2-clause-reported
returns-in-Some-2-clause-reported c =
    let resident = rw c.in-Some.is at c.in_ok-resident.ensures.reported in
    busy_reported (past c.args.history.now) (past_of c.happened.result.now) (point_of c.args.point.now) c.in_ok-timeline.timeline c.in-Some.resident c.happened.ensures resident c.in_ok-timeline.ensures
    c.in-Some-2.user (rw c.in-Some-2.is at c.in_ok-user.ensures.submitted) (rw c.in-Some-2.is at c.in_ok-user.ensures.incomplete)

pub returns-clause-broken : goal.returns-clause-broken
returns-clause-broken c =
    let resident = rw c.in-Some.is at c.in_ok-resident.ensures.reported in
    absurd (some_user (past c.args.history.now) (past_of c.happened.result.now) (point_of c.args.point.now) c.in_ok-timeline.timeline c.in-Some.resident c.happened.ensures resident c.in_ok-timeline.ensures (rw c.in-None.is at c.in_ok-user.ensures.done))
