use Rattle.std.proofs.Common.{◌≡◌, ⊎_elim, List, take, sym, subst, arith}
use Rattle.std.specs.Prelude.{Contains}
use Rattle.std.proofs.lemmas.List.{take_all}
use Rattle.vk_model.specs.declared.point.Point.{Point as ProgramPoint}
use Rattle.vk_model.specs.Trace.Point.{Past, Point}
use Rattle.vk_model.specs.Trace.PointViews.{point_of}
use Rattle.vk_model.proofs.Lists.Members.{contains-cons}
use Rattle.vk_queues.specs.PointViews.{past_of}
use Rattle.vk_hazards.proofs.PastLemmas.{past_has, past_item}
use Rattle.vk_findings.specs.Inner.Users.{IsPointDone}
use Rattle.vk_findings.proofs.CommandLemmas.{submits_it}
use Rattle.vk_findings.proofs.users.user_among.Goals as goal

pub returns-in-Some-clause-submitted : goal.returns-in-Some-clause-submitted
returns-in-Some-clause-submitted c =
    let ps = c.args.points.now in
    let p = c.point-item.result in
    submits_it (past_of ps) (point_of p) c.in-Some.user.spot c.args.resource (past_has ps c.loop-point.point-index p c.loop-point-test.true c.point-item.is) c.in-Some.ensures.submitted

pub loop-point-preserved : goal.loop-point-preserved
loop-point-preserved c = λ w there.
    let ps = c.args.points.now in
    let k = c.loop-point.point-index in
    let p = c.point-item.result in
    ⊎_elim
    (λ (same : point_of p ≡ w). subst (λ (q : Point). IsPointDone c.args.timeline.now c.args.resource q) same c.in_default.ensures.done)
    (λ older. c.loop-point.invariant w older)
    (contains-cons (point_of p) (past_of (take k ps)) w (subst (λ (past : Past). Contains past w) (past_item ps k p c.loop-point-test.true c.point-item.is) there))

pub returns-clause-done : goal.returns-clause-done
returns-clause-done c = λ w there.
    let ps = c.args.points.now in
    let k = c.loop-point.point-index in
    let all : take k ps ≡ ps = take_all k ps (omega arith) in
    c.loop-point.invariant w (subst (λ (qs : List ProgramPoint). Contains (past_of qs) w) (sym all) there)
