use Rattle.vk_model.specs.Sync.Node.{nodes}
use Rattle.vk_model.specs.Trace.PointViews.{point_of, action_of}
use Rattle.vk_order.proofs.PlaceLemmas.{apart_from}
use Rattle.vk_history.specs.PointViews.{past}
use Rattle.vk_touches.specs.Touched.{next_node, act_next}
use Rattle.vk_rules.proofs.Making.Signaling.{is_signal, ordered_by, ordered_first}
use Rattle.vk_rules.proofs.synchronization.is_unordered.Goals as goal

pub returns-in_ok-new_node-in-Some : goal.returns-in_ok-new_node-in-Some
returns-in_ok-new_node-in-Some c =
    let earlier = past c.args.history.now in
    let p = point_of c.args.point.now in
    let is = is_signal (action_of c.args.point.now.action) c.args.semaphore c.requires in
    let n = next_node earlier p (act_next p.action) in
    let seen = c.in_ok-new_node-in-Some.ensures (apart_from (nodes earlier) n is.no_element) in
    ordered_by earlier c.is_judged.ensures.faultless p c.args.semaphore is c.in-Some.last.line c.in-Some.last.place c.follows.result c.in-Some.ensures (λ m there line_is place_is. c.follows.ensures (nodes earlier) n m seen there line_is place_is)

pub returns-in-None : goal.returns-in-None
returns-in-None c = ordered_first (past c.args.history.now) c.is_judged.ensures.faultless (point_of c.args.point.now) c.args.semaphore (is_signal (action_of c.args.point.now.action) c.args.semaphore c.requires) c.in-None.ensures
