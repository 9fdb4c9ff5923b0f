use Rattle.std.proofs.Common.{Bool, true, false, subst}
use Rattle.vk_model.specs.declared.command.Element.{Element}
use Rattle.vk_model.specs.Trace.PointViews.{point_of}
use Rattle.vk_history.specs.PointViews.{past}
use Rattle.vk_validate.specs.Inner.Transitions.{FindsMissed}
use Rattle.vk_validate.proofs.Judging.Among.{none_next, some_here, none_at_all}
use Rattle.vk_validate.proofs.rules.hazards.barriers.has_missed_transition.Goals as goal

pub loop-element-preserved : goal.loop-element-preserved
loop-element-preserved c = none_next (FindsMissed (past c.args.history.now) (point_of c.args.point.now)) c.args.elements.now c.loop-element.element-index _ c.loop-element-test.true c.loop-element.invariant (subst (λ (e : Element). FindsMissed (past c.args.history.now) (point_of c.args.point.now) false e) c.element-item.is (subst (λ (b : Bool). FindsMissed (past c.args.history.now) (point_of c.args.point.now) b c.element-item.result) c.if-is_missed.false c.in_ok-is_missed.ensures))

pub returns-then-is_missed : goal.returns-then-is_missed
returns-then-is_missed c = some_here (FindsMissed (past c.args.history.now) (point_of c.args.point.now)) c.args.elements.now c.loop-element.element-index _ c.loop-element-test.true (subst (λ (e : Element). FindsMissed (past c.args.history.now) (point_of c.args.point.now) true e) c.element-item.is (subst (λ (b : Bool). FindsMissed (past c.args.history.now) (point_of c.args.point.now) b c.element-item.result) c.if-is_missed.true c.in_ok-is_missed.ensures))

pub returns : goal.returns
returns c = none_at_all (FindsMissed (past c.args.history.now) (point_of c.args.point.now)) c.args.elements.now c.loop-element.element-index c.loop-element.auto.element-index-end c.loop-element-test.false c.loop-element.invariant
