use Rattle.std.proofs.Common.{◌≡◌, ◌+◌, ◌∷◌, ◌++◌, [], List, false, take, rules, sym, subst}
use Rattle.vk_model.specs.declared.point.Point.{Point as ProgramPoint}
use Rattle.vk_model.specs.Trace.PointViews.{point_of}
use Rattle.vk_queues.specs.PointViews.{past_of}
use Rattle.vk_findings.specs.Inner.LayoutSteps.{takes_some}
use Rattle.vk_findings.proofs.LayoutLemmas.{KeepLayouts, keep_pushed, keep_passed, show_all_layouts}
use Rattle.vk_findings.proofs.transitions.with_transitions.Goals as goal
use Rattle.vk_findings.proofs.transitions.with_transitions.Goals.{then-has_transition+in_ok-push, else-has_transition}

pub loop-point-preserved : goal.loop-point-preserved
loop-point-preserved c =
    let ps = c.args.points.now in
    let ks = c.loop-point.kept.items in
    let k = c.loop-point.point-index in
    let p = c.point-item.result in
    elim c.if-has_transition.branch [
      | then-has_transition+in_ok-push w ↦ (
          let more : c.if-has_transition.kept.items ≡ ks ++ p ∷ [] = search rules in
          keep_pushed ps ks c.if-has_transition.kept.items k p c.loop-point-test.true c.point-item.is more c.loop-point.invariant)
      | else-has_transition w ↦ (
          let same : c.if-has_transition.kept.items ≡ ks = search rules in
          let none : takes_some (point_of p) ≡ false = search rules in
          subst (λ (xs : List ProgramPoint). KeepLayouts (past_of xs) (past_of (take (k + 1) ps))) (sym same)
          (keep_passed ps ks k p c.loop-point-test.true c.point-item.is none c.loop-point.invariant))
    ]

pub returns : goal.returns
returns c = show_all_layouts c.args.points.now c.loop-point.kept.items c.loop-point.point-index c.loop-point-test.false c.loop-point.invariant
