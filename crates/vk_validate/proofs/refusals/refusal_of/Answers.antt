use Rattle.std.proofs.Common.{arith, ◌+◌, ◌≡◌, length, refl, sym, ◌∙◌, ap, Some}
use Rattle.std.specs.Prelude.{slice_get}
use Rattle.std.proofs.lemmas.Option.{slice_get_read}
use Rattle.vk_model.specs.declared.rule.At.{At}
use Rattle.vk_history.specs.PointViews.{Walk}
use Rattle.vk_validate.proofs.Judging.Faults.{comes_here, next_ordered, next_judged, done, reported_here}
use Rattle.vk_validate.proofs.refusals.refusal_of.Goals as goal

pub loop-point-preserved : goal.loop-point-preserved
loop-point-preserved c = c.in_ok-advance.ensures ∙ ap (λ (v : Walk). record v { count = v.count + 1 }) c.loop-point.invariant

pub returns-in-Some-clause-exact : goal.returns-in-Some-clause-exact
returns-in-Some-clause-exact c =
    let at : slice_get c.args.points.now c.loop-point.point-index ≡ Some c.point-item.result = slice_get_read c.args.points.now (length c.args.points.now) c.loop-point.point-index c.point-item.result refl (omega arith) c.point-item.is in
    ap (λ (reported : At). Some (reported, c.in-Some.rule)) c.at_of.ensures
    ∙ reported_here c.loop-point.history c.args.points.now c.loop-point.point-index c.loop-point.invariant c.point-item.result at c.in-Some.rule c.is_judged.ensures (sym c.in_ok-rule.ensures ∙ c.in-Some.is)

pub returns-in-Some-clause-there : goal.returns-in-Some-clause-there
returns-in-Some-clause-there c =
    let at : slice_get c.args.points.now c.loop-point.point-index ≡ Some c.point-item.result = slice_get_read c.args.points.now (length c.args.points.now) c.loop-point.point-index c.point-item.result refl (omega arith) c.point-item.is in
    record {
      comes = comes_here c.loop-point.history c.args.points.now c.loop-point.point-index c.loop-point.invariant c.point-item.result at;
      is_reported = sym c.at_of.ensures;
      broken = sym c.in_ok-rule.ensures ∙ c.in-Some.is;
    }

pub first_rule-requires : goal.first_rule-requires
first_rule-requires c =
    let at : slice_get c.args.points.now c.loop-point.point-index ≡ Some c.point-item.result = slice_get_read c.args.points.now (length c.args.points.now) c.loop-point.point-index c.point-item.result refl (omega arith) c.point-item.is in
    record { ordered = next_ordered c.loop-point.history c.args.points.now c.loop-point.point-index c.loop-point.invariant c.point-item.result at c.requires }

pub advance-requires-clause-here : goal.advance-requires-clause-here
advance-requires-clause-here c = rw c.loop-point.invariant (slice_get_read c.args.points.now (length c.args.points.now) c.loop-point.point-index c.point-item.result refl (omega arith) c.point-item.is)

pub advance-requires-clause-judged : goal.advance-requires-clause-judged
advance-requires-clause-judged c =
    let at : slice_get c.args.points.now c.loop-point.point-index ≡ Some c.point-item.result = slice_get_read c.args.points.now (length c.args.points.now) c.loop-point.point-index c.point-item.result refl (omega arith) c.point-item.is in
    next_judged c.loop-point.history c.args.points.now c.loop-point.point-index c.loop-point.invariant c.point-item.result at c.is_judged.ensures c.requires (sym c.in_default.is ∙ c.in_ok-rule.ensures)

pub returns-clause-exact : goal.returns-clause-exact
returns-clause-exact c = done c.loop-point.history c.args.points.now c.loop-point.point-index c.loop-point.invariant c.is_judged-2.ensures (omega arith)
