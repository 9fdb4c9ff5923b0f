use Rattle.std.proofs.Common.{◌≡◌, List, take, length, sym, subst, ap, ◌∙◌, arith, ℕ}
use Rattle.std.proofs.Math.Seq.{take-length}
use Rattle.vk_model.specs.Trace.Point.{Past, at_of}
use Rattle.vk_model.specs.declared.point.Point.{Point}
use Rattle.vk_model.specs.Trace.PointViews.{point_of}
use Rattle.vk_queues.specs.PointViews.{past_of}
use Rattle.vk_hazards.specs.Until.{IsNowhere}
use Rattle.vk_hazards.proofs.PastLemmas.{past_item}
use Rattle.vk_hazards.proofs.UntilLemmas.{nowhere_none, nowhere_more}
use Rattle.vk_hazards.proofs.before.until.index_of.Goals as goal

pub loop-index-init : goal.loop-index-init
loop-index-init c = nowhere_none c.args.at

pub loop-index-preserved : goal.loop-index-preserved
loop-index-preserved c =
    let ps = c.args.points.now in
    let k = c.loop-index.index in
    let p = c.index-points-index.result in
    let differs : at_of (point_of p) ≡ c.args.at → ⊥ = λ e. c.is_same.ensures.other c.if-is_same.false (c.at_of.ensures ∙ e) in
    subst (λ (past : Past). IsNowhere past c.args.at) (sym (past_item ps k p c.loop-index-test.true c.index-points-index.is)) (nowhere_more (past_of (take k ps)) (point_of p) c.args.at differs c.loop-index.invariant)

pub returns-clause-none : goal.returns-clause-none
returns-clause-none c =
    let ps = c.args.points.now in
    let all : c.loop-index.index ≡ length ps = omega arith in
    subst (λ (l : List Point). IsNowhere (past_of l) c.args.at) (ap (λ (n : ℕ). take n ps) all ∙ take-length ps) c.loop-index.invariant
