use Rattle.std.proofs.Common.{true, false, sym, ◌∙◌, arith}
use Rattle.vk_history.specs.PointViews.{past}
use Rattle.vk_findings.specs.Inner.Mapping.{form_of}
use Rattle.vk_findings.proofs.MapLemmas.{count_step}
use Rattle.vk_findings.proofs.mappings.count.Goals as goal
use Rattle.vk_findings.proofs.mappings.count.Goals.{then-is_on, else-is_on}

pub loop-point-preserved : goal.loop-point-preserved
loop-point-preserved c =
    let before = past c.args.history.now in
    let ps = c.args.points.now in
    let i = c.loop-point.point-index in
    let p = c.point-item.result in
    record {
      small = elim c.if-is_on.branch [ then-is_on w ↦ omega arith | else-is_on w ↦ omega arith ];
      counted = elim c.if-is_on.branch [
        | then-is_on w ↦ count_step before (form_of c.args.form) c.args.mapping ps i p true c.loop-point.count c.if-is_on.count c.loop-point-test.true c.point-item.is (sym w.if-is_on.true ∙ c.is_on.ensures) c.loop-point.invariant.counted (omega arith)
        | else-is_on w ↦ count_step before (form_of c.args.form) c.args.mapping ps i p false c.loop-point.count c.if-is_on.count c.loop-point-test.true c.point-item.is (sym w.if-is_on.false ∙ c.is_on.ensures) c.loop-point.invariant.counted (omega arith)
      ];
    }
