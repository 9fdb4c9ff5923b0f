use Rattle.std.proofs.Common.{true, false, sym, ◌∙◌}
use Rattle.vk_model.specs.Trace.Point.{on_host}
use Rattle.vk_hazards.proofs.PastLemmas.{find_more}
use Rattle.vk_history.specs.PointViews.{past}
use Rattle.vk_findings.specs.Inner.Mapping.{moves}
use Rattle.vk_findings.proofs.mappings.last_move.Goals as goal
use Rattle.vk_findings.proofs.mappings.last_move.Goals.{then-is_move, else-is_move}

pub loop-point-preserved : goal.loop-point-preserved
loop-point-preserved c =
    let ps = c.args.points.now in
    let i = c.loop-point.point-index in
    let p = c.point-item.result in
    let f = on_host (moves (past c.args.history.now) c.args.mapping) in
    elim c.if-is_move.branch [
      | then-is_move w ↦ find_more f ps i p true c.loop-point.found c.if-is_move.found c.loop-point-test.true c.point-item.is (sym w.if-is_move.true ∙ c.is_move.ensures) c.loop-point.invariant w.found-is
      | else-is_move w ↦ find_more f ps i p false c.loop-point.found c.if-is_move.found c.loop-point-test.true c.point-item.is (sym w.if-is_move.false ∙ c.is_move.ensures) c.loop-point.invariant w.found-is
    ]
