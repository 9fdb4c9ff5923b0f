use Rattle.std.proofs.Common.{◌∙◌}
use Rattle.vk_model.specs.Trace.PointViews.{point_of}
use Rattle.vk_history.specs.PointViews.{past}
use Rattle.vk_findings.proofs.layouts.old_layout_of.Goals as goal

pub returns-clause-broken : goal.returns-clause-broken
returns-clause-broken c =
    let shows = rw (← c.as_slice.ensures.value, c.happened.ensures) at c.in_ok-kept.ensures in
    c.left_otherwise.ensures.some (past c.args.history.now) (point_of c.args.point.now) shows c.in-Some.ensures.reported ∙ c.in-Some.ensures.broken
