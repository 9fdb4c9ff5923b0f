use Rattle.std.proofs.Common.{◌∙◌}
use Rattle.vk_model.specs.Trace.PointViews.{action_of}
use Rattle.vk_history.specs.PointViews.{past}
use Rattle.vk_findings.proofs.layouts.layout_of.Goals as goal

pub returns-clause-broken : goal.returns-clause-broken
returns-clause-broken c =
    let shows = rw (← c.as_slice.ensures.value, c.happened.ensures) at c.in_ok-kept.ensures in
    c.with_current.ensures.some (past c.args.history.now) (action_of c.args.point.now.action) shows c.in-Some.ensures.reported ∙ c.in-Some.ensures.broken
