use Rattle.vk_model.specs.Trace.Objects.{is_exclusive}
use Rattle.vk_model.specs.Trace.PointViews.{point_of}
use Rattle.vk_history.specs.PointViews.{past}
use Rattle.vk_rules.proofs.Judging.Halves.{fault_unchanged}
use Rattle.vk_rules.proofs.halves.acquire_first.Goals as goal

pub returns-else-is_none-clause-fault : goal.returns-else-is_none-clause-fault
returns-else-is_none-clause-fault c = λ t.
    let before_it = past c.args.history.now in
    fault_unchanged before_it (point_of c.args.point.now) c.args.element.now c.args.resource t c.args.changed.now c.in_ok-fault.fault c.requires.unchanged
    (c.in_ok-fault.ensures.fault c.requires.does t (is_exclusive before_it c.args.resource))
