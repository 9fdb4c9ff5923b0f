use Rattle.vk_model.specs.Trace.PointViews.{point_of}
use Rattle.vk_history.specs.PointViews.{past}
use Rattle.vk_validate.proofs.Judging.Transitioning.{barrier_conflicts}
use Rattle.vk_validate.proofs.rules.hazards.barriers.of_barrier.Goals as goal

pub returns : goal.returns
returns c =
    barrier_conflicts (past c.args.history.now) c.is_judged.ensures (point_of c.args.point.now) c.requires.ordered c.requires.early c.args.elements.now c.requires.barrier c.elements_are_alone.ensures.before c.elements_are_alone.ensures.seen c.prefixes.ensures.line c.host_seen.ensures
    c.in_ok-war.war c.in_ok-missed.missed c.in_ok-war.ensures c.in_ok-missed.ensures
