use Rattle.std.proofs.Common.{List, subst}
use Rattle.std.specs.Prelude.{Contains}
use Rattle.vk_model.specs.Trace.PointViews.{point_of}
use Rattle.vk_queues.specs.PointViews.{past_of}
use Rattle.vk_hazards.specs.declared.asked.Asked.{Asked}
use Rattle.vk_hazards.proofs.LifeLemmas.{dead_from, none_dead}
use Rattle.vk_hazards.proofs.lives.dead_id.Goals as goal

pub returns-in-Some : goal.returns-in-Some
returns-in-Some c =
    let d = c.in-Some.dead in
    let there = subst (λ (l : List Asked). Contains l d) c.as_slice.ensures.value c.in-Some.ensures.some.0 in
    dead_from (past_of c.args.older.now) (point_of c.args.point.now) (past_of c.judged_points-judged.result.now) c.in_ok-asked.asked.items d c.life_of.result c.latest.result
    c.judged_points-judged.ensures c.in_ok-asked.ensures there c.in-Some.ensures.some.1 c.life_of.ensures c.latest.ensures

pub returns : goal.returns
returns c =
    none_dead (past_of c.args.older.now) (point_of c.args.point.now) (past_of c.judged_points-judged.result.now) c.in_ok-asked.asked.items c.as_slice.result.now
    c.judged_points-judged.ensures c.in_ok-asked.ensures c.as_slice.ensures.value c.in-None.ensures.none
