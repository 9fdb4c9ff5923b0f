use Rattle.vk_queues.specs.PointViews.{past_of}
use Rattle.vk_hazards.specs.Strays.{is_outside}
use Rattle.vk_hazards.proofs.StrayLemmas.{in_second}
use Rattle.vk_hazards.proofs.strays.listed_outside.Goals as goal

pub returns-in-None-clause-some : goal.returns-in-None-clause-some
returns-in-None-clause-some c =
    in_second (is_outside (past_of c.args.points.now) c.args.pool) c.args.ignored.now c.args.destroyed.now c.first_outside-in-None.result c.first_outside-in-None.ensures.some
