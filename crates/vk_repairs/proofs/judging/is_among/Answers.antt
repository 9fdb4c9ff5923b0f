use Rattle.vk_repairs.proofs.Starts.{among_if}
use Rattle.vk_repairs.proofs.judging.is_among.Goals as goal

pub returns : goal.returns
returns c = among_if c.args.points.now c.args.at c.place_of.result _ c.in-Some.is c.place_of.ensures.there
