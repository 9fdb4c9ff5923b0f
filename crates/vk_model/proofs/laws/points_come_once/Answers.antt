use Rattle.vk_model.proofs.Trace.Once.{come_once}
use Rattle.vk_model.proofs.laws.points_come_once.Goals as goal

pub returns : goal.returns
returns c = come_once
