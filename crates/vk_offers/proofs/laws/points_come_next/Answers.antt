use Rattle.vk_offers.proofs.Coming.{comes_next}
use Rattle.vk_offers.proofs.laws.points_come_next.Goals as goal

pub returns : goal.returns
returns c = comes_next c.points_are_new.ensures.ordered
