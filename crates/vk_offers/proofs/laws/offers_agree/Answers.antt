use Rattle.vk_offers.proofs.Agreeing.{agree}
use Rattle.vk_offers.proofs.laws.offers_agree.Goals as goal

pub returns : goal.returns
returns c = agree
