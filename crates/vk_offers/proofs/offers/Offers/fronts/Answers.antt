use Rattle.vk_offers.proofs.FrontLemmas.{fronts_are}
use Rattle.vk_offers.proofs.offers.Offers.fronts.Goals as goal

pub returns : goal.returns
returns c = λ past done is. fronts_are past done c.args.self.now.ready is.started c.fronts.result c.fronts.ensures
