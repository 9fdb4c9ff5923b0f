use Rattle.vk_offers.proofs.Steps.{finished}
use Rattle.vk_offers.proofs.offers.Offers.finish.Goals as goal

pub returns : goal.returns
returns c = λ past done is. finished c.args.self.now past done is c.args.piece c.requires _ c.finish.ensures
