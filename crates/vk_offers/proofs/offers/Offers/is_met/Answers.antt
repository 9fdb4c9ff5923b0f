use Rattle.vk_offers.proofs.Steps.{counts_there, counts_met}
use Rattle.std.proofs.Common.{◌∙◌}
use Rattle.vk_offers.proofs.offers.Offers.is_met.Goals as goal

pub is_met-requires : goal.is_met-requires
is_met-requires c = counts_there c.args.self.now c.requires.0 c.requires.1 c.requires.3 c.requires.2 c.requires.4 c.args.before c.requires.5

pub returns : goal.returns
returns c = λ past done h is number counts. c.is_met.ensures ∙ counts_met c.args.self.now past done is h number c.args.before counts
