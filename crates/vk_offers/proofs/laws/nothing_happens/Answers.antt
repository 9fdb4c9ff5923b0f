use Rattle.std.proofs.Common.{◌∙◌}
use Rattle.vk_offers.proofs.laws.nothing_happens.Goals as goal

pub returns : goal.returns
returns c = λ s. c.happening_is_unseen.ensures.whole s s ∙ c.happening_is_unseen.ensures.nothing s
