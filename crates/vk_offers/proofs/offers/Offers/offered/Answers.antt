use Rattle.std.proofs.Common.{ap, ◌∙◌, map}
use Rattle.std.proofs.lemmas.Result.{IfOk-weaker}
use Rattle.vk_offers.specs.IsOffers.{name_of}
use Rattle.vk_offers.proofs.Offering.{same_offers}
use Rattle.vk_offers.proofs.offers.Offers.offered.Goals as goal

pub returns-clause-named : goal.returns-clause-named
returns-clause-named c = IfOk-weaker c.ready.result _ _ (λ pieces same. λ past done is. ap (λ xs. map (name_of past) xs) same ∙ same_offers past done c.args.self.now.ready is.started) c.ready.ensures
