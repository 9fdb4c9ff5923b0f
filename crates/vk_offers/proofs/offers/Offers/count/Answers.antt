use Rattle.std.proofs.Common.{ap, sym, ◌∙◌, length}
use Rattle.std.proofs.lemmas.List.{length-map}
use Rattle.vk_sync.specs.Ready.{ready}
use Rattle.vk_offers.specs.IsOffers.{name_of}
use Rattle.vk_offers.proofs.Offering.{same_offers}
use Rattle.vk_offers.proofs.offers.Offers.count.Goals as goal

pub returns-clause-named : goal.returns-clause-named
returns-clause-named c = λ past done is. c.count.ensures ∙ sym (length-map (ready c.args.self.now.ready) (name_of past)) ∙ ap length (same_offers past done c.args.self.now.ready is.started)
