use Rattle.std.proofs.Common.{ap, sym, ◌∙◌}
use Rattle.std.specs.Prelude.{slice_get}
use Rattle.vk_sync.specs.Ready.{ready}
use Rattle.vk_offers.specs.IsOffers.{name_of}
use Rattle.vk_offers.proofs.Offering.{same_offers}
use Rattle.vk_offers.proofs.offers.Offers.nth.Goals as goal
use Rattle.vk_model.proofs.Lists.Items.{get_mapped}

pub returns-clause-named : goal.returns-clause-named
returns-clause-named c = λ past done is.
    ap (λ xs. slice_get xs c.args.place) (sym (same_offers past done c.args.self.now.ready is.started)) ∙ get_mapped (name_of past) (ready c.args.self.now.ready) c.args.place c.nth.result c.nth.ensures.piece
