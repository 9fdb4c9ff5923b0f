use Rattle.std.proofs.Common.{refl}
use Rattle.vk_order.proofs.PlaceLemmas.{apart_from}
use Rattle.vk_model.specs.Sync.Node.{nodes}
use Rattle.vk_offers.specs.IsOffers.{host_node}
use Rattle.vk_offers.proofs.offers.Offers.before.Goals as goal

pub returns : goal.returns
returns c = λ past done is.
    let n = host_node past c.args.number c.args.entry.now in
    c.commands_before.ensures (nodes past) n (c.in_ok-new_node.ensures.new_node (nodes past) n is.frontier refl (apart_from (nodes past) n refl))
