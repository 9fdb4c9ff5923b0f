use Rattle.std.proofs.Common.{length, refl}
use Rattle.vk_model.specs.Sync.Node.{nodes}
use Rattle.vk_order.specs.NodeViews.{node_of}
use Rattle.vk_offers.proofs.offers.Offers.before_row.Goals as goal

pub returns-in_ok-new_node-in_default : goal.returns-in_ok-new_node-in_default
returns-in_ok-new_node-in_default c = λ past done is sync apart.
    let n = node_of (length (nodes past)) c.args.row.now in
    c.commands_before.ensures (nodes past) n (c.in_ok-new_node-in_default.ensures.new_node (nodes past) n is.frontier refl apart)
