use Rattle.vk_model.specs.Sync.Node.{nodes}
use Rattle.vk_events.specs.Happens.{is_finished}
use Rattle.vk_offers.proofs.happenings.Happenings.node_count.Goals as goal

pub returns : goal.returns
returns c = λ past done left is. c.node_count.ensures (nodes past) (is_finished past done) left is.events
