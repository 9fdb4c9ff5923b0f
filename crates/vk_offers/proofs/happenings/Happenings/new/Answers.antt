use Rattle.std.proofs.Common.{[]}
use Rattle.vk_events.specs.Happens.{is_finished}
use Rattle.vk_offers.proofs.happenings.Happenings.new.Goals as goal

pub returns : goal.returns
returns c = record { offers = c.new.ensures; events = c.new-2.ensures (is_finished [] []) }
