use Rattle.vk_order.proofs.FrontLemmas.{front_none}
use Rattle.vk_order.proofs.fronts.Front.empty.Goals as goal

pub returns : goal.returns
returns c = λ ns ls. front_none ns ls (record { counts = c.clear.new.self }) c.clear.ensures.items
