use Rattle.std.proofs.Common.{◌≡◌, ◌≤◌, ◌++◌, List, Bool, false, length, take}
use Rattle.vk_model.specs.Sync.Node.{Node}
use Rattle.vk_order.specs.NodeViews.{nodes_after}
use Rattle.vk_events.specs.Happens.{unseen}
use Rattle.vk_events.specs.IsEvents.{IsEvents}
use Rattle.vk_offers.specs.Inner.Rows.{Follow}
use Rattle.vk_offers.proofs.happenings.add_rows.Given as goal

abbrev pub invariant-loop-index : goal.invariant-loop-index
invariant-loop-index l = (ns : List Node) (finished seen : Node → Bool) (left : List Node) → IsEvents l.fn.events ns finished (left ++ unseen ns finished seen)
    → Follow ns l.rows l.counts finished l.fronts → ((n : Node) → length ns ≤ n.number → seen n ≡ false)
    → IsEvents l.events (nodes_after ns (take l.index l.rows)) finished (left ++ unseen (nodes_after ns (take l.index l.rows)) finished seen)
