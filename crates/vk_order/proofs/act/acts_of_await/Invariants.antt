use Rattle.std.proofs.Common.{◌≡◌, ◌++◌, map}
use Rattle.vk_model.specs.Sync.Node.{AwaitOf, event_acts}
use Rattle.vk_order.specs.NodeViews.{act_of}
use Rattle.vk_order.proofs.ActLemmas.{from_event}
use Rattle.vk_order.proofs.act.acts_of_await.Given as goal

abbrev pub invariant-loop-k : goal.invariant-loop-k
invariant-loop-k l = map act_of l.all.items ++ from_event (AwaitOf l.event) l.k l.elements ≡ event_acts (AwaitOf l.event) l.elements
