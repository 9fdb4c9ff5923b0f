use Rattle.std.proofs.Common.{◌≡◌, ◌++◌, map}
use Rattle.vk_model.specs.Sync.Node.{Depends, Barrier}
use Rattle.vk_order.specs.NodeViews.{act_of}
use Rattle.vk_order.proofs.ActLemmas.{from_barrier}
use Rattle.vk_order.proofs.act.acts_of_barrier.Given as goal

abbrev pub invariant-loop-element : goal.invariant-loop-element
invariant-loop-element l = map act_of l.all.items ++ from_barrier l.element-index l.elements ≡ map (Depends Barrier) l.elements
