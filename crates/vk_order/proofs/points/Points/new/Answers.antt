use Rattle.std.proofs.Common.{[], Some, refl}
use Rattle.vk_model.proofs.Lists.Members.{none_in}
use Rattle.vk_order.specs.declared.frontier.Frontier.{Frontier}
use Rattle.vk_order.specs.Inner.Kept.{IsStamped}
use Rattle.vk_order.specs.Inner.Ready.{IsReady}
use Rattle.vk_order.specs.Inner.Tallies.{lines_of}
use Rattle.vk_order.specs.Frontiers.{IsFrontier}
use Rattle.vk_order.proofs.ListLemmas.{longer_none}
use Rattle.vk_order.proofs.points.Points.new.Goals as goal

nothing : IsStamped [] [] []
nothing = record { lengths = refl; stamped = λ i r s e. absurd cc; listed = λ k c. absurd (none_in k c) }

ready : (f : Frontier) → IsFrontier f [] → IsReady [] [] [] (Some f)
ready f is = record { stamped = nothing; next = (is, longer_none (lines_of f.tallies.items)) }

pub invariant_of-result : goal.invariant_of-result
invariant_of-result c = rw (c.new.ensures.items, c.new-2.ensures.items, c.new-3.ensures.items) (ready c.new-4.result c.new-4.ensures)
