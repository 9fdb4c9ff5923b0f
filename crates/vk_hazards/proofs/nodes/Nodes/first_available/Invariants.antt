use Rattle.vk_order.specs.Bytes.{byte_of}
use Rattle.vk_hazards.specs.Hazards.{node_at}
use Rattle.vk_hazards.specs.Links.{makes_available}
use Rattle.vk_hazards.proofs.FirstLemmas.{NoneBelow}
use Rattle.vk_hazards.proofs.nodes.Nodes.first_available.Given as goal

abbrev pub invariant-loop-number : goal.invariant-loop-number
invariant-loop-number l = NoneBelow l.self (makes_available l.self (node_at l.write.by) (byte_of l.write.byte)) l.number
