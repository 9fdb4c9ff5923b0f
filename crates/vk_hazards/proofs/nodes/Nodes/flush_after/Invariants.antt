use Rattle.vk_order.specs.Bytes.{byte_of}
use Rattle.vk_hazards.specs.Hazards.{node_at}
use Rattle.vk_hazards.specs.Links.{flushes_after}
use Rattle.vk_hazards.proofs.FirstLemmas.{NoneBelow}
use Rattle.vk_hazards.proofs.nodes.Nodes.flush_after.Given as goal

abbrev pub invariant-loop-number : goal.invariant-loop-number
invariant-loop-number l = NoneBelow l.self (flushes_after l.self (node_at l.by) (byte_of l.byte)) l.number
