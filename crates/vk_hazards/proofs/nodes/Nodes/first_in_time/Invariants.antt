use Rattle.vk_order.specs.Bytes.{byte_of}
use Rattle.vk_order.specs.Wide.{access_of}
use Rattle.vk_hazards.specs.Hazards.{node_at}
use Rattle.vk_hazards.specs.Links.{shows_in_time}
use Rattle.vk_hazards.proofs.FirstLemmas.{NoneBelow}
use Rattle.vk_hazards.proofs.nodes.Nodes.first_in_time.Given as goal

abbrev pub invariant-loop-number : goal.invariant-loop-number
invariant-loop-number l = NoneBelow l.self (shows_in_time l.self (node_at l.pair.write.by) (node_at l.pair.later) (access_of l.pair.access) (byte_of l.pair.write.byte)) l.number
