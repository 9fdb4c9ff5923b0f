use Rattle.std.proofs.Common.{◌<◌}
use Rattle.std.specs.Prelude.{Contains}
use Rattle.vk_order.specs.Bytes.{byte_of}
use Rattle.vk_hazards.specs.Hazards.{node_at}
use Rattle.vk_hazards.specs.declared.availability.First.{First}
use Rattle.vk_hazards.proofs.AvailabilityLemmas.{Each, AllBelow}
use Rattle.vk_hazards.proofs.nodes.Nodes.firsts.Given as goal

abbrev pub invariant-loop-number : goal.invariant-loop-number
invariant-loop-number l = record {
  within : (f : First) → Contains l.firsts.items f → f.number < l.number;
  each : Each l.self (node_at l.write.by) (byte_of l.write.byte) l.firsts.items;
  all : AllBelow l.self (node_at l.write.by) (byte_of l.write.byte) l.firsts.items l.number;
}
