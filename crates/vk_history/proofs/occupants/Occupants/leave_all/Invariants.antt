use Rattle.std.proofs.Common.{take}
use Rattle.vk_model.specs.Trace.Point.{Past}
use Rattle.vk_model.specs.Trace.Objects.{memory_of, pool_of}
use Rattle.vk_history.specs.Counted.{LeavesBy}
use Rattle.vk_history.specs.Tabled.{AreObjects}
use Rattle.vk_history.proofs.occupants.Occupants.leave_all.Given as goal

abbrev pub invariant-loop-resource : goal.invariant-loop-resource
invariant-loop-resource l = record {
  memories : (past : Past) → AreObjects l.objects past → LeavesBy memory_of past (take l.resource-index l.resources) l.fn.self.memories l.self.memories;
  pools : (past : Past) → AreObjects l.objects past → LeavesBy pool_of past (take l.resource-index l.resources) l.fn.self.pools l.self.pools;
}
