use Rattle.std.proofs.Common.{take}
use Rattle.vk_history.specs.Contents.{IsCleared}
use Rattle.vk_history.proofs.resource_contents.ResourceContents.clear.Given as goal

abbrev pub invariant-loop-range : goal.invariant-loop-range
invariant-loop-range l = IsCleared (take l.range-index l.ranges) l.family l.spot l.fn.self l.self
