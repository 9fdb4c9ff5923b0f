use Rattle.std.proofs.Common.{◌≡◌, ◌++◌, map, drop}
use Rattle.vk_model.specs.declared.command.Element.TheVariants.{Memory}
use Rattle.vk_trace.proofs.commands.push_memory.Given as goal

abbrev pub invariant-loop-dependency : goal.invariant-loop-dependency
invariant-loop-dependency l = l.elements.items ++ map Memory (drop l.dependency-index l.memory) ≡ l.fn.elements.items ++ map Memory l.memory
