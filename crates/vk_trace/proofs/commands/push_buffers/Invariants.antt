use Rattle.std.proofs.Common.{◌≡◌, ◌++◌, map, drop}
use Rattle.vk_model.specs.declared.command.Element.TheVariants.{Buffer}
use Rattle.vk_trace.proofs.commands.push_buffers.Given as goal

abbrev pub invariant-loop-on_buffer : goal.invariant-loop-on_buffer
invariant-loop-on_buffer l = l.elements.items ++ map Buffer (drop l.on_buffer-index l.buffers) ≡ l.fn.elements.items ++ map Buffer l.buffers
