use Rattle.std.proofs.Common.{◌≡◌, ◌++◌, map, drop}
use Rattle.vk_model.specs.declared.command.Element.TheVariants.{Image}
use Rattle.vk_trace.proofs.commands.push_images.Given as goal

abbrev pub invariant-loop-on_image : goal.invariant-loop-on_image
invariant-loop-on_image l = l.elements.items ++ map Image (drop l.on_image-index l.images) ≡ l.fn.elements.items ++ map Image l.images
