use Rattle.std.proofs.Common.{◌++◌, ◌∷◌, [], ◌∙◌, ap}
use Rattle.vk_model.specs.declared.command.Element.TheVariants.{Image}
use Rattle.vk_model.specs.declared.command.ImageElement.{ImageElement}
use Rattle.vk_trace.proofs.MemberLemmas.{mapped_on, mapped_all}
use Rattle.vk_trace.proofs.commands.push_images.Goals as goal

pub loop-on_image-preserved : goal.loop-on_image-preserved
loop-on_image-preserved c = mapped_on Image c.push.new.self.items c.loop-on_image.elements.items _ c.args.images.now c.loop-on_image.on_image-index _ c.loop-on_image-test.true
    (c.in_ok-push.ensures.items ∙ ap (λ (e : ImageElement). c.loop-on_image.elements.items ++ Image e ∷ []) c.on_image-item.is) c.loop-on_image.invariant

pub returns : goal.returns
returns c = mapped_all Image c.loop-on_image.elements.items _ c.args.images.now c.loop-on_image.on_image-index c.loop-on_image-test.false c.loop-on_image.invariant
