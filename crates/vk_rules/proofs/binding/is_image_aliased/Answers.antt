use Rattle.std.proofs.Common.{refl}
use Rattle.vk_model.specs.Trace.Objects.{of_image}
use Rattle.vk_rules.proofs.binding.is_image_aliased.Goals as goal

pub returns : goal.returns
returns c = c.is_aliased.ensures (of_image c.args.info.now) refl c.image_bytes.ensures refl
