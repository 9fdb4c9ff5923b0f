use Rattle.std.proofs.Common.{refl}
use Rattle.vk_model.specs.Trace.Objects.{of_buffer}
use Rattle.vk_rules.proofs.binding.is_buffer_aliased.Goals as goal

pub returns : goal.returns
returns c = c.is_aliased.ensures (of_buffer c.args.info.now) refl c.buffer_bytes.ensures refl
