use Rattle.vk_model.specs.Trace.Objects.{of_buffer, of_image}
use Rattle.vk_rules.proofs.AliasLemmas.{bound_buffer, bound_image}
use Rattle.vk_rules.proofs.aliases.bound_by.Goals as goal

pub returns-in-Buffer : goal.returns-in-Buffer
returns-in-Buffer c = bound_buffer c.args.entry.now c.in-Buffer.id c.in-Buffer.info c.bound_at.result c.in-Buffer.is (c.bound_at.ensures (of_buffer c.in-Buffer.info).size c.buffer_bytes.ensures)

pub returns-in-Image : goal.returns-in-Image
returns-in-Image c = bound_image c.args.entry.now c.in-Image.id c.in-Image.info c.bound_at-in-Image.result c.in-Image.is (c.bound_at-in-Image.ensures (of_image c.in-Image.info).size c.image_bytes.ensures)
