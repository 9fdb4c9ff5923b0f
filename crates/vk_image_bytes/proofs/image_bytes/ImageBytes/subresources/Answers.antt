use Rattle.vk_image_bytes.proofs.Reached.{are_of}
use Rattle.vk_image_bytes.proofs.image_bytes.ImageBytes.subresources.Goals as goal

pub returns : goal.returns
returns c = are_of c.args.self.now c.args.low c.args.high _ c.requires.some c.requires.within c.subresource_at.ensures.subresource c.subresource_at-2.ensures.subresource
