use Rattle.vk_image_tiles.proofs.Levels.{last_texel}
use Rattle.vk_image_tiles.proofs.sizes.halved.Goals as goal

pub returns-else-level-lt32 : goal.returns-else-level-lt32
returns-else-level-lt32 c = last_texel c.args.side c.args.level c.ranges.side.fits c.if-level-lt32.false
