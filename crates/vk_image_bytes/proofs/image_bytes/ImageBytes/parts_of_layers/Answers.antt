use Rattle.std.proofs.Common.{arith}
use Rattle.vk_image_bytes.proofs.Levels.{level_rises}
use Rattle.vk_image_bytes.proofs.image_bytes.ImageBytes.parts_of_layers.Goals as goal

pub overflow_sub-result : goal.overflow_sub-result
overflow_sub-result c = omega (arith, level_rises c.args.self.now c.args.low c.args.high c.requires.levels)
