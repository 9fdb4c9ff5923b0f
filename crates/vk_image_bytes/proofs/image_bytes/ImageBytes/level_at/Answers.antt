use Rattle.std.proofs.Common.{arith}
use Rattle.vk_image_bytes.proofs.Levels.{level_zero}
use Rattle.vk_image_bytes.proofs.image_bytes.ImageBytes.level_at.Goals as goal

pub loop-level-init : goal.loop-level-init
loop-level-init c = omega (arith, level_zero c.args.self.now)
