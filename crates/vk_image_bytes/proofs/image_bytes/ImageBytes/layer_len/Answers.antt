use Rattle.std.proofs.Common.{arith}
use Rattle.vk_image_tiles.proofs.LevelBounds.{counts}
use Rattle.vk_image_bytes.proofs.Levels.{few_below, some_below}
use Rattle.vk_image_bytes.proofs.image_bytes.ImageBytes.layer_len.Goals as goal

pub returns-clause-above : goal.returns-clause-above
returns-clause-above c =
    let m = c.self.inside.image in
    let levels = (counts m c.self.invariant.shaped).levels in
    omega (arith, c.self.invariant.firsts_are m.levels levels.few, some_below m m.levels levels.some)

pub returns-clause-within : goal.returns-clause-within
returns-clause-within c =
    let m = c.self.inside.image in
    let levels = (counts m c.self.invariant.shaped).levels in
    omega (arith, c.self.invariant.firsts_are m.levels levels.few, few_below m m.levels c.self.invariant.shaped, levels.few)
