use Rattle.std.proofs.Common.{arith}
use Rattle.vk_image_tiles.proofs.LevelBounds.{counts}
use Rattle.vk_image_bytes.proofs.Keeping.{kept_at}
use Rattle.vk_image_bytes.proofs.Levels.{level_rises}
use Rattle.vk_image_bytes.proofs.image_bytes.ImageBytes.level_first.Goals as goal

pub returns-clause-within : goal.returns-clause-within
returns-clause-within c =
    let kept = kept_at _ c.args.self.now c.self.view_is c.self.invariant in
    let few = (counts c.args.self.now kept.shaped).levels.few in
    omega (arith, kept.firsts_are c.args.level (omega (arith, c.requires, few)), level_rises c.args.self.now c.args.level c.args.self.now.levels c.requires)
