use Rattle.std.proofs.Common.{arith, refl}
use Rattle.vk_image_tiles.proofs.TexelPlaces.{start_within, kept_at}
use Rattle.vk_image_tiles.proofs.LevelBounds.{few_levels}
use Rattle.vk_image_tiles.proofs.shapes.Shape.start_of.Goals as goal

pub overflow_mul-result : goal.overflow_mul-result
overflow_mul-result c =
    let kept = kept_at _ c.args.self.now c.self.view_is c.self.invariant in
    rw (c.from.ensures, c.layer_size.ensures) (omega (arith, kept.small, start_within c.texels_inside.ensures c.args.self.now c.requires.tiled c.args.level c.args.layer kept.shaped c.requires.level_there c.requires.layer_there))

pub overflow_add-result : goal.overflow_add-result
overflow_add-result c =
    let kept = kept_at _ c.args.self.now c.self.view_is c.self.invariant in
    rw (c.from.ensures, c.layer_size.ensures) (omega (arith, kept.small, kept.starts_are c.args.level (few_levels c.args.self.now c.args.level kept.shaped c.requires.level_there), start_within c.texels_inside.ensures c.args.self.now c.requires.tiled c.args.level c.args.layer kept.shaped c.requires.level_there c.requires.layer_there))

pub returns : goal.returns
returns c =
    let kept = kept_at _ c.args.self.now c.self.view_is c.self.invariant in
    rw (c.from.ensures, c.layer_size.ensures, kept.starts_are c.args.level (few_levels c.args.self.now c.args.level kept.shaped c.requires.level_there)) refl
