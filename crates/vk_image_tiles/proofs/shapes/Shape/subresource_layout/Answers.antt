use Rattle.std.proofs.Common.{arith, ap, sym, ◌∙◌}
use Rattle.vk_model.specs.declared.resource.Kind.TheVariants as kind
use Rattle.vk_model.specs.Memory.Addresses.{subresource_layout}
use Rattle.vk_model.specs.Trace.Image.{level_size}
use Rattle.vk_image_tiles.proofs.LevelBounds.{level_within}
use Rattle.vk_image_tiles.proofs.TexelPlaces.{kept_at, tiling_at, level_ends, tiled_layout}
use Rattle.vk_image_tiles.proofs.shapes.Shape.subresource_layout.Goals as goal

pub overflow_cast-result : goal.overflow_cast-result
overflow_cast-result c = omega (arith, c.level_size.ensures.size, level_within c.self.inside.image c.args.level c.self.invariant.shaped)

pub returns-in-Optimal-clause-inside : goal.returns-in-Optimal-clause-inside
returns-in-Optimal-clause-inside c =
    let kept = kept_at _ c.args.self.now c.self.view_is c.self.invariant in
    let tiled = tiling_at kind.Optimal c.self.inside.image c.args.self.now c.self.view_is c.in-Optimal.is in
    omega (arith, c.start_of.ensures, c.level_size.ensures.size, ap (λ i. level_size i c.args.level) c.self.view_is, level_ends c.subresources_hold.ensures c.args.self.now kind.Optimal tiled c.args.level c.args.layer kept.shaped c.requires.level_there c.requires.layer_there)

pub returns-in-Optimal-clause-layout : goal.returns-in-Optimal-clause-layout
returns-in-Optimal-clause-layout c =
    let tiled = tiling_at kind.Optimal c.self.inside.image c.args.self.now c.self.view_is c.in-Optimal.is in
    tiled_layout c.args.self.now c.args.level c.args.layer c.start_of.result c.level_size.result c.start_of.ensures (c.level_size.ensures.size ∙ ap (λ i. level_size i c.args.level) c.self.view_is)
    ∙ ap (λ k. subresource_layout c.args.self.now k c.args.level c.args.layer) (sym tiled)
