use Rattle.std.proofs.Common.{arith, ◌≡◌, ◌+◌, ◌*◌, ◌≤◌, ap, sym, ◌∙◌}
use Rattle.vk_model.specs.declared.resource.Kind.TheVariants as kind
use Rattle.vk_model.specs.Memory.Addresses.{address}
use Rattle.vk_model.specs.Trace.Image.{texel, level_width, image_size}
use Rattle.vk_image_tiles.proofs.TexelPlaces.{kept_at, tiling_at, linear_place, tiled_place, place_ends}
use Rattle.vk_image_tiles.proofs.shapes.Shape.address.Goals as goal

-- ---- linear

linear : (c : goal.After-from-in-Linear) → c.args.self.now.tiling ≡ kind.Linear
linear c = tiling_at kind.Linear c.self.inside.image c.args.self.now c.self.view_is c.in-Linear.is

in_rows : (c : goal.After-from-in-Linear) → c.from.result * c.self.inside.pitch + c.from-in-Linear.result * c.self.inside.texel ≡ address c.args.self.now kind.Linear c.args.level c.args.layer c.args.x c.args.y
in_rows c =
    let kept = kept_at _ c.args.self.now c.self.view_is c.self.invariant in
    linear_place c.args.self.now c.args.level c.args.layer c.args.x c.args.y c.from.result c.from-in-Linear.result c.self.inside.pitch c.self.inside.texel c.from.ensures c.from-in-Linear.ensures kept.pitch_is kept.texel_is

rows_end : (c : goal.After-from-in-Linear) → c.from.result * c.self.inside.pitch + c.from-in-Linear.result * c.self.inside.texel + texel c.args.self.now.format ≤ image_size c.args.self.now c.args.self.now.tiling
rows_end c =
    let kept = kept_at _ c.args.self.now c.self.view_is c.self.invariant in
    place_ends c.texels_inside.ensures c.args.self.now kind.Linear (linear c) c.args.level c.args.layer c.args.x c.args.y _
    (record { shaped = kept.shaped; level_there = c.requires.level_there; layer_there = c.requires.layer_there; x_there = c.requires.x_there; y_there = c.requires.y_there }) (in_rows c)

pub overflow_add-result : goal.overflow_add-result
overflow_add-result c = let kept = kept_at _ c.args.self.now c.self.view_is c.self.invariant in omega (arith, rows_end c, kept.small)

pub returns-in-Linear-clause-place : goal.returns-in-Linear-clause-place
returns-in-Linear-clause-place c = in_rows c ∙ ap (λ k. address c.args.self.now k c.args.level c.args.layer c.args.x c.args.y) (sym (linear c))

pub returns-in-Linear-clause-inside : goal.returns-in-Linear-clause-inside
returns-in-Linear-clause-inside c = rows_end c

-- ---- tiled

tiled : (c : goal.After-start_of) → c.args.self.now.tiling ≡ kind.Optimal
tiled c = tiling_at kind.Optimal c.self.inside.image c.args.self.now c.self.view_is c.in-Optimal.is

in_tiles : (c : goal.After-start_of)
    → c.start_of.result + ((c.from-in-Optimal.result * c.tiles-across.result + c.from-in-Optimal-2.result) * 64 + c.number_in_tile.result) * c.self.inside.texel
    ≡ address c.args.self.now kind.Optimal c.args.level c.args.layer c.args.x c.args.y
in_tiles c =
    let kept = kept_at _ c.args.self.now c.self.view_is c.self.invariant in
    tiled_place c.args.self.now c.args.level c.args.layer c.args.x c.args.y c.start_of.result c.level_width.result c.tiles-across.result c.from-in-Optimal.result c.from-in-Optimal-2.result c.number_in_tile.result c.self.inside.texel
    c.start_of.ensures (c.level_width.ensures ∙ ap (λ i. level_width i c.args.level) c.self.view_is) c.tiles-across.ensures.count c.from-in-Optimal.ensures c.from-in-Optimal-2.ensures c.number_in_tile.ensures.number kept.texel_is

tiles_end : (c : goal.After-start_of)
    → c.start_of.result + ((c.from-in-Optimal.result * c.tiles-across.result + c.from-in-Optimal-2.result) * 64 + c.number_in_tile.result) * c.self.inside.texel + texel c.args.self.now.format
    ≤ image_size c.args.self.now c.args.self.now.tiling
tiles_end c =
    let kept = kept_at _ c.args.self.now c.self.view_is c.self.invariant in
    place_ends c.texels_inside.ensures c.args.self.now kind.Optimal (tiled c) c.args.level c.args.layer c.args.x c.args.y _
    (record { shaped = kept.shaped; level_there = c.requires.level_there; layer_there = c.requires.layer_there; x_there = c.requires.x_there; y_there = c.requires.y_there }) (in_tiles c)

pub overflow_mul-result-in-Optimal : goal.overflow_mul-result-in-Optimal
overflow_mul-result-in-Optimal c = let kept = kept_at _ c.args.self.now c.self.view_is c.self.invariant in omega (arith, tiles_end c, kept.small)

pub overflow_add-result-in-Optimal : goal.overflow_add-result-in-Optimal
overflow_add-result-in-Optimal c = let kept = kept_at _ c.args.self.now c.self.view_is c.self.invariant in omega (arith, tiles_end c, kept.small)

pub returns-in-Optimal-clause-place : goal.returns-in-Optimal-clause-place
returns-in-Optimal-clause-place c = in_tiles c ∙ ap (λ k. address c.args.self.now k c.args.level c.args.layer c.args.x c.args.y) (sym (tiled c))

pub returns-in-Optimal-clause-inside : goal.returns-in-Optimal-clause-inside
returns-in-Optimal-clause-inside c = tiles_end c
