use Rattle.std.proofs.Common.{◌≡◌, ℕ, ap, ◌∙◌, arith}
use Rattle.vk_model.specs.Memory.Addresses.{address}
use Rattle.vk_model.specs.Trace.Image.{texel}
use Rattle.vk_image_tiles.specs.Rows.{place_in}
use Rattle.vk_image_tiles.proofs.RowPlaces.{row_places}
use Rattle.vk_image_tiles.proofs.TexelPlaces.{kept_at, texel_ends}
use Rattle.vk_image_tiles.proofs.shapes.Shape.row.Goals as goal

bytes_are : (c : goal.After-new) → c.new.result.texel ≡ texel c.args.self.now.format
bytes_are c = let kept = kept_at _ c.args.self.now c.self.view_is c.self.invariant in ap (λ r. r.texel) c.new.ensures ∙ kept.texel_is

places : (c : goal.After-new) (x : ℕ) → place_in c.new.result x ≡ address c.args.self.now c.args.self.now.tiling c.args.level c.args.layer x c.args.y
places c x =
    let kept = kept_at _ c.args.self.now c.self.view_is c.self.invariant in
    row_places c.args.self.now c.new.result c.args.level c.args.layer x c.args.y c.address.result c.self.inside.texel c.self.inside.image.tiling c.new.ensures (ap (λ i. i.tiling) c.self.view_is) kept.texel_is c.address.ensures.place

pub returns-clause-places : goal.returns-clause-places
returns-clause-places c = places c

pub returns-clause-texel : goal.returns-clause-texel
returns-clause-texel c = bytes_are c

pub returns-clause-inside : goal.returns-clause-inside
returns-clause-inside c x there =
    let kept = kept_at _ c.args.self.now c.self.view_is c.self.invariant in
    omega (arith, places c x, bytes_are c, texel_ends c.texels_inside.ensures c.args.self.now c.args.level c.args.layer x c.args.y (record { shaped = kept.shaped; level_there = c.requires.level_there; layer_there = c.requires.layer_there; x_there = there; y_there = c.requires.y_there }))
