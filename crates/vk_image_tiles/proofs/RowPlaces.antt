-- Where the texels of a row lie, by the place of its first.
use Rattle.std.proofs.Common.{◌≡◌, ℕ, ◌+◌, ◌*◌, ◌/◌, ap, sym, subst, ◌∙◌, arith}
use Rattle.vk_model.specs.declared.resource.ImageInfo.{ImageInfo}
use Rattle.vk_model.specs.declared.resource.Kind.{Kind}
use Rattle.vk_model.specs.declared.resource.Kind.TheVariants as kind
use Rattle.vk_model.specs.Trace.Image.{texel, layer_size, tiles_across}
use Rattle.vk_model.specs.Memory.Addresses.{address, level_start, number_in_tile}
use Rattle.vk_image_tiles.specs.Rows.{TexelRow, place_in}

numbers_add : (x y : ℕ) → number_in_tile x y ≡ number_in_tile x 0 + number_in_tile 0 y
numbers_add x y = omega arith

-- of a tile's row at `down`, the tile at `along`, and of numbers in a tile that add up
spread : (start down along number across_number down_number t first : ℕ) → number ≡ across_number + down_number → first ≡ start + ((down + 0) * 64 + down_number) * t
    → first + (along * 64 + across_number) * t ≡ start + ((down + along) * 64 + number) * t
spread start down along number across_number down_number t first adds is = rw (adds, is) (omega arith)

in_row : (k : Kind) (i : ImageInfo) (level layer x y first t : ℕ) → first ≡ address i k level layer 0 y → t ≡ texel i.format
    → place_in (record { first = first; texel = t; tiling = k }) x ≡ address i k level layer x y
in_row kind.Linear i level layer x y first t is bytes = rw (bytes, is) (omega arith)
in_row kind.Optimal i level layer x y first t is bytes =
    rw bytes (spread (layer * layer_size i + level_start i level) (y / 8 * tiles_across i level) (x / 8) (number_in_tile x y) (number_in_tile x 0) (number_in_tile 0 y) (texel i.format) first (numbers_add x y) is)

-- the row that starts at a texel's place, with the texels and the tiling of the image
pub row_places : (i : ImageInfo) (row : TexelRow) (level layer x y first t : ℕ) (k : Kind) → row ≡ record { first = first; texel = t; tiling = k } → k ≡ i.tiling → t ≡ texel i.format → first ≡ address i i.tiling level layer 0 y
    → place_in row x ≡ address i i.tiling level layer x y
row_places i row level layer x y first t k is tiling bytes start =
    ap (λ r. place_in r x) is ∙ subst (λ (m : Kind). place_in (record { first = first; texel = t; tiling = m }) x ≡ address i i.tiling level layer x y) (sym tiling) (in_row i.tiling i level layer x y first t start bytes)
