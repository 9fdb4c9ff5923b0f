-- Texels, levels and subresources end in the image, by the law that its bytes lie inside.
use Rattle.std.proofs.Common.{◌≡◌, ℕ, ◌+◌, ◌-◌, ◌*◌, ◌/◌, ◌<◌, ◌≤◌, List, false, refl, subst, arith}
use Rattle.vk_model.specs.declared.resource.ImageInfo.{ImageInfo}
use Rattle.vk_model.specs.declared.subresource.SubresourceLayout.{SubresourceLayout}
use Rattle.vk_model.specs.declared.resource.Kind.{Kind}
use Rattle.vk_model.specs.declared.resource.Kind.TheVariants as kind
use Rattle.vk_model.specs.Trace.Image.{texel, level_width, level_height, level_size, layer_size, row_pitch, image_size}
use Rattle.vk_model.specs.Rules.Sizes.{bad_image}
use Rattle.vk_model.specs.Memory.Addresses.{address, level_start, subresource_layout, number_in_tile}
use Rattle.vk_model.specs.Memory.PlaceLaws.{TexelByte, HasByte, TexelsInside, SubresourcesHold}
use Rattle.vk_image_tiles.specs.Inner.Kept.{IsKept}
use Rattle.vk_model.proofs.World.BytePlaces.{texel_some}

-- a texel of an image of a good shape
pub record HasTexel (i : ImageInfo) (level layer x y : ℕ) : Type 0 where
  pub shaped : bad_image i ≡ false
  pub level_there : level < i.levels
  pub layer_there : layer < i.layers
  pub x_there : x < level_width i level
  pub y_there : y < level_height i level

-- the bytes of a texel end in the image
pub texel_ends : TexelsInside → (i : ImageInfo) (level layer x y : ℕ) → HasTexel i level layer x y → address i i.tiling level layer x y + texel i.format ≤ image_size i i.tiling
texel_ends law i level layer x y t =
    let some = texel_some i.format in
    let b : TexelByte = record { level = level; layer = layer; x = x; y = y; texel_byte = texel i.format - 1 } in
    let there : HasByte i b = record { shaped = t.shaped; level_there = t.level_there; layer_there = t.layer_there; x_there = t.x_there; y_there = t.y_there; texel_byte_there = omega arith } in
    omega (arith, law i b there)

-- the same with the tiling named
pub texel_ends_as : TexelsInside → (i : ImageInfo) (k : Kind) → i.tiling ≡ k → (level layer x y : ℕ) → HasTexel i level layer x y → address i k level layer x y + texel i.format ≤ image_size i i.tiling
texel_ends_as law i k is level layer x y t = subst (λ (m : Kind). address i m level layer x y + texel i.format ≤ image_size i i.tiling) is (texel_ends law i level layer x y t)

-- each level has a first texel
pub first_texel : (i : ImageInfo) (level layer : ℕ) → bad_image i ≡ false → level < i.levels → layer < i.layers → HasTexel i level layer 0 0
first_texel i level layer good l m = record { shaped = good; level_there = l; layer_there = m; x_there = omega arith; y_there = omega arith }

-- where a level of a layer starts
pub start_within : TexelsInside → (i : ImageInfo) → i.tiling ≡ kind.Optimal → (level layer : ℕ) → bad_image i ≡ false → level < i.levels → layer < i.layers
    → layer * layer_size i + level_start i level ≤ image_size i i.tiling
start_within law i is level layer good l m = omega (arith, texel_ends_as law i kind.Optimal is level layer 0 0 (first_texel i level layer good l m))

-- what a shape keeps, of the image that contracts see
pub kept_at : {texel_bytes row_bytes : ℕ} {starts : List ℕ} (a i : ImageInfo) → a ≡ i → IsKept a texel_bytes row_bytes starts → IsKept i texel_bytes row_bytes starts
kept_at {texel_bytes} {row_bytes} {starts} a i same kept = subst (λ (j : ImageInfo). IsKept j texel_bytes row_bytes starts) same kept

-- the tiling of the image that contracts see
pub tiling_at : (k : Kind) (a i : ImageInfo) → a ≡ i → a.tiling ≡ k → i.tiling ≡ k
tiling_at k a i same is = subst (λ (j : ImageInfo). j.tiling ≡ k) same is

-- ---- places from their parts

pub linear_place : (i : ImageInfo) (level layer x y down along row_bytes texel_bytes : ℕ) → down ≡ y → along ≡ x → row_bytes ≡ row_pitch i → texel_bytes ≡ texel i.format
    → down * row_bytes + along * texel_bytes ≡ address i kind.Linear level layer x y
linear_place i level layer x y down along row_bytes texel_bytes d a r t = rw (d, a, r, t) refl

pub tiled_place : (i : ImageInfo) (level layer x y start wide across down along number texel_bytes : ℕ) → start ≡ layer * layer_size i + level_start i level → wide ≡ level_width i level → across ≡ (wide + 7) / 8
    → down ≡ y / 8 → along ≡ x / 8 → number ≡ number_in_tile x y → texel_bytes ≡ texel i.format
    → start + ((down * across + along) * 64 + number) * texel_bytes ≡ address i kind.Optimal level layer x y
tiled_place i level layer x y start wide across down along number texel_bytes s w a d l n t = rw (s, a, w, d, l, n, t) refl

-- a place and a texel's bytes end in the image
pub place_ends : TexelsInside → (i : ImageInfo) (k : Kind) → i.tiling ≡ k → (level layer x y place : ℕ) → HasTexel i level layer x y → place ≡ address i k level layer x y → place + texel i.format ≤ image_size i i.tiling
place_ends law i k is level layer x y place there same = omega (arith, same, texel_ends_as law i k is level layer x y there)

-- a subresource of an optimal image ends in the image
pub level_ends : SubresourcesHold → (i : ImageInfo) (k : Kind) → i.tiling ≡ k → (level layer : ℕ) → bad_image i ≡ false → level < i.levels → layer < i.layers
    → (let l = subresource_layout i k level layer in l.offset + l.size ≤ image_size i i.tiling)
level_ends law i k is level layer good l m =
    let b : TexelByte = record { level = level; layer = layer; x = 0; y = 0; texel_byte = 0 } in
    let there : HasByte i b = record { shaped = good; level_there = l; layer_there = m; x_there = omega arith; y_there = omega arith; texel_byte_there = texel_some i.format } in
    subst (λ (n : Kind). let l = subresource_layout i n level layer in l.offset + l.size ≤ image_size i i.tiling) is (law i b there).inside

pub tiled_layout : (i : ImageInfo) (level layer start size : ℕ) → start ≡ layer * layer_size i + level_start i level → size ≡ level_size i level
    → (let l : SubresourceLayout = record { offset = start; size = size; row_pitch = 0 } in l ≡ subresource_layout i kind.Optimal level layer)
tiled_layout i level layer start size s z = rw (s, z) refl
