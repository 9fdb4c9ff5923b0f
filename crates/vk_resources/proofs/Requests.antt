-- What buffers and images ask of memory.
use Rattle.std.proofs.Common.{◌≡◌, ◌⊎◌, inl, inr, ℕ, suc, zero, ◌+◌, ◌*◌, ◌/◌, ◌%◌, ◌^◌, ◌<◌, ◌≤◌, List, [], ◌∷◌, false, max, fold, refl, ap, ◌∙◌, subst, arith}
use Rattle.std.specs.List.{range_with_len, sum_by}
use Rattle.std.proofs.Math.Nat.{mul-mod_left, mul-pos}
use Rattle.vk_model.specs.declared.resource.BufferInfo.{BufferInfo}
use Rattle.vk_model.specs.declared.resource.ImageInfo.{ImageInfo}
use Rattle.vk_model.specs.declared.resource.Kind.{Kind}
use Rattle.vk_model.specs.declared.resource.Kind.TheVariants as kind
use Rattle.vk_model.specs.Basics.{below, round_up}
use Rattle.vk_model.specs.Memory.Suballocation.{IsRequest}
use Rattle.vk_model.specs.Rules.Sizes.{bad_image}
use Rattle.vk_model.specs.Trace.Image.{texel, tiles_across, tiles_down, level_size, layer_size, row_pitch, image_size, image_align}
use Rattle.vk_image_tiles.proofs.LevelBounds.{counts}
use Rattle.vk_model.proofs.World.BytePlaces.{texel_some}

-- ---- sizes in units of 16

pub IsMultiple : ℕ → Type 0
IsMultiple n = (count : ℕ) × (n ≡ count * 16)

pub units : (n : ℕ) → IsMultiple n → n % 16 ≡ 0
unfolding IsMultiple
units n m = ap (λ (k : ℕ). k % 16) m.1 ∙ mul-mod_left m.0 16

pub of_parts : (n count : ℕ) → n ≡ count * 16 → IsMultiple n
unfolding IsMultiple
of_parts n count is = (count, is)

scaled : (n m : ℕ) → IsMultiple n → IsMultiple (n * m)
unfolding IsMultiple
scaled n m is = (is.0 * m, ap (λ (k : ℕ). k * m) is.1 ∙ omega arith)

-- ---- what buffers and images ask

buffer_size_units : (n : ℕ) → 0 < n → (0 < round_up n 16) × (round_up n 16 % 16 ≡ 0)
buffer_size_units n some = (omega arith, mul-mod_left ((n + 15) / 16) 16)

pub buffer_request : (b : BufferInfo) → 0 < b.size → IsRequest (round_up b.size 16) 16
buffer_request b some = let u = buffer_size_units b.size some in record { some = u.0; units = u.1; aligned = inl refl }

row_units : (n : ℕ) → 0 < n → (0 < round_up n 64) × IsMultiple (round_up n 64)
row_units n some = (omega arith, of_parts (round_up n 64) ((n + 63) / 64 * 4) (omega arith))

tile_units : (n : ℕ) → 0 < n → (0 < round_up n 256) × IsMultiple (round_up n 256)
tile_units n some = (omega arith, of_parts (round_up n 256) ((n + 255) / 256 * 16) (omega arith))

-- a level has some tiles
some_tiles : (n : ℕ) → 0 < (max 1 n + 7) / 8
some_tiles n = omega arith

level_units : (m : ImageInfo) (k : ℕ) → (0 < level_size m k) × IsMultiple (level_size m k)
level_units m k =
    let across : 0 < tiles_across m k = some_tiles (m.width / 2 ^ k) in
    let down : 0 < tiles_down m k = some_tiles (m.height / 2 ^ k) in
    let tiles : 0 < tiles_across m k * tiles_down m k = mul-pos across down in
    let texels : 0 < tiles_across m k * tiles_down m k * 64 = mul-pos tiles (omega arith) in
    tile_units (tiles_across m k * tiles_down m k * 64 * texel m.format) (mul-pos texels (texel_some m.format))

sums : (f : ℕ → ℕ) → ((k : ℕ) → (0 < f k) × IsMultiple (f k)) → (xs : List ℕ) (a : ℕ) → IsMultiple a → (a ≤ fold (λ n x. n + f x) a xs) × IsMultiple (fold (λ n x. n + f x) a xs)
unfolding IsMultiple
sums f each [] a is = (omega arith, is)
sums f each (x ∷ xs) a is =
    let one = each x in
    let rest = sums f each xs (a + f x) (is.0 + one.1.0, omega (arith, is.1, one.1.1)) in
    (omega (arith, rest.0), rest.1)

layer_units : (m : ImageInfo) → 0 < m.levels → (0 < layer_size m) × IsMultiple (layer_size m)
layer_units m some = go m.levels some
  where
    go : (n : ℕ) → 0 < n → (0 < sum_by (level_size m) (below n)) × IsMultiple (sum_by (level_size m) (below n))
    go zero none = absurd (omega arith)
    go (suc n) more =
        let first = level_units m 0 in
        let rest = sums (level_size m) (level_units m) (range_with_len 1 n) (0 + level_size m 0) (subst IsMultiple (omega arith) first.1) in
        (omega (arith, first.0, rest.0), rest.1)

image_units : (k : Kind) (m : ImageInfo) → bad_image m ≡ false → (0 < image_size m k) × IsMultiple (image_size m k)
image_units kind.Linear m good =
    let c = counts m good in
    let row = row_units (m.width * texel m.format) (mul-pos c.width.some (texel_some m.format)) in
    (mul-pos row.0 c.height.some, scaled (row_pitch m) m.height row.1)
image_units kind.Optimal m good =
    let c = counts m good in
    let layer = layer_units m c.levels.some in
    (mul-pos layer.0 c.layers.some, scaled (layer_size m) m.layers layer.1)

aligned : (k : Kind) → (image_align k ≡ 16) ⊎ (image_align k ≡ 64) ⊎ (image_align k ≡ 256)
aligned kind.Linear = inr (inl refl)
aligned kind.Optimal = inr (inr refl)

pub image_request : (m : ImageInfo) → bad_image m ≡ false → IsRequest (image_size m m.tiling) (image_align m.tiling)
image_request m good = let u = image_units m.tiling m good in record { some = u.0; units = units (image_size m m.tiling) u.1; aligned = aligned m.tiling }
