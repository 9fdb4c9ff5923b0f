-- Texels of an image share no byte, and lie in their subresource and their image.
use Rattle.std.proofs.Common.{◌≡◌, ℕ, zero, suc, ◌+◌, ◌*◌, ◌/◌, ◌%◌, ◌<◌, ◌≤◌, Bool, true, false, ◌||◌, ◌&&◌, ◌==◌, not, refl, add_assoc, ap, sym, subst, ◌∙◌, arith, inl, inr}
use Rattle.std.specs.List.{sum_by, range_with_len}
use Rattle.std.proofs.lemmas.Nat.{same_from_place, mul-add-lt, row_fits}
use Rattle.std.proofs.lemmas.List.Sums.{sum_by-cons}
use Rattle.std.proofs.lemmas.Bool.{or_parts, eqb-false, eqb-true, cases_lt}
use Rattle.vk_model.specs.declared.resource.ImageInfo.{ImageInfo}
use Rattle.vk_model.specs.declared.resource.Kind.{Kind}
use Rattle.vk_model.specs.declared.resource.Kind.TheVariants as kind
use Rattle.vk_model.specs.Basics.{below, round_up}
use Rattle.vk_model.specs.Trace.Image.{texel, level_width, level_height, tiles_across, tiles_down, level_size, layer_size, row_pitch, image_size}
use Rattle.vk_model.specs.Rules.Sizes.{bad_image, bad_levels, is_outside}
use Rattle.vk_model.specs.Memory.Addresses.{bit, number_in_tile, level_start, address, subresource_layout}
use Rattle.vk_model.specs.Memory.PlaceLaws.{TexelByte, HasByte, TexelsApart, TexelsInside, SubresourcesHold, LiesIn}

-- ---- numbers in a tile

record SameBits (a b c d e f a' b' c' d' e' f' : ℕ) : Type 0 where
  first : a ≡ a'
  second : b ≡ b'
  third : c ≡ c'
  fourth : d ≡ d'
  fifth : e ≡ e'
  sixth : f ≡ f'

same_bits : (a b c d e f a' b' c' d' e' f' : ℕ) → a < 2 → b < 2 → c < 2 → d < 2 → e < 2 → f < 2 → a' < 2 → b' < 2 → c' < 2 → d' < 2 → e' < 2 → f' < 2
    → a + 2 * b + 4 * c + 8 * d + 16 * e + 32 * f ≡ a' + 2 * b' + 4 * c' + 8 * d' + 16 * e' + 32 * f' → SameBits a b c d e f a' b' c' d' e' f'
same_bits a b c d e f a' b' c' d' e' f' la lb lc ld le lf la' lb' lc' ld' le' lf' same =
    let p : a ≡ a' = omega arith in
    let q : b ≡ b' = omega arith in
    let r : c ≡ c' = omega arith in
    let s : d ≡ d' = omega arith in
    let t : e ≡ e' = omega arith in
    record { first = p; second = q; third = r; fourth = s; fifth = t; sixth = omega arith }

bit_below : (n k : ℕ) → bit n k < 2
bit_below n k = omega arith

low_bits : (x u : ℕ) → bit x 0 ≡ bit u 0 → bit x 1 ≡ bit u 1 → bit x 2 ≡ bit u 2 → x % 8 ≡ u % 8
low_bits x u a b c = omega arith

same_in_tile : (x y u v : ℕ) → number_in_tile x y ≡ number_in_tile u v → (x % 8 ≡ u % 8) × (y % 8 ≡ v % 8)
same_in_tile x y u v same =
    let s = same_bits (bit x 0) (bit y 0) (bit x 1) (bit y 1) (bit x 2) (bit y 2) (bit u 0) (bit v 0) (bit u 1) (bit v 1) (bit u 2) (bit v 2)
    (bit_below x 0) (bit_below y 0) (bit_below x 1) (bit_below y 1) (bit_below x 2) (bit_below y 2) (bit_below u 0) (bit_below v 0) (bit_below u 1) (bit_below v 1) (bit_below u 2) (bit_below v 2) same in
    (low_bits x u s.first s.third s.fifth, low_bits y v s.second s.fourth s.sixth)

six_below : (a b c d e f : ℕ) → a < 2 → b < 2 → c < 2 → d < 2 → e < 2 → f < 2 → a + 2 * b + 4 * c + 8 * d + 16 * e + 32 * f < 64
six_below a b c d e f la lb lc ld le lf = omega arith

number_below : (x y : ℕ) → number_in_tile x y < 64
number_below x y = six_below (bit x 0) (bit y 0) (bit x 1) (bit y 1) (bit x 2) (bit y 2) (bit_below x 0) (bit_below y 0) (bit_below x 1) (bit_below y 1) (bit_below x 2) (bit_below y 2)

-- ---- places in a level, of tiles in rows of w, with texels of t bytes

record SameTexel (x y p u v q : ℕ) : Type 0 where
  x_is : x ≡ u
  y_is : y ≡ v
  texel_byte_is : p ≡ q

module _ (w t : ℕ) where
  abbrev tile_at : ℕ → ℕ → ℕ
  tile_at x y = y / 8 * w + x / 8

  abbrev texel_place : ℕ → ℕ → ℕ → ℕ
  texel_place x y p = (tile_at x y * 64 + number_in_tile x y) * t + p

  same_texel : (x y p u v q : ℕ) → x / 8 < w → u / 8 < w → p < t → q < t → texel_place x y p ≡ texel_place u v q → SameTexel x y p u v q
  same_texel x y p u v q lx lu lp lq same =
      let texels = same_from_place (tile_at x y * 64 + number_in_tile x y) p (tile_at u v * 64 + number_in_tile u v) q t lp lq same in
      let tiles = same_from_place (tile_at x y) (number_in_tile x y) (tile_at u v) (number_in_tile u v) 64 (number_below x y) (number_below u v) texels.0 in
      let rows = same_from_place (y / 8) (x / 8) (v / 8) (u / 8) w lx lu tiles.0 in
      let low = same_in_tile x y u v tiles.1 in
      record { x_is = whole x u rows.1 low.0; y_is = whole y v rows.0 low.1; texel_byte_is = texels.1 }
    where
      whole : (m n : ℕ) → m / 8 ≡ n / 8 → m % 8 ≡ n % 8 → m ≡ n
      whole m n a b = omega arith

  place_below : (h x y p : ℕ) → x / 8 < w → y / 8 < h → p < t → texel_place x y p < w * h * 64 * t
  place_below h x y p lx ly lp =
      let tiles : tile_at x y < w * h = mul-add-lt (y / 8) w (x / 8) h ly lx in
      let texels : tile_at x y * 64 + number_in_tile x y < 64 * (w * h) = mul-add-lt (tile_at x y) 64 (number_in_tile x y) (w * h) tiles (number_below x y) in
      let bytes : texel_place x y p < t * (64 * (w * h)) = mul-add-lt (tile_at x y * 64 + number_in_tile x y) t p (64 * (w * h)) texels lp in
      omega arith

-- ---- levels one after another

module _ (f : ℕ → ℕ) where
  abbrev total : ℕ → ℕ
  total k = sum_by f (below k)

  one_more : (a n j : ℕ) → a + n ≡ j → sum_by f (range_with_len a (suc n)) ≡ sum_by f (range_with_len a n) + f j
  one_more a zero j last = let same : a ≡ j = omega arith in ap (λ k. 0 + f k) same
  one_more a (suc n) j last =
      sum_by-cons f a (range_with_len (a + 1) (suc n)) ∙ ap (λ s. f a + s) (one_more (a + 1) n j (omega arith))
      ∙ sym (add_assoc (f a) (sum_by f (range_with_len (a + 1) n)) (f j)) ∙ ap (λ s. s + f j) (sym (sum_by-cons f a (range_with_len (a + 1) n)))

  -- an item ends before the later ones begin
  ends_before : (j k : ℕ) → j < k → total j + f j ≤ total k
  ends_before j zero lt = absurd (omega arith)
  ends_before j (suc k) lt = elim (cases_lt j k) [
    | inl less ↦ omega (arith, one_more 0 k k (omega arith), ends_before j k less)
    | inr more ↦ (let same : j ≡ k = omega arith in omega (arith, one_more 0 k k (omega arith), ap (λ n. total n + f n) same))
  ]

  -- places in items one after another are of one item
  same_item : (j k m n : ℕ) → m < f j → n < f k → total j + m ≡ total k + n → (j ≡ k) × (m ≡ n)
  same_item j k m n lm ln same = elim (cases_lt j k) [
    | inl less ↦ absurd (omega (arith, ends_before j k less))
    | inr more ↦ elim (cases_lt k j) [
      | inl less ↦ absurd (omega (arith, ends_before k j less))
      | inr least ↦ (let one : j ≡ k = omega arith in (one, omega (arith, ap total one)))
    ]
  ]

-- ---- shapes that break no rule SIZE

some_count : (most n : ℕ) → is_outside most n ≡ false → 0 < n
some_count most n none = let some = eqb-false n 0 (or_parts (n == 0) _ none).0 in omega arith

record Shaped (i : ImageInfo) : Type 0 where
  width : 0 < i.width
  height : 0 < i.height
  levels : bad_levels i.tiling i ≡ false

shape : (i : ImageInfo) → bad_image i ≡ false → Shaped i
shape i good =
    let three = or_parts (is_outside 4096 i.width || is_outside 4096 i.height || is_outside 256 i.layers) (bad_levels i.tiling i) good in
    let two = or_parts (is_outside 4096 i.width || is_outside 4096 i.height) (is_outside 256 i.layers) three.0 in
    let one = or_parts (is_outside 4096 i.width) (is_outside 4096 i.height) two.0 in
    record { width = some_count 4096 i.width one.0; height = some_count 4096 i.height one.1; levels = three.1 }

single : (i : ImageInfo) → bad_levels kind.Linear i ≡ false → (i.levels ≡ 1) × (i.layers ≡ 1)
single i good = let ones = both (i.levels == 1) (i.layers == 1) good in (eqb-true i.levels 1 ones.0, eqb-true i.layers 1 ones.1)
  where
    both : (a b : Bool) → not (a && b) ≡ false → (a ≡ true) × (b ≡ true)
    both true true e = (refl, refl)
    both true false e = absurd cc
    both false b e = absurd cc

at_least : (n : ℕ) → n ≤ round_up n 256
at_least n = omega arith

pitch_holds : (i : ImageInfo) → i.width * texel i.format ≤ row_pitch i
pitch_holds i = omega arith

-- ---- bytes of an image

-- a byte of a texel, by its numbers
module _ (i : ImageInfo) where
  abbrev in_level : ℕ → ℕ → ℕ → ℕ → ℕ
  in_level level x y p = texel_place (tiles_across i level) (texel i.format) x y p

  across : (k x : ℕ) → x < level_width i k → x / 8 < tiles_across i k
  across k x lt = omega arith

  down : (k y : ℕ) → y < level_height i k → y / 8 < tiles_down i k
  down k y lt = omega arith

  level_holds : (b : TexelByte) → HasByte i b → in_level b.level b.x b.y b.texel_byte < level_size i b.level
  level_holds b h =
      let raw : ℕ = tiles_across i b.level * tiles_down i b.level * 64 * texel i.format in
      let below_raw : in_level b.level b.x b.y b.texel_byte < raw = place_below (tiles_across i b.level) (texel i.format) (tiles_down i b.level) b.x b.y b.texel_byte (across b.level b.x h.x_there) (down b.level b.y h.y_there) h.texel_byte_there in
      let up : raw ≤ level_size i b.level = at_least raw in
      omega arith

  abbrev place_in_level : TexelByte → ℕ
  place_in_level b = in_level b.level b.x b.y b.texel_byte

  abbrev place_in_layer : TexelByte → ℕ
  place_in_layer b = level_start i b.level + place_in_level b

  level_ends : (b : TexelByte) → HasByte i b → level_start i b.level + level_size i b.level ≤ layer_size i
  level_ends b h = ends_before (level_size i) b.level i.levels h.level_there

  layer_holds : (b : TexelByte) → HasByte i b → place_in_layer b < layer_size i
  layer_holds b h = omega (arith, level_holds b h, level_ends b h)

  -- of linear images
  in_row : bad_levels kind.Linear i ≡ false → 0 < i.width → (b : TexelByte) → HasByte i b → b.x < i.width
  in_row good some b h =
      let first : b.level ≡ 0 = omega (arith, (single i good).0, h.level_there) in
      let x_there : b.x < level_width i 0 = subst (λ k. b.x < level_width i k) first h.x_there in
      omega arith

  in_column : bad_levels kind.Linear i ≡ false → 0 < i.height → (b : TexelByte) → HasByte i b → b.y < i.height
  in_column good some b h =
      let first : b.level ≡ 0 = omega (arith, (single i good).0, h.level_there) in
      let y_there : b.y < level_height i 0 = subst (λ k. b.y < level_height i k) first h.y_there in
      omega arith

  row_holds : (b : TexelByte) → HasByte i b → b.x < i.width → b.x * texel i.format + b.texel_byte < row_pitch i
  row_holds b h there = omega (arith, mul-add-lt b.x (texel i.format) b.texel_byte i.width there h.texel_byte_there, pitch_holds i)

-- ---- the laws

abbrev byte_of_numbers : (level layer x y texel_byte : ℕ) → TexelByte
byte_of_numbers level layer x y texel_byte = record { level = level; layer = layer; x = x; y = y; texel_byte = texel_byte }

-- bytes with the same numbers are the same
same_byte : (b c : TexelByte) → b.level ≡ c.level → b.layer ≡ c.layer → SameTexel b.x b.y b.texel_byte c.x c.y c.texel_byte → b ≡ c
same_byte b c level layer texels =
    ap (λ n. byte_of_numbers n b.layer b.x b.y b.texel_byte) level ∙ ap (λ n. byte_of_numbers c.level n b.x b.y b.texel_byte) layer
    ∙ ap (λ n. byte_of_numbers c.level c.layer n b.y b.texel_byte) texels.x_is ∙ ap (λ n. byte_of_numbers c.level c.layer c.x n b.texel_byte) texels.y_is
    ∙ ap (λ n. byte_of_numbers c.level c.layer c.x c.y n) texels.texel_byte_is

abbrev Apart : ImageInfo → Kind → Type 0
Apart i k = (b c : TexelByte) → HasByte i b → HasByte i c → address i k b.level b.layer b.x b.y + b.texel_byte ≡ address i k c.level c.layer c.x c.y + c.texel_byte → b ≡ c

apart : (i : ImageInfo) (k : Kind) → bad_levels k i ≡ false → 0 < i.width → Apart i k
apart i kind.Linear good some b c h g same =
    let left = row_holds i b h (in_row i good some b h) in
    let right = row_holds i c g (in_row i good some c g) in
    let rows = same_from_place b.y (b.x * texel i.format + b.texel_byte) c.y (c.x * texel i.format + c.texel_byte) (row_pitch i) left right (omega arith) in
    let texels = same_from_place b.x b.texel_byte c.x c.texel_byte (texel i.format) h.texel_byte_there g.texel_byte_there rows.1 in
    let ones = single i good in
    same_byte b c (omega (arith, ones.0, h.level_there, g.level_there)) (omega (arith, ones.1, h.layer_there, g.layer_there)) (record { x_is = texels.0; y_is = rows.0; texel_byte_is = texels.1 })
apart i kind.Optimal good some b c h g same =
    let layers = same_from_place b.layer (place_in_layer i b) c.layer (place_in_layer i c) (layer_size i) (layer_holds i b h) (layer_holds i c g) (omega arith) in
    let levels = same_item (level_size i) b.level c.level (place_in_level i b) (place_in_level i c) (level_holds i b h) (level_holds i c g) layers.1 in
    let one : place_in_level i b ≡ in_level i b.level c.x c.y c.texel_byte = levels.1 ∙ ap (λ k. in_level i k c.x c.y c.texel_byte) (sym levels.0) in
    let x_there : c.x < level_width i b.level = subst (λ k. c.x < level_width i k) (sym levels.0) g.x_there in
    same_byte b c levels.0 layers.0
    (same_texel (tiles_across i b.level) (texel i.format) b.x b.y b.texel_byte c.x c.y c.texel_byte (across i b.level b.x h.x_there) (across i b.level c.x x_there) h.texel_byte_there g.texel_byte_there one)

holds : (i : ImageInfo) (k : Kind) → bad_levels k i ≡ false → 0 < i.width → 0 < i.height → (b : TexelByte) → HasByte i b
    → LiesIn (address i k b.level b.layer b.x b.y + b.texel_byte) (subresource_layout i k b.level b.layer) (image_size i k)
holds i kind.Linear good some tall b h = record {
  from = omega arith;
  to = omega (arith, mul-add-lt b.y (row_pitch i) (b.x * texel i.format + b.texel_byte) i.height (in_column i good tall b h) (row_holds i b h (in_row i good some b h)));
  inside = omega arith;
}
holds i kind.Optimal good some tall b h = record {
  from = omega arith;
  to = omega (arith, level_holds i b h);
  inside = omega (arith, level_ends i b h, row_fits b.layer (layer_size i) i.layers (layer_size i) h.layer_there (omega arith));
}

pub texels_apart : TexelsApart
texels_apart i b c h g same = let s = shape i h.shaped in apart i i.tiling s.levels s.width b c h g same

pub subresources_hold : SubresourcesHold
subresources_hold i b h = let s = shape i h.shaped in holds i i.tiling s.levels s.width s.height b h

pub texels_inside : TexelsInside
texels_inside i b h = let l = subresources_hold i b h in omega (arith, l.to, l.inside)
