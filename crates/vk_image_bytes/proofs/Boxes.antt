-- Regions of copies, as rows in a buffer and in an image.
use Rattle.std.proofs.Common.{◌≡◌, ℕ, zero, suc, ◌+◌, ◌-◌, ◌*◌, ◌/◌, ◌%◌, ◌^◌, ◌<◌, ◌≤◌, min, false, ◌||◌, List, [], ◌∷◌, map, refl, ap, sym, ◌∙◌, arith, inl, inr}
use Rattle.std.specs.Prelude.{All}
use Rattle.std.specs.List.{flat_map}
use Rattle.std.proofs.lemmas.Bool.{cases_lt, or_parts, ltb-false, lt-ltb}
use Rattle.std.proofs.lemmas.Nat.{mul-le, mod_below, div-add-mod'}
use Rattle.std.proofs.lemmas.List.Elements.{All-nil, All-cons}
use Rattle.vk_model.specs.declared.command.BufferImageCopy.{BufferImageCopy}
use Rattle.vk_model.specs.declared.resource.ImageInfo.{ImageInfo}
use Rattle.vk_model.specs.Basics.{below, grid}
use Rattle.vk_model.specs.Trace.Image.{texel, level_width, level_height}
use Rattle.vk_model.specs.Rules.Ranges.{bad_box, region_past, is_beyond}
use Rattle.vk_model.specs.Rules.Sizes.{bad_image}
use Rattle.vk_model.specs.World.Areas.{Box, region_box}
use Rattle.vk_model.specs.World.Bytes.{Byte, in_buffer, in_image}
use Rattle.vk_model.specs.World.ByteWrites.{ByteWrite, byte_write, From, buffer_texel, row_texels, layer_rows}
use Rattle.vk_model.proofs.Lists.Pairs.{Each, each_flat, each_range, each_of}
use Rattle.vk_model.proofs.Lists.Rows.{flat_flat, flat_mapped, flat_below, map_below, mapped_rows}
use Rattle.vk_model.proofs.Rules.Limits.{within_limit}
use Rattle.vk_image_bytes.specs.declared.rows.Places.{Places}
use Rattle.vk_image_bytes.specs.declared.rows.Rows.{Rows}
use Rattle.vk_image_bytes.specs.Copies.{numbered_writes}
use Rattle.vk_image_bytes.specs.Numbers.{level_first, layer_byte_count, byte_count, number_of, byte_of}
use Rattle.vk_image_bytes.specs.Inner.Rows.{LiesWithin, RowsFit, place_at, buffer_places, image_places, row_copy, layer_copies, row_copies}
use Rattle.vk_image_bytes.proofs.Numbering.{quotient_below, byte_of_number, number_below}
use Rattle.vk_model.proofs.World.BytePlaces.{texel_some}

-- ---- boxes that lie in an image

pub record BoxParts (m : ImageInfo) (k : Box) : Type 0 where
  pub level : k.level < m.levels
  pub some_layers : 0 < k.layers
  pub layers : k.first_layer + k.layers ≤ m.layers
  pub some_columns : 0 < k.width
  pub columns : k.x + k.width ≤ level_width m k.level
  pub some_rows : 0 < k.height
  pub rows : k.y + k.height ≤ level_height m k.level

pub box_parts : (m : ImageInfo) (k : Box) → bad_box m k ≡ false → BoxParts m k
box_parts m k e =
    let three = or_parts (is_beyond m.levels k.level 1 || is_beyond m.layers k.first_layer k.layers || is_beyond (level_width m k.level) k.x k.width) (is_beyond (level_height m k.level) k.y k.height) e in
    let two = or_parts (is_beyond m.levels k.level 1 || is_beyond m.layers k.first_layer k.layers) (is_beyond (level_width m k.level) k.x k.width) three.0 in
    let one = or_parts (is_beyond m.levels k.level 1) (is_beyond m.layers k.first_layer k.layers) two.0 in
    let level = within_limit m.levels k.level 1 one.0 in
    let layers = within_limit m.layers k.first_layer k.layers one.1 in
    let columns = within_limit (level_width m k.level) k.x k.width two.1 in
    let rows = within_limit (level_height m k.level) k.y k.height three.1 in
    record { level = omega (arith, level.1); some_layers = layers.0; layers = layers.1; some_columns = columns.0; columns = columns.1; some_rows = rows.0; rows = rows.1 }

-- ---- rows that have the bytes of texels

-- rows of some texels of t bytes, so many in each of some layers, have these bytes in order, and end within so many
pub record ArePlaced (p : Places) (byte : ℕ → Byte) (layers height width t bytes : ℕ) (part : ℕ → ℕ → ℕ → ℕ → Byte) : Type 0 where
  pub named : (z y x k : ℕ) → z < layers → y < height → x < width → k < t → byte (place_at p z y + (x * t + k)) ≡ part z y x k
  pub within : (z y : ℕ) → z < layers → y < height → place_at p z y + width * t ≤ bytes

one_less : (n t : ℕ) → 0 < n → n * t ≡ (n - 1) * t + t
one_less zero t some = absurd (omega arith)
one_less (suc n) t some = let less : suc n - 1 ≡ n = omega arith in rw less (omega arith)

-- ---- in an image

texel_number : (layer z lb first y0 y w x0 x t k : ℕ) → layer * lb + (first + ((y0 * w + x0) * t + 0)) + (z * lb + y * (w * t)) + (x * t + k) ≡ (layer + z) * lb + (first + (((y0 + y) * w + (x0 + x)) * t + k))
texel_number layer z lb first y0 y w x0 x t k = omega arith

module _ (m : ImageInfo) (good : bad_image m ≡ false) (i : ℕ) (k : Box) (b : BoxParts m k) where
  abbrev box_places : Places
  box_places = image_places m k.level k.first_layer k.x k.y

  number_there : (z y x p : ℕ) → place_at box_places z y + (x * texel m.format + p) ≡ number_of m k.level (k.first_layer + z) (k.x + x) (k.y + y) p
  number_there z y x p = texel_number k.first_layer z (layer_byte_count m) (level_first m k.level) k.y y (level_width m k.level) k.x x (texel m.format) p

  pub image_placed : ArePlaced box_places (byte_of m i) k.layers k.height k.width (texel m.format) (byte_count m) (λ z y x p. in_image i k.level (k.first_layer + z) (k.x + x) (k.y + y) p)
  image_placed = record {
    named = λ z y x p lz ly lx lp. (ap (byte_of m i) (number_there z y x p) ∙ byte_of_number m i k.level (k.first_layer + z) (k.x + x) (k.y + y) p (record {
      shaped = good;
      level_there = b.level;
      layer_there = omega (arith, b.layers);
      x_there = omega (arith, b.columns);
      y_there = omega (arith, b.rows);
      texel_byte_there = lp;
    }));
    within = within;
  }
    where
      within : (z y : ℕ) → z < k.layers → y < k.height → place_at box_places z y + k.width * texel m.format ≤ byte_count m
      within z y lz ly =
          let t : ℕ = texel m.format in
          let some = texel_some m.format in
          let last : number_of m k.level (k.first_layer + z) (k.x + (k.width - 1)) (k.y + y) (t - 1) < byte_count m =
          number_below m (record { level = k.level; layer = k.first_layer + z; x = k.x + (k.width - 1); y = k.y + y; texel_byte = t - 1 })
          (record { shaped = good; level_there = b.level; layer_there = omega (arith, b.layers); x_there = omega (arith, b.columns, b.some_columns); y_there = omega (arith, b.rows); texel_byte_there = omega arith }) in
          omega (arith, last, number_there z y (k.width - 1) (t - 1), one_less k.width t b.some_columns)

-- ---- in a buffer

buffer_place : (off z lr y rt x t k : ℕ) → off + ((z * lr + y) * rt + x) * t + k ≡ off + (z * (lr * (rt * t)) + y * (rt * t)) + (x * t + k)
buffer_place off z lr y rt x t k = omega arith

-- the rows of a region in a buffer, by plain numbers: how far it is to the next layer is exact where there is one
module _ (off lr rt t layers height width size : ℕ) (some_layers : 0 < layers) (some_rows : 0 < height) (some_columns : 0 < width) (small : size < 2 ^ 64)
    (last : off + (((layers - 1) * lr + (height - 1)) * rt + (width - 1)) * t + t ≤ size) where
  abbrev rows : Places
  rows = record { first = off; row = rt * t; layer = min (lr * (rt * t)) (2 ^ 64 - 1) }

  last_place : off + ((layers - 1) * (lr * (rt * t)) + (height - 1) * (rt * t)) + ((width - 1) * t + t) ≤ size
  last_place = omega (arith, last, buffer_place off (layers - 1) lr (height - 1) rt (width - 1) t t)

  layer_is : (z : ℕ) → z < layers → z * min (lr * (rt * t)) (2 ^ 64 - 1) ≡ z * (lr * (rt * t))
  layer_is zero lt = omega arith
  layer_is (suc z) lt =
      let step : ℕ = lr * (rt * t) in
      let once : 1 * step ≤ (layers - 1) * step = mul-le 1 step (layers - 1) step (omega arith) (omega arith) in
      let exact : min step (2 ^ 64 - 1) ≡ step = omega (arith, last_place) in
      ap (λ (n : ℕ). suc z * n) exact

  pub row_begins : (z y : ℕ) → z < layers → place_at rows z y ≡ off + (z * (lr * (rt * t)) + y * (rt * t))
  row_begins z y lz = omega (arith, layer_is z lz)

  pub row_ends : (z y : ℕ) → z < layers → y < height → place_at rows z y + width * t ≤ size
  row_ends z y lz ly =
      let down : z * (lr * (rt * t)) ≤ (layers - 1) * (lr * (rt * t)) = mul-le z (lr * (rt * t)) (layers - 1) (lr * (rt * t)) (omega arith) (omega arith) in
      let along : y * (rt * t) ≤ (height - 1) * (rt * t) = mul-le y (rt * t) (height - 1) (rt * t) (omega arith) (omega arith) in
      omega (arith, row_begins z y lz, last_place, one_less width t some_columns)

region_last : (m : ImageInfo) (size : ℕ) (g : BufferImageCopy) → BoxParts m (region_box g) → region_past size (texel m.format) g ≡ false
    → buffer_texel g (texel m.format) (g.layers - 1) (g.height - 1) (g.width - 1) (texel m.format) ≤ size
region_last m size g b e = ltb-false size (buffer_texel g (texel m.format) (g.layers - 1) (g.height - 1) (g.width - 1) (texel m.format))
    (sym (rw (lt-ltb 0 g.layers b.some_layers, lt-ltb 0 g.height b.some_rows, lt-ltb 0 g.width b.some_columns) refl) ∙ e)

pub buffer_placed : (m : ImageInfo) (b size : ℕ) (g : BufferImageCopy) → BoxParts m (region_box g) → size < 2 ^ 64 → region_past size (texel m.format) g ≡ false
    → ArePlaced (buffer_places (texel m.format) g) (in_buffer b) g.layers g.height g.width (texel m.format) size (λ z y x k. in_buffer b (buffer_texel g (texel m.format) z y x k))
buffer_placed m b size g parts small past =
    let t : ℕ = texel m.format in
    let last = region_last m size g parts past in
    record {
      named = λ z y x k lz ly lx lk. (ap (in_buffer b) (omega (
        arith,
        buffer_place g.buffer_offset z (layer_rows g) y (row_texels g) x t k,
        row_begins g.buffer_offset (layer_rows g) (row_texels g) t g.layers g.height g.width size parts.some_layers parts.some_rows parts.some_columns small last z y lz,
      )));
      within = row_ends g.buffer_offset (layer_rows g) (row_texels g) t g.layers g.height g.width size parts.some_layers parts.some_rows parts.some_columns small last;
    }

-- ---- both together

module _ (r : Rows) (from to : ℕ → Byte) (layers height width t read written : ℕ) (origin target : ℕ → ℕ → ℕ → ℕ → Byte) (layers_are : r.layers ≡ layers) (height_is : r.height ≡ height) (size_is : r.size ≡ width * t)
    (source : ArePlaced r.source from layers height width t read origin) (destination : ArePlaced r.destination to layers height width t written target) where
  abbrev plane : ℕ → ℕ → List ByteWrite
  plane z y = flat_map (λ x. map (λ k. byte_write (target z y x k) (From (origin z y x k))) (below t)) (below width)

  -- copies of the rows make the byte writes of the texels
  pub placed_writes : flat_map (numbered_writes from to) (row_copies r) ≡ grid layers height width t (λ z y x k. byte_write (target z y x k) (From (origin z y x k)))
  placed_writes =
      flat_flat (numbered_writes from to) (layer_copies r) (below r.layers) ∙ ap (λ (n : ℕ). flat_map (λ z. flat_map (numbered_writes from to) (layer_copies r z)) (below n)) layers_are
      ∙ flat_below (λ z. flat_map (numbered_writes from to) (layer_copies r z)) (λ z. flat_map (plane z) (below height)) layers layer
    where
      texel_of : (q : ℕ) → q < width * t → (q / t < width) × (q % t < t) × (q / t * t + q % t ≡ q)
      texel_of q lt = elim (cases_lt 0 t) [
        | inl some ↦ (quotient_below q t width some lt, mod_below q t some, div-add-mod' q t)
        | inr none ↦ (let zero_bytes : t ≡ 0 = omega arith in absurd (omega (arith, ap (λ (n : ℕ). width * n) zero_bytes)))
      ]

      row : (z y : ℕ) → z < layers → y < height → numbered_writes from to (row_copy r z y) ≡ plane z y
      row z y lz ly =
          ap (λ (n : ℕ). map (λ q. byte_write (to (place_at r.destination z y + q)) (From (from (place_at r.source z y + q)))) (below n)) size_is
          ∙ map_below (λ q. byte_write (to (place_at r.destination z y + q)) (From (from (place_at r.source z y + q)))) (λ q. byte_write (target z y (q / t) (q % t)) (From (origin z y (q / t) (q % t)))) (width * t) same
          ∙ sym (mapped_rows (λ x k. byte_write (target z y x k) (From (origin z y x k))) width t)
        where
          same : (q : ℕ) → q < width * t → byte_write (to (place_at r.destination z y + q)) (From (from (place_at r.source z y + q))) ≡ byte_write (target z y (q / t) (q % t)) (From (origin z y (q / t) (q % t)))
          same q lt =
              let of = texel_of q lt in
              let there : to (place_at r.destination z y + q) ≡ target z y (q / t) (q % t) = ap (λ (n : ℕ). to (place_at r.destination z y + n)) (sym of.2) ∙ destination.named z y (q / t) (q % t) lz ly of.0 of.1 in
              let here : from (place_at r.source z y + q) ≡ origin z y (q / t) (q % t) = ap (λ (n : ℕ). from (place_at r.source z y + n)) (sym of.2) ∙ source.named z y (q / t) (q % t) lz ly of.0 of.1 in
              rw (there, here) refl

      layer : (z : ℕ) → z < layers → flat_map (numbered_writes from to) (layer_copies r z) ≡ flat_map (plane z) (below height)
      layer z lz = flat_mapped (numbered_writes from to) (row_copy r z) (below r.height) ∙ ap (λ (n : ℕ). flat_map (λ y. numbered_writes from to (row_copy r z y)) (below n)) height_is
          ∙ flat_below (λ y. numbered_writes from to (row_copy r z y)) (plane z) height (λ y ly. row z y lz ly)

  pub placed_fit : 0 < height → read < 2 ^ 64 → written < 2 ^ 64 → RowsFit r
  placed_fit some small few = record {
    some = omega arith;
    source = λ z y lz ly. omega (arith, source.within z y (omega arith) (omega arith));
    destination = λ z y lz ly. omega (arith, destination.within z y (omega arith) (omega arith));
  }

  pub placed_within : All (LiesWithin read written) (row_copies r)
  placed_within = each_all (LiesWithin read written) (row_copies r) (each_flat (LiesWithin read written) (layer_copies r) (below r.layers)
      (each_range (λ z. Each (LiesWithin read written) (layer_copies r z)) 0 r.layers (λ z low high. each_of (LiesWithin read written) (row_copy r z) (below r.height)
      (each_range (λ y. LiesWithin read written (row_copy r z y)) 0 r.height (λ y from_zero to_end. record { reads = omega (arith, source.within z y (omega arith) (omega arith)); writes = omega (arith, destination.within z y (omega arith) (omega arith)) })))))
    where
      each_all : {X : Type 0} (P : X → Type 0) (xs : List X) → Each P xs → All P xs
      each_all P [] e = All-nil P
      each_all P (x ∷ xs) e = All-cons P x xs e.0 (each_all P xs e.1)
