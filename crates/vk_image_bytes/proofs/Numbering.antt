-- Bytes and their numbers are each other's.
use Rattle.std.proofs.Common.{◌≡◌, ℕ, zero, suc, ◌+◌, ◌-◌, ◌*◌, ◌/◌, ◌%◌, ◌<◌, ◌≤◌, true, false, ◌==◌, ◌&&◌, refl, ap, sym, subst, ◌∙◌, arith, inl, inr}
use Rattle.std.specs.Prelude.{nat_le}
use Rattle.std.specs.List.{count_by}
use Rattle.std.proofs.lemmas.Bool.{cases_lt, le-leb, lt-leb, eq-eqb, eqb-true, and_parts}
use Rattle.std.proofs.lemmas.Nat.{mul-add-lt, div-mul-add, mod-mul-add, mod_below, div-add-mod'}
use Rattle.std.proofs.Math.Nat.{div-lt_iff_lt-mul}
use Rattle.vk_model.specs.declared.resource.ImageInfo.{ImageInfo}
use Rattle.vk_model.specs.Basics.{below}
use Rattle.vk_model.specs.Trace.Image.{texel, level_width, level_height}
use Rattle.vk_model.specs.Rules.Sizes.{bad_image}
use Rattle.vk_model.specs.Memory.PlaceLaws.{TexelByte, HasByte}
use Rattle.vk_model.specs.World.Bytes.{in_image, same_byte}
use Rattle.vk_model.proofs.Lists.Truths.{bool_same}
use Rattle.vk_model.proofs.World.BytePlaces.{image_same, texel_some}
use Rattle.vk_image_bytes.specs.Numbers.{level_byte_count, level_first, layer_byte_count, byte_count, number_of, layer_at, level_at, before_in_level, numbered, byte_in, byte_of}
use Rattle.vk_image_bytes.proofs.Levels.{level_more, level_zero, level_rises, counted}

-- ---- places in a level, of rows of w texels of t bytes

pub place_fits : (w h t x y p : ℕ) → x < w → y < h → p < t → (y * w + x) * t + p < h * w * t
place_fits w h t x y p lx ly lp = omega (arith, mul-add-lt (y * w + x) t p (w * h) (mul-add-lt y w x h ly lx) lp)

pub record IsPlace (w t place x y p : ℕ) : Type 0 where
  pub x_is : place / t % w ≡ x
  pub y_is : place / t / w ≡ y
  pub p_is : place % t ≡ p

place_split : (w t x y p : ℕ) → x < w → p < t → IsPlace w t ((y * w + x) * t + p) x y p
place_split w t x y p lx lp = record {
  x_is = ap (λ (n : ℕ). n % w) (div-mul-add (y * w + x) t p lp) ∙ mod-mul-add y w x lx;
  y_is = ap (λ (n : ℕ). n / w) (div-mul-add (y * w + x) t p lp) ∙ div-mul-add y w x lx;
  p_is = mod-mul-add (y * w + x) t p lp;
}

place_joined : (w t place : ℕ) → (place / t / w * w + place / t % w) * t + place % t ≡ place
place_joined w t place = ap (λ (n : ℕ). n * t + place % t) (div-add-mod' (place / t) w) ∙ div-add-mod' place t

pub quotient_below : (n k y : ℕ) → 0 < k → n < y * k → n / k < y
quotient_below n k y some lt = (div-lt_iff_lt-mul some).1 lt

row_below : (w h t place : ℕ) → 0 < w → 0 < t → place < h * w * t → place / t / w < h
row_below w h t place wide some lt = quotient_below (place / t) w h wide (quotient_below place t (h * w) some lt)

-- ---- levels

module _ (m : ImageInfo) where
  level_is : (rest level : ℕ) → level < m.levels → level_first m level ≤ rest → rest < level_first m (level + 1) → count_by (λ l. nat_le (level_first m (l + 1)) rest) (below m.levels) ≡ level
  level_is rest level there low high =
      counted (λ l. nat_le (level_first m (l + 1)) rest) level
      (λ k lt. le-leb (level_first m (k + 1)) rest (omega (arith, level_rises m (k + 1) level (omega arith))))
      (λ k ge. lt-leb (level_first m (k + 1)) rest (omega (arith, level_rises m (level + 1) (k + 1) (omega arith))))
      m.levels (omega arith)

  find_level : (n rest : ℕ) → rest < level_first m n → (level : ℕ) × (level < n) × (level_first m level ≤ rest) × (rest < level_first m (level + 1))
  find_level zero rest lt = absurd (omega (arith, level_zero m))
  find_level (suc n) rest lt = elim (cases_lt rest (level_first m n)) [
    | inl less ↦ (let f = find_level n rest less in (f.0, omega (arith, f.1), f.2, f.3))
    | inr ge ↦ (let next : suc n ≡ n + 1 = omega arith in (n, omega arith, ge, subst (λ (k : ℕ). rest < level_first m k) next lt))
  ]

  -- a byte of a level ends in its layer
  pub in_layer : (level place : ℕ) → level < m.levels → place < level_byte_count m level → level_first m level + place < layer_byte_count m
  in_layer level place there low = omega (arith, level_more m level, level_rises m (level + 1) m.levels (omega arith))

  -- ---- the byte of a number that is made of a layer, a level and a place there

  module _ (k layer level place : ℕ) (there : level < m.levels) (low : place < level_byte_count m level) (is : k ≡ layer * layer_byte_count m + (level_first m level + place)) where
    rest_is : k % layer_byte_count m ≡ level_first m level + place
    rest_is = ap (λ (n : ℕ). n % layer_byte_count m) is ∙ mod-mul-add layer (layer_byte_count m) (level_first m level + place) (in_layer level place there low)

    pub layer_found : layer_at m k ≡ layer
    unfolding layer_at
    layer_found = ap (λ (n : ℕ). n / layer_byte_count m) is ∙ div-mul-add layer (layer_byte_count m) (level_first m level + place) (in_layer level place there low)

    pub level_found : level_at m k ≡ level
    unfolding level_at
    level_found =
        ap (λ (r : ℕ). count_by (λ l. nat_le (level_first m (l + 1)) r) (below m.levels)) rest_is
        ∙ level_is (level_first m level + place) level there (omega arith) (omega (arith, level_more m level))

    pub place_found : before_in_level m k ≡ place
    place_found = ap (λ (r : ℕ). r - level_first m (level_at m k)) rest_is ∙ ap (λ (l : ℕ). level_first m level + place - level_first m l) level_found ∙ omega arith

  -- ---- where the byte of a number lies

  pub record Lies (k : ℕ) : Type 0 where
    pub layer_there : layer_at m k < m.layers
    pub level_there : level_at m k < m.levels
    pub place_there : before_in_level m k < level_byte_count m (level_at m k)
    pub is : k ≡ layer_at m k * layer_byte_count m + (level_first m (level_at m k) + before_in_level m k)

  some_in_layer : (k : ℕ) → k < byte_count m → 0 < layer_byte_count m
  some_in_layer k lt = go (layer_byte_count m) refl where
    go : (n : ℕ) → layer_byte_count m ≡ n → 0 < layer_byte_count m
    go zero e = let none : byte_count m ≡ 0 = ap (λ (n : ℕ). m.layers * n) e ∙ omega arith in absurd (omega arith)
    go (suc n) e = omega arith

  pub lies : (k : ℕ) → k < byte_count m → Lies k
  lies k lt =
      let some = some_in_layer k lt in
      let rest : k % layer_byte_count m < layer_byte_count m = mod_below k (layer_byte_count m) some in
      let layer : k / layer_byte_count m < m.layers = quotient_below k (layer_byte_count m) m.layers some lt in
      let f = find_level m.levels (k % layer_byte_count m) rest in
      let place : ℕ = k % layer_byte_count m - level_first m f.0 in
      let low : place < level_byte_count m f.0 = omega (arith, f.2, f.3, level_more m f.0) in
      let whole = div-add-mod' k (layer_byte_count m) in
      let made : k ≡ k / layer_byte_count m * layer_byte_count m + (level_first m f.0 + place) = omega (arith, f.2, whole) in
      let is_layer = layer_found k (k / layer_byte_count m) f.0 place f.1 low made in
      let is_level = level_found k (k / layer_byte_count m) f.0 place f.1 low made in
      let is_place = place_found k (k / layer_byte_count m) f.0 place f.1 low made in
      record {
        layer_there = rw is_layer layer;
        level_there = rw is_level f.1;
        place_there = rw is_place (rw is_level low);
        is = rw is_place (rw (is_layer, is_level) made);
      }

  -- ---- both ways

  -- a byte of the image has the number that is made of its parts
  pub numbered_number : (b : TexelByte) → HasByte m b → numbered m (number_of m b.level b.layer b.x b.y b.texel_byte) ≡ b
  unfolding numbered
  numbered_number b h =
      let w : ℕ = level_width m b.level in
      let t : ℕ = texel m.format in
      let place : ℕ = (b.y * w + b.x) * t + b.texel_byte in
      let low : place < level_byte_count m b.level = place_fits w (level_height m b.level) t b.x b.y b.texel_byte h.x_there h.y_there h.texel_byte_there in
      let k : ℕ = number_of m b.level b.layer b.x b.y b.texel_byte in
      let is_layer = layer_found k b.layer b.level place h.level_there low refl in
      let is_level = level_found k b.layer b.level place h.level_there low refl in
      let is_place = place_found k b.layer b.level place h.level_there low refl in
      let split = place_split w t b.x b.y b.texel_byte h.x_there h.texel_byte_there in
      rw (is_place, is_level, is_layer, split.x_is, split.y_is, split.p_is) refl

  -- and the byte of a number is one that the image has
  pub number_has : bad_image m ≡ false → (k : ℕ) → k < byte_count m → HasByte m (numbered m k)
  unfolding numbered
  number_has good k lt =
      let l = lies k lt in
      let w : ℕ = level_width m (level_at m k) in
      let t : ℕ = texel m.format in
      record {
        shaped = good;
        level_there = l.level_there;
        layer_there = l.layer_there;
        x_there = mod_below (before_in_level m k / t) w (omega arith);
        y_there = row_below w (level_height m (level_at m k)) t (before_in_level m k) (omega arith) (texel_some m.format) l.place_there;
        texel_byte_there = mod_below (before_in_level m k) t (texel_some m.format);
      }

  pub number_numbered : (k : ℕ) → k < byte_count m → (let b = numbered m k in number_of m b.level b.layer b.x b.y b.texel_byte ≡ k)
  unfolding numbered
  number_numbered k lt =
      let l = lies k lt in
      ap (λ (n : ℕ). layer_at m k * layer_byte_count m + (level_first m (level_at m k) + n)) (place_joined (level_width m (level_at m k)) (texel m.format) (before_in_level m k)) ∙ sym l.is

  -- numbers of bytes are below the count of bytes
  pub number_below : (b : TexelByte) → HasByte m b → number_of m b.level b.layer b.x b.y b.texel_byte < byte_count m
  number_below b h =
      let low : (b.y * level_width m b.level + b.x) * texel m.format + b.texel_byte < level_byte_count m b.level = place_fits (level_width m b.level) (level_height m b.level) (texel m.format) b.x b.y b.texel_byte h.x_there h.y_there h.texel_byte_there in
      let rest = in_layer b.level ((b.y * level_width m b.level + b.x) * texel m.format + b.texel_byte) h.level_there low in
      omega (arith, mul-add-lt b.layer (layer_byte_count m) (level_first m b.level + ((b.y * level_width m b.level + b.x) * texel m.format + b.texel_byte)) m.layers h.layer_there rest)

  -- the byte of the number of a byte is that byte
  pub byte_of_number : (i level layer x y p : ℕ) → HasByte m (record { level = level; layer = layer; x = x; y = y; texel_byte = p }) → byte_of m i (number_of m level layer x y p) ≡ in_image i level layer x y p
  byte_of_number i level layer x y p h = ap (byte_in i) (numbered_number (record { level = level; layer = layer; x = x; y = y; texel_byte = p }) h)

  -- two numbers of one byte are equal
  pub numbers_same : (i j k l : ℕ) → k < byte_count m → l < byte_count m → same_byte (byte_of m i k) (byte_of m j l) ≡ (i == j && k == l)
  numbers_same i j k l low high = bool_same (same_byte (byte_of m i k) (byte_of m j l)) (i == j && k == l) forth back where
    forth : same_byte (byte_of m i k) (byte_of m j l) ≡ true → (i == j && k == l) ≡ true
    forth e =
        let a : TexelByte = numbered m k in
        let b : TexelByte = numbered m l in
        let s = image_same i a.level a.layer a.x a.y a.texel_byte j b.level b.layer b.x b.y b.texel_byte e in
        let same : number_of m a.level a.layer a.x a.y a.texel_byte ≡ number_of m b.level b.layer b.x b.y b.texel_byte = rw (s.level, s.layer, s.x_is, s.y_is, s.part) refl in
        let numbers : k ≡ l = sym (number_numbered k low) ∙ same ∙ number_numbered l high in
        rw (eq-eqb i j s.image, eq-eqb k l numbers) refl

    back : (i == j && k == l) ≡ true → same_byte (byte_of m i k) (byte_of m j l) ≡ true
    back e =
        let parts = and_parts (i == j) (k == l) e in
        let numbers : k ≡ l = eqb-true k l parts.1 in
        rw (sym numbers) (texels_same (numbered m k))
      where
        texels_same : (b : TexelByte) → same_byte (byte_in i b) (byte_in j b) ≡ true
        texels_same b = let parts = and_parts (i == j) (k == l) e in rw (parts.0, eq-eqb b.level b.level refl, eq-eqb b.layer b.layer refl, eq-eqb b.x b.x refl, eq-eqb b.y b.y refl, eq-eqb b.texel_byte b.texel_byte refl) refl
