-- A byte of an image lies in its own level of its own layer, and in no other.
use Rattle.std.proofs.Common.{◌≡◌, ℕ, ◌+◌, ◌-◌, ◌*◌, ◌<◌, ◌≤◌, Bool, true, false, not, ◌&&◌, ◌||◌, ◌==◌, refl, ap, sym, subst, ◌∙◌, arith, inl, inr}
use Rattle.std.specs.Prelude.{if◌then◌else◌, nat_lt, Some, None}
use Rattle.std.specs.List.{sum_by}
use Rattle.std.proofs.lemmas.Nat.{same_from_place}
use Rattle.std.proofs.lemmas.Bool.{or_parts, and_parts, and_from, eqb-true, eq-eqb, cases_lt, leb-true, ltb-true, le-leb, lt-ltb, false_from_ne_true}
use Rattle.vk_model.specs.declared.resource.ImageInfo.{ImageInfo}
use Rattle.vk_model.specs.declared.resource.Kind.{Kind}
use Rattle.vk_model.specs.declared.resource.Kind.TheVariants as kind
use Rattle.vk_model.specs.declared.subresource.SubresourceLayout.{SubresourceLayout}
use Rattle.vk_model.specs.Basics.{below}
use Rattle.vk_model.specs.Trace.Image.{texel, level_width, level_height, level_size, layer_size}
use Rattle.vk_model.specs.Rules.Sizes.{bad_image, bad_levels, is_outside}
use Rattle.vk_model.specs.Memory.Addresses.{address, level_start, subresource_layout}
use Rattle.vk_model.specs.Memory.PlaceLaws.{TexelByte, HasByte, SubresourcesHold, byte_address}
use Rattle.vk_image_tiles.proofs.Levels.{sum_more, sum_rises}
use Rattle.vk_model.specs.World.Bytes.{Byte, in_buffer, in_image}
use Rattle.vk_image_transfer.specs.Held.{ImageOf, has_byte, place_of}
use Rattle.vk_lag.specs.Lags.{is_between}
use Rattle.vk_availability.specs.Inner.CatchingUp.{is_in_part}

-- ---- levels one after another

module _ (f : ℕ → ℕ) where
  abbrev total : ℕ → ℕ
  total k = sum_by f (below k)

  -- one ends before the later ones begin
  ends_before : (j k : ℕ) → j < k → total j + f j ≤ total k
  ends_before j k lt =
      let more : total (j + 1) ≡ total j + f j = sum_more f j in
      let gap : j + 1 + (k - (j + 1)) ≡ k = omega (arith, lt) in
      let rise : total (j + 1) ≤ total k = subst (λ (n : ℕ). total (j + 1) ≤ total n) gap (sum_rises f (j + 1) (k - (j + 1))) in
      omega (arith, more, rise)

  -- a place in two of them is in one
  same_level : (j k m n : ℕ) → m < f j → n < f k → total j + m ≡ total k + n → j ≡ k
  same_level j k m n lm ln same = elim (cases_lt j k) [
    | inl less ↦ absurd (let e = ends_before j k less in omega (arith, e, lm, same))
    | inr more ↦ elim (cases_lt k j) [
      | inl less ↦ absurd (let e = ends_before k j less in omega (arith, e, ln, same))
      | inr least ↦ omega (arith, more, least)
    ]
  ]

-- ---- parts of an image

both : (a b : Bool) → not (a && b) ≡ false → (a ≡ true) × (b ≡ true)
both true true e = (refl, refl)
both true false e = absurd cc
both false b e = absurd cc

-- byte `at` is in a level of a layer
record IsIn (i : ImageInfo) (k : Kind) (level layer at : ℕ) : Type 0 where
  level_there : level < i.levels
  layer_there : layer < i.layers
  from : (subresource_layout i k level layer).offset ≤ at
  to : at < (subresource_layout i k level layer).offset + (subresource_layout i k level layer).size

one_part : (i : ImageInfo) (k : Kind) → bad_levels k i ≡ false → (at level layer l a : ℕ) → IsIn i k level layer at → IsIn i k l a at → (level ≡ l) × (layer ≡ a)
one_part i kind.Linear good at level layer l a this that =
    let ones = both (i.levels == 1) (i.layers == 1) good in
    let levels = eqb-true i.levels 1 ones.0 in
    let layers = eqb-true i.layers 1 ones.1 in
    (omega (arith, levels, this.level_there, that.level_there), omega (arith, layers, this.layer_there, that.layer_there))
one_part i kind.Optimal good at level layer l a this that =
    let in_this : ℕ = at - (layer * layer_size i + level_start i level) in
    let in_that : ℕ = at - (a * layer_size i + level_start i l) in
    let here : in_this < level_size i level = omega (arith, this.from, this.to) in
    let there : in_that < level_size i l = omega (arith, that.from, that.to) in
    let this_ends : level_start i level + level_size i level ≤ layer_size i = ends_before (level_size i) level i.levels this.level_there in
    let that_ends : level_start i l + level_size i l ≤ layer_size i = ends_before (level_size i) l i.levels that.level_there in
    let is : layer * layer_size i + (level_start i level + in_this) ≡ a * layer_size i + (level_start i l + in_that) = omega (arith, this.from, that.from) in
    let layers = same_from_place layer (level_start i level + in_this) a (level_start i l + in_that) (layer_size i) (omega (arith, here, this_ends)) (omega (arith, there, that_ends)) is in
    (same_level (level_size i) level l in_this in_that here there layers.1, layers.0)

abbrev part_of : ImageInfo → (level layer : ℕ) → SubresourceLayout
part_of i level layer = subresource_layout i i.tiling level layer

-- a byte is in a part exactly where the part is its own
module _ (law : SubresourcesHold) (i : ImageInfo) (b : TexelByte) (h : HasByte i b) (level layer : ℕ) (level_there : level < i.levels) (layer_there : layer < i.layers) where
  abbrev at : ℕ
  at = byte_address i b

  levels : bad_levels i.tiling i ≡ false
  levels = (or_parts (is_outside 4096 i.width || is_outside 4096 i.height || is_outside 256 i.layers) (bad_levels i.tiling i) h.shaped).1

  own : IsIn i i.tiling b.level b.layer at
  own = let l = law i b h in record { level_there = h.level_there; layer_there = h.layer_there; from = l.from; to = l.to }

  is_same : is_between (part_of i level layer).offset ((part_of i level layer).offset + (part_of i level layer).size) at ≡ true → (b.level ≡ level) × (b.layer ≡ layer)
  is_same e =
      let two = and_parts _ _ e in
      let that : IsIn i i.tiling level layer at = record { level_there = level_there; layer_there = layer_there; from = leb-true _ at two.0; to = ltb-true at _ two.1 } in
      one_part i i.tiling levels at b.level b.layer level layer own that

  its_part : (t : Bool) → (b.level == level && b.layer == layer) ≡ t → is_between (part_of i level layer).offset ((part_of i level layer).offset + (part_of i level layer).size) at ≡ t
  its_part true e =
      let two = and_parts (b.level == level) (b.layer == layer) e in
      let one : b.level ≡ level = eqb-true b.level level two.0 in
      let other : b.layer ≡ layer = eqb-true b.layer layer two.1 in
      subst (λ (a : ℕ). is_between (part_of i level a).offset ((part_of i level a).offset + (part_of i level a).size) at ≡ true) other
      (subst (λ (n : ℕ). is_between (part_of i n b.layer).offset ((part_of i n b.layer).offset + (part_of i n b.layer).size) at ≡ true) one
      (and_from _ _ (le-leb _ at own.from) (lt-ltb at _ own.to)))
  its_part false e =
      false_from_ne_true _
      (λ f.
      let same = is_same f in
      let yes : (b.level == level && b.layer == layer) ≡ true = and_from _ _ (eq-eqb b.level level same.0) (eq-eqb b.layer layer same.1) in
      let clash : true ≡ false = sym yes ∙ e in cc)

  pub is_its_part : is_between (part_of i level layer).offset ((part_of i level layer).offset + (part_of i level layer).size) at ≡ (b.level == level && b.layer == layer)
  is_its_part = its_part (b.level == level && b.layer == layer) refl

-- ---- bytes that have a place

-- a byte of an image that has a place there
pub image_byte : (m : ImageInfo) → bad_image m ≡ false → (i level layer x y p k : ℕ) → place_of (ImageOf m) (in_image i level layer x y p) ≡ Some k
    → (let b : TexelByte = record { level = level; layer = layer; x = x; y = y; texel_byte = p } in HasByte m b × (byte_address m b ≡ k))
image_byte m good i level layer x y p k e = go (has_byte m level layer x y p) refl e
  where
    go : (t : Bool) → has_byte m level layer x y p ≡ t → (if t then Some (address m m.tiling level layer x y + p) else None) ≡ Some k
        → (let b : TexelByte = record { level = level; layer = layer; x = x; y = y; texel_byte = p } in HasByte m b × (byte_address m b ≡ k))
    go true h f =
        let five = and_parts (nat_lt level m.levels && nat_lt layer m.layers && nat_lt x (level_width m level) && nat_lt y (level_height m level)) (nat_lt p (texel m.format)) h in
        let four = and_parts (nat_lt level m.levels && nat_lt layer m.layers && nat_lt x (level_width m level)) (nat_lt y (level_height m level)) five.0 in
        let three = and_parts (nat_lt level m.levels && nat_lt layer m.layers) (nat_lt x (level_width m level)) four.0 in
        let two = and_parts (nat_lt level m.levels) (nat_lt layer m.layers) three.0 in
        let same : address m m.tiling level layer x y + p ≡ k = cc in (
          record {
            shaped = good;
            level_there = ltb-true level m.levels two.0;
            layer_there = ltb-true layer m.layers two.1;
            x_there = ltb-true x (level_width m level) three.1;
            y_there = ltb-true y (level_height m level) four.1;
            texel_byte_there = ltb-true p (texel m.format) five.1;
          },
          same,
        )
    go false h f = absurd cc

pub in_part : SubresourcesHold → (m : ImageInfo) → bad_image m ≡ false → (level layer : ℕ) → level < m.levels → layer < m.layers → (c : Byte) (k : ℕ) → place_of (ImageOf m) c ≡ Some k
    → is_in_part (λ l a. l == level && a == layer) c ≡ is_between (part_of m level layer).offset ((part_of m level layer).offset + (part_of m level layer).size) k
in_part law m good level layer lt lu (in_buffer b j) k e = absurd cc
in_part law m good level layer lt lu (in_image i l a x y p) k e =
    let its = image_byte m good i l a x y p k e in
    sym (is_its_part law m (record { level = l; layer = a; x = x; y = y; texel_byte = p }) its.0 level layer lt lu)
    ∙ ap (λ (at : ℕ). is_between (part_of m level layer).offset ((part_of m level layer).offset + (part_of m level layer).size) at) its.1
