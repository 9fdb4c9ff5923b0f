-- Where the bytes of a resource lie, and what is held there.
use Rattle.std.proofs.Common.{◌≡◌, ℕ, ◌+◌, ◌<◌, Bool, true, false, ◌&&◌, nat_lt, if◌then◌else◌, refl, ap, sym, ◌∙◌, arith, slice_index, Option, Some, None}
use Rattle.std.proofs.lemmas.Bool.{ltb-true, lt-ltb, and_parts, and_from}
use Rattle.vk_model.specs.declared.resource.ImageInfo.{ImageInfo}
use Rattle.vk_model.specs.Trace.Image.{texel, level_width, level_height}
use Rattle.vk_model.specs.Rules.Sizes.{bad_image}
use Rattle.vk_model.specs.Memory.Addresses.{address}
use Rattle.vk_model.specs.Memory.PlaceLaws.{TexelByte, HasByte, TexelsApart, TexelsInside}
use Rattle.vk_model.specs.World.Bytes.{Byte, in_buffer, in_image, resource_at}
use Rattle.vk_image_transfer.specs.Held.{Held, Form, BufferOf, ImageOf, form_size, has_byte, place_of, byte_held, bytes_held}
use Rattle.vk_image_transfer.proofs.Running.{PlacesApart}

-- ---- of images

-- byte p of a texel of an image
pub record IsThere (m : ImageInfo) (level layer x y p : ℕ) : Type 0 where
  pub level_there : level < m.levels
  pub layer_there : layer < m.layers
  pub x_there : x < level_width m level
  pub y_there : y < level_height m level
  pub part_there : p < texel m.format

there_is : (m : ImageInfo) (level layer x y p : ℕ) → has_byte m level layer x y p ≡ true → IsThere m level layer x y p
there_is m level layer x y p e =
    let five = and_parts (nat_lt level m.levels && nat_lt layer m.layers && nat_lt x (level_width m level) && nat_lt y (level_height m level)) (nat_lt p (texel m.format)) e in
    let four = and_parts (nat_lt level m.levels && nat_lt layer m.layers && nat_lt x (level_width m level)) (nat_lt y (level_height m level)) five.0 in
    let three = and_parts (nat_lt level m.levels && nat_lt layer m.layers) (nat_lt x (level_width m level)) four.0 in
    let two = and_parts (nat_lt level m.levels) (nat_lt layer m.layers) three.0 in
    record { level_there = ltb-true level m.levels two.0; layer_there = ltb-true layer m.layers two.1; x_there = ltb-true x (level_width m level) three.1; y_there = ltb-true y (level_height m level) four.1; part_there = ltb-true p (texel m.format) five.1 }

is_there : (m : ImageInfo) (level layer x y p : ℕ) → IsThere m level layer x y p → has_byte m level layer x y p ≡ true
is_there m level layer x y p t =
    and_from _ _ (and_from _ _ (and_from _ _ (and_from _ _ (lt-ltb level m.levels t.level_there) (lt-ltb layer m.layers t.layer_there)) (lt-ltb x (level_width m level) t.x_there)) (lt-ltb y (level_height m level) t.y_there)) (lt-ltb p (texel m.format) t.part_there)

pub image_byte_at : (m : ImageInfo) (i level layer x y p : ℕ) → IsThere m level layer x y p → place_of (ImageOf m) (in_image i level layer x y p) ≡ Some (address m m.tiling level layer x y + p)
image_byte_at m i level layer x y p t = ap (λ (b : Bool). if b then Some (address m m.tiling level layer x y + p) else None) (is_there m level layer x y p t)

-- where a place is given, the byte is there
parts : (m : ImageInfo) (i level layer x y p k : ℕ) → place_of (ImageOf m) (in_image i level layer x y p) ≡ Some k → IsThere m level layer x y p × (address m m.tiling level layer x y + p ≡ k)
parts m i level layer x y p k e = go (has_byte m level layer x y p) refl e
  where
    go : (b : Bool) → has_byte m level layer x y p ≡ b → (if b then Some (address m m.tiling level layer x y + p) else None) ≡ Some k → IsThere m level layer x y p × (address m m.tiling level layer x y + p ≡ k)
    go true h e = let same : address m m.tiling level layer x y + p ≡ k = cc in (there_is m level layer x y p h, same)
    go false h e = absurd cc

abbrev of_texel : (level layer x y p : ℕ) → TexelByte
of_texel level layer x y p = record { level = level; layer = layer; x = x; y = y; texel_byte = p }

pub has : (m : ImageInfo) → bad_image m ≡ false → (level layer x y p : ℕ) → IsThere m level layer x y p → HasByte m (of_texel level layer x y p)
has m good level layer x y p t = record { shaped = good; level_there = t.level_there; layer_there = t.layer_there; x_there = t.x_there; y_there = t.y_there; texel_byte_there = t.part_there }

pub image_apart : TexelsApart → (m : ImageInfo) → bad_image m ≡ false → (d : ℕ) → PlacesApart d (ImageOf m)
image_apart law m good d (in_buffer b j) e k of_c of_e at_c at_e = absurd cc
image_apart law m good d (in_image i a l x y p) (in_buffer b j) k of_c of_e at_c at_e = absurd cc
image_apart law m good d (in_image i a l x y p) (in_image j c n u v q) k of_c of_e at_c at_e =
    let one = parts m i a l x y p k at_c in
    let other = parts m j c n u v q k at_e in
    let same : of_texel a l x y p ≡ of_texel c n u v q = law m (of_texel a l x y p) (of_texel c n u v q) (has m good a l x y p one.0) (has m good c n u v q other.0) (one.1 ∙ sym other.1) in
    ap (λ (b : ℕ). in_image b a l x y p) (of_c ∙ sym of_e) ∙ ap (λ (b : TexelByte). in_image j b.level b.layer b.x b.y b.texel_byte) same

-- ---- of buffers

pub buffer_parts : (n b j k : ℕ) → place_of (BufferOf n) (in_buffer b j) ≡ Some k → (j < n) × (j ≡ k)
buffer_parts n b j k e = go (nat_lt j n) refl e
  where
    go : (t : Bool) → nat_lt j n ≡ t → (if t then Some j else None) ≡ Some k → (j < n) × (j ≡ k)
    go true h e = let same : j ≡ k = cc in (ltb-true j n h, same)
    go false h e = absurd cc

pub buffer_byte_at : (n b k : ℕ) → k < n → place_of (BufferOf n) (in_buffer b k) ≡ Some k
buffer_byte_at n b k lt = ap (λ (t : Bool). if t then Some k else None) (lt-ltb k n lt)

pub buffer_apart : (n d : ℕ) → PlacesApart d (BufferOf n)
buffer_apart n d (in_image i a l x y p) e k of_c of_e at_c at_e = absurd cc
buffer_apart n d (in_buffer b j) (in_image i a l x y p) k of_c of_e at_c at_e = absurd cc
buffer_apart n d (in_buffer b j) (in_buffer c l) k of_c of_e at_c at_e =
    ap (λ (i : ℕ). in_buffer i j) (of_c ∙ sym of_e) ∙ ap (λ (i : ℕ). in_buffer c i) ((buffer_parts n b j k at_c).1 ∙ sym (buffer_parts n c l k at_e).1)

-- ---- of both

-- a form that an image or a buffer can have
abbrev pub IsSound : Form → Type 0
IsSound (BufferOf n) = Unit {0}
IsSound (ImageOf m) = bad_image m ≡ false

pub place_within : TexelsInside → (form : Form) → IsSound form → (c : Byte) (k : ℕ) → place_of form c ≡ Some k → k < form_size form
place_within law (BufferOf n) good (in_image i a l x y p) k e = absurd cc
place_within law (BufferOf n) good (in_buffer b j) k e = let is = buffer_parts n b j k e in omega (arith, is)
place_within law (ImageOf m) good (in_buffer b j) k e = absurd cc
place_within law (ImageOf m) good (in_image i a l x y p) k e = let is = parts m i a l x y p k e in omega (arith, is.1, law m (of_texel a l x y p) (has m good a l x y p is.0))

-- what is read at a place of a resource, if it has one
abbrev from : Held → Option ℕ → ℕ
from h None = 0
from h (Some k) = slice_index h.region (h.start + k)

pub read_held : (held : ℕ → Option Held) (h : Held) (c : Byte) (k : ℕ) → held (resource_at c) ≡ Some h → place_of h.form c ≡ Some k → bytes_held held c ≡ slice_index h.region (h.start + k)
read_held held h c k is at = ap (λ (o : Option Held). byte_held o c) is ∙ ap (from h) at
