-- A row of an image: its texels' places, and the byte writes that are made when it has been written.
use Rattle.std.proofs.Common.{◌≡◌, ℕ, ◌+◌, ◌<◌, ◌≤◌, List, false, eqb, ap, sym, subst, ◌∙◌, arith, slice_index, Option, Some}
use Rattle.vk_model.specs.declared.resource.ImageInfo.{ImageInfo}
use Rattle.vk_model.specs.Trace.Image.{texel, level_width, level_height, image_size}
use Rattle.vk_model.specs.Rules.Sizes.{bad_image}
use Rattle.vk_model.specs.Memory.Addresses.{address}
use Rattle.vk_model.specs.Memory.PlaceLaws.{TexelByte, TexelsApart, TexelsInside}
use Rattle.vk_model.specs.World.Bytes.{Byte, in_image, resource_at}
use Rattle.vk_model.specs.World.ByteWrites.{Source}
use Rattle.vk_transfer.specs.Ran.{given, HaveRun}
use Rattle.vk_image_transfer.specs.Held.{Held, ImageOf, image_at, place_of, byte_held, bytes_held}
use Rattle.vk_image_transfer.specs.Rows.{AreWritten, image_row}
use Rattle.vk_image_transfer.proofs.Running.{row_writes, held_ran}
use Rattle.vk_image_transfer.proofs.Keeping.{RowInside}
use Rattle.vk_image_transfer.proofs.Places.{IsThere, has, image_byte_at, image_apart, read_held}

-- a row of w texels is there
pub record RowThere (m : ImageInfo) (level layer first y w : ℕ) : Type 0 where
  pub level_there : level < m.levels
  pub layer_there : layer < m.layers
  pub columns : first + w ≤ level_width m level
  pub y_there : y < level_height m level

pub same_written : (old new : List ℕ) (w t : ℕ) (place other : ℕ → ℕ) (value given_value : ℕ → ℕ → ℕ) → ((x : ℕ) → place x ≡ other x) → ((x p : ℕ) → x < w → p < t → value x p ≡ given_value x p) → AreWritten old new w t place value → AreWritten old new w t other given_value
same_written old new w t place other value given_value same values written = record {
  size = written.size;
  there = λ x p lt low. ap (λ (k : ℕ). slice_index new (k + p)) (sym (same x)) ∙ written.there x p lt low ∙ values x p lt low;
  kept = λ k out. written.kept k (λ x p lt low is. out x p lt low (ap (λ (j : ℕ). j + p) (sym (same x)) ∙ is));
}

module _ (m : ImageInfo) (good : bad_image m ≡ false) (start level layer first y w : ℕ) (row : RowThere m level layer first y w) where
  pub texel_there : (x p : ℕ) → x < w → p < texel m.format → IsThere m level layer (first + x) y p
  texel_there x p lt low = record { level_there = row.level_there; layer_there = row.layer_there; x_there = omega (arith, row.columns); y_there = row.y_there; part_there = low }

  -- the row lies in the image's bytes
  pub row_inside : TexelsInside → RowInside w (texel m.format) (image_row m start level layer first y) start (image_size m m.tiling)
  row_inside law x p lt low =
      let part : TexelByte = record { level = level; layer = layer; x = first + x; y = y; texel_byte = p } in
      let there : address m m.tiling level layer (first + x) y + p < image_size m m.tiling = law m part (has m good level layer (first + x) y p (texel_there x p lt low)) in
      (omega arith, omega (arith, there))

  -- no two texels of the row share a byte
  pub row_apart : TexelsApart → (x p u q : ℕ) → x < w → u < w → p < texel m.format → q < texel m.format
      → image_row m start level layer first y x + p ≡ image_row m start level layer first y u + q → x ≡ u
  row_apart law x p u q lx lu lp lq same =
      let one : TexelByte = record { level = level; layer = layer; x = first + x; y = y; texel_byte = p } in
      let other : TexelByte = record { level = level; layer = layer; x = first + u; y = y; texel_byte = q } in
      let is : one ≡ other = law m one other (has m good level layer (first + x) y p (texel_there x p lx lp)) (has m good level layer (first + u) y q (texel_there u q lu lq)) (omega (arith, same)) in
      let columns : first + x ≡ first + u = ap (λ (b : TexelByte). b.x) is in
      omega (arith, columns)

  -- what is read of the row
  pub row_read : (i : ℕ) (xs : List ℕ) (held : ℕ → Option Held) → held i ≡ Some (image_at xs start m) → (x p : ℕ) → x < w → p < texel m.format
      → bytes_held held (in_image i level layer (first + x) y p) ≡ slice_index xs (image_row m start level layer first y x + p)
  row_read i xs held is x p lt low =
      let at : start + (address m m.tiling level layer (first + x) y + p) ≡ image_row m start level layer first y x + p = omega arith in
      read_held held (image_at xs start m) (in_image i level layer (first + x) y p) (address m m.tiling level layer (first + x) y + p) is (image_byte_at m i level layer (first + x) y p (texel_there x p lt low))
      ∙ ap (λ (k : ℕ). slice_index xs k) at

  -- the byte writes to the row
  module _ (law : TexelsApart) (some : 0 < texel m.format) (d : ℕ) (old new : List ℕ) (held after : ℕ → Option Held) (old_is : held d ≡ Some (image_at old start m)) (new_is : after d ≡ Some (image_at new start m))
      (beside : (c : Byte) → eqb d (resource_at c) ≡ false → byte_held (after (resource_at c)) c ≡ byte_held (held (resource_at c)) c)
      (to : ℕ → ℕ → Byte) (to_is : (x p : ℕ) → to x p ≡ in_image d level layer (first + x) y p) (source : ℕ → ℕ → Source) (value : ℕ → ℕ → ℕ)
      (written : AreWritten old new w (texel m.format) (image_row m start level layer first y) value)
      (values : (x p : ℕ) → x < w → p < texel m.format → value x p ≡ given (source x p) (bytes_held held)) where
    pub image_ran : HaveRun (row_writes w (texel m.format) to source) (bytes_held held) (bytes_held after)
    image_ran = held_ran d w (texel m.format) (image_at old start m) new held after to source (image_row m start level layer first y) value some old_is new_is beside (image_apart law m good d)
        (λ x p. ap resource_at (to_is x p))
        (λ x p lt low. (address m m.tiling level layer (first + x) y + p, ap (place_of (ImageOf m)) (to_is x p) ∙ image_byte_at m d level layer (first + x) y p (texel_there x p lt low), omega arith))
        written values

-- what has been written, by other names for the same numbers
pub written_as : (old new : List ℕ) (w w' t t' : ℕ) (place other : ℕ → ℕ) (value value' : ℕ → ℕ → ℕ) → w ≡ w' → t ≡ t' → ((x : ℕ) → place x ≡ other x) → ((x p : ℕ) → x < w' → p < t' → value x p ≡ value' x p)
    → AreWritten old new w t place value → AreWritten old new w' t' other value'
written_as old new w w' t t' place other value value' wide bytes same values written =
    same_written old new w' t' place other value value' same values (subst (λ (n : ℕ). AreWritten old new w' n place value) bytes (subst (λ (n : ℕ). AreWritten old new n t place value) wide written))

-- a row of an image, by other names for its layer and its number
pub row_as : (m : ImageInfo) (start level layer layer' first y y' : ℕ) → layer ≡ layer' → y ≡ y' → (x : ℕ) → image_row m start level layer first y x ≡ image_row m start level layer' first y' x
row_as m start level layer layer' first y y' l r x = ap (λ (k : ℕ). image_row m start level k first y x) l ∙ ap (λ (k : ℕ). image_row m start level layer' first k x) r
