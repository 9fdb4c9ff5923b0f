-- A row of a region in a buffer: its texels' places, and what is read of them.
use Rattle.std.proofs.Common.{◌≡◌, ℕ, ◌+◌, ◌-◌, ◌*◌, ◌<◌, ◌≤◌, List, false, eqb, refl, ap, ◌∙◌, arith, slice_index, Option, Some}
use Rattle.std.proofs.lemmas.Nat.{same_from_place}
use Rattle.vk_model.specs.declared.command.BufferImageCopy.{BufferImageCopy}
use Rattle.vk_model.specs.World.Bytes.{Byte, in_buffer, resource_at}
use Rattle.vk_model.specs.World.ByteWrites.{Source, buffer_texel}
use Rattle.vk_transfer.specs.Ran.{given, HaveRun}
use Rattle.vk_image_transfer.specs.Held.{Held, buffer_at, byte_held, bytes_held}
use Rattle.vk_image_transfer.specs.Rows.{AreWritten, RegionFits, buffer_row}
use Rattle.vk_image_transfer.specs.Inner.Lines.{line_place, line_texel, line_first, LineFits}
use Rattle.vk_image_transfer.specs.declared.lines.Line.{Line}
use Rattle.vk_image_transfer.proofs.Keeping.{RowInside}
use Rattle.vk_image_transfer.proofs.Places.{buffer_byte_at, buffer_apart, read_held}
use Rattle.vk_image_transfer.proofs.Running.{row_writes, held_ran}

module _ (g : BufferImageCopy) (t start z y : ℕ) (z_there : z < g.layers) (y_there : y < g.height) where
  -- a texel ends in what holds the region
  pub texel_ends : (size : ℕ) → 0 < t → RegionFits g t (size - start) → (x : ℕ) → x < g.width → buffer_row g t start z y x + t ≤ size
  texel_ends size some fits x lt = let last : buffer_texel g t z y x (t - 1) < size - start = fits z y x (t - 1) z_there y_there lt (omega arith) in omega (arith, last)

  pub row_within : (size : ℕ) → 0 < t → 0 < g.width → RegionFits g t (size - start) → size < 18446744073709551616 → buffer_row g t start z y 0 < 18446744073709551616
  row_within size some wide fits small = omega (arith, texel_ends size some fits 0 wide)

  pub buffer_fits : (l : Line) (size : ℕ) → 0 < t → g.width < 4294967296 → line_texel l ≡ t → line_first l ≡ 0 → ((x : ℕ) → line_place l x ≡ buffer_row g t start z y x) → RegionFits g t (size - start) → LineFits l g.width t size
  buffer_fits l size some few bytes begins places fits = record {
    texel = bytes;
    numbers = omega (arith, few, begins);
    inside = λ x lt. omega (arith, ap (λ (k : ℕ). k + t) (places x), texel_ends size some fits x lt);
  }

  -- the row lies in a buffer of n bytes
  pub row_inside : (n : ℕ) → RegionFits g t n → RowInside g.width t (buffer_row g t start z y) start n
  row_inside n fits x p lt low = let there : buffer_texel g t z y x p < n = fits z y x p z_there y_there lt low in (omega arith, omega (arith, there))

  -- no two texels of the row share a byte
  pub row_apart : (x p u q : ℕ) → p < t → q < t → buffer_row g t start z y x + p ≡ buffer_row g t start z y u + q → x ≡ u
  row_apart x p u q low high same =
      let one : (buffer_row g t start z y x + p) ≡ buffer_row g t start z y 0 + (x * t + p) = omega arith in
      let two : (buffer_row g t start z y u + q) ≡ buffer_row g t start z y 0 + (u * t + q) = omega arith in
      (same_from_place x p u q t low high (omega (arith, one, two, same))).0

  -- what is read of the row, of a buffer of n bytes
  pub buffer_read : (b n : ℕ) (xs : List ℕ) (held : ℕ → Option Held) → held b ≡ Some (buffer_at xs start n) → RegionFits g t n → (x p : ℕ) → x < g.width → p < t
      → bytes_held held (in_buffer b (buffer_texel g t z y x p)) ≡ slice_index xs (buffer_row g t start z y x + p)
  buffer_read b n xs held is fits x p lt low =
      let at : start + buffer_texel g t z y x p ≡ buffer_row g t start z y x + p = omega arith in
      read_held held (buffer_at xs start n) (in_buffer b (buffer_texel g t z y x p)) (buffer_texel g t z y x p) is (buffer_byte_at n b (buffer_texel g t z y x p) (fits z y x p z_there y_there lt low))
      ∙ ap (λ (k : ℕ). slice_index xs k) at

  -- the byte writes to the row, of a buffer of n bytes
  module _ (some : 0 < t) (d n : ℕ) (fits : RegionFits g t n) (old new : List ℕ) (held after : ℕ → Option Held) (old_is : held d ≡ Some (buffer_at old start n)) (new_is : after d ≡ Some (buffer_at new start n))
      (beside : (c : Byte) → eqb d (resource_at c) ≡ false → byte_held (after (resource_at c)) c ≡ byte_held (held (resource_at c)) c)
      (source : ℕ → ℕ → Source) (value : ℕ → ℕ → ℕ)
      (written : AreWritten old new g.width t (buffer_row g t start z y) value)
      (values : (x p : ℕ) → x < g.width → p < t → value x p ≡ given (source x p) (bytes_held held)) where
    pub buffer_ran : HaveRun (row_writes g.width t (λ x p. in_buffer d (buffer_texel g t z y x p)) source) (bytes_held held) (bytes_held after)
    buffer_ran = held_ran d g.width t (buffer_at old start n) new held after (λ x p. in_buffer d (buffer_texel g t z y x p)) source (buffer_row g t start z y) value some old_is new_is beside (buffer_apart n d)
        (λ x p. refl)
        (λ x p lt low. (buffer_texel g t z y x p, buffer_byte_at n d (buffer_texel g t z y x p) (fits z y x p z_there y_there lt low), omega arith))
        written values

-- a row of a region, by other names for the same numbers
pub buffer_as : (g : BufferImageCopy) (t t' start z z' y y' : ℕ) → t ≡ t' → z ≡ z' → y ≡ y' → (x : ℕ) → buffer_row g t start z y x ≡ buffer_row g t' start z' y' x
buffer_as g t t' start z z' y y' bytes layer row x = ap (λ (k : ℕ). buffer_row g k start z y x) bytes ∙ ap (λ (k : ℕ). buffer_row g t' start k y x) layer ∙ ap (λ (k : ℕ). buffer_row g t' start z' k x) row
