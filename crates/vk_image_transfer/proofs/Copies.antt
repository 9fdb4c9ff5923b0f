-- The pieces of copies of images, and the bytes of both resources after one.
use Rattle.std.proofs.Common.{◌≡◌, ◌≢◌, ℕ, zero, suc, ◌+◌, ◌*◌, ◌/◌, ◌%◌, ◌<◌, List, length, Bool, true, false, eqb, eq-eqb, if◌then◌else◌, refl, ap, sym, arith, slice_index, Option, Some, None}
use Rattle.std.proofs.lemmas.Bool.{ne_eqb, and_from}
use Rattle.vk_model.specs.declared.command.BufferImageCopy.{BufferImageCopy}
use Rattle.vk_model.specs.declared.command.ImageCopy.{ImageCopy}
use Rattle.vk_model.specs.declared.resource.ImageInfo.{ImageInfo}
use Rattle.vk_model.specs.Basics.{grid}
use Rattle.vk_model.specs.Trace.Image.{texel}
use Rattle.vk_model.specs.Rules.Sizes.{bad_image}
use Rattle.vk_model.specs.Memory.PlaceLaws.{TexelByte, HasByte, TexelsApart}
use Rattle.vk_model.specs.World.Areas.{boxes_meet, source_box, destination_box}
use Rattle.vk_model.proofs.World.BytePlaces.{common_meets, texel_some}
use Rattle.vk_model.specs.World.Bytes.{Byte, in_buffer, in_image, resource_at}
use Rattle.vk_model.specs.World.ByteWrites.{ByteWrite, byte_write, From, buffer_texel, image_texel}
use Rattle.vk_model.specs.Run.Pieces.{cut}
use Rattle.vk_transfer.specs.Ran.{HaveRun}
use Rattle.vk_image_transfer.specs.Held.{Held, image_at, buffer_at, one_held, two_held, byte_held, bytes_held}
use Rattle.vk_image_transfer.specs.Pieces.{piece_in, copy_in_pieces, copy_out_pieces, copy_image_pieces}
use Rattle.vk_image_transfer.specs.Rows.{AreWritten, BoxFits, RegionFits, RowsApart, image_row, buffer_row}
use Rattle.vk_image_transfer.specs.Inner.Lines.{rows_of}
use Rattle.vk_image_transfer.proofs.Grids.{grid_piece, grid_count, grid_none}
use Rattle.vk_image_transfer.proofs.Running.{row_writes}
use Rattle.vk_image_transfer.proofs.Clears.{or_none}
use Rattle.vk_image_transfer.proofs.ImageRows.{RowThere, image_ran, row_read}
use Rattle.vk_image_transfer.proofs.BufferRows.{buffer_read, buffer_ran}
use Rattle.std.proofs.Math.Nat.{mul-pos}

-- ---- how many pieces

-- rows of some texels, cut one by one
pub rows_counted : {X : Type 0} (m : ImageInfo) (layers height width : ℕ) (f : ℕ → ℕ → ℕ → ℕ → X) → rows_of width height layers ≡ length (cut (width * texel m.format) (grid layers height width (texel m.format) f))
rows_counted m layers height zero f = sym (grid_none layers height zero (texel m.format) f refl)
rows_counted m layers height (suc w) f = let some : eqb (suc w) 0 ≡ false = ne_eqb (suc w) 0 (λ e. omega arith) in rw some (sym (grid_count layers height (suc w) (texel m.format) f (mul-pos {m = suc w} (omega arith) (texel_some m.format))))

-- ---- two resources

module _ (s d : ℕ) (ne : s ≡ d → ⊥) where
  other : eqb d s ≡ false
  other = ne_eqb d s (λ e. ne (sym e))

  pub first_held : (h k : Held) → two_held s h d k s ≡ Some h
  first_held h k = rw (other, eq-eqb s s refl) refl

pub second_held : (s d : ℕ) (h k : Held) → two_held s h d k d ≡ Some k
second_held s d h k = rw (eq-eqb d d refl) refl

pub only_held : (i : ℕ) (h : Held) → one_held i h i ≡ Some h
only_held i h = rw (eq-eqb i i refl) refl

pub beside_held : (s d : ℕ) (h h' k k' : Held) → ((c : Byte) → byte_held (Some h') c ≡ byte_held (Some h) c) → (c : Byte) → eqb d (resource_at c) ≡ false → byte_held (two_held s h' d k' (resource_at c)) c ≡ byte_held (two_held s h d k (resource_at c)) c
beside_held s d h h' k k' same c apart = rw apart (go (eqb s (resource_at c)))
  where
    go : (t : Bool) → byte_held (if t then Some h' else None) c ≡ byte_held (if t then Some h else None) c
    go true = same c
    go false = refl

-- ---- from a buffer to an image

module _ (b i : ℕ) (m : ImageInfo) (g : BufferImageCopy) (number : ℕ) (wide : 0 < g.width) (here : number < g.layers * g.height) where
  abbrev t : ℕ
  t = texel m.format

  abbrev z : ℕ
  z = number / g.height

  abbrev y : ℕ
  y = number % g.height

  some_bytes : 0 < g.width * texel m.format
  some_bytes = mul-pos wide (texel_some m.format)

  pub in_is : piece_in (copy_in_pieces b i m g) number ≡ row_writes g.width t (λ x p. image_texel i g z y x p) (λ x p. From (in_buffer b (buffer_texel g t z y x p)))
  in_is = ap (λ (o : Option (List ByteWrite)). or_none o)
      (grid_piece g.layers g.height g.width (texel m.format) (λ z y x k. byte_write (image_texel i g z y x k) (From (in_buffer b (buffer_texel g (texel m.format) z y x k)))) number some_bytes here)

  -- of any resources that hold the buffer and the image
  pub in_held : TexelsApart → bad_image m ≡ false → (z_there : z < g.layers) (y_there : y < g.height) → RowThere m g.level (g.first_layer + z) g.x (g.y + y) g.width
      → (source old new : List ℕ) (source_start start n : ℕ) → RegionFits g t n → (held after : ℕ → Option Held) → held b ≡ Some (buffer_at source source_start n) → held i ≡ Some (image_at old start m) → after i ≡ Some (image_at new start m)
      → ((c : Byte) → eqb i (resource_at c) ≡ false → byte_held (after (resource_at c)) c ≡ byte_held (held (resource_at c)) c)
      → AreWritten old new g.width t (image_row m start g.level (g.first_layer + z) g.x (g.y + y)) (λ x p. slice_index source (buffer_row g t source_start z y x + p))
      → HaveRun (piece_in (copy_in_pieces b i m g) number) (bytes_held held) (bytes_held after)
  in_held law good z_there y_there there source old new source_start start n fits held after source_is old_is new_is beside written =
      rw in_is
      (image_ran m good start g.level (g.first_layer + z) g.x (g.y + y) g.width there law (texel_some m.format) i old new held after old_is new_is beside
      (λ x p. image_texel i g z y x p) (λ x p. refl) (λ x p. From (in_buffer b (buffer_texel g t z y x p))) (λ x p. slice_index source (buffer_row g t source_start z y x + p)) written
      (λ x p lt low. sym (buffer_read g t source_start z y z_there y_there b n source held source_is fits x p lt low)))

  pub in_ran : b ≢ i → TexelsApart → bad_image m ≡ false → (z_there : z < g.layers) (y_there : y < g.height) → RowThere m g.level (g.first_layer + z) g.x (g.y + y) g.width
      → (source kept old new : List ℕ) (source_start start n : ℕ) → RegionFits g t n → ((c : Byte) → byte_held (Some (buffer_at kept source_start n)) c ≡ byte_held (Some (buffer_at source source_start n)) c)
      → AreWritten old new g.width t (image_row m start g.level (g.first_layer + z) g.x (g.y + y)) (λ x p. slice_index source (buffer_row g t source_start z y x + p))
      → HaveRun (piece_in (copy_in_pieces b i m g) number) (bytes_held (two_held b (buffer_at source source_start n) i (image_at old start m))) (bytes_held (two_held b (buffer_at kept source_start n) i (image_at new start m)))
  in_ran ne law good z_there y_there there source kept old new source_start start n fits same written =
      in_held law good z_there y_there there source old new source_start start n fits
      (two_held b (buffer_at source source_start n) i (image_at old start m)) (two_held b (buffer_at kept source_start n) i (image_at new start m))
      (first_held b i ne (buffer_at source source_start n) (image_at old start m))
      (second_held b i (buffer_at source source_start n) (image_at old start m)) (second_held b i (buffer_at kept source_start n) (image_at new start m))
      (beside_held b i (buffer_at source source_start n) (buffer_at kept source_start n) (image_at old start m) (image_at new start m) same) written

  -- ---- from the image to the buffer

  pub out_is : piece_in (copy_out_pieces i b m g) number ≡ row_writes g.width t (λ x p. in_buffer b (buffer_texel g t z y x p)) (λ x p. From (image_texel i g z y x p))
  out_is = ap (λ (o : Option (List ByteWrite)). or_none o)
      (grid_piece g.layers g.height g.width (texel m.format) (λ z y x k. byte_write (in_buffer b (buffer_texel g (texel m.format) z y x k)) (From (image_texel i g z y x k))) number some_bytes here)

  -- of any resources that hold the image and the buffer
  pub out_held : bad_image m ≡ false → (z_there : z < g.layers) (y_there : y < g.height) → RowThere m g.level (g.first_layer + z) g.x (g.y + y) g.width
      → (source old new : List ℕ) (source_start start n : ℕ) → RegionFits g t n → (held after : ℕ → Option Held) → held i ≡ Some (image_at source source_start m) → held b ≡ Some (buffer_at old start n) → after b ≡ Some (buffer_at new start n)
      → ((c : Byte) → eqb b (resource_at c) ≡ false → byte_held (after (resource_at c)) c ≡ byte_held (held (resource_at c)) c)
      → AreWritten old new g.width t (buffer_row g t start z y) (λ x p. slice_index source (image_row m source_start g.level (g.first_layer + z) g.x (g.y + y) x + p))
      → HaveRun (piece_in (copy_out_pieces i b m g) number) (bytes_held held) (bytes_held after)
  out_held good z_there y_there there source old new source_start start n fits held after source_is old_is new_is beside written =
      rw out_is
      (buffer_ran g t start z y z_there y_there (texel_some m.format) b n fits old new held after old_is new_is beside
      (λ x p. From (image_texel i g z y x p)) (λ x p. slice_index source (image_row m source_start g.level (g.first_layer + z) g.x (g.y + y) x + p)) written
      (λ x p lt low. sym (row_read m good source_start g.level (g.first_layer + z) g.x (g.y + y) g.width there i source held source_is x p lt low)))

  pub out_ran : i ≢ b → bad_image m ≡ false → (z_there : z < g.layers) (y_there : y < g.height) → RowThere m g.level (g.first_layer + z) g.x (g.y + y) g.width
      → (source kept old new : List ℕ) (source_start start n : ℕ) → RegionFits g t n → ((c : Byte) → byte_held (Some (image_at kept source_start m)) c ≡ byte_held (Some (image_at source source_start m)) c)
      → AreWritten old new g.width t (buffer_row g t start z y) (λ x p. slice_index source (image_row m source_start g.level (g.first_layer + z) g.x (g.y + y) x + p))
      → HaveRun (piece_in (copy_out_pieces i b m g) number) (bytes_held (two_held i (image_at source source_start m) b (buffer_at old start n))) (bytes_held (two_held i (image_at kept source_start m) b (buffer_at new start n)))
  out_ran ne good z_there y_there there source kept old new source_start start n fits same written =
      out_held good z_there y_there there source old new source_start start n fits
      (two_held i (image_at source source_start m) b (buffer_at old start n)) (two_held i (image_at kept source_start m) b (buffer_at new start n))
      (first_held i b ne (image_at source source_start m) (buffer_at old start n))
      (second_held i b (image_at source source_start m) (buffer_at old start n)) (second_held i b (image_at kept source_start m) (buffer_at new start n))
      (beside_held i b (image_at source source_start m) (image_at kept source_start m) (buffer_at old start n) (buffer_at new start n) same) written

-- ---- from an image to an image

module _ (s d : ℕ) (from m : ImageInfo) (g : ImageCopy) (number : ℕ) (wide : 0 < g.width) (here : number < g.layers * g.height) where
  abbrev read_at : ℕ → ℕ → Byte
  read_at x p = in_image s g.source_level (g.source_first_layer + number / g.height) (g.source_x + x) (g.source_y + number % g.height) p

  abbrev written_at : ℕ → ℕ → Byte
  written_at x p = in_image d g.destination_level (g.destination_first_layer + number / g.height) (g.destination_x + x) (g.destination_y + number % g.height) p

  abbrev pub source_row : ℕ → ℕ → ℕ
  source_row start x = image_row from start g.source_level (g.source_first_layer + number / g.height) g.source_x (g.source_y + number % g.height) x

  abbrev pub destination_row : ℕ → ℕ → ℕ
  destination_row start x = image_row m start g.destination_level (g.destination_first_layer + number / g.height) g.destination_x (g.destination_y + number % g.height) x

  pub image_is : piece_in (copy_image_pieces s d m g) number ≡ row_writes g.width (texel m.format) written_at (λ x p. From (read_at x p))
  image_is = ap (λ (o : Option (List ByteWrite)). or_none o)
      (grid_piece g.layers g.height g.width (texel m.format)
      (λ z y x k. byte_write (in_image d g.destination_level (g.destination_first_layer + z) (g.destination_x + x) (g.destination_y + y) k) (From (in_image s g.source_level (g.source_first_layer + z) (g.source_x + x) (g.source_y + y) k)))
      number (mul-pos wide (texel_some m.format)) here)

  -- of any resources that hold the two images
  pub copied_ran : TexelsApart → bad_image from ≡ false → bad_image m ≡ false → texel from.format ≡ texel m.format
      → RowThere from g.source_level (g.source_first_layer + number / g.height) g.source_x (g.source_y + number % g.height) g.width
      → RowThere m g.destination_level (g.destination_first_layer + number / g.height) g.destination_x (g.destination_y + number % g.height) g.width
      → (source old new : List ℕ) (source_start start : ℕ) (held after : ℕ → Option Held) → held s ≡ Some (image_at source source_start from) → held d ≡ Some (image_at old start m) → after d ≡ Some (image_at new start m)
      → ((c : Byte) → eqb d (resource_at c) ≡ false → byte_held (after (resource_at c)) c ≡ byte_held (held (resource_at c)) c)
      → AreWritten old new g.width (texel m.format) (destination_row start) (λ x p. slice_index source (source_row source_start x + p))
      → HaveRun (piece_in (copy_image_pieces s d m g) number) (bytes_held held) (bytes_held after)
  copied_ran law good_from good same source_there there source old new source_start start held after source_is old_is new_is beside written =
      rw image_is
      (image_ran m good start g.destination_level (g.destination_first_layer + number / g.height) g.destination_x (g.destination_y + number % g.height) g.width there law (texel_some m.format) d old new held after old_is new_is beside
      written_at (λ x p. refl) (λ x p. From (read_at x p)) (λ x p. slice_index source (source_row source_start x + p)) written
      (λ x p lt low. sym (row_read from good_from source_start g.source_level (g.source_first_layer + number / g.height) g.source_x (g.source_y + number % g.height) g.width source_there s source held source_is x p lt (omega (arith, low, same)))))

-- ---- rows of one image that are read and written

module _ (m : ImageInfo) (g : ImageCopy) (start z y : ℕ) (z_there : z < g.layers) (y_there : y < g.height) where
  abbrev pub row_read_at : ℕ → ℕ
  row_read_at x = image_row m start g.source_level (g.source_first_layer + z) g.source_x (g.source_y + y) x

  abbrev pub row_written_at : ℕ → ℕ
  row_written_at x = image_row m start g.destination_level (g.destination_first_layer + z) g.destination_x (g.destination_y + y) x

  -- boxes that don't meet have no byte of a row in common
  pub boxes_apart : TexelsApart → bad_image m ≡ false → boxes_meet (source_box g) (destination_box g) ≡ false → BoxFits m (source_box g) → BoxFits m (destination_box g) → (t : ℕ) → t ≡ texel m.format
      → (one other : ℕ → ℕ) → ((x : ℕ) → one x ≡ row_read_at x) → ((x : ℕ) → other x ≡ row_written_at x) → RowsApart g.width t one other
  boxes_apart law good apart source_fits fits t bytes one other one_is other_is x u p q lx lu lp lq same =
      let read : TexelByte = record { level = g.source_level; layer = g.source_first_layer + z; x = g.source_x + x; y = g.source_y + y; texel_byte = p } in
      let written : TexelByte = record { level = g.destination_level; layer = g.destination_first_layer + z; x = g.destination_x + u; y = g.destination_y + y; texel_byte = q } in
      let read_there : HasByte m read = record { shaped = good; level_there = source_fits.level; layer_there = omega (arith, source_fits.layers, z_there); x_there = omega (arith, source_fits.columns, lx); y_there = omega (arith, source_fits.rows, y_there); texel_byte_there = omega (arith, lp, bytes) } in
      let written_there : HasByte m written = record { shaped = good; level_there = fits.level; layer_there = omega (arith, fits.layers, z_there); x_there = omega (arith, fits.columns, lu); y_there = omega (arith, fits.rows, y_there); texel_byte_there = omega (arith, lq, bytes) } in
      let is : read ≡ written = law m read written read_there written_there (omega (arith, same, one_is x, other_is u)) in
      let levels : g.source_level ≡ g.destination_level = ap (λ (b : TexelByte). b.level) is in
      let layers : g.source_first_layer + z ≡ g.destination_first_layer + z = ap (λ (b : TexelByte). b.layer) is in
      let columns : g.source_x + x ≡ g.destination_x + u = ap (λ (b : TexelByte). b.x) is in
      let rows : g.source_y + y ≡ g.destination_y + y = ap (λ (b : TexelByte). b.y) is in
      let meet : boxes_meet (source_box g) (destination_box g) ≡ true =
      and_from _ _ (and_from _ _ (and_from _ _ (eq-eqb g.source_level g.destination_level levels)
      (common_meets g.source_first_layer g.layers g.destination_first_layer g.layers (g.source_first_layer + z) (omega arith) (omega (arith, z_there)) (omega (arith, layers)) (omega (arith, layers, z_there))))
      (common_meets g.source_x g.width g.destination_x g.width (g.source_x + x) (omega arith) (omega (arith, lx)) (omega (arith, columns)) (omega (arith, columns, lu))))
      (common_meets g.source_y g.height g.destination_y g.height (g.source_y + y) (omega arith) (omega (arith, y_there)) (omega (arith, rows)) (omega (arith, rows, y_there))) in
      clash (boxes_meet (source_box g) (destination_box g)) meet apart
    where
      clash : (b : Bool) → b ≡ true → b ≡ false → ⊥
      clash b is_true is_false = absurd cc
