-- A row of texels that has been written in the memory of a resource, and what all resources have then.
use Rattle.std.proofs.Common.{◌≡◌, ◌⊎◌, inl, inr, ℕ, ◌+◌, ◌-◌, ◌*◌, ◌/◌, ◌%◌, ◌<◌, ◌≤◌, List, length, false, eqb, refl, ap, sym, ◌∙◌, subst, arith, slice_index, Option, Some, None}
use Rattle.std.proofs.lemmas.Bool.{eqb-false, eq-eqb}
use Rattle.std.specs.Prelude.{IsTrue}
use Rattle.vk_memory.specs.MemoryState.{region_of, with_region}
use Rattle.vk_memory.proofs.LiveObjects.{region_of-same, type_of-same}
use Rattle.vk_model.specs.declared.command.BufferImageCopy.{BufferImageCopy}
use Rattle.vk_model.specs.declared.command.ImageCopy.{ImageCopy}
use Rattle.vk_model.specs.declared.command.SubresourceRange.{SubresourceRange}
use Rattle.vk_model.specs.declared.resource.ImageInfo.{ImageInfo}
use Rattle.vk_model.specs.Trace.Image.{texel, level_width, level_height, image_size}
use Rattle.vk_model.specs.Memory.Addresses.{address}
use Rattle.vk_model.specs.Memory.PlaceLaws.{TexelsApart, TexelsInside}
use Rattle.vk_model.specs.World.Areas.{region_box, source_box, destination_box}
use Rattle.vk_model.specs.World.Bytes.{Byte, in_buffer, in_image, resource_at}
use Rattle.vk_model.specs.World.ByteWrites.{ByteWrite, color_byte}
use Rattle.vk_model.specs.Run.Pieces.{level_pieces}
use Rattle.vk_transfer.specs.Ran.{AreApart, HaveRun}
use Rattle.vk_image_transfer.specs.Held.{place_of, image_at, buffer_at, byte_held}
use Rattle.vk_image_transfer.specs.Pieces.{RangeFits, piece_in, copy_in_pieces, copy_out_pieces, copy_image_pieces}
use Rattle.vk_image_transfer.specs.Rows.{AreWritten, BoxFits, RegionFits, image_row, level_box}
use Rattle.vk_image_transfer.proofs.Keeping.{RowInside}
use Rattle.vk_image_transfer.proofs.Places.{IsThere, image_byte_at}
use Rattle.vk_image_transfer.proofs.ImageRows.{RowThere, row_inside}
use Rattle.vk_image_transfer.proofs.BufferRows as buffers
use Rattle.vk_image_transfer.proofs.PieceRows.{box_row, level_row, layer_below, row_below}
use Rattle.vk_image_transfer.proofs.Clears.{clear_held}
use Rattle.vk_image_transfer.proofs.Copies.{in_held, out_held, copied_ran}
use Rattle.vk_resources.specs.declared.resources.Placed.{Placed}
use Rattle.vk_resources.specs.Held.{Held, IsConsistent, IsInside, IsShaped, placed, shape_of, flat, form_of, byte_at, lying}
use Rattle.vk_resources.specs.Rest.{IsPlaceOf, LiesNone}
use Rattle.vk_resources.specs.Inner.Steps.{KeepsPlaces, is_of}
use Rattle.vk_resources.specs.Inner.Images.{IsPicture}
use Rattle.vk_resources.specs.Inner.Rows.{IsCopiedIn, IsCopiedOut, IsImageCopied, HoldsImage, row_in_image, row_in_buffer, row_read, row_written}
use Rattle.vk_resources.proofs.Keeping.{ran_rest, rewritten_rest, own_byte, buffer_placed}
use Rattle.vk_resources.proofs.CachedBytes.{caching_typed}
use Rattle.vk_resources.proofs.Commands.{with_bytes, Runs}
use Rattle.vk_resources.proofs.Lying.{changed_apart, changed_keeps, changed_other}
use Rattle.vk_resources.proofs.Matching.{flat_parts}
use Rattle.vk_resources.proofs.Placing.{inside_of}

-- each byte of a row's texels is one of a resource
abbrev BytesAt : Held → (d object w t : ℕ) → (ℕ → ℕ) → Type 0
BytesAt s d object w t place = (x q : ℕ) → x < w → q < t → (c : Byte) × IsTrue (is_of d c) × IsPlaceOf s object (place x + q) c

module _ (s : Held) (consistent : IsConsistent s) where
  -- ---- a row that lies in a resource

  module _ (d : ℕ) (p : Placed) (here : placed s d ≡ Some p) (new : List ℕ) (w t : ℕ) (place : ℕ → ℕ) (value : ℕ → ℕ → ℕ)
      (written : AreWritten (region_of s.memory p.object) new w t place value) (inside : RowInside w t place p.offset p.size) (bytes : BytesAt s d p.object w t place) where
    outside : (k : ℕ) → (k < p.offset) ⊎ (p.offset + p.size ≤ k) → slice_index new k ≡ slice_index (region_of s.memory p.object) k
    outside k (inl lt) = written.kept k (λ x q lx lq is. omega (arith, lt, is, inside x q lx lq))
    outside k (inr le) = written.kept k (λ x q lx lq is. omega (arith, le, is, inside x q lx lq))

    there : IsInside s.memory p
    there = inside_of s.memory s.backed s.resources consistent.0 d p here

    written_consistent : IsConsistent (with_bytes s p.object new)
    written_consistent = (
      changed_apart s consistent.0 consistent.2 d p here new written.size outside,
      caching_typed s.memory (with_region s.memory p.object new) s.resources s.cache (λ i q at. type_of-same s.memory p.object q.object new there.live) consistent.1,
      consistent.2,
    )

    -- byte writes of which its resource alone says that they have been made
    pub written_runs : (ms : List ByteWrite) → HaveRun ms (byte_at s) (byte_at (with_bytes s p.object new)) → Runs s consistent p.object new ms
    written_runs ms ran = (written_consistent, (keeps, ran, refl, ran_rest s (with_bytes s p.object new) (is_of d) ms keeps (rewritten_rest s d p there.live new written.size s.cache kept) ran))
      where
        keeps : KeepsPlaces s (with_bytes s p.object new)
        keeps = changed_keeps s consistent.0 consistent.2 d p here new written.size outside

        kept : (k : ℕ) → LiesNone s (is_of d) p.object k → slice_index new k ≡ slice_index (region_of s.memory p.object) k
        kept k none = written.kept k (λ x q lx lq is. let b = bytes x q lx lq in none b.0 b.1 (subst (λ (j : ℕ). IsPlaceOf s p.object j b.0) is b.2))

    pub written_beside : (c : Byte) → eqb d (resource_at c) ≡ false → byte_held (lying (with_bytes s p.object new) (resource_at c)) c ≡ byte_held (lying s (resource_at c)) c
    written_beside c apart = changed_other s consistent.0 consistent.2 d p here new written.size outside c (eqb-false d (resource_at c) apart)

    pub now_is : region_of (with_bytes s p.object new).memory p.object ≡ new
    now_is = region_of-same s.memory p.object new there.live

  -- ---- images and buffers that are held

  module _ (i : ℕ) (m : ImageInfo) (p : Placed) (is : IsPicture s i m p) where
    pub sound : IsShaped m p
    sound = consistent.2.each i m p is.shaped is.here

    pub picture_inside : IsInside s.memory p
    picture_inside = inside_of s.memory s.backed s.resources consistent.0 i p is.here

    pub picture_room : HoldsImage m p.offset (region_of s.memory p.object)
    picture_room = let room = picture_inside.room in let size = sound.size in omega (arith, room, size)

    picture_held : lying s i ≡ Some (image_at (region_of s.memory p.object) p.offset m)
    picture_held = rw (is.here, is.shaped) refl

    picture_after : (new : List ℕ) → region_of (with_bytes s p.object new).memory p.object ≡ new → lying (with_bytes s p.object new) i ≡ Some (image_at new p.offset m)
    picture_after new now = rw (is.here, is.shaped) (ap (λ (xs : List ℕ). Some (image_at xs p.offset m)) now)

    -- a row of it lies in it
    row_within : TexelsInside → (level layer first y w : ℕ) → RowThere m level layer first y w → RowInside w (texel m.format) (image_row m p.offset level layer first y) p.offset p.size
    row_within law level layer first y w row x q lx lq = let at = row_inside m sound.shaped p.offset level layer first y w row law x q lx lq in let size = sound.size in (at.0, omega (arith, at.1, size))

    -- and its bytes are the image's
    row_bytes : (level layer first y w : ℕ) → RowThere m level layer first y w → BytesAt s i p.object w (texel m.format) (image_row m p.offset level layer first y)
    row_bytes level layer first y w row x q lx lq =
        let c : Byte = in_image i level layer (first + x) y q in
        let there : IsThere m level layer (first + x) y q = record { level_there = row.level_there; layer_there = row.layer_there; x_there = let columns = row.columns in omega (arith, columns, lx); y_there = row.y_there; part_there = lq } in (
          c,
          eq-eqb i i refl,
          record {
            place = p;
            at = address m m.tiling level layer (first + x) y + q;
            here = is.here;
            is = ap (λ (o : Option ImageInfo). place_of (form_of o p.size) c) is.shaped ∙ image_byte_at m i level layer (first + x) y q there;
            object = refl;
            byte = omega arith;
          },
        )

  module _ (b : ℕ) (q : Placed) (at : flat s b ≡ Some q) where
    no_shape : shape_of s b ≡ None
    no_shape = (flat_parts (shape_of s b) (placed s b) q at).0

    pub buffer_here : placed s b ≡ Some q
    buffer_here = (flat_parts (shape_of s b) (placed s b) q at).1

    pub buffer_inside : IsInside s.memory q
    buffer_inside = inside_of s.memory s.backed s.resources consistent.0 b q buffer_here

    buffer_held : lying s b ≡ Some (buffer_at (region_of s.memory q.object) q.offset q.size)
    buffer_held = rw (buffer_here, no_shape) refl

    buffer_after : (new : List ℕ) → region_of (with_bytes s q.object new).memory q.object ≡ new → lying (with_bytes s q.object new) b ≡ Some (buffer_at new q.offset q.size)
    buffer_after new now = rw (buffer_here, no_shape) (ap (λ (xs : List ℕ). Some (buffer_at xs q.offset q.size)) now)

    -- a region that lies in the buffer lies in what its memory object has from there on
    pub region_reaches : (g : BufferImageCopy) (t : ℕ) → RegionFits g t q.size → RegionFits g t (length (region_of s.memory q.object) - q.offset)
    region_reaches g t fits z y x k z_there y_there x_there k_there = let room = buffer_inside.room in omega (arith, room, fits z y x k z_there y_there x_there k_there)

    -- the bytes of a row that lies in it are its own
    rows_own : (w t : ℕ) (place : ℕ → ℕ) → RowInside w t place q.offset q.size → BytesAt s b q.object w t place
    rows_own w t place inside x k lx lk = (in_buffer b (place x + k - q.offset), own_byte b (place x + k - q.offset), buffer_placed s b q buffer_here no_shape (place x + k) (inside x k lx lk))

    -- it shares no byte with an image
    pub buffer_apart : (i : ℕ) (m : ImageInfo) (p : Placed) → IsPicture s i m p → q.object ≡ p.object → AreApart q.offset q.size p.offset (image_size m m.tiling)
    buffer_apart i m p is same = subst (λ (n : ℕ). AreApart q.offset q.size p.offset n) (sound i m p is).size (consistent.0.apart b i q p other buffer_here is.here same)
      where
        other : b ≡ i → ⊥
        other e = let both : None ≡ Some m = sym no_shape ∙ ap (shape_of s) e ∙ is.shaped in cc

  -- two images share none
  pub pictures_apart : (a b : ℕ) (m n : ImageInfo) (p q : Placed) → IsPicture s a m p → IsPicture s b n q → (a ≡ b → ⊥) → p.object ≡ q.object → AreApart p.offset (image_size m m.tiling) q.offset (image_size n n.tiling)
  pictures_apart a b m n p q is are other same =
      subst (λ (k : ℕ). AreApart p.offset k q.offset (image_size n n.tiling)) (sound a m p is).size (subst (λ (k : ℕ). AreApart p.offset p.size q.offset k) (sound b n q are).size (consistent.0.apart a b p q other is.here are.here same))

  -- ---- rows that have been run

  module _ (apart : TexelsApart) (within : TexelsInside) where
    -- of a clear
    pub clear_runs : (i : ℕ) (m : ImageInfo) (p : Placed) (is : IsPicture s i m p) (color : List ℕ) (r : SubresourceRange) (level k : ℕ) → BoxFits m (level_box m r level) → k < r.layers * level_height m level → (new : List ℕ)
        → AreWritten (region_of s.memory p.object) new (level_width m level) (texel m.format) (image_row m p.offset level (r.first_layer + k / level_height m level) 0 (k % level_height m level)) (λ x q. color_byte m color q)
        → Runs s consistent p.object new (piece_in (level_pieces i color m r level) k)
    clear_runs i m p is color r level k fits lt new written =
        let row : RowThere m level (r.first_layer + k / level_height m level) 0 (k % level_height m level) (level_width m level) = level_row m r level k fits lt in
        let place : ℕ → ℕ = image_row m p.offset level (r.first_layer + k / level_height m level) 0 (k % level_height m level) in
        let inside : RowInside (level_width m level) (texel m.format) place p.offset p.size = row_within i m p is within level (r.first_layer + k / level_height m level) 0 (k % level_height m level) (level_width m level) row in
        let bytes = row_bytes i m p is level (r.first_layer + k / level_height m level) 0 (k % level_height m level) (level_width m level) row in
        written_runs i p is.here new (level_width m level) (texel m.format) place (λ x q. color_byte m color q) written inside bytes (piece_in (level_pieces i color m r level) k)
        (clear_held i color m r level k lt apart (sound i m p is).shaped p.offset (region_of s.memory p.object) new row (lying s) (lying (with_bytes s p.object new)) (picture_held i m p is)
        (picture_after i m p is new (now_is i p is.here new (level_width m level) (texel m.format) place (λ x q. color_byte m color q) written inside bytes))
        (written_beside i p is.here new (level_width m level) (texel m.format) place (λ x q. color_byte m color q) written inside bytes) written)

    module _ (b i : ℕ) (q : Placed) (at : flat s b ≡ Some q) (m : ImageInfo) (p : Placed) (is : IsPicture s i m p) (g : BufferImageCopy) (k : ℕ) (box : BoxFits m (region_box g)) (lt : k < g.layers * g.height) (wide : 0 < g.width) (fits : RegionFits g (texel m.format) q.size) where
      z_there : k / g.height < g.layers
      z_there = layer_below k g.layers g.height lt

      y_there : k % g.height < g.height
      y_there = row_below k g.layers g.height lt

      row : RowThere m g.level (g.first_layer + k / g.height) g.x (g.y + k % g.height) g.width
      row = box_row m (region_box g) k box lt

      -- of a copy from a buffer to an image
      pub in_runs : (new : List ℕ) → IsCopiedIn g k m q.offset p.offset (region_of s.memory q.object) (region_of s.memory p.object) new → Runs s consistent p.object new (piece_in (copy_in_pieces b i m g) k)
      in_runs new written =
          let place : ℕ → ℕ = row_in_image g k m p.offset in
          let value : ℕ → ℕ → ℕ = λ x j. slice_index (region_of s.memory q.object) (row_in_buffer g k m q.offset x + j) in
          let inside : RowInside g.width (texel m.format) place p.offset p.size = row_within i m p is within g.level (g.first_layer + k / g.height) g.x (g.y + k % g.height) g.width row in
          let bytes = row_bytes i m p is g.level (g.first_layer + k / g.height) g.x (g.y + k % g.height) g.width row in
          written_runs i p is.here new g.width (texel m.format) place value written inside bytes (piece_in (copy_in_pieces b i m g) k)
          (in_held b i m g k wide lt apart (sound i m p is).shaped z_there y_there row (region_of s.memory q.object) (region_of s.memory p.object) new q.offset p.offset q.size fits (lying s) (lying (with_bytes s p.object new))
          (buffer_held b q at) (picture_held i m p is) (picture_after i m p is new (now_is i p is.here new g.width (texel m.format) place value written inside bytes))
          (written_beside i p is.here new g.width (texel m.format) place value written inside bytes) written)

      -- of a copy from an image to a buffer
      pub out_runs : (new : List ℕ) → IsCopiedOut g k m p.offset q.offset (region_of s.memory p.object) (region_of s.memory q.object) new → Runs s consistent q.object new (piece_in (copy_out_pieces i b m g) k)
      out_runs new written =
          let place : ℕ → ℕ = row_in_buffer g k m q.offset in
          let value : ℕ → ℕ → ℕ = λ x j. slice_index (region_of s.memory p.object) (row_in_image g k m p.offset x + j) in
          let here : placed s b ≡ Some q = buffer_here b q at in
          let inside : RowInside g.width (texel m.format) place q.offset q.size = buffers.row_inside g (texel m.format) q.offset (k / g.height) (k % g.height) z_there y_there q.size fits in
          let bytes = rows_own b q at g.width (texel m.format) place inside in
          written_runs b q here new g.width (texel m.format) place value written inside bytes (piece_in (copy_out_pieces i b m g) k)
          (out_held b i m g k wide lt (sound i m p is).shaped z_there y_there row (region_of s.memory p.object) (region_of s.memory q.object) new p.offset q.offset q.size fits (lying s) (lying (with_bytes s q.object new))
          (picture_held i m p is) (buffer_held b q at) (buffer_after b q at new (now_is b q here new g.width (texel m.format) place value written inside bytes))
          (written_beside b q here new g.width (texel m.format) place value written inside bytes) written)

    -- of a copy between images, which may be one
    pub image_runs : (a b : ℕ) (m n : ImageInfo) (p q : Placed) (is : IsPicture s a m p) (are : IsPicture s b n q) (g : ImageCopy) (k : ℕ) → BoxFits m (source_box g) → BoxFits n (destination_box g) → texel m.format ≡ texel n.format → k < g.layers * g.height → 0 < g.width → (new : List ℕ)
        → IsImageCopied g k m n p.offset q.offset (region_of s.memory p.object) (region_of s.memory q.object) new → Runs s consistent q.object new (piece_in (copy_image_pieces a b n g) k)
    image_runs a b m n p q is are g k source destination texels lt wide new written =
        let place : ℕ → ℕ = row_written g k n q.offset in
        let value : ℕ → ℕ → ℕ = λ x j. slice_index (region_of s.memory p.object) (row_read g k m p.offset x + j) in
        let row : RowThere n g.destination_level (g.destination_first_layer + k / g.height) g.destination_x (g.destination_y + k % g.height) g.width = box_row n (destination_box g) k destination lt in
        let inside : RowInside g.width (texel n.format) place q.offset q.size = row_within b n q are within g.destination_level (g.destination_first_layer + k / g.height) g.destination_x (g.destination_y + k % g.height) g.width row in
        let bytes = row_bytes b n q are g.destination_level (g.destination_first_layer + k / g.height) g.destination_x (g.destination_y + k % g.height) g.width row in
        written_runs b q are.here new g.width (texel n.format) place value written inside bytes (piece_in (copy_image_pieces a b n g) k)
        (copied_ran a b m n g k wide lt apart (sound a m p is).shaped (sound b n q are).shaped texels (box_row m (source_box g) k source lt) row (region_of s.memory p.object) (region_of s.memory q.object) new p.offset q.offset (lying s) (lying (with_bytes s q.object new))
        (picture_held a m p is) (picture_held b n q are) (picture_after b n q are new (now_is b q are.here new g.width (texel n.format) place value written inside bytes))
        (written_beside b q are.here new g.width (texel n.format) place value written inside bytes) written)

-- ---- by other names

-- an image has one shape
pub one_shape : (s : Held) (i : ℕ) (m n : ImageInfo) → shape_of s i ≡ Some m → shape_of s i ≡ Some n → m ≡ n
one_shape s i m n is are = let both : Some m ≡ Some n = sym is ∙ are in cc

-- a level of a range lies in its image
pub level_fits : (m : ImageInfo) (r : SubresourceRange) (level : ℕ) → RangeFits m r → level < r.first_level + r.levels → BoxFits m (level_box m r level)
level_fits m r level fits lt = let levels = fits.0 in let layers = fits.1 in record {
  level = omega (arith, levels, lt);
  layers = layers;
  columns = omega arith;
  rows = omega arith;
}
