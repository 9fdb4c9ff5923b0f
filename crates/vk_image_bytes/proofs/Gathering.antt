-- The byte writes of regions, one after another.
use Rattle.std.proofs.Common.{◌≡◌, ℕ, ◌+◌, ◌*◌, ◌^◌, ◌<◌, false, List, [], ◌∷◌, ◌++◌, Some, length, take, get_or, refl, ap, sym, subst, ◌∙◌, arith, append-nil}
use Rattle.std.specs.Prelude.{All}
use Rattle.std.specs.List.{flat_map}
use Rattle.std.proofs.Math.Seq.{take-length}
use Rattle.std.proofs.lemmas.Grind.{flat_map-append}
use Rattle.std.proofs.lemmas.List.{take_more}
use Rattle.std.proofs.lemmas.List.Elements.{All-contains}
use Rattle.std.proofs.lemmas.Nat.{mul-le}
use Rattle.vk_model.specs.declared.command.BufferCopy.{BufferCopy}
use Rattle.vk_model.specs.declared.command.BufferImageCopy.{BufferImageCopy}
use Rattle.vk_model.specs.declared.command.ImageCopy.{ImageCopy}
use Rattle.vk_model.specs.declared.resource.ImageInfo.{ImageInfo}
use Rattle.vk_model.specs.Trace.Image.{texel}
use Rattle.vk_model.specs.Rules.Ranges.{bad_box}
use Rattle.vk_model.specs.Rules.Sizes.{bad_image}
use Rattle.vk_model.specs.World.Areas.{region_box, source_box, destination_box}
use Rattle.vk_model.specs.World.Bytes.{Byte, in_buffer, in_image}
use Rattle.vk_model.specs.World.ByteWrites.{ByteWrite, copy_in_writes, copy_out_writes, copy_image_writes, buffer_texel}
use Rattle.vk_image_tiles.proofs.LevelBounds.{counts}
use Rattle.vk_image_bytes.specs.declared.joining.Copies.{Copies}
use Rattle.vk_image_bytes.specs.declared.rows.Rows.{Rows}
use Rattle.vk_image_bytes.specs.Copies.{numbered_writes, AreCopies, IsInside}
use Rattle.vk_image_bytes.specs.Numbers.{layer_byte_count, byte_count, byte_of}
use Rattle.vk_image_bytes.specs.Inner.Rows.{LiesWithin, gathered, AllLieWithin, AreAdded, AreGathered, RowsFit, row_copies, rows_in, rows_between, turned}
use Rattle.vk_image_bytes.proofs.Boxes.{BoxParts, box_parts, ArePlaced, image_placed, buffer_placed, placed_writes, placed_fit, placed_within}
use Rattle.vk_image_bytes.proofs.Levels.{few_below}

-- an image has fewer bytes than there are numbers of 64 bits
few_bytes_in : (m : ImageInfo) → bad_image m ≡ false → byte_count m < 2 ^ 64
few_bytes_in m good =
    let c = counts m good in
    let layer = few_below m m.levels good in
    omega (arith, mul-le m.layers (layer_byte_count m) 256 (13 * 268435456) c.layers.few (omega (arith, layer, c.levels.few)))

-- ---- one region

-- rows that were added make the byte writes of the region
added_rows : (a b : Copies) (r : Rows) (from to : ℕ → Byte) (read written : ℕ) (ws : List ByteWrite) → AreAdded a b (row_copies r) → flat_map (numbered_writes from to) (row_copies r) ≡ ws → All (LiesWithin read written) (row_copies r)
    → AreGathered a b from to read written ws
added_rows a b r from to read written ws added writes lie = record { writes = added.writes from to ∙ ap (λ (l : List ByteWrite). gathered a from to ++ l) writes; within = added.within read written lie }

module _ (m : ImageInfo) (good : bad_image m ≡ false) (a b : Copies) (r : Rows) (buffer i size : ℕ) (small : size < 2 ^ 64) (g : BufferImageCopy) (inside : IsInside m size g) where
  parts : BoxParts m (region_box g)
  parts = box_parts m (region_box g) inside.box

  in_the_buffer : ArePlaced (rows_in m g).source (in_buffer buffer) g.layers g.height g.width (texel m.format) size (λ z y x k. in_buffer buffer (buffer_texel g (texel m.format) z y x k))
  in_the_buffer = buffer_placed m buffer size g parts small inside.rows

  in_the_image : ArePlaced (rows_in m g).destination (byte_of m i) g.layers g.height g.width (texel m.format) (byte_count m) (λ z y x k. in_image i g.level (g.first_layer + z) (g.x + x) (g.y + y) k)
  in_the_image = image_placed m good i (region_box g) parts

  pub in_gathered : r ≡ rows_in m g → (RowsFit r → AreAdded a b (row_copies r)) → AreGathered a b (in_buffer buffer) (byte_of m i) size (byte_count m) (copy_in_writes buffer i (Some m) g)
  in_gathered is added =
      let rows : Rows = rows_in m g in
      let fit : RowsFit rows = placed_fit rows (in_buffer buffer) (byte_of m i) g.layers g.height g.width (texel m.format) size (byte_count m) _ _ refl refl refl in_the_buffer in_the_image parts.some_rows small (few_bytes_in m good) in
      added_rows a b rows (in_buffer buffer) (byte_of m i) size (byte_count m) (copy_in_writes buffer i (Some m) g) (subst (λ (x : Rows). RowsFit x → AreAdded a b (row_copies x)) is added fit)
      (placed_writes rows (in_buffer buffer) (byte_of m i) g.layers g.height g.width (texel m.format) size (byte_count m) _ _ refl refl refl in_the_buffer in_the_image)
      (placed_within rows (in_buffer buffer) (byte_of m i) g.layers g.height g.width (texel m.format) size (byte_count m) _ _ refl refl refl in_the_buffer in_the_image)

  pub out_gathered : r ≡ turned (rows_in m g) → (RowsFit r → AreAdded a b (row_copies r)) → AreGathered a b (byte_of m i) (in_buffer buffer) (byte_count m) size (copy_out_writes i buffer (Some m) g)
  out_gathered is added =
      let rows : Rows = turned (rows_in m g) in
      let fit : RowsFit rows = placed_fit rows (byte_of m i) (in_buffer buffer) g.layers g.height g.width (texel m.format) (byte_count m) size _ _ refl refl refl in_the_image in_the_buffer parts.some_rows (few_bytes_in m good) small in
      added_rows a b rows (byte_of m i) (in_buffer buffer) (byte_count m) size (copy_out_writes i buffer (Some m) g) (subst (λ (x : Rows). RowsFit x → AreAdded a b (row_copies x)) is added fit)
      (placed_writes rows (byte_of m i) (in_buffer buffer) g.layers g.height g.width (texel m.format) (byte_count m) size _ _ refl refl refl in_the_image in_the_buffer)
      (placed_within rows (byte_of m i) (in_buffer buffer) g.layers g.height g.width (texel m.format) (byte_count m) size _ _ refl refl refl in_the_image in_the_buffer)

pub between_gathered : (s d : ImageInfo) → bad_image s ≡ false → bad_image d ≡ false → (a b : Copies) (r : Rows) (i j : ℕ) (g : ImageCopy) → texel s.format ≡ texel d.format → bad_box s (source_box g) ≡ false → bad_box d (destination_box g) ≡ false
    → r ≡ rows_between s d g → (RowsFit r → AreAdded a b (row_copies r)) → AreGathered a b (byte_of s i) (byte_of d j) (byte_count s) (byte_count d) (copy_image_writes i j (Some d) g)
between_gathered s d good fine a b r i j g same source_there destination_there is added =
    let rows : Rows = rows_between s d g in
    let from_parts = box_parts s (source_box g) source_there in
    let to_parts = box_parts d (destination_box g) destination_there in
    let from : ArePlaced rows.source (byte_of s i) g.layers g.height g.width (texel d.format) (byte_count s) (λ z y x k. in_image i g.source_level (g.source_first_layer + z) (g.source_x + x) (g.source_y + y) k) =
    subst (λ (t : ℕ). ArePlaced rows.source (byte_of s i) g.layers g.height g.width t (byte_count s) (λ z y x k. in_image i g.source_level (g.source_first_layer + z) (g.source_x + x) (g.source_y + y) k)) same (image_placed s good i (source_box g) from_parts) in
    let to = image_placed d fine j (destination_box g) to_parts in
    let fit : RowsFit rows = placed_fit rows (byte_of s i) (byte_of d j) g.layers g.height g.width (texel d.format) (byte_count s) (byte_count d) _ _ refl refl refl from to to_parts.some_rows (few_bytes_in s good) (few_bytes_in d fine) in
    added_rows a b rows (byte_of s i) (byte_of d j) (byte_count s) (byte_count d) (copy_image_writes i j (Some d) g) (subst (λ (x : Rows). RowsFit x → AreAdded a b (row_copies x)) is added fit)
    (placed_writes rows (byte_of s i) (byte_of d j) g.layers g.height g.width (texel d.format) (byte_count s) (byte_count d) _ _ refl refl refl from to)
    (placed_within rows (byte_of s i) (byte_of d j) g.layers g.height g.width (texel d.format) (byte_count s) (byte_count d) _ _ refl refl refl from to)

-- ---- region after region

-- what was gathered so far
pub record HaveGathered (c : Copies) (from to : ℕ → Byte) (read written : ℕ) (ws : List ByteWrite) : Type 0 where
  pub writes : gathered c from to ≡ ws
  pub within : AllLieWithin read written c

module _ (from to : ℕ → Byte) (read written : ℕ) {G : Type 0} (f : G → List ByteWrite) (gs : List G) where
  pub next_gathered : (a b : Copies) (n : ℕ) (g : G) → n < length gs → HaveGathered a from to read written (flat_map f (take n gs)) → AreGathered a b from to read written (f (get_or gs n g)) → HaveGathered b from to read written (flat_map f (take (n + 1) gs))
  next_gathered a b n g lt have more = record {
    writes = more.writes ∙ ap (λ (l : List ByteWrite). l ++ f (get_or gs n g)) have.writes ∙ sym (ap (flat_map f) (take_more gs n g lt) ∙ flat_map-append f (take n gs) (get_or gs n g ∷ []) ∙ ap (λ (l : List ByteWrite). flat_map f (take n gs) ++ l) (append-nil (f (get_or gs n g))));
    within = more.within have.within;
  }

  pub all_gathered : (c : Copies) (n : ℕ) (list : List BufferCopy) → n ≡ length gs → HaveGathered c from to read written (flat_map f (take n gs)) → flat_map (numbered_writes from to) list ≡ gathered c from to
      → (AllLieWithin read written c → All (LiesWithin read written) list) → AreCopies from to read written (flat_map f gs) list
  all_gathered c n list all have writes within = record {
    writes = writes ∙ have.writes ∙ ap (λ (l : List G). flat_map f l) (ap (λ (k : ℕ). take k gs) all ∙ take-length gs);
    reads_within = λ g there. (All-contains (LiesWithin read written) list g (within have.within) there).reads;
    writes_within = λ g there. (All-contains (LiesWithin read written) list g (within have.within) there).writes;
  }
