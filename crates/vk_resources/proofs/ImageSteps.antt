-- Pieces of commands on images, as they are found among those of all regions and ranges, on the bytes of all resources.
use Rattle.std.proofs.Common.{◌≡◌, ℕ, ◌+◌, ◌-◌, ◌*◌, ◌/◌, ◌%◌, ◌<◌, ◌≤◌, List, length, ap, sym, ◌∙◌, subst, Some, refl}
use Rattle.std.proofs.lemmas.List.Elements.{All-contains}
use Rattle.std.specs.Prelude.{Contains}
use Rattle.vk_memory.specs.MemoryState.{MemoryState, IsCopied, region_of}
use Rattle.vk_model.specs.declared.command.BufferImageCopy.{BufferImageCopy}
use Rattle.vk_model.specs.declared.command.ImageCopy.{ImageCopy}
use Rattle.vk_model.specs.declared.command.SubresourceRange.{SubresourceRange}
use Rattle.vk_model.specs.declared.resource.ImageInfo.{ImageInfo}
use Rattle.vk_model.specs.Trace.Image.{texel, level_width, level_height, image_size}
use Rattle.vk_model.specs.Memory.PlaceLaws.{TexelsApart, TexelsInside}
use Rattle.vk_model.specs.World.Areas.{region_box, source_box, destination_box}
use Rattle.vk_model.specs.World.ByteWrites.{ByteWrite, color_byte}
use Rattle.vk_model.specs.Run.Pieces.{level_pieces}
use Rattle.vk_image_transfer.specs.declared.clearing.LevelClear.{LevelClear}
use Rattle.vk_image_transfer.specs.declared.regions.RegionRow.{RegionRow}
use Rattle.vk_image_transfer.specs.Pieces.{RangeFits, piece_in, all_cleared, all_copied_in, all_copied_out, copy_in_pieces, copy_out_pieces, copy_image_pieces}
use Rattle.vk_image_transfer.specs.Rows.{AreWritten, BoxFits, RegionFits, image_row}
use Rattle.vk_resources.specs.declared.resources.Placed.{Placed}
use Rattle.vk_resources.specs.Held.{Held, IsConsistent, placed, shape_of, flat}
use Rattle.vk_resources.specs.Inner.Images.{IsPicture, HasPicture, ClearReady, RegionsReady, ImageRowReady}
use Rattle.vk_resources.specs.Inner.Rows.{IsRow, SharesMemory, LiesInTwo, IsCopiedIn, IsCopiedOut, IsImageRow, SharesMemoryOfImages, ImagesInTwo, IsImageCopied}
use Rattle.vk_resources.specs.Inner.Steps.{HasRun, IsPlaced}
use Rattle.vk_resources.proofs.Commands.{Runs, with_bytes}
use Rattle.vk_resources.proofs.WrittenRows.{picture_room, region_reaches, buffer_apart, pictures_apart, clear_runs, in_runs, out_runs, image_runs, one_shape, level_fits}

-- what was written is what the pieces of any shape say that the image has
abbrev pub RunsOf : (s : Held) (i : ℕ) → ℕ → List ℕ → (ImageInfo → List ByteWrite) → Type 0
RunsOf s i object new writes = IsConsistent (with_bytes s object new) × ((n : ImageInfo) → shape_of s i ≡ Some n → HasRun s (with_bytes s object new) (writes n))

module _ (s : Held) (consistent : IsConsistent s) where
  runs_of : (i : ℕ) (m : ImageInfo) → shape_of s i ≡ Some m → (object : ℕ) (new : List ℕ) (ms : List ByteWrite) (writes : ImageInfo → List ByteWrite) → writes m ≡ ms → Runs s consistent object new ms → RunsOf s i object new writes
  runs_of i m shaped object new ms writes same ran = (
    ran.0,
    λ n is. subst (λ (xs : List ByteWrite). HasRun s (with_bytes s object new) xs) (sym (ap writes (one_shape s i n m is shaped) ∙ same)) ran.1,
  )

  -- an image that is there is there at one place
  picture_of : (i : ℕ) (has : HasPicture s i) (m : ImageInfo) (p : Placed) → shape_of s i ≡ Some m → placed s i ≡ Some p → (has.image ≡ m) × IsPicture s i m p
  picture_of i has m p shaped here = (one_shape s i has.image m has.is.shaped shaped, record { shaped = shaped; here = here })

  -- ---- a clear

  pub clear_step : TexelsApart → TexelsInside → (i : ℕ) (m : ImageInfo) (p : Placed) (shaped : shape_of s i ≡ Some m) (here : placed s i ≡ Some p) (color : List ℕ) (rs : List SubresourceRange) (number : ℕ) → ClearReady s i rs number
      → (c : LevelClear) (k : ℕ) (new : List ℕ) → piece_in (all_cleared i color m rs) number ≡ piece_in (level_pieces i c.color m c.range c.level) k → Contains rs c.range → c.level < c.range.first_level + c.range.levels → k < c.range.layers * level_height m c.level
      → AreWritten (region_of s.memory p.object) new (level_width m c.level) (texel m.format) (image_row m p.offset c.level (c.range.first_layer + k / level_height m c.level) 0 (k % level_height m c.level)) (λ x q. color_byte m c.color q)
      → RunsOf s i p.object new (λ n. piece_in (all_cleared i color n rs) number)
  clear_step apart within i m p shaped here color rs number ready c k new found among high lt written =
      let picture = picture_of i ready.to m p shaped here in
      let fits : RangeFits m c.range = subst (λ (n : ImageInfo). RangeFits n c.range) picture.0 (All-contains (RangeFits ready.to.image) rs c.range ready.ranges among) in
      runs_of i m shaped p.object new (piece_in (level_pieces i c.color m c.range c.level) k) (λ n. piece_in (all_cleared i color n rs) number) found
      (clear_runs s consistent apart within i m p picture.1 c.color c.range c.level k (level_fits m c.range c.level fits high) lt new written)

  pub room_step : (i : ℕ) (m : ImageInfo) (p : Placed) → shape_of s i ≡ Some m → placed s i ≡ Some p → p.offset + image_size m m.tiling ≤ length (region_of s.memory p.object)
  room_step i m p shaped here = picture_room s consistent i m p (record { shaped = shaped; here = here })

  -- ---- a copy between a buffer and an image

  -- a region that is found lies in both
  pub region_found : (size i : ℕ) (m : ImageInfo) → shape_of s i ≡ Some m → (gs : List BufferImageCopy) (number : ℕ) → RegionsReady s size i gs number → (g : BufferImageCopy) → Contains gs g → BoxFits m (region_box g) × RegionFits g (texel m.format) size
  region_found size i m shaped gs number ready g among =
      subst (λ (n : ImageInfo). BoxFits n (region_box g) × RegionFits g (texel n.format) size) (one_shape s i ready.with.image m ready.with.is.shaped shaped)
      (All-contains (λ g. BoxFits ready.with.image (region_box g) × RegionFits g (texel ready.with.image.format) size) gs g ready.fits among)

  module _ (q : Placed) (buffer : IsPlaced s q) (i : ℕ) (m : ImageInfo) (p : Placed) (shaped : shape_of s i ≡ Some m) (here : placed s i ≡ Some p) (gs : List BufferImageCopy) (number : ℕ) (ready : RegionsReady s q.size i gs number)
      (found : RegionRow) (among : Contains gs found.region) (row : found.number < found.region.layers * found.region.height) (columns : 0 < found.region.width) where
    is : IsPicture s i m p
    is = (picture_of i ready.with m p shaped here).1

    fits : BoxFits m (region_box found.region) × RegionFits found.region (texel m.format) q.size
    fits = region_found q.size i m shaped gs number ready found.region among

    one_row : IsRow found.region found.number m
    one_row = record { region = fits.0; piece = row; columns = columns }

    reaches : RegionFits found.region (texel m.format) (length (region_of s.memory q.object) - q.offset)
    reaches = region_reaches s consistent buffer.0 q buffer.1 found.region (texel m.format) fits.1

    shares : (object : ℕ) → q.object ≡ object → p.object ≡ object → SharesMemory found.region found.number m q.offset p.offset (region_of s.memory object)
    shares object first second = record {
      row = one_row;
      buffer = subst (λ (o : ℕ). RegionFits found.region (texel m.format) (length (region_of s.memory o) - q.offset)) first reaches;
      image = subst (λ (o : ℕ). p.offset + image_size m m.tiling ≤ length (region_of s.memory o)) second (picture_room s consistent i m p is);
      apart = record { bytes = q.size; fits = fits.1; apart = buffer_apart s consistent buffer.0 q buffer.1 i m p is (first ∙ sym second) };
    }

    pub in_within : q.object ≡ p.object → SharesMemory found.region found.number m q.offset p.offset (region_of s.memory p.object)
    in_within same = shares p.object same refl

    pub out_within : p.object ≡ q.object → SharesMemory found.region found.number m q.offset p.offset (region_of s.memory q.object)
    out_within same = shares q.object refl same

    pub both_between : LiesInTwo found.region found.number m q.offset p.offset (region_of s.memory q.object) (region_of s.memory p.object)
    both_between = record { row = one_row; buffer = reaches; image = picture_room s consistent i m p is }

    module _ (after : MemoryState) (apart : TexelsApart) (within : TexelsInside) where
      abbrev later : Held
      later = record s { memory = after }

      pub in_step : IsCopied (IsCopiedIn found.region found.number m q.offset p.offset) s.memory after q.object p.object → ((b i : ℕ) (m : ImageInfo) → piece_in (all_copied_in b i m gs) number ≡ piece_in (copy_in_pieces b i m found.region) found.number)
          → IsConsistent later × ((b : ℕ) (n : ImageInfo) → flat s b ≡ Some q → shape_of s i ≡ Some n → HasRun s later (piece_in (all_copied_in b i n gs) number))
      in_step copied same = (
        subst (λ (mem : MemoryState). IsConsistent (record s { memory = mem })) (sym copied.memory) (in_runs s consistent apart within buffer.0 i q buffer.1 m p is found.region found.number fits.0 row columns fits.1 copied.bytes copied.holds).0,
        λ b n at shaped'.
            let is_it : piece_in (all_copied_in b i n gs) number ≡ piece_in (copy_in_pieces b i m found.region) found.number = ap (λ (x : ImageInfo). piece_in (all_copied_in b i x gs) number) (one_shape s i n m shaped' shaped) ∙ same b i m in
            subst (λ (mem : MemoryState). HasRun s (record s { memory = mem }) (piece_in (all_copied_in b i n gs) number)) (sym copied.memory)
            (subst (λ (ms : List ByteWrite). HasRun s (with_bytes s p.object copied.bytes) ms) (sym is_it)
            (in_runs s consistent apart within b i q at m p is found.region found.number fits.0 row columns fits.1 copied.bytes copied.holds).1),
      )

      pub out_step : IsCopied (IsCopiedOut found.region found.number m p.offset q.offset) s.memory after p.object q.object → ((i b : ℕ) (m : ImageInfo) → piece_in (all_copied_out i b m gs) number ≡ piece_in (copy_out_pieces i b m found.region) found.number)
          → IsConsistent later × ((b : ℕ) (n : ImageInfo) → flat s b ≡ Some q → shape_of s i ≡ Some n → HasRun s later (piece_in (all_copied_out i b n gs) number))
      out_step copied same = (
        subst (λ (mem : MemoryState). IsConsistent (record s { memory = mem })) (sym copied.memory) (out_runs s consistent apart within buffer.0 i q buffer.1 m p is found.region found.number fits.0 row columns fits.1 copied.bytes copied.holds).0,
        λ b n at shaped'.
            let is_it : piece_in (all_copied_out i b n gs) number ≡ piece_in (copy_out_pieces i b m found.region) found.number = ap (λ (x : ImageInfo). piece_in (all_copied_out i b x gs) number) (one_shape s i n m shaped' shaped) ∙ same i b m in
            subst (λ (mem : MemoryState). HasRun s (record s { memory = mem }) (piece_in (all_copied_out i b n gs) number)) (sym copied.memory)
            (subst (λ (ms : List ByteWrite). HasRun s (with_bytes s q.object copied.bytes) ms) (sym is_it)
            (out_runs s consistent apart within b i q at m p is found.region found.number fits.0 row columns fits.1 copied.bytes copied.holds).1),
      )

  -- ---- a copy between images

  -- its region lies in the image that is written
  pub destination_found : (a b : ℕ) (g : ImageCopy) (k : ℕ) → ImageRowReady s a b g k → (n : ImageInfo) → shape_of s b ≡ Some n → BoxFits n (destination_box g)
  destination_found a b g k ready n shaped = subst (λ (x : ImageInfo). BoxFits x (destination_box g)) (one_shape s b ready.pictures.to.image n ready.pictures.to.is.shaped shaped) ready.fits.1

  module _ (a b : ℕ) (g : ImageCopy) (k : ℕ) (ready : ImageRowReady s a b g k) (m n : ImageInfo) (p q : Placed) (shaped : shape_of s a ≡ Some m) (shaped_to : shape_of s b ≡ Some n) (here : placed s a ≡ Some p) (here_to : placed s b ≡ Some q) where
    from : (ready.pictures.from.image ≡ m) × IsPicture s a m p
    from = picture_of a ready.pictures.from m p shaped here

    to : (ready.pictures.to.image ≡ n) × IsPicture s b n q
    to = picture_of b ready.pictures.to n q shaped_to here_to

    source_fits : BoxFits m (source_box g)
    source_fits = subst (λ (x : ImageInfo). BoxFits x (source_box g)) from.0 ready.fits.0

    destination_fits : BoxFits n (destination_box g)
    destination_fits = subst (λ (x : ImageInfo). BoxFits x (destination_box g)) to.0 ready.fits.1

    texels : texel m.format ≡ texel n.format
    texels = sym (ap (λ (x : ImageInfo). texel x.format) from.0) ∙ ready.pictures.texels ∙ ap (λ (x : ImageInfo). texel x.format) to.0

    one_image_row : IsImageRow g k m n
    one_image_row = record { source = source_fits; destination = destination_fits; texels = texels; piece = ready.row }

    pub across_within : (a ≡ b → ⊥) → p.object ≡ q.object → SharesMemoryOfImages g k m n p.offset q.offset (region_of s.memory q.object)
    across_within two same = record {
      row = one_image_row;
      source = subst (λ (o : ℕ). p.offset + image_size m m.tiling ≤ length (region_of s.memory o)) same (picture_room s consistent a m p from.1);
      destination = picture_room s consistent b n q to.1;
      apart = pictures_apart s consistent a b m n p q from.1 to.1 two same;
    }

    pub across_between : ImagesInTwo g k m n p.offset q.offset (region_of s.memory p.object) (region_of s.memory q.object)
    across_between = record { row = one_image_row; source = picture_room s consistent a m p from.1; destination = picture_room s consistent b n q to.1 }

    -- its row has been written
    image_ran : TexelsApart → TexelsInside → (new : List ℕ) → IsImageCopied g k m n p.offset q.offset (region_of s.memory p.object) (region_of s.memory q.object) new → Runs s consistent q.object new (piece_in (copy_image_pieces a b n g) k)
    image_ran apart within new written = image_runs s consistent apart within a b m n p q from.1 to.1 g k source_fits destination_fits texels ready.row ready.columns new written

    pub image_step : TexelsApart → TexelsInside → (new : List ℕ) → IsImageCopied g k m n p.offset q.offset (region_of s.memory p.object) (region_of s.memory q.object) new → RunsOf s b q.object new (λ x. piece_in (copy_image_pieces a b x g) k)
    image_step apart within new written = runs_of b n shaped_to q.object new (piece_in (copy_image_pieces a b n g) k) (λ x. piece_in (copy_image_pieces a b x g) k) refl (image_ran apart within new written)

    pub across_step : TexelsApart → TexelsInside → (after : MemoryState) → IsCopied (IsImageCopied g k m n p.offset q.offset) s.memory after p.object q.object
        → IsConsistent (record s { memory = after }) × ((x : ImageInfo) → shape_of s b ≡ Some x → HasRun s (record s { memory = after }) (piece_in (copy_image_pieces a b x g) k))
    across_step apart within after copied =
        let ran = image_step apart within copied.bytes copied.holds in
        subst (λ (mem : MemoryState). IsConsistent (record s { memory = mem }) × ((x : ImageInfo) → shape_of s b ≡ Some x → HasRun s (record s { memory = mem }) (piece_in (copy_image_pieces a b x g) k))) (sym copied.memory) ran
