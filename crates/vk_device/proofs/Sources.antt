-- What a piece copies is there.
use Rattle.std.proofs.Common.{◌≡◌, ◌+◌, ◌<◌, arith, ℕ, List, [], ◌∷◌, refl, ap, sym, ◌∙◌, subst, Option, Some, None}
use Rattle.std.proofs.lemmas.List.Elements.{All-contains}
use Rattle.std.specs.Prelude.{Contains, IsSome, slice_get}
use Rattle.std.specs.List.{enumerate_from, flat_map}
use Rattle.vk_model.specs.declared.command.Cmd.{Cmd}
use Rattle.vk_model.specs.declared.command.Cmd.TheVariants as cmd
use Rattle.vk_model.specs.declared.resource.ImageInfo.{ImageInfo}
use Rattle.vk_model.proofs.Lists.Grids.{grid_from}
use Rattle.vk_model.proofs.Lists.Members.{none_in, contains-head, contains-tail, mapped_from, flat_from, range_from, part_has, found}
use Rattle.vk_model.specs.Basics.{below}
use Rattle.vk_model.specs.Laws.{PiecesAreByteWrites}
use Rattle.vk_model.specs.Memory.Addresses.{address}
use Rattle.vk_model.specs.Rules.Ids.{is_buffer, is_image}
use Rattle.vk_model.specs.Run.CachedRuns.{write_to}
use Rattle.vk_model.specs.Run.Pieces.{pieces}
use Rattle.vk_model.specs.Trace.Image.{texel}
use Rattle.vk_model.specs.Trace.Objects.{image}
use Rattle.vk_model.specs.Trace.Point.{Past}
use Rattle.vk_model.specs.World.Areas.{Box, region_box, source_box, destination_box}
use Rattle.vk_model.specs.World.Bytes.{Byte, in_buffer, in_image, same_byte}
use Rattle.vk_model.specs.World.ByteWrites.{ByteWrite, byte_write, byte_writes, copy_writes, clear_write, clear_writes, subresource_bytes, color_byte, copy_in_writes, copy_out_writes, copy_image_writes, image_texel, buffer_texel, buffer_size, Value, From}
use Rattle.vk_image_transfer.specs.Held.{place_of}
use Rattle.vk_image_transfer.specs.Rows.{BoxFits, RegionFits}
use Rattle.vk_image_transfer.proofs.Places.{image_byte_at}
use Rattle.vk_transfer.specs.Copies.{FitsBuffers}
use Rattle.vk_resources.specs.declared.resources.Placed.{Placed}
use Rattle.vk_resources.specs.Fits.{FitsRegions, FitsImages, KeepsApart, FitsCommand, NamesLive}
use Rattle.vk_resources.specs.Held.{Held, placed, shape_of, form_of, flat, IsThere}
use Rattle.vk_resources.specs.Matches.{MatchesLive}
use Rattle.vk_resources.specs.Inner.Images.{HasPicture}
use Rattle.vk_resources.proofs.Fitting.{named_there, same_size}
use Rattle.vk_resources.proofs.ImageFitting.{named_picture, made_image}
use Rattle.vk_resources.proofs.Lying.{lies_there, buffer_lies}
use Rattle.vk_resources.proofs.Matching.{flat_parts}

module _ (past : Past) (s : Held) (m : MatchesLive past s) (together : PiecesAreByteWrites) where
  -- a byte below the size of a buffer that is held
  within : (b k : ℕ) → IsSome (flat s b) → k < buffer_size past b → IsThere s (in_buffer b k)
  within b k some lt = go (flat s b) refl some
    where
      go : (o : Option Placed) → flat s b ≡ o → IsSome o → IsThere s (in_buffer b k)
      go None at some = absurd cc
      go (Some p) at some =
          let parts = flat_parts (shape_of s b) (placed s b) p at in
          lies_there s (in_buffer b k) (buffer_lies s b p parts.1 parts.0 k (subst (λ (n : ℕ). k < n) (same_size past s m b p at) lt))

  -- a byte of a box of an image that is held
  box_byte : (i : ℕ) (has : HasPicture s i) (k : Box) → BoxFits has.image k → (z y x q : ℕ) → z < k.layers → y < k.height → x < k.width → q < texel has.image.format → IsThere s (in_image i k.level (k.first_layer + z) (k.x + x) (k.y + y) q)
  box_byte i has k box z y x q lz ly lx lq =
      let n = has.image in
      lies_there s (in_image i k.level (k.first_layer + z) (k.x + x) (k.y + y) q) (record {
        place = has.place;
        at = address n n.tiling k.level (k.first_layer + z) (k.x + x) (k.y + y) + q;
        here = has.is.here;
        is = ap (λ (o : Option ImageInfo). place_of (form_of o has.place.size) (in_image i k.level (k.first_layer + z) (k.x + x) (k.y + y) q)) has.is.shaped
            ∙ image_byte_at n i k.level (k.first_layer + z) (k.x + x) (k.y + y) q (record { level_there = box.level; layer_there = omega (arith, box.layers, lz); x_there = omega (arith, box.columns, lx); y_there = omega (arith, box.rows, ly); part_there = lq });
      })

  -- a byte that a command copies is of a buffer or an image that is there
  source_there : (c : Cmd) → FitsCommand past c → NamesLive past c → (w : ByteWrite) (e : Byte) → Contains (byte_writes past c) w → w.source ≡ From e → IsThere s e
  source_there (cmd.Fill b o n v) fits alive w e among is = let f = mapped_from _ (below _) w among in let both : From e ≡ Value _ = sym is ∙ ap (λ (x : ByteWrite). x.source) (sym f.2) in absurd cc
  source_there (cmd.Update b o bytes) fits alive w e among is = let f = mapped_from _ (enumerate_from 0 bytes) w among in let both : From e ≡ Value f.0.1 = sym is ∙ ap (λ (x : ByteWrite). x.source) (sym f.2) in absurd cc
  source_there (cmd.Copy a d gs) fits alive w e among is =
      let g = flat_from (copy_writes a d) gs w among in
      let f = mapped_from (λ k. byte_write (in_buffer d (g.0.destination_offset + k)) (From (in_buffer a (g.0.source_offset + k)))) (below g.0.size) w g.2 in
      let both : From e ≡ From (in_buffer a (g.0.source_offset + f.0)) = sym is ∙ ap (λ (x : ByteWrite). x.source) (sym f.2) in
      let one : e ≡ in_buffer a (g.0.source_offset + f.0) = cc in
      let range = All-contains (λ g. FitsBuffers g (buffer_size past a) (buffer_size past d)) gs g.0 fits g.1 in
      let first = range.0 in
      let low = (range_from 0 g.0.size f.0 f.1).1 in
      rw one (within a (g.0.source_offset + f.0) (named_there past s m a (alive a is_buffer (contains-head (a, is_buffer) ((d, is_buffer) ∷ [])))) (omega (arith, first, low)))
  source_there (cmd.Barrier es) fits alive w e among is = absurd (none_in w among)
  source_there (cmd.Set v ms) fits alive w e among is = absurd (none_in w among)
  source_there (cmd.Await v ms) fits alive w e among is = absurd (none_in w among)
  source_there (cmd.Clear i l color rs) fits alive w e among is =
      let has = named_picture past s m i (alive i is_image (contains-head (i, is_image) [])) in
      let writes : Contains (flat_map (clear_writes i color (Some has.image)) rs) w = subst (λ (o : Option ImageInfo). Contains (flat_map (clear_writes i color o) rs) w) (made_image past s m i has.image has.is.shaped) among in
      let r = flat_from (clear_writes i color (Some has.image)) rs w writes in
      let f = mapped_from (clear_write has.image color) (subresource_bytes i has.image r.0) w r.2 in
      let both : From e ≡ Value (color_byte has.image color f.0.1) = sym is ∙ ap (λ (x : ByteWrite). x.source) (sym f.2) in
      absurd cc
  source_there (cmd.CopyIn b i l gs) fits alive w e among is =
      let has = named_picture past s m i (alive i is_image (contains-tail (b, is_buffer) ((i, is_image) ∷ []) (i, is_image) (contains-head (i, is_image) []))) in
      let made = made_image past s m i has.image has.is.shaped in
      let writes : Contains (flat_map (copy_in_writes b i (Some has.image)) gs) w = subst (λ (o : Option ImageInfo). Contains (flat_map (copy_in_writes b i o) gs) w) made among in
      let g = flat_from (copy_in_writes b i (Some has.image)) gs w writes in
      let at = grid_from (λ z y x k. byte_write (image_texel i g.0 z y x k) (From (in_buffer b (buffer_texel g.0 (texel has.image.format) z y x k)))) g.0.layers g.0.height g.0.width (texel has.image.format) w g.2 in
      let both : From e ≡ From (in_buffer b (buffer_texel g.0 (texel has.image.format) at.z at.y at.x at.k)) = sym is ∙ ap (λ (x : ByteWrite). x.source) at.is in
      let one : e ≡ in_buffer b (buffer_texel g.0 (texel has.image.format) at.z at.y at.x at.k) = cc in
      let region = All-contains (λ g. BoxFits has.image (region_box g) × RegionFits g (texel has.image.format) (buffer_size past b)) gs g.0 (subst (λ (o : Option ImageInfo). FitsRegions o (buffer_size past b) gs) made fits) g.1 in
      rw one (within b (buffer_texel g.0 (texel has.image.format) at.z at.y at.x at.k) (named_there past s m b (alive b is_buffer (contains-head (b, is_buffer) ((i, is_image) ∷ [])))) (region.1 at.z at.y at.x at.k at.low_z at.low_y at.low_x at.low_k))
  source_there (cmd.CopyOut i l b gs) fits alive w e among is =
      let has = named_picture past s m i (alive i is_image (contains-head (i, is_image) ((b, is_buffer) ∷ []))) in
      let made = made_image past s m i has.image has.is.shaped in
      let writes : Contains (flat_map (copy_out_writes i b (Some has.image)) gs) w = subst (λ (o : Option ImageInfo). Contains (flat_map (copy_out_writes i b o) gs) w) made among in
      let g = flat_from (copy_out_writes i b (Some has.image)) gs w writes in
      let at = grid_from (λ z y x k. byte_write (in_buffer b (buffer_texel g.0 (texel has.image.format) z y x k)) (From (image_texel i g.0 z y x k))) g.0.layers g.0.height g.0.width (texel has.image.format) w g.2 in
      let both : From e ≡ From (image_texel i g.0 at.z at.y at.x at.k) = sym is ∙ ap (λ (x : ByteWrite). x.source) at.is in
      let one : e ≡ image_texel i g.0 at.z at.y at.x at.k = cc in
      let region = All-contains (λ g. BoxFits has.image (region_box g) × RegionFits g (texel has.image.format) (buffer_size past b)) gs g.0 (subst (λ (o : Option ImageInfo). FitsRegions o (buffer_size past b) gs) made fits) g.1 in
      rw one (box_byte i has (region_box g.0) region.0 at.z at.y at.x at.k at.low_z at.low_y at.low_x at.low_k)
  source_there (cmd.CopyImage a l d t gs) fits alive w e among is =
      let from = named_picture past s m a (alive a is_image (contains-head (a, is_image) ((d, is_image) ∷ []))) in
      let to = named_picture past s m d (alive d is_image (contains-tail (a, is_image) ((d, is_image) ∷ []) (d, is_image) (contains-head (d, is_image) []))) in
      let made = made_image past s m d to.image to.is.shaped in
      let writes : Contains (flat_map (copy_image_writes a d (Some to.image)) gs) w = subst (λ (o : Option ImageInfo). Contains (flat_map (copy_image_writes a d o) gs) w) made among in
      let g = flat_from (copy_image_writes a d (Some to.image)) gs w writes in
      let at = grid_from (λ z y x k. byte_write (in_image d g.0.destination_level (g.0.destination_first_layer + z) (g.0.destination_x + x) (g.0.destination_y + y) k)
      (From (in_image a g.0.source_level (g.0.source_first_layer + z) (g.0.source_x + x) (g.0.source_y + y) k))) g.0.layers g.0.height g.0.width (texel to.image.format) w g.2 in
      let both : From e ≡ From (in_image a g.0.source_level (g.0.source_first_layer + at.z) (g.0.source_x + at.x) (g.0.source_y + at.y) at.k) = sym is ∙ ap (λ (x : ByteWrite). x.source) at.is in
      let one : e ≡ in_image a g.0.source_level (g.0.source_first_layer + at.z) (g.0.source_x + at.x) (g.0.source_y + at.y) at.k = cc in
      let both_fit : FitsImages a d (Some from.image) (Some to.image) gs = subst (λ (o : Option ImageInfo). FitsImages a d (Some from.image) o gs) made
      (subst (λ (o : Option ImageInfo). FitsImages a d o (image past d) gs) (made_image past s m a from.image from.is.shaped) fits) in
      let region = All-contains (λ g. BoxFits from.image (source_box g) × BoxFits to.image (destination_box g) × KeepsApart a d g) gs g.0 both_fit.1 g.1 in
      let low : at.k < texel from.image.format = omega (arith, at.low_k, both_fit.0) in
      rw one (box_byte a from (source_box g.0) region.0 at.z at.y at.x at.k at.low_z at.low_y at.low_x low)

  pub sources_there : (c : Cmd) (k : ℕ) (ms : List ByteWrite) → FitsCommand past c → NamesLive past c → slice_get (pieces past c) k ≡ Some ms → (b : Byte) (w : ByteWrite) (e : Byte) → write_to b ms ≡ Some w → w.source ≡ From e → IsThere s e
  sources_there c k ms fits alive piece b w e write is =
      let hit = found (λ (x : ByteWrite). same_byte x.to b) ms w write in
      source_there c fits alive w e (subst (λ (all : List ByteWrite). Contains all w) (together past c) (part_has (pieces past c) k ms w piece hit.0)) is
