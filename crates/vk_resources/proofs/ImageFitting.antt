-- What a command on images that fits asks of the images that are held.
use Rattle.std.proofs.Common.{◌≡◌, ◌*◌, ◌<◌, ◌≤◌, zero, suc, ℕ, List, [], ◌∷◌, length, refl, ap, sym, ◌∙◌, subst, arith, Option, Some, None}
use Rattle.std.proofs.lemmas.Nat.{mul-le}
use Rattle.std.proofs.lemmas.List.Elements.{All-contains}
use Rattle.std.specs.List.{flat_map, sum_by}
use Rattle.std.specs.Prelude.{All, Contains, IsSome, IsTrue, is_some, option_and_then, slice_get}
use Rattle.vk_model.proofs.Lists.Members.{contains-head, contains-tail}
use Rattle.vk_model.specs.declared.command.Cmd.{Cmd}
use Rattle.vk_model.specs.declared.command.Cmd.TheVariants as cmd
use Rattle.vk_model.specs.declared.command.BufferCopy.{BufferCopy}
use Rattle.vk_model.specs.declared.command.BufferImageCopy.{BufferImageCopy}
use Rattle.vk_model.specs.declared.command.ImageCopy.{ImageCopy}
use Rattle.vk_model.specs.declared.command.SubresourceRange.{SubresourceRange}
use Rattle.vk_model.specs.declared.command.Length.{Length}
use Rattle.vk_model.specs.declared.entry.Entry.{Entry}
use Rattle.vk_model.specs.declared.layout.Layout.{Layout}
use Rattle.vk_model.specs.declared.resource.ImageInfo.{ImageInfo}
use Rattle.vk_model.specs.Basics.{holds}
use Rattle.vk_model.specs.Rules.Ids.{is_buffer, is_image, asked_by_command}
use Rattle.vk_model.specs.Trace.Objects.{live, image, image_in}
use Rattle.vk_model.specs.Trace.Point.{Past}
use Rattle.vk_model.specs.World.Areas.{row_count, source_box, destination_box}
use Rattle.vk_model.specs.World.ByteWrites.{ByteWrite, buffer_size, copy_in_writes, copy_out_writes, copy_image_writes}
use Rattle.vk_model.specs.Run.Pieces.{cut, row_bytes, clear_pieces, pieces}
use Rattle.vk_transfer.specs.Ran.{HaveRun}
use Rattle.vk_image_tiles.proofs.LevelBounds.{counts}
use Rattle.vk_image_transfer.proofs.AllPieces.{in_count, out_count, image_count, clear_all_count, few_of}
use Rattle.vk_image_transfer.specs.Pieces.{RangeFits, range_rows, copy_rows, piece_in, all_cleared, all_copied_in, all_copied_out, all_copied, copy_image_pieces}
use Rattle.vk_image_transfer.specs.Rows.{BoxFits}
use Rattle.vk_image_transfer.specs.declared.regions.ImageCopyRow.{ImageCopyRow}
use Rattle.vk_backing.proofs.Grown.{some_there}
use Rattle.vk_resources.specs.declared.resources.Placed.{Placed}
use Rattle.vk_resources.specs.declared.stretches.Written.{Written}
use Rattle.vk_resources.specs.declared.work.Regions.{Regions}
use Rattle.vk_resources.specs.declared.work.Regions.TheVariants.{OfBuffers, OfBoth, OfImages}
use Rattle.vk_resources.specs.Held.{Held, IsConsistent, shape_of, flat, byte_at}
use Rattle.vk_resources.specs.Matches.{MatchesLive}
use Rattle.vk_resources.specs.Fits.{FitsClear, FitsRegions, FitsImages, FitsCommand, NamesLive, KeepsApart}
use Rattle.vk_resources.specs.Done.{PieceReady}
use Rattle.vk_resources.specs.Rest.{KeepsRest, is_written}
use Rattle.vk_resources.specs.Stretches.{HasWrites, HasPieceWrites}
use Rattle.vk_resources.specs.Inner.Images.{HasPicture, ClearReady, RegionsReady, MayCopyIn, ImageRowReady, HasRunPiece}
use Rattle.vk_resources.specs.Inner.Steps.{HasRun}
use Rattle.vk_resources.specs.Inner.Works.{AreCopied, regions_count}
use Rattle.vk_resources.proofs.Fitting.{live_made, same_size, named_there, copies_long}
use Rattle.vk_resources.proofs.Matching.{image_of_live}

-- ---- images that are held

module _ (past : Past) (s : Held) (m : MatchesLive past s) where
  -- an image that is held was made
  pub made_image : (i : ℕ) (n : ImageInfo) → shape_of s i ≡ Some n → image past i ≡ Some n
  made_image i n is = live_made image_in past i n (sym (m.shapes i) ∙ is)

  -- and one that is named as live is held
  pub named_picture : (i : ℕ) → IsTrue (holds (live past i) is_image) → HasPicture s i
  named_picture i h = go (live past i) refl h
    where
      by_info : (x : Option ImageInfo) → option_and_then image_in (live past i) ≡ x → IsTrue (is_some x) → HasPicture s i
      by_info None is h = absurd cc
      by_info (Some n) is h = let p = image_of_live (live past) s i n m is in record { image = n; place = p.0; is = record { shaped = p.2; here = p.1 } }

      go : (x : Option Entry) → live past i ≡ x → IsTrue (holds x is_image) → HasPicture s i
      go None is h = absurd cc
      go (Some y) is h = by_info (image_in y) (ap (option_and_then image_in) is) h

-- ---- the pieces, by the image's shape

cleared_pieces : (past : Past) (i : ℕ) (l : Layout) (color : List ℕ) (rs : List SubresourceRange) (n : ImageInfo) → image past i ≡ Some n → pieces past (cmd.Clear i l color rs) ≡ all_cleared i color n rs
cleared_pieces past i l color rs n e = ap (λ (o : Option ImageInfo). flat_map (clear_pieces i color o) rs) e

in_pieces : (past : Past) (b i : ℕ) (l : Layout) (gs : List BufferImageCopy) (n : ImageInfo) → image past i ≡ Some n → pieces past (cmd.CopyIn b i l gs) ≡ all_copied_in b i n gs
in_pieces past b i l gs n e = ap (λ (o : Option ImageInfo). flat_map (λ g. cut (row_bytes o g.width) (copy_in_writes b i o g)) gs) e

out_pieces : (past : Past) (i b : ℕ) (l : Layout) (gs : List BufferImageCopy) (n : ImageInfo) → image past i ≡ Some n → pieces past (cmd.CopyOut i l b gs) ≡ all_copied_out i b n gs
out_pieces past i b l gs n e = ap (λ (o : Option ImageInfo). flat_map (λ g. cut (row_bytes o g.width) (copy_out_writes i b o g)) gs) e

image_pieces : (past : Past) (a b : ℕ) (l k : Layout) (gs : List ImageCopy) (n : ImageInfo) → image past b ≡ Some n → pieces past (cmd.CopyImage a l b k gs) ≡ all_copied a b n gs
image_pieces past a b l k gs n e = ap (λ (o : Option ImageInfo). flat_map (λ g. cut (row_bytes o g.width) (copy_image_writes a b o g)) gs) e

-- ---- how many pieces there are

-- regions that fit do so in an image that was made
regions_image : (o : Option ImageInfo) (size : ℕ) (gs : List BufferImageCopy) → FitsRegions o size gs → (n : ImageInfo) × (o ≡ Some n)
regions_image None size gs fits = absurd fits
regions_image (Some n) size gs fits = (n, refl)

images_image : (a b : ℕ) (o r : Option ImageInfo) (gs : List ImageCopy) → FitsImages a b o r gs → (n : ImageInfo) × (r ≡ Some n)
images_image a b None r gs fits = absurd fits
images_image a b (Some m) None gs fits = absurd fits
images_image a b (Some m) (Some n) gs fits = (n, refl)

-- of a command that is run by its regions alone
pub regions_counted : (past : Past) (y : Cmd) (rs : Regions) → AreCopied y rs → FitsCommand past y → ((b o : ℕ) (n : Length) (w : ℕ) → y ≡ cmd.Fill b o n w → ⊥) → ((b o : ℕ) (bytes : List ℕ) → y ≡ cmd.Update b o bytes → ⊥) → ((i : ℕ) (l : Layout) (color : List ℕ) (rs : List SubresourceRange) → y ≡ cmd.Clear i l color rs → ⊥)
    → regions_count rs ≡ length (pieces past y)
regions_counted past (cmd.Fill b o n w) rs same fits fill update clear = absurd (fill b o n w refl)
regions_counted past (cmd.Update b o bytes) rs same fits fill update clear = absurd (update b o bytes refl)
regions_counted past (cmd.Clear i l color rs) r same fits fill update clear = absurd (clear i l color rs refl)
regions_counted past (cmd.Copy a b gs) (OfBuffers regions) same fits fill update clear = ap (λ (rs : List BufferCopy). regions_count (OfBuffers rs)) same ∙ sym (copies_long gs a b)
regions_counted past (cmd.Copy a b gs) _ same fits fill update clear = absurd same
regions_counted past (cmd.CopyIn b i l gs) (OfBoth regions) same fits fill update clear =
    let n = regions_image (image past i) (buffer_size past b) gs fits in
    ap (sum_by row_count) same ∙ in_count b i n.0 gs ∙ ap length (sym (in_pieces past b i l gs n.0 n.1))
regions_counted past (cmd.CopyIn b i l gs) _ same fits fill update clear = absurd same
regions_counted past (cmd.CopyOut i l b gs) (OfBoth regions) same fits fill update clear =
    let n = regions_image (image past i) (buffer_size past b) gs fits in
    ap (sum_by row_count) same ∙ out_count i b n.0 gs ∙ ap length (sym (out_pieces past i b l gs n.0 n.1))
regions_counted past (cmd.CopyOut i l b gs) _ same fits fill update clear = absurd same
regions_counted past (cmd.CopyImage a l b k gs) (OfImages regions) same fits fill update clear =
    let n = images_image a b (image past a) (image past b) gs fits in
    ap (sum_by copy_rows) same ∙ image_count a b n.0 gs ∙ ap length (sym (image_pieces past a b l k gs n.0 n.1))
regions_counted past (cmd.CopyImage a l b k gs) _ same fits fill update clear = absurd same
regions_counted past (cmd.Barrier es) rs same fits fill update clear = ap regions_count same
regions_counted past (cmd.Set v ms) rs same fits fill update clear = ap regions_count same
regions_counted past (cmd.Await v ms) rs same fits fill update clear = ap regions_count same

module _ (past : Past) (s : Held) (m : MatchesLive past s) (i : ℕ) (l : Layout) (color : List ℕ) (rs : List SubresourceRange) where
  clear_fits : (n : ImageInfo) → shape_of s i ≡ Some n → FitsCommand past (cmd.Clear i l color rs) → FitsClear (Some n) rs
  clear_fits n is fits = subst (λ (o : Option ImageInfo). FitsClear o rs) (made_image past s m i n is) fits

  -- the ranges of a clear are few
  pub clear_few : IsConsistent s → (n : ImageInfo) → shape_of s i ≡ Some n → FitsCommand past (cmd.Clear i l color rs) → All (RangeFits n) rs × (length rs < 549755813888)
  clear_few consistent n is fits =
      let f = clear_fits n is fits in
      let p = image_of_live (live past) s i n m (sym (m.shapes i) ∙ is) in
      let good = (consistent.2.each i n p.0 is p.1).shaped in
      let product : n.levels * n.layers ≤ 14 * 256 = mul-le n.levels n.layers 14 256 (few_of n good) (counts n good).layers.few in
      let most = f.1 in
      (f.0, omega (arith, most, product))

  pub clear_counted : (n : ImageInfo) (count : ℕ) → shape_of s i ≡ Some n → count ≡ length (all_cleared i color n rs) → count ≡ length (pieces past (cmd.Clear i l color rs))
  clear_counted n count is counted = counted ∙ ap length (sym (cleared_pieces past i l color rs n (made_image past s m i n is)))

  -- a clear of what isn't held has none
  pub clear_none : shape_of s i ≡ None → (0 < length (pieces past (cmd.Clear i l color rs)) → NamesLive past (cmd.Clear i l color rs)) → 0 ≡ length (pieces past (cmd.Clear i l color rs))
  clear_none none alive = go (length (pieces past (cmd.Clear i l color rs))) alive
    where
      go : (count : ℕ) → (0 < count → NamesLive past (cmd.Clear i l color rs)) → 0 ≡ count
      go zero alive = refl
      go (suc count) alive =
          let has = named_picture past s m i (alive (omega arith) i is_image (contains-head (i, is_image) [])) in
          let both : None ≡ Some has.image = sym none ∙ has.is.shaped in
          absurd cc

-- ---- a command that has such a piece

-- the piece of a number that is there
piece_named : (ps : List (List ByteWrite)) (k : ℕ) (ms : List ByteWrite) → slice_get ps k ≡ Some ms → piece_in ps k ≡ ms
piece_named ps k ms is = rw (piece_in, is) refl

module _ (s : Held) (y : Cmd) (k : ℕ) (ready : PieceReady s y k) where
  -- what it names is held
  picture_named : (c : Cmd) (i : ℕ) → y ≡ c → Contains (asked_by_command c) (i, is_image) → HasPicture s i
  picture_named c i is named = named_picture ready.past s ready.matches.live i (subst (λ (c : Cmd). NamesLive ready.past c) is ready.alive i is_image named)

  buffer_named : (c : Cmd) (b : ℕ) → y ≡ c → Contains (asked_by_command c) (b, is_buffer) → IsSome (flat s b)
  buffer_named c b is named = named_there ready.past s ready.matches.live b (subst (λ (c : Cmd). NamesLive ready.past c) is ready.alive b is_buffer named)

  fits_as : (c : Cmd) → y ≡ c → FitsCommand ready.past c
  fits_as c is = subst (λ (c : Cmd). FitsCommand ready.past c) is ready.fits

  below_as : (c : Cmd) → y ≡ c → k < length (pieces ready.past c)
  below_as c is = subst (λ (c : Cmd). k < length (pieces ready.past c)) is ready.below

  -- a piece is the same in any past
  piece_same : (i : ℕ) (has : HasPicture s i) (writes : ImageInfo → List (List ByteWrite)) → ((past : Past) → image past i ≡ Some has.image → pieces past y ≡ writes has.image)
      → (past : Past) (ms : List ByteWrite) → MatchesLive past s → slice_get (pieces past y) k ≡ Some ms → piece_in (writes has.image) k ≡ ms
  piece_same i has writes of_past past ms m at = piece_named (writes has.image) k ms (ap (λ (ps : List (List ByteWrite)). slice_get ps k) (sym (of_past past (made_image past s m i has.image has.is.shaped))) ∙ at)

  -- a piece that has been run is that of any past
  piece_made : (new : Held) (i : ℕ) (has : HasPicture s i) (writes : ImageInfo → List (List ByteWrite)) → ((past : Past) → image past i ≡ Some has.image → pieces past y ≡ writes has.image)
      → ((n : ImageInfo) → shape_of s i ≡ Some n → HasRun s new (piece_in (writes n) k)) → HasRunPiece s new y k
  piece_made new i has writes of_past run =
      let ran = run has.image has.is.shaped in
      let same = piece_same i has writes of_past in
      record {
        ran = λ past ms m fits at. subst (λ (xs : List ByteWrite). HaveRun xs (byte_at s) (byte_at new)) (same past ms m.live at) ran.1;
        keeps = ran.0;
        cache = ran.2;
        rest = λ past ms m fits at. subst (λ (xs : List ByteWrite). KeepsRest s new (is_written xs)) (same past ms m.live at) ran.3;
      }

  -- so are the bytes of one
  piece_found : (w : Written) (i : ℕ) (has : HasPicture s i) (writes : ImageInfo → List (List ByteWrite)) → ((past : Past) → image past i ≡ Some has.image → pieces past y ≡ writes has.image)
      → ((n : ImageInfo) → shape_of s i ≡ Some n → HasWrites s (piece_in (writes n) k) w) → HasPieceWrites s y k w
  piece_found w i has writes of_past found past ms m fits at = subst (λ (xs : List ByteWrite). HasWrites s xs w) (piece_same i has writes of_past past ms m.live at) (found has.image has.is.shaped)

  module _ (i : ℕ) (l : Layout) (color : List ℕ) (rs ranges : List SubresourceRange) (is : y ≡ cmd.Clear i l color rs) (same : ranges ≡ rs) where
    cleared : HasPicture s i
    cleared = picture_named (cmd.Clear i l color rs) i is (contains-head (i, is_image) [])

    pub clear_ready : ClearReady s i ranges k
    clear_ready =
        let fits = clear_fits ready.past s ready.matches.live i l color rs cleared.image cleared.is.shaped (fits_as (cmd.Clear i l color rs) is) in
        let count : length (pieces ready.past (cmd.Clear i l color rs)) ≡ sum_by (range_rows cleared.image) rs =
        ap length (cleared_pieces ready.past i l color rs cleared.image (made_image ready.past s ready.matches.live i cleared.image cleared.is.shaped)) ∙ sym (clear_all_count i color cleared.image rs) in
        subst (λ (xs : List SubresourceRange). ClearReady s i xs k) (sym same)
        (record { to = cleared; ranges = fits.0; piece = subst (λ (n : ℕ). k < n) count (below_as (cmd.Clear i l color rs) is) })

    clear_pieces_of : (past : Past) → image past i ≡ Some cleared.image → pieces past y ≡ all_cleared i color cleared.image ranges
    clear_pieces_of past made = ap (pieces past) is ∙ cleared_pieces past i l color rs cleared.image made ∙ ap (λ (xs : List SubresourceRange). all_cleared i color cleared.image xs) (sym same)

    pub clear_made : (new : Held) → ((n : ImageInfo) → shape_of s i ≡ Some n → HasRun s new (piece_in (all_cleared i color n ranges) k)) → HasRunPiece s new y k
    clear_made new run = piece_made new i cleared (λ n. all_cleared i color n ranges) clear_pieces_of run

    pub clear_found : (w : Written) → ((n : ImageInfo) → shape_of s i ≡ Some n → HasWrites s (piece_in (all_cleared i color n ranges) k) w) → HasPieceWrites s y k w
    clear_found w found = piece_found w i cleared (λ n. all_cleared i color n ranges) clear_pieces_of found

  -- ---- a copy between a buffer and an image

  -- regions that fit do so in an image that is held, and in a buffer
  regions_ready : (b i : ℕ) (q : Placed) (gs regions : List BufferImageCopy) (has : HasPicture s i) → flat s b ≡ Some q → FitsRegions (image ready.past i) (buffer_size ready.past b) gs → k < sum_by row_count gs → regions ≡ gs → RegionsReady s q.size i regions k
  regions_ready b i q gs regions has at fits lt same = subst (λ (xs : List BufferImageCopy). RegionsReady s q.size i xs k) (sym same) (record {
    with = has;
    fits = subst (λ (z : ℕ). FitsRegions (Some has.image) z gs) (same_size ready.past s ready.matches.live b q at) (subst (λ (o : Option ImageInfo). FitsRegions o (buffer_size ready.past b) gs) (made_image ready.past s ready.matches.live i has.image has.is.shaped) fits);
    piece = lt;
  })

  module _ (b i : ℕ) (l : Layout) (gs regions : List BufferImageCopy) (is : y ≡ cmd.CopyIn b i l gs) (same : regions ≡ gs) where
    copied_to : HasPicture s i
    copied_to = picture_named (cmd.CopyIn b i l gs) i is (contains-tail (b, is_buffer) ((i, is_image) ∷ []) (i, is_image) (contains-head (i, is_image) []))

    pub in_there : IsSome (flat s b)
    in_there = buffer_named (cmd.CopyIn b i l gs) b is (contains-head (b, is_buffer) ((i, is_image) ∷ []))

    pub in_ready : (q : Placed) → flat s b ≡ Some q → RegionsReady s q.size i regions k
    in_ready q at =
        let count : length (pieces ready.past (cmd.CopyIn b i l gs)) ≡ sum_by row_count gs = ap length (in_pieces ready.past b i l gs copied_to.image (made_image ready.past s ready.matches.live i copied_to.image copied_to.is.shaped)) ∙ sym (in_count b i copied_to.image gs) in
        regions_ready b i q gs regions copied_to at (fits_as (cmd.CopyIn b i l gs) is) (subst (λ (n : ℕ). k < n) count (below_as (cmd.CopyIn b i l gs) is)) same

    -- for the buffer, whatever its size
    pub in_may : MayCopyIn s i regions k
    in_may = let q = some_there (flat s b) in_there in (q.0.size, in_ready q.0 q.1)

    in_pieces_of : (past : Past) → image past i ≡ Some copied_to.image → pieces past y ≡ all_copied_in b i copied_to.image regions
    in_pieces_of past made = ap (pieces past) is ∙ in_pieces past b i l gs copied_to.image made ∙ ap (λ (xs : List BufferImageCopy). all_copied_in b i copied_to.image xs) (sym same)

    pub in_made : (new : Held) → ((n : ImageInfo) → shape_of s i ≡ Some n → HasRun s new (piece_in (all_copied_in b i n regions) k)) → HasRunPiece s new y k
    in_made new run = piece_made new i copied_to (λ n. all_copied_in b i n regions) in_pieces_of run

    pub in_found : (w : Written) → ((n : ImageInfo) → shape_of s i ≡ Some n → HasWrites s (piece_in (all_copied_in b i n regions) k) w) → HasPieceWrites s y k w
    in_found w found = piece_found w i copied_to (λ n. all_copied_in b i n regions) in_pieces_of found

  module _ (i b : ℕ) (l : Layout) (gs regions : List BufferImageCopy) (is : y ≡ cmd.CopyOut i l b gs) (same : regions ≡ gs) where
    copied_from : HasPicture s i
    copied_from = picture_named (cmd.CopyOut i l b gs) i is (contains-head (i, is_image) ((b, is_buffer) ∷ []))

    pub out_there : IsSome (flat s b)
    out_there = buffer_named (cmd.CopyOut i l b gs) b is (contains-tail (i, is_image) ((b, is_buffer) ∷ []) (b, is_buffer) (contains-head (b, is_buffer) []))

    pub out_ready : (q : Placed) → flat s b ≡ Some q → RegionsReady s q.size i regions k
    out_ready q at =
        let count : length (pieces ready.past (cmd.CopyOut i l b gs)) ≡ sum_by row_count gs = ap length (out_pieces ready.past i b l gs copied_from.image (made_image ready.past s ready.matches.live i copied_from.image copied_from.is.shaped)) ∙ sym (out_count i b copied_from.image gs) in
        regions_ready b i q gs regions copied_from at (fits_as (cmd.CopyOut i l b gs) is) (subst (λ (n : ℕ). k < n) count (below_as (cmd.CopyOut i l b gs) is)) same

    out_pieces_of : (past : Past) → image past i ≡ Some copied_from.image → pieces past y ≡ all_copied_out i b copied_from.image regions
    out_pieces_of past made = ap (pieces past) is ∙ out_pieces past i b l gs copied_from.image made ∙ ap (λ (xs : List BufferImageCopy). all_copied_out i b copied_from.image xs) (sym same)

    pub out_made : (new : Held) → ((n : ImageInfo) → shape_of s i ≡ Some n → HasRun s new (piece_in (all_copied_out i b n regions) k)) → HasRunPiece s new y k
    out_made new run = piece_made new i copied_from (λ n. all_copied_out i b n regions) out_pieces_of run

    pub out_found : (w : Written) → ((n : ImageInfo) → shape_of s i ≡ Some n → HasWrites s (piece_in (all_copied_out i b n regions) k) w) → HasPieceWrites s y k w
    out_found w found = piece_found w i copied_from (λ n. all_copied_out i b n regions) out_pieces_of found

  -- ---- a copy between images

  module _ (a b : ℕ) (l t : Layout) (gs regions : List ImageCopy) (is : y ≡ cmd.CopyImage a l b t gs) (same : regions ≡ gs) where
    read : HasPicture s a
    read = picture_named (cmd.CopyImage a l b t gs) a is (contains-head (a, is_image) ((b, is_image) ∷ []))

    written : HasPicture s b
    written = picture_named (cmd.CopyImage a l b t gs) b is (contains-tail (a, is_image) ((b, is_image) ∷ []) (b, is_image) (contains-head (b, is_image) []))

    fits_both : FitsImages a b (Some read.image) (Some written.image) gs
    fits_both =
        subst (λ (o : Option ImageInfo). FitsImages a b (Some read.image) o gs) (made_image ready.past s ready.matches.live b written.image written.is.shaped)
        (subst (λ (o : Option ImageInfo). FitsImages a b o (image ready.past b) gs) (made_image ready.past s ready.matches.live a read.image read.is.shaped) (fits_as (cmd.CopyImage a l b t gs) is))

    pub images_below : k < sum_by copy_rows regions
    images_below =
        let count : length (pieces ready.past (cmd.CopyImage a l b t gs)) ≡ sum_by copy_rows gs = ap length (image_pieces ready.past a b l t gs written.image (made_image ready.past s ready.matches.live b written.image written.is.shaped)) ∙ sym (image_count a b written.image gs) in
        subst (λ (xs : List ImageCopy). k < sum_by copy_rows xs) (sym same) (subst (λ (n : ℕ). k < n) count (below_as (cmd.CopyImage a l b t gs) is))

    pub images_ready : (found : ImageCopyRow) → Contains regions found.region → found.number < found.region.layers * found.region.height → 0 < found.region.width → ImageRowReady s a b found.region found.number
    images_ready found among row columns =
        record {
          pictures = record { from = read; to = written; texels = fits_both.0 };
          fits = All-contains (λ g. BoxFits read.image (source_box g) × BoxFits written.image (destination_box g) × KeepsApart a b g) gs found.region fits_both.1 (subst (λ (xs : List ImageCopy). Contains xs found.region) same among);
          row = row;
          columns = columns;
        }

    images_pieces_of : (past : Past) → image past b ≡ Some written.image → pieces past y ≡ all_copied a b written.image regions
    images_pieces_of past made = ap (pieces past) is ∙ image_pieces past a b l t gs written.image made ∙ ap (λ (xs : List ImageCopy). all_copied a b written.image xs) (sym same)

    pub images_made : (new : Held) (found : ImageCopyRow) → ((n : ImageInfo) → piece_in (all_copied a b n regions) k ≡ piece_in (copy_image_pieces a b n found.region) found.number)
        → ((n : ImageInfo) → shape_of s b ≡ Some n → HasRun s new (piece_in (copy_image_pieces a b n found.region) found.number)) → HasRunPiece s new y k
    images_made new found piece run = piece_made new b written (λ n. all_copied a b n regions) images_pieces_of
        (λ n shaped. subst (λ (ms : List ByteWrite). HasRun s new ms) (sym (piece n)) (run n shaped))

    pub images_found : (w : Written) (found : ImageCopyRow) → ((n : ImageInfo) → piece_in (all_copied a b n regions) k ≡ piece_in (copy_image_pieces a b n found.region) found.number)
        → ((n : ImageInfo) → shape_of s b ≡ Some n → HasWrites s (piece_in (copy_image_pieces a b n found.region) found.number) w) → HasPieceWrites s y k w
    images_found w found piece writes = piece_found w b written (λ n. all_copied a b n regions) images_pieces_of
        (λ n shaped. subst (λ (ms : List ByteWrite). HasWrites s ms w) (sym (piece n)) (writes n shaped))
