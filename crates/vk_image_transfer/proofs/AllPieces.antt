-- The pieces of all regions of a copy, and of all ranges of a clear: how many they are, and which one has a number.
use Rattle.std.proofs.Common.{◌≡◌, inl, inr, ℕ, zero, suc, ◌+◌, ◌-◌, ◌*◌, ◌<◌, ◌≤◌, List, ◌∷◌, length, take, get_or, slice_get, refl, ap, sym, ◌∙◌, arith, false, Option, Some}
use Rattle.std.proofs.lemmas.Bool.{cases_lt}
use Rattle.std.proofs.lemmas.List.FromFn.{length-range_with_len, get_or-range_with_len}
use Rattle.std.proofs.lemmas.Nat.{mul-le, shr_le}
use Rattle.std.specs.List.{sum_by, range_with_len}
use Rattle.vk_model.specs.declared.command.BufferImageCopy.{BufferImageCopy}
use Rattle.vk_model.specs.declared.command.ImageCopy.{ImageCopy}
use Rattle.vk_model.specs.declared.command.SubresourceRange.{SubresourceRange}
use Rattle.vk_model.specs.declared.resource.ImageInfo.{ImageInfo}
use Rattle.vk_model.specs.Basics.{below}
use Rattle.vk_model.specs.Trace.Image.{level_height}
use Rattle.vk_model.specs.World.Areas.{row_count}
use Rattle.vk_model.specs.World.ByteWrites.{ByteWrite}
use Rattle.vk_model.specs.Run.Pieces.{level_pieces, clear_pieces}
use Rattle.vk_model.specs.Rules.Sizes.{bad_image}
use Rattle.vk_image_tiles.proofs.Levels.{sum_more}
use Rattle.vk_image_tiles.proofs.LevelBounds.{few_levels}
use Rattle.vk_transfer.specs.Counted.{AreCounted}
use Rattle.vk_transfer.proofs.Counting.{counted_length, found_at, piece_found}
use Rattle.vk_image_transfer.specs.Pieces.{piece_in, copy_in_pieces, copy_out_pieces, copy_image_pieces, all_copied_in, all_copied_out, all_copied, all_cleared, copy_rows, level_rows, range_rows, RangeFits}
use Rattle.vk_image_transfer.proofs.Clears.{or_none, clear_count}
use Rattle.vk_image_transfer.proofs.Copies.{rows_counted}

-- ---- of a region

in_long : (b i : ℕ) (m : ImageInfo) (g : BufferImageCopy) → row_count g ≡ length (copy_in_pieces b i m g)
in_long b i m g = rows_counted m g.layers g.height g.width _

out_long : (i b : ℕ) (m : ImageInfo) (g : BufferImageCopy) → row_count g ≡ length (copy_out_pieces i b m g)
out_long i b m g = rows_counted m g.layers g.height g.width _

image_long : (s d : ℕ) (m : ImageInfo) (g : ImageCopy) → copy_rows g ≡ length (copy_image_pieces s d m g)
image_long s d m g = rows_counted m g.layers g.height g.width _

-- ---- of all regions

pub in_count : (b i : ℕ) (m : ImageInfo) (gs : List BufferImageCopy) → sum_by row_count gs ≡ length (all_copied_in b i m gs)
in_count b i m gs = counted_length row_count (copy_in_pieces b i m) (in_long b i m) gs

pub out_count : (i b : ℕ) (m : ImageInfo) (gs : List BufferImageCopy) → sum_by row_count gs ≡ length (all_copied_out i b m gs)
out_count i b m gs = counted_length row_count (copy_out_pieces i b m) (out_long i b m) gs

pub image_count : (s d : ℕ) (m : ImageInfo) (gs : List ImageCopy) → sum_by copy_rows gs ≡ length (all_copied s d m gs)
image_count s d m gs = counted_length copy_rows (copy_image_pieces s d m) (image_long s d m) gs

abbrev pieces_or_none : Option (List ByteWrite) → List ByteWrite
pieces_or_none o = or_none o

module _ (gs : List BufferImageCopy) (before : List ℕ) (part number at : ℕ) (e : BufferImageCopy) (counted : AreCounted row_count gs (length gs) before) (inside : part + 1 < length before) (low : get_or before part 0 + at ≡ number) (high : number < get_or before (part + 1) 0) where
  pub in_found : (b i : ℕ) (m : ImageInfo) → piece_in (all_copied_in b i m gs) number ≡ piece_in (copy_in_pieces b i m (get_or gs part e)) at
  in_found b i m = ap pieces_or_none (piece_found row_count gs before part number at e counted inside low high (copy_in_pieces b i m) (in_long b i m))

  pub out_found : (i b : ℕ) (m : ImageInfo) → piece_in (all_copied_out i b m gs) number ≡ piece_in (copy_out_pieces i b m (get_or gs part e)) at
  out_found i b m = ap pieces_or_none (piece_found row_count gs before part number at e counted inside low high (copy_out_pieces i b m) (out_long i b m))

pub image_found : (gs : List ImageCopy) (before : List ℕ) (part number at : ℕ) (e : ImageCopy) → AreCounted copy_rows gs (length gs) before → part + 1 < length before → get_or before part 0 + at ≡ number → number < get_or before (part + 1) 0
    → (s d : ℕ) (m : ImageInfo) → piece_in (all_copied s d m gs) number ≡ piece_in (copy_image_pieces s d m (get_or gs part e)) at
image_found gs before part number at e counted inside low high s d m = ap pieces_or_none (piece_found copy_rows gs before part number at e counted inside low high (copy_image_pieces s d m) (image_long s d m))

-- ---- of a range

take_range : (a n k : ℕ) → k ≤ n → take k (range_with_len a n) ≡ range_with_len a k
take_range a n zero le = refl
take_range a zero (suc k) le = absurd (omega arith)
take_range a (suc n) (suc k) le = ap (λ (l : List ℕ). a ∷ l) (take_range (a + 1) n k (omega arith))

module _ (i : ℕ) (color : List ℕ) (m : ImageInfo) where
  level_long : (r : SubresourceRange) (k : ℕ) → level_rows m r k ≡ length (level_pieces i color m r (r.first_level + k))
  level_long r k = sym (clear_count i color m r (r.first_level + k))

  range_long : (r : SubresourceRange) → range_rows m r ≡ length (clear_pieces i color (Some m) r)
  range_long r = counted_length (level_rows m r) (λ k. level_pieces i color m r (r.first_level + k)) (level_long r) (below r.levels)

  pub clear_all_count : (rs : List SubresourceRange) → sum_by (range_rows m) rs ≡ length (all_cleared i color m rs)
  clear_all_count rs = counted_length (range_rows m) (clear_pieces i color (Some m)) range_long rs

  level_found : (r : SubresourceRange) (k left at : ℕ) → k < r.levels → sum_by (level_rows m r) (below k) + at ≡ left → at < level_rows m r k → slice_get (clear_pieces i color (Some m) r) left ≡ slice_get (level_pieces i color m r (r.first_level + k)) at
  level_found r k left at lt whole low =
      let front : take k (below r.levels) ≡ below k = take_range 0 r.levels k (omega (arith, lt)) in
      let here : get_or (below r.levels) k 0 ≡ k = get_or-range_with_len 0 r.levels k 0 lt ∙ omega arith in
      found_at (level_rows m r) (λ k. level_pieces i color m r (r.first_level + k)) (level_long r) (below r.levels) k at left 0 (omega (arith, length-range_with_len 0 r.levels, lt))
      (ap (λ (l : List ℕ). sum_by (level_rows m r) l + at) front ∙ whole) (omega (arith, low, ap (level_rows m r) here))
      ∙ ap (λ (k : ℕ). slice_get (level_pieces i color m r (r.first_level + k)) at) here

  pub clear_found : (rs : List SubresourceRange) (part number left at level : ℕ) (e r : SubresourceRange) → part < length rs → sum_by (range_rows m) (take part rs) + left ≡ number → left < range_rows m (get_or rs part e) → r ≡ get_or rs part e
      → r.first_level ≤ level → level < r.first_level + r.levels → sum_by (level_rows m r) (below (level - r.first_level)) + at ≡ left → at < r.layers * level_height m level
      → piece_in (all_cleared i color m rs) number ≡ piece_in (level_pieces i color m r level) at
  clear_found rs part number left at level e r lt whole low is above under sum here =
      let back : r.first_level + (level - r.first_level) ≡ level = omega (arith, above) in
      ap pieces_or_none
      (found_at (range_rows m) (clear_pieces i color (Some m)) range_long rs part left number e lt whole low ∙ ap (λ (q : SubresourceRange). slice_get (clear_pieces i color (Some m) q) left) (sym is)
      ∙ level_found r (level - r.first_level) left at (omega (arith, above, under)) sum (omega (arith, here, ap (λ (k : ℕ). r.layers * level_height m k) back))
      ∙ ap (λ (k : ℕ). slice_get (level_pieces i color m r k) at) back)

-- ---- bounds

pub level_bound : (m : ImageInfo) (k : ℕ) → m.height ≤ 4096 → level_height m k ≤ 4096
level_bound m k few = let halved = shr_le m.height k in omega (arith, halved, few)

-- so many rows of a level of some layers
pub level_few : (m : ImageInfo) (r : SubresourceRange) (k : ℕ) → RangeFits m r → m.layers ≤ 256 → m.height ≤ 4096 → level_rows m r k ≤ 1048576
level_few m r k fits layers height = mul-le r.layers (level_height m (r.first_level + k)) 256 4096 (let inside = fits.1 in omega (arith, inside, layers)) (level_bound m (r.first_level + k) height)

pub more_rows : (m : ImageInfo) (r : SubresourceRange) (k : ℕ) → sum_by (level_rows m r) (below (k + 1)) ≡ sum_by (level_rows m r) (below k) + level_rows m r k
more_rows m r k = sum_more (level_rows m r) k

pub few_of : (m : ImageInfo) → bad_image m ≡ false → m.levels ≤ 14
few_of m good = elim (cases_lt 14 m.levels) [
  | inl more ↦ absurd (let at = few_levels m 14 good more in omega (arith, at))
  | inr few ↦ few
]

-- the rows of a level, as they are counted
pub rows_read : (m : ImageInfo) (r : SubresourceRange) (k layers rows height : ℕ) → layers ≡ r.layers → rows ≡ height → height ≡ level_height m (r.first_level + k) → layers * rows ≡ level_rows m r k
rows_read m r k layers rows height first second third = ap (λ (n : ℕ). n * rows) first ∙ ap (λ (n : ℕ). r.layers * n) (second ∙ third)
