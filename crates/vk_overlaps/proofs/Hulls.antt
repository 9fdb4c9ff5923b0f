-- The rows of a region lie within its bytes from the first to the last.
use Rattle.std.proofs.Common.{◌≡◌, subst, ℕ, suc, zero, ◌+◌, ◌-◌, ◌*◌, ◌/◌, ◌%◌, ◌<◌, ◌≤◌, List, [], map, Bool, true, false, ◌||◌, ◌&&◌, ◌==◌, cond, refl, sym, ap, ◌∙◌, arith}
use Rattle.std.specs.Prelude.{nat_lt, if◌then◌else◌}
use Rattle.std.specs.List.{list_any}
use Rattle.std.proofs.Math.Nat.{mul-le-mul_right, div-lt_iff_lt-mul, mod-lt}
use Rattle.std.proofs.lemmas.Bool.{and_parts, and_from, or_parts, or_from, ne_eqb, lt-ltb, ltb-true, true≢false, false_from_ne_true}
use Rattle.vk_model.specs.declared.command.BufferImageCopy.{BufferImageCopy}
use Rattle.vk_model.specs.Basics.{some_pair, below}
use Rattle.vk_model.specs.Memory.Suballocation.{ranges_meet}
use Rattle.vk_model.specs.World.Areas.{row_count, row_start, rows_meet}
use Rattle.vk_model.specs.World.ByteWrites.{layer_rows, row_texels}
use Rattle.vk_overlaps.specs.Extents.{extents_meet, parts_overlap}
use Rattle.vk_overlaps.specs.Inner.Places.{hull, end_of}
use Rattle.vk_overlaps.proofs.ListPairs.{pair_map, no_pair_by, none_below}
use Rattle.vk_overlaps.proofs.Places.{bytes_meet}

-- a row of so many texels, after some rows, ends where the last row does, or before
row_fits : (some all row width t : ℕ) → some ≤ all → (some * row + 0) * t + 0 + suc width * t ≤ (all * row + width) * t + t
row_fits some all row width t le =
    let texels : some * row ≤ all * row = mul-le-mul_right row le in
    let bytes : (some * row) * t ≤ (all * row) * t = mul-le-mul_right t texels in
    omega (arith, bytes)

-- a row of a layer of a region ends where its last row does, or before
row_within : (offset pitch row t layers height width r : ℕ) → 0 < layers → 0 < height → 0 < width → r < layers * height
    → offset + ((r / height * pitch + r % height) * row + 0) * t + 0 + width * t ≤ offset + (((layers - 1) * pitch + (height - 1)) * row + (width - 1)) * t + t
row_within offset pitch row t layers height zero r l h w lt = absurd (omega (arith, w))
row_within offset pitch row t layers height (suc width) r l h w lt =
    let layer : r / height < layers = (div-lt_iff_lt-mul h).1 lt in
    let y : r % height < height = mod-lt r h in
    let layers-before : r / height * pitch ≤ (layers - 1) * pitch = mul-le-mul_right pitch (omega (arith, layer)) in
    let fits = row_fits (r / height * pitch + r % height) ((layers - 1) * pitch + (height - 1)) row width t (omega (arith, y, layers-before)) in
    let P : ℕ → Type 0 = λ last. offset + ((r / height * pitch + r % height) * row + 0) * t + 0 + suc width * t ≤ offset + (((layers - 1) * pitch + (height - 1)) * row + last) * t + t in
    let so : P width = omega (arith, fits) in
    let last : width ≡ suc width - 1 = omega arith in
    subst P last so

-- where there is a row there is a texel
factors : (a b n : ℕ) → n < a * b → (0 < a) × (0 < b)
factors zero b n lt = absurd (omega (arith, lt))
factors (suc a) zero n lt = absurd (omega (arith, lt))
factors (suc a) (suc b) n lt = (omega arith, omega arith)

above : (n : ℕ) → (n == 0) ≡ false → 0 < n
above zero e = absurd (true≢false e)
above (suc n) e = omega arith

some_row : (width layers height r : ℕ) → r < cond (width == 0) 0 (layers * height) → (0 < layers) × ((0 < height) × ((0 < width) × (r < layers * height)))
some_row width layers height r = go (width == 0) refl
  where
    go : (b : Bool) → (width == 0) ≡ b → r < cond b 0 (layers * height) → (0 < layers) × ((0 < height) × ((0 < width) × (r < layers * height)))
    go true e lt = absurd (omega (arith, lt))
    go false e lt = let both = factors layers height r lt in (both.0, (both.1, (above width e, lt)))

-- ranges that meet, each within another range
wider_meet : (low high a n other_low other_high b m : ℕ) → low ≤ a → a + n ≤ high → other_low ≤ b → b + m ≤ other_high → ranges_meet a n b m ≡ true → ranges_meet low (high - low) other_low (other_high - other_low) ≡ true
wider_meet low high a n other_low other_high b m from to other_from other_to h =
    let p = and_parts (nat_lt 0 n && nat_lt 0 m && nat_lt a (b + m)) (nat_lt b (a + n)) h in
    let q = and_parts (nat_lt 0 n && nat_lt 0 m) (nat_lt a (b + m)) p.0 in
    let r = and_parts (nat_lt 0 n) (nat_lt 0 m) q.0 in
    let some : 0 < n = ltb-true 0 n r.0 in
    let others : 0 < m = ltb-true 0 m r.1 in
    let one : a < b + m = ltb-true a (b + m) q.1 in
    let other : b < a + n = ltb-true b (a + n) p.1 in
    and_from _ _ (and_from _ _ (and_from _ _ (lt-ltb 0 (high - low) (omega (arith, some, from, to))) (lt-ltb 0 (other_high - other_low) (omega (arith, others, other_from, other_to))))
    (lt-ltb low (other_low + (other_high - other_low)) (omega (arith, some, others, from, to, other_from, other_to, one))))
    (lt-ltb other_low (low + (high - low)) (omega (arith, some, others, from, to, other_from, other_to, other)))

module _ (t : ℕ) (g : BufferImageCopy) (r : ℕ) (lt : r < row_count g) where
  texels : (0 < g.layers) × ((0 < g.height) × ((0 < g.width) × (r < g.layers * g.height)))
  texels = some_row g.width g.layers g.height r lt

  starts_within : g.buffer_offset ≤ row_start t g r
  starts_within = omega arith

  ends_within : row_start t g r + g.width * t ≤ end_of t g
  ends_within = row_within g.buffer_offset (layer_rows g) (row_texels g) t g.layers g.height g.width r texels.0 texels.1.0 texels.1.1.0 texels.1.1.1

  hull_size : (if g.layers == 0 || g.height == 0 || g.width == 0 then 0 else end_of t g - g.buffer_offset) ≡ end_of t g - g.buffer_offset
  hull_size = ap (λ b. cond b 0 (end_of t g - g.buffer_offset)) (or_from (g.layers == 0 || g.height == 0) (g.width == 0) (or_from (g.layers == 0) (g.height == 0) (some g.layers texels.0) (some g.height texels.1.0)) (some g.width texels.1.1.0)) where
    some : (n : ℕ) → 0 < n → (n == 0) ≡ false
    some n above = ne_eqb n 0 (λ e. omega (arith, above, e))

-- rows of two regions that meet are of regions whose bytes from the first to the last meet
hulls_meet : (t : ℕ) (g h : BufferImageCopy) (r s : ℕ) → r < row_count g → s < row_count h → ranges_meet (row_start t g r) (g.width * t) (row_start t h s) (h.width * t) ≡ true → extents_meet (hull t g) (hull t h) ≡ true
hulls_meet t g h r s lt lt' m =
    bytes_meet g.buffer_offset (hull t g).columns.size h.buffer_offset (hull t h).columns.size
    ∙ ap (λ n. ranges_meet g.buffer_offset n h.buffer_offset (hull t h).columns.size) (hull_size t g r lt)
    ∙ ap (λ n. ranges_meet g.buffer_offset (end_of t g - g.buffer_offset) h.buffer_offset n) (hull_size t h s lt')
    ∙ wider_meet g.buffer_offset (end_of t g) (row_start t g r) (g.width * t) h.buffer_offset (end_of t h) (row_start t h s) (h.width * t)
    (starts_within t g r lt) (ends_within t g r lt) (starts_within t h s lt') (ends_within t h s lt') m

no_rows : (t : ℕ) (g h : BufferImageCopy) → extents_meet (hull t g) (hull t h) ≡ false → rows_meet t g t h ≡ false
no_rows t g h none =
    none_below (λ r. list_any (λ s. ranges_meet (row_start t g r) (g.width * t) (row_start t h s) (h.width * t)) (below (row_count h))) (row_count g) (λ r lt.
    none_below (λ s. ranges_meet (row_start t g r) (g.width * t) (row_start t h s) (h.width * t)) (row_count h) (λ s lt'.
    false_from_ne_true _ (λ m. true≢false (sym (hulls_meet t g h r s lt lt' m) ∙ none))))

-- regions none of which overlap, by those bytes, have no rows that meet
pub no_hulls : (t : ℕ) (gs : List BufferImageCopy) → parts_overlap (map (hull t) gs) [] ≡ false → some_pair (λ g h. rows_meet t g t h) gs ≡ false
no_hulls t gs none =
    no_pair_by (λ g h. extents_meet (hull t g) (hull t h)) (λ g h. rows_meet t g t h) gs (no_rows t)
    (sym (pair_map extents_meet (hull t) gs) ∙ (or_parts (some_pair extents_meet (map (hull t) gs)) (list_any (λ w. list_any (extents_meet w) []) (map (hull t) gs)) none).0)
