-- A command that breaks no rule writes no byte twice.
use Rattle.std.proofs.Common.{◌≡◌, ℕ, ◌+◌, ◌*◌, ◌%◌, ◌<◌, ◌≤◌, List, [], ◌∷◌, ◌++◌, map, Bool, true, false, ◌&&◌, ◌==◌, not, refl, ap, sym, subst, arith, Option, Some, None}
use Rattle.std.specs.Prelude.{nat_lt}
use Rattle.std.specs.List.{list_any, flat_map}
use Rattle.std.proofs.Math.Nat.{mul-le-mul_right, add-mul}
use Rattle.std.proofs.lemmas.Nat.{div-mul-add, mod-mul-add}
use Rattle.std.specs.Prelude.{if◌then◌else◌}
use Rattle.vk_model.specs.declared.command.Cmd.{Cmd}
use Rattle.vk_model.specs.declared.command.Cmd.TheVariants as cmd
use Rattle.vk_model.specs.declared.rule.Rule.TheVariants as rule
use Rattle.vk_model.specs.Trace.Point.{Past, Point, Run}
use Rattle.vk_model.specs.Trace.Objects.{image}
use Rattle.vk_model.specs.World.Ownership.{elements_of}
use Rattle.vk_model.specs.Run.Pieces.{pieces}
use Rattle.vk_model.specs.Sync.Access.{targets, share, is_in}
use Rattle.vk_model.specs.Rules.Table.{breaks}
use Rattle.vk_model.specs.Laws.{together, write_common}
use Rattle.vk_model.proofs.Run.Pieces.{pieces_together}
use Rattle.vk_model.specs.Rules.Ranges.{is_short, regions_of, command_past, command_overlaps, transitions_meet}
use Rattle.std.proofs.lemmas.Bool.{eqb-true, eq-eqb, ltb-false, or_parts, or_from, and_from, false_from_ne_true}
use Rattle.vk_model.specs.Basics.{some_pair, below, grid}
use Rattle.vk_model.specs.Memory.Suballocation.{ranges_meet}
use Rattle.vk_model.specs.World.Bytes.{Byte, in_buffer, in_image, same_byte}
use Rattle.std.specs.List.{enumerate_from}
use Rattle.vk_model.specs.declared.command.BufferCopy.{BufferCopy}
use Rattle.vk_model.specs.Basics.{byte_of}
use Rattle.vk_model.specs.World.ByteWrites.{ByteWrite, byte_write, byte_writes, fill_size, buffer_size, Source, Value, From, copy_writes, copy_in_writes, copy_image_writes, copy_out_writes, clear_writes, clear_write, level_bytes, subresource_bytes, buffer_texel, row_texels, layer_rows}
use Rattle.vk_model.specs.declared.command.BufferImageCopy.{BufferImageCopy}
use Rattle.vk_model.specs.declared.command.ImageCopy.{ImageCopy}
use Rattle.vk_model.specs.declared.command.SubresourceRange.{SubresourceRange}
use Rattle.vk_model.specs.declared.resource.ImageInfo.{ImageInfo}
use Rattle.vk_model.specs.Trace.Image.{texel, level_width, level_height}
use Rattle.vk_model.specs.World.Areas.{Bytes, Rows, Texels, Subresources, Box, areas_meet, boxes_meet, subresources_meet, rows_meet, row_count, row_start, region_box, destination_box, region_rows, areas_written, areas_read}
use Rattle.vk_model.proofs.Lists.Pairs.{none_at, append_pairs, once_of_pairs, Each, Pairs, pairs_map, pairs_of, pairs_range, pairs_flat, pairs_of_once, each_of, each_range, each_map, each_flat, split_each}
use Rattle.vk_model.proofs.World.BytePlaces.{buffer_same, image_same, common_meets, Differ, digit_first, no_less, texels_differ, place_less, less_differs}
use Rattle.vk_model.proofs.Lists.Grids.{Less, At, grid_apart, in_grid}
use Rattle.vk_model.proofs.Lists.Truths.{clash}

-- ---- the byte writes of each command

abbrev Apart : ByteWrite → ByteWrite → Type 0
Apart m n = Differ m.to n.to

each_all : {A : Type 0} (P : A → Type 0) (xs : List A) → ((x : A) → P x) → Each P xs
each_all P [] f = tt
each_all P (x ∷ xs) f = (f x, each_all P xs f)

pairs_all : {A : Type 0} (R S : A → A → Type 0) (xs : List A) → Pairs R xs → ((x y : A) → R x y → S x y) → Pairs S xs
pairs_all R S xs p f = pairs_map R S xs f p

-- pairs of what f makes are pairs of what it's made of
each_made : {A B : Type 0} (P : B → Type 0) (f : A → B) (xs : List A) → Each P (map f xs) → Each (λ x. P (f x)) xs
each_made P f [] e = tt
each_made P f (x ∷ xs) e = (e.0, each_made P f xs e.1)

pairs_made : {A B : Type 0} (R : B → B → Type 0) (f : A → B) (xs : List A) → Pairs R (map f xs) → Pairs (λ x y. R (f x) (f y)) xs
pairs_made R f [] p = tt
pairs_made R f (x ∷ xs) p = (each_made (R (f x)) f xs p.0, pairs_made R f xs p.1)

fill_apart : (b o n w : ℕ) → Pairs Apart (map (λ k. byte_write (in_buffer b (o + k)) (Value (byte_of w (k % 4)))) (below n))
fill_apart b o n w = pairs_of Apart _ (below n) (pairs_range _ 0 n (λ i j lt high. less_differs b (o + i) (o + j) (omega arith)))

numbered_later : {A : Type 0} (a : ℕ) (xs : List A) (low : ℕ) → low < a → Each (λ (q : ℕ × A). low < q.0) (enumerate_from a xs)
numbered_later a [] low lt = tt
numbered_later a (x ∷ xs) low lt = (lt, numbered_later (a + 1) xs low (omega arith))

numbered_pairs : {A : Type 0} (a : ℕ) (xs : List A) → Pairs (λ (p q : ℕ × A). p.0 < q.0) (enumerate_from a xs)
numbered_pairs a [] = tt
numbered_pairs a (x ∷ xs) = (numbered_later (a + 1) xs a (omega arith), numbered_pairs (a + 1) xs)

update_apart : (b o : ℕ) (bytes : List ℕ) → Pairs Apart (map (λ p. byte_write (in_buffer b (o + p.0)) (Value p.1)) (enumerate_from 0 bytes))
update_apart b o bytes = pairs_of Apart _ (enumerate_from 0 bytes) (pairs_all _ _ (enumerate_from 0 bytes) (numbered_pairs 0 bytes) (λ p q lt. less_differs b (o + p.0) (o + q.0) (omega arith)))

-- ---- copies between buffers

abbrev IsCopied : ℕ → BufferCopy → ByteWrite → Type 0
IsCopied d g m = (k : ℕ) × (k < g.size) × (m.to ≡ in_buffer d (g.destination_offset + k))

copied_each : (s d : ℕ) (g : BufferCopy) → Each (IsCopied d g) (copy_writes s d g)
copied_each s d g = each_of (IsCopied d g) _ (below g.size) (each_range _ 0 g.size (λ k low high. (k, omega arith, refl)))

copied_apart : (d : ℕ) (g h : BufferCopy) (m n : ByteWrite) → areas_meet (Bytes d g.destination_offset g.size) (Bytes d h.destination_offset h.size) ≡ false → IsCopied d g m → IsCopied d h n → Apart m n
copied_apart d g h m n meet at at' = false_from_ne_true (same_byte m.to n.to) (λ e.
    let e' : same_byte (in_buffer d (g.destination_offset + at.0)) (in_buffer d (h.destination_offset + at'.0)) ≡ true = rw (at.2, at'.2) at e in
    let same = (buffer_same d (g.destination_offset + at.0) d (h.destination_offset + at'.0) e').1 in
    let together = common_meets g.destination_offset g.size h.destination_offset h.size (g.destination_offset + at.0) (omega arith) (let lt = at.1 in omega arith) (omega arith) (let lt = at'.1 in omega arith) in
    clash (and_from (d == d) (ranges_meet g.destination_offset g.size h.destination_offset h.size) (eq-eqb d d refl) together) meet)

copy_apart : (s d : ℕ) (gs : List BufferCopy) → some_pair areas_meet (map (λ g. Bytes d g.destination_offset g.size) gs) ≡ false → Pairs Apart (flat_map (copy_writes s d) gs)
copy_apart s d gs none =
    pairs_flat Apart (copy_writes s d) (IsCopied d) gs
    (each_all _ gs (λ g. pairs_of Apart _ (below g.size) (pairs_range _ 0 g.size (λ i j lt high. less_differs d (g.destination_offset + i) (g.destination_offset + j) (omega arith)))))
    (each_all _ gs (copied_each s d))
    (pairs_all _ _ gs (pairs_made _ (λ g. Bytes d g.destination_offset g.size) gs (pairs_of_once areas_meet _ none)) (λ g h meet. λ m n at at'. copied_apart d g h m n meet at at'))

-- ---- boxes of texels

pub record InBox (i : ℕ) (k : Box) (b : Byte) : Type 0 where
  pub z : ℕ
  pub y : ℕ
  pub x : ℕ
  pub part : ℕ
  pub low_z : z < k.layers
  pub low_y : y < k.height
  pub low_x : x < k.width
  pub is : b ≡ in_image i k.level (k.first_layer + z) (k.x + x) (k.y + y) part

boxes_apart : (i : ℕ) (k l : Box) (b c : Byte) → areas_meet (Texels i k) (Texels i l) ≡ false → InBox i k b → InBox i l c → Differ b c
boxes_apart i k l b c meet at at' = false_from_ne_true (same_byte b c) (λ e.
    let e' : same_byte (in_image i k.level (k.first_layer + at.z) (k.x + at.x) (k.y + at.y) at.part) (in_image i l.level (l.first_layer + at'.z) (l.x + at'.x) (l.y + at'.y) at'.part) ≡ true = rw (at.is, at'.is) at e in
    let s = image_same i k.level (k.first_layer + at.z) (k.x + at.x) (k.y + at.y) at.part i l.level (l.first_layer + at'.z) (l.x + at'.x) (l.y + at'.y) at'.part e' in
    let layers = common_meets k.first_layer k.layers l.first_layer l.layers (k.first_layer + at.z) (omega arith) (let h = at.low_z in omega arith) (let h = s.layer in omega arith) (let h = s.layer in let h' = at'.low_z in omega arith) in
    let xs = common_meets k.x k.width l.x l.width (k.x + at.x) (omega arith) (let h = at.low_x in omega arith) (let h = s.x_is in omega arith) (let h = s.x_is in let h' = at'.low_x in omega arith) in
    let ys = common_meets k.y k.height l.y l.height (k.y + at.y) (omega arith) (let h = at.low_y in omega arith) (let h = s.y_is in omega arith) (let h = s.y_is in let h' = at'.low_y in omega arith) in
    clash (and_from (i == i) (boxes_meet k l) (eq-eqb i i refl) (and_from _ _ (and_from _ _ (and_from _ _ (eq-eqb k.level l.level s.level) layers) xs) ys)) meet)

-- a grid of byte writes to the texels of a box
module _ (i : ℕ) (k : Box) (t : ℕ) (source : ℕ → ℕ → ℕ → ℕ → Source) where
  abbrev box_write : ℕ → ℕ → ℕ → ℕ → ByteWrite
  box_write z y x p = byte_write (in_image i k.level (k.first_layer + z) (k.x + x) (k.y + y) p) (source z y x p)

  box_each : Each (λ m. InBox i k m.to) (grid k.layers k.height k.width t box_write)
  box_each = each_map (At box_write k.layers k.height k.width t) (λ m. InBox i k m.to) (grid k.layers k.height k.width t box_write)
      (λ m at. record { z = at.z; y = at.y; x = at.x; part = at.k; low_z = at.low_z; low_y = at.low_y; low_x = at.low_x; is = ap (λ (n : ByteWrite). n.to) at.is }) (in_grid box_write k.layers k.height k.width t)

  box_own : Pairs Apart (grid k.layers k.height k.width t box_write)
  box_own = grid_apart Apart box_write k.layers k.height k.width t
      (λ z y x p z' y' x' p' lz lz' ly ly' lx lx' lk lk' less. texels_differ i k.level k.first_layer k.x k.y z y x p z' y' x' p' less)

-- regions whose boxes don't meet
regions_apart : {A : Type 0} (i : ℕ) (box : A → Box) (f : A → List ByteWrite) (gs : List A) → ((g : A) → Pairs Apart (f g)) → ((g : A) → Each (λ m. InBox i (box g) m.to) (f g))
    → some_pair areas_meet (map (λ g. Texels i (box g)) gs) ≡ false → Pairs Apart (flat_map f gs)
regions_apart i box f gs own known none =
    pairs_flat Apart f (λ g m. InBox i (box g) m.to) gs (each_all _ gs own) (each_all _ gs known)
    (pairs_all _ _ gs (pairs_made _ (λ g. Texels i (box g)) gs (pairs_of_once areas_meet _ none)) (λ g h meet. λ m n at at'. boxes_apart i (box g) (box h) m.to n.to meet at at'))

copy_in_own : (b i : ℕ) (o : Option ImageInfo) (g : BufferImageCopy) → Pairs Apart (copy_in_writes b i o g)
copy_in_own b i None g = tt
copy_in_own b i (Some m) g = box_own i (region_box g) (texel m.format) (λ z y x k. From (in_buffer b (buffer_texel g (texel m.format) z y x k)))

copy_in_each : (b i : ℕ) (o : Option ImageInfo) (g : BufferImageCopy) → Each (λ m. InBox i (region_box g) m.to) (copy_in_writes b i o g)
copy_in_each b i None g = tt
copy_in_each b i (Some m) g = box_each i (region_box g) (texel m.format) (λ z y x k. From (in_buffer b (buffer_texel g (texel m.format) z y x k)))

copy_image_own : (s d : ℕ) (o : Option ImageInfo) (g : ImageCopy) → Pairs Apart (copy_image_writes s d o g)
copy_image_own s d None g = tt
copy_image_own s d (Some m) g = box_own d (destination_box g) (texel m.format) (λ z y x k. From (in_image s g.source_level (g.source_first_layer + z) (g.source_x + x) (g.source_y + y) k))

copy_image_each : (s d : ℕ) (o : Option ImageInfo) (g : ImageCopy) → Each (λ m. InBox d (destination_box g) m.to) (copy_image_writes s d o g)
copy_image_each s d None g = tt
copy_image_each s d (Some m) g = box_each d (destination_box g) (texel m.format) (λ z y x k. From (in_image s g.source_level (g.source_first_layer + z) (g.source_x + x) (g.source_y + y) k))

-- ---- clears

plain_differ : (i level l : ℕ) (z y x k z' y' x' k' : ℕ) → Less z y x k z' y' x' k' → Differ (in_image i level (l + z) x y k) (in_image i level (l + z') x' y' k')
plain_differ i level l z y x k z' y' x' k' less = false_from_ne_true (same_byte (in_image i level (l + z) x y k) (in_image i level (l + z') x' y' k')) (λ e.
    let s = image_same i level (l + z) x y k i level (l + z') x' y' k' e in
    no_less z y x k z' y' x' k' (let h = s.layer in omega arith) s.y_is s.x_is s.part less)

pub record InLevel (i : ℕ) (r : SubresourceRange) (level : ℕ) (b : Byte) : Type 0 where
  pub z : ℕ
  pub y : ℕ
  pub x : ℕ
  pub part : ℕ
  pub low_z : z < r.layers
  pub is : b ≡ in_image i level (r.first_layer + z) x y part

pub record InRange (i : ℕ) (r : SubresourceRange) (b : Byte) : Type 0 where
  pub step : ℕ
  pub low : step < r.levels
  pub inside : InLevel i r (r.first_level + step) b

abbrev First : Byte × ℕ → Byte × ℕ → Type 0
First p q = Differ p.0 q.0

levels_apart : (i : ℕ) (r s : SubresourceRange) (a c : ℕ) (b d : Byte) → (a ≡ c → (l : ℕ) → r.first_layer ≤ l → l < r.first_layer + r.layers → s.first_layer ≤ l → l < s.first_layer + s.layers → ⊥)
    → InLevel i r a b → InLevel i s c d → Differ b d
levels_apart i r s a c b d never at at' = false_from_ne_true (same_byte b d) (λ e.
    let e' : same_byte (in_image i a (r.first_layer + at.z) at.x at.y at.part) (in_image i c (s.first_layer + at'.z) at'.x at'.y at'.part) ≡ true = rw (at.is, at'.is) at e in
    let h = image_same i a (r.first_layer + at.z) at.x at.y at.part i c (s.first_layer + at'.z) at'.x at'.y at'.part e' in
    let same = h.layer in let low = at.low_z in let low' = at'.low_z in
    never h.level (r.first_layer + at.z) (omega arith) (omega arith) (omega arith) (omega arith))

module _ (i : ℕ) (m : ImageInfo) (r : SubresourceRange) where
  level_each : (level : ℕ) → Each (λ p. InLevel i r level p.0) (level_bytes i m r level)
  level_each level =
      each_map (At _ r.layers (level_height m level) (level_width m level) (texel m.format)) (λ (p : Byte × ℕ). InLevel i r level p.0) (level_bytes i m r level)
      (λ p at. record { z = at.z; y = at.y; x = at.x; part = at.k; low_z = at.low_z; is = ap (λ (q : Byte × ℕ). q.0) at.is })
      (in_grid _ r.layers (level_height m level) (level_width m level) (texel m.format))

  level_own : (level : ℕ) → Pairs First (level_bytes i m r level)
  level_own level = grid_apart First _ r.layers (level_height m level) (level_width m level) (texel m.format)
      (λ z y x p z' y' x' p' lz lz' ly ly' lx lx' lk lk' less. plain_differ i level r.first_layer z y x p z' y' x' p' less)

  range_own : Pairs First (subresource_bytes i m r)
  range_own =
      pairs_flat First (λ k. level_bytes i m r (r.first_level + k)) (λ k p. InLevel i r (r.first_level + k) p.0) (below r.levels)
      (each_all _ (below r.levels) (λ k. level_own (r.first_level + k)))
      (each_all _ (below r.levels) (λ k. level_each (r.first_level + k)))
      (pairs_range _ 0 r.levels (λ k l lt high. λ p q at at'. levels_apart i r r (r.first_level + k) (r.first_level + l) p.0 q.0 (λ same j a b c d. let h : r.first_level + k ≡ r.first_level + l = same in omega arith) at at'))

  range_each : Each (λ p. InRange i r p.0) (subresource_bytes i m r)
  range_each = each_flat _ (λ k. level_bytes i m r (r.first_level + k)) (below r.levels)
      (each_range _ 0 r.levels (λ k low high. each_map (λ (p : Byte × ℕ). InLevel i r (r.first_level + k) p.0) (λ (p : Byte × ℕ). InRange i r p.0) (level_bytes i m r (r.first_level + k)) (λ p at. record { step = k; low = omega arith; inside = at }) (level_each (r.first_level + k))))

clear_own : (i : ℕ) (color : List ℕ) (o : Option ImageInfo) (r : SubresourceRange) → Pairs Apart (clear_writes i color o r)
clear_own i color None r = tt
clear_own i color (Some m) r = pairs_of Apart (clear_write m color) (subresource_bytes i m r) (range_own i m r)

clear_each : (i : ℕ) (color : List ℕ) (o : Option ImageInfo) (r : SubresourceRange) → Each (λ m. InRange i r m.to) (clear_writes i color o r)
clear_each i color None r = tt
clear_each i color (Some m) r = each_of (λ (n : ByteWrite). InRange i r n.to) (clear_write m color) (subresource_bytes i m r) (range_each i m r)

ranges_apart : (i : ℕ) (r s : SubresourceRange) (b c : Byte) → areas_meet (Subresources i r) (Subresources i s) ≡ false → InRange i r b → InRange i s c → Differ b c
ranges_apart i r s b c meet at at' =
    levels_apart i r s (r.first_level + at.step) (s.first_level + at'.step) b c
    (λ same l a1 a2 b1 b2.
    let low = at.low in let low' = at'.low in
    let h : r.first_level + at.step ≡ s.first_level + at'.step = same in
    let levels = common_meets r.first_level r.levels s.first_level s.levels (r.first_level + at.step) (omega arith) (omega arith) (omega arith) (omega arith) in
    let layers = common_meets r.first_layer r.layers s.first_layer s.layers l a1 a2 b1 b2 in
    clash (and_from (i == i) (subresources_meet r s) (eq-eqb i i refl) (and_from _ _ levels layers)) meet)
    at.inside at'.inside

clear_apart : (i : ℕ) (color : List ℕ) (o : Option ImageInfo) (rs : List SubresourceRange) → some_pair areas_meet (map (Subresources i) rs) ≡ false → Pairs Apart (flat_map (clear_writes i color o) rs)
clear_apart i color o rs none =
    pairs_flat Apart (clear_writes i color o) (λ r m. InRange i r m.to) rs (each_all _ rs (clear_own i color o)) (each_all _ rs (clear_each i color o))
    (pairs_all _ _ rs (pairs_made _ (Subresources i) rs (pairs_of_once areas_meet _ none)) (λ r s meet. λ m n at at'. ranges_apart i r s m.to n.to meet at at'))

-- ---- copies from images to buffers

-- a region whose rows and layers don't run into each other
pub record IsLong (g : BufferImageCopy) : Type 0 where
  pub rows : g.width ≤ row_texels g
  pub layers : g.height ≤ layer_rows g

steps : (given size : ℕ) → (not (given == 0) && nat_lt given size) ≡ false → size ≤ (if given == 0 then size else given)
steps given size e = go (given == 0) refl e
  where
    go : (t : Bool) → (given == 0) ≡ t → (not t && nat_lt given size) ≡ false → size ≤ (if t then size else given)
    go true is e = omega arith
    go false is e = ltb-false given size e

is_long : (g : BufferImageCopy) → is_short g ≡ false → IsLong g
is_long g e = record {
  rows = steps g.row_length g.width (or_parts _ _ e).0;
  layers = steps g.image_height g.height (or_parts (not (g.row_length == 0) && nat_lt g.row_length g.width) _ e).1;
}

-- a byte of a region in the buffer
pub record InRegion (b t : ℕ) (g : BufferImageCopy) (byte : Byte) : Type 0 where
  pub z : ℕ
  pub y : ℕ
  pub x : ℕ
  pub part : ℕ
  pub low_z : z < g.layers
  pub low_y : y < g.height
  pub low_x : x < g.width
  pub low_part : part < t
  pub is : byte ≡ in_buffer b (buffer_texel g t z y x part)

region_each : (i b : ℕ) (m : ImageInfo) (g : BufferImageCopy) → Each (λ n. InRegion b (texel m.format) g n.to) (copy_out_writes i b (Some m) g)
region_each i b m g =
    each_map (At _ g.layers g.height g.width (texel m.format)) (λ (n : ByteWrite). InRegion b (texel m.format) g n.to) (copy_out_writes i b (Some m) g)
    (λ n at. record { z = at.z; y = at.y; x = at.x; part = at.k; low_z = at.low_z; low_y = at.low_y; low_x = at.low_x; low_part = at.low_k; is = ap (λ (k : ByteWrite). k.to) at.is })
    (in_grid _ g.layers g.height g.width (texel m.format))

region_own : (i b : ℕ) (m : ImageInfo) (g : BufferImageCopy) → IsLong g → Pairs Apart (copy_out_writes i b (Some m) g)
region_own i b m g long = grid_apart Apart _ g.layers g.height g.width (texel m.format)
    (λ z y x p z' y' x' p' lz lz' ly ly' lx lx' lk lk' less.
    let rows = long.rows in let layers = long.layers in
    less_differs b (buffer_texel g (texel m.format) z y x p) (buffer_texel g (texel m.format) z' y' x' p')
    (place_less g.buffer_offset (texel m.format) (layer_rows g) (row_texels g) z y x p z' y' x' p' (omega arith) (omega arith) lk less))

-- the row of a byte, and where in it the byte is
module _ (t : ℕ) (g : BufferImageCopy) (z y x part : ℕ) (low_z : z < g.layers) (low_y : y < g.height) (low_x : x < g.width) (low_part : part < t) where
  abbrev row_of : ℕ
  row_of = z * g.height + y

  row_low : row_of < row_count g
  row_low = go (g.width == 0) refl
    where
      go : (b : Bool) → (g.width == 0) ≡ b → row_of < (if b then 0 else g.layers * g.height)
      go true is = absurd (let none : g.width ≡ 0 = eqb-true g.width 0 is in omega arith)
      go false is = let d = digit_first z g.layers g.height y 0 low_z low_y in omega arith

  row_begins : row_start t g row_of ≡ buffer_texel g t z y 0 0
  row_begins = rw (div-mul-add z g.height y low_y, mod-mul-add z g.height y low_y) refl

  low_in_row : row_start t g row_of ≤ buffer_texel g t z y x part
  low_in_row =
      let line : ℕ = (z * layer_rows g + y) * row_texels g in
      let le : (line + 0) * t ≤ (line + x) * t = mul-le-mul_right t (let h : line + 0 ≤ line + x = omega arith in h) in
      rw row_begins (omega arith)

  high_in_row : buffer_texel g t z y x part < row_start t g row_of + g.width * t
  high_in_row =
      let line : ℕ = (z * layer_rows g + y) * row_texels g in
      let d = digit_first x g.width t part 0 low_x low_part in
      let e : (line + x) * t ≡ line * t + x * t = add-mul line x t in
      let f : (line + 0) * t ≡ line * t = ap (λ (n : ℕ). n * t) (let h : line + 0 ≡ line = omega arith in h) in
      rw row_begins (omega arith)

rows_apart : (b t : ℕ) (g h : BufferImageCopy) (m n : Byte) → areas_meet (Rows b t g) (Rows b t h) ≡ false → InRegion b t g m → InRegion b t h n → Differ m n
rows_apart b t g h m n meet at at' = false_from_ne_true (same_byte m n) (λ e.
    let e' : same_byte (in_buffer b (buffer_texel g t at.z at.y at.x at.part)) (in_buffer b (buffer_texel h t at'.z at'.y at'.x at'.part)) ≡ true = rw (at.is, at'.is) at e in
    let same = (buffer_same b (buffer_texel g t at.z at.y at.x at.part) b (buffer_texel h t at'.z at'.y at'.x at'.part) e').1 in
    let r : ℕ = row_of t g at.z at.y at.x at.part at.low_z at.low_y at.low_x at.low_part in
    let s : ℕ = row_of t h at'.z at'.y at'.x at'.part at'.low_z at'.low_y at'.low_x at'.low_part in
    let none : rows_meet t g t h ≡ false = off_diagonal (b == b) (rows_meet t g t h) (eq-eqb b b refl) meet in
    let at_r = none_at (λ r. list_any (λ s. ranges_meet (row_start t g r) (g.width * t) (row_start t h s) (h.width * t)) (below (row_count h))) 0 (row_count g) r none (omega arith)
    (let low = row_low t g at.z at.y at.x at.part at.low_z at.low_y at.low_x at.low_part in omega arith) in
    let at_s = none_at (λ s. ranges_meet (row_start t g r) (g.width * t) (row_start t h s) (h.width * t)) 0 (row_count h) s at_r (omega arith)
    (let low = row_low t h at'.z at'.y at'.x at'.part at'.low_z at'.low_y at'.low_x at'.low_part in omega arith) in
    let l = low_in_row t g at.z at.y at.x at.part at.low_z at.low_y at.low_x at.low_part in
    let u = high_in_row t g at.z at.y at.x at.part at.low_z at.low_y at.low_x at.low_part in
    let l' = low_in_row t h at'.z at'.y at'.x at'.part at'.low_z at'.low_y at'.low_x at'.low_part in
    let u' = high_in_row t h at'.z at'.y at'.x at'.part at'.low_z at'.low_y at'.low_x at'.low_part in
    clash (common_meets (row_start t g r) (g.width * t) (row_start t h s) (h.width * t) (buffer_texel g t at.z at.y at.x at.part) l u (rw same l') (rw same u')) at_s)
  where
    off_diagonal : (a c : Bool) → a ≡ true → (a && c) ≡ false → c ≡ false
    off_diagonal true c e f = f
    off_diagonal false c e f = absurd cc

copy_out_apart : (i b : ℕ) (m : ImageInfo) (gs : List BufferImageCopy) → Each IsLong gs → some_pair areas_meet (map (Rows b (texel m.format)) gs) ≡ false → Pairs Apart (flat_map (copy_out_writes i b (Some m)) gs)
copy_out_apart i b m gs long none =
    pairs_flat Apart (copy_out_writes i b (Some m)) (λ g n. InRegion b (texel m.format) g n.to) gs
    (each_map IsLong _ gs (λ g l. region_own i b m g l) long)
    (each_all _ gs (region_each i b m))
    (pairs_all _ _ gs (pairs_made _ (Rows b (texel m.format)) gs (pairs_of_once areas_meet _ none)) (λ g h meet. λ x y at at'. rows_apart b (texel m.format) g h x.to y.to meet at at'))

-- ---- commands that break no rule

no_parts : (past : Past) (i b : ℕ) (gs : List BufferImageCopy) → Each IsLong gs → some_pair areas_meet (region_rows past b i gs) ≡ false → Pairs Apart (flat_map (copy_out_writes i b (image past i)) gs)
no_parts past i b gs long none = go (image past i) refl none
  where
    nothing : (gs : List BufferImageCopy) → Pairs Apart (flat_map (copy_out_writes i b None) gs)
    nothing [] = tt
    nothing (g ∷ gs) = nothing gs

    go : (o : Option ImageInfo) → image past i ≡ o → some_pair areas_meet (elim o [ None ↦ [] | Some m ↦ map (Rows b (texel m.format)) gs ]) ≡ false → Pairs Apart (flat_map (copy_out_writes i b o) gs)
    go None is e = nothing gs
    go (Some m) is e = copy_out_apart i b m gs long e

each_long : (gs : List BufferImageCopy) → list_any is_short gs ≡ false → Each IsLong gs
each_long [] e = tt
each_long (g ∷ gs) e = (is_long g (or_parts (is_short g) (list_any is_short gs) e).0, each_long gs (or_parts (is_short g) (list_any is_short gs) e).1)

pub writes_apart : (past : Past) (c : Cmd) → some_pair areas_meet (areas_written past c) ≡ false → list_any is_short (regions_of c) ≡ false → Pairs Apart (byte_writes past c)
writes_apart past (cmd.Fill b o n w) none short = fill_apart b o (fill_size (buffer_size past b) o n) w
writes_apart past (cmd.Update b o bytes) none short = update_apart b o bytes
writes_apart past (cmd.Copy s d gs) none short = copy_apart s d gs none
writes_apart past (cmd.Clear i l color rs) none short = clear_apart i color (image past i) rs none
writes_apart past (cmd.CopyIn b i l gs) none short = regions_apart i region_box (copy_in_writes b i (image past i)) gs (copy_in_own b i (image past i)) (copy_in_each b i (image past i)) none
writes_apart past (cmd.CopyOut i l b gs) none short = no_parts past i b gs (each_long gs short) none
writes_apart past (cmd.CopyImage s l d m gs) none short = regions_apart d destination_box (copy_image_writes s d (image past d)) gs (copy_image_own s d (image past d)) (copy_image_each s d (image past d)) none
writes_apart past (cmd.Barrier es) none short = tt
writes_apart past (cmd.Set v ms) none short = tt
writes_apart past (cmd.Await v ms) none short = tt

-- ---- and so the pieces of a command

-- no byte of one list of byte writes is one of the other's
shares_none : (xs ys : List ByteWrite) → Each (λ m. Each (Apart m) ys) xs → share (targets xs) (targets ys) ≡ false
shares_none [] ys e = refl
shares_none (m ∷ xs) ys e = or_from (is_in m.to (targets ys)) (share (targets xs) (targets ys)) (in_none m ys e.0) (shares_none xs ys e.1)
  where
    in_none : (m : ByteWrite) (ys : List ByteWrite) → Each (Apart m) ys → is_in m.to (targets ys) ≡ false
    in_none m [] e = refl
    in_none m (n ∷ ys) e = or_from (same_byte m.to n.to) (is_in m.to (targets ys)) e.0 (in_none m ys e.1)

one_by_one : (xs : List ByteWrite) (ps : List (List ByteWrite)) → Each (λ m. Each (Apart m) (together ps)) xs → Each (λ p. share (targets xs) (targets p) ≡ false) ps
one_by_one xs [] e = tt
one_by_one xs (p ∷ ps) e = (
  shares_none xs p (each_map (λ m. Each (Apart m) (p ++ together ps)) (λ m. Each (Apart m) p) xs (λ m h. (split_each (Apart m) p (together ps) h).0) e),
  one_by_one xs ps (each_map (λ m. Each (Apart m) (p ++ together ps)) (λ m. Each (Apart m) (together ps)) xs (λ m h. (split_each (Apart m) p (together ps) h).1) e),
)

pieces_pairs : (ps : List (List ByteWrite)) → Pairs Apart (together ps) → Pairs (λ p q. share (targets p) (targets q) ≡ false) ps
pieces_pairs [] e = tt
pieces_pairs (p ∷ ps) e = let rest = append_pairs Apart p (together ps) e in (one_by_one p ps rest.1, pieces_pairs ps rest.0)

overlap_false : (past : Past) (p : Point) (c : Cmd) → p.action ≡ Run c → breaks rule.Overlap past p ≡ false → some_pair areas_meet (areas_written past c) ≡ false
unfolding breaks
overlap_false past p c is e =
    let whole : command_overlaps past c ≡ false = rw is at e in
    (or_parts _ (list_any (λ w. list_any (areas_meet w) (areas_read past c)) (areas_written past c)) (or_parts _ (some_pair transitions_meet (elements_of c)) whole).0).0

range_false : (past : Past) (p : Point) (c : Cmd) → p.action ≡ Run c → breaks rule.Range past p ≡ false → list_any is_short (regions_of c) ≡ false
unfolding breaks
range_false past p c is e =
    let whole : command_past past c ≡ false = rw is at e in (or_parts _ (list_any is_short (regions_of c)) whole).1

pub write_apart : (past : Past) (p : Point) (c : Cmd) → p.action ≡ Run c → breaks rule.Overlap past p ≡ false → breaks rule.Range past p ≡ false → some_pair write_common (pieces past c) ≡ false
write_apart past p c is overlap range =
    let apart : Pairs Apart (byte_writes past c) = writes_apart past c (overlap_false past p c is overlap) (range_false past p c is range) in
    once_of_pairs write_common (pieces past c) (pieces_pairs (pieces past c) (subst (λ (ms : List ByteWrite). Pairs Apart ms) (sym (pieces_together past c)) apart))
