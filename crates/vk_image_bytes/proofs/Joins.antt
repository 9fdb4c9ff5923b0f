-- Copies that follow each other, as one.
use Rattle.std.proofs.Common.{◌≡◌, ℕ, zero, suc, ◌+◌, ◌-◌, ◌*◌, ◌/◌, ◌%◌, ◌^◌, ◌<◌, List, [], ◌∷◌, ◌++◌, map, refl, ap, sym, subst, ◌∙◌, arith, append_assoc, append-nil}
use Rattle.std.specs.Prelude.{All}
use Rattle.std.specs.List.{flat_map, range_with_len}
use Rattle.std.proofs.lemmas.Grind.{flat_map-append}
use Rattle.std.proofs.lemmas.List.{map-append}
use Rattle.std.proofs.lemmas.List.Elements.{All-nil, All-cons, All-head, All-tail, All-contains}
use Rattle.std.proofs.lemmas.List.FromFn.{map-range_with_len_more}
use Rattle.std.proofs.lemmas.Nat.{div-add-mod'}
use Rattle.vk_model.specs.declared.command.BufferCopy.{BufferCopy}
use Rattle.vk_model.specs.Basics.{below}
use Rattle.vk_model.specs.World.Bytes.{Byte}
use Rattle.vk_model.specs.World.ByteWrites.{ByteWrite, byte_write, From}
use Rattle.vk_model.proofs.Lists.Members.{map_has}
use Rattle.vk_model.proofs.Lists.Rows.{range_append, mapped_rows, map_shifted, map_below, flat_same, flat_more, flat_mapped}
use Rattle.vk_image_bytes.specs.declared.joining.Copies.{Copies}
use Rattle.vk_image_bytes.specs.declared.rows.Places.{Places}
use Rattle.vk_image_bytes.specs.declared.rows.Rows.{Rows}
use Rattle.vk_image_bytes.specs.Copies.{numbered_writes}
use Rattle.vk_image_bytes.specs.Inner.Rows.{LiesWithin, gathered, AreAdded, RowsFit, place_at, row_copy, layer_copies}
use Rattle.vk_model.proofs.Lists.Grids.{below_has}

-- ---- byte writes of ranges

abbrev pub copy_of : (source destination size : ℕ) → BufferCopy
copy_of source destination size = record { source_offset = source; destination_offset = destination; size = size }

module _ (from to : ℕ → Byte) where
  -- the write of the byte that is so many from the first one
  abbrev write : (source destination : ℕ) → ℕ → ByteWrite
  write source destination k = byte_write (to (destination + k)) (From (from (source + k)))

  -- of a range that is cut in two
  pub joined_writes : (source destination a b : ℕ) → numbered_writes from to (copy_of source destination (a + b)) ≡ numbered_writes from to (copy_of source destination a) ++ numbered_writes from to (copy_of (source + a) (destination + a) b)
  joined_writes source destination a b =
      ap (λ (l : List ℕ). map (write source destination) l) (range_append 0 a b) ∙ map-append (write source destination) (below a) (range_with_len (0 + a) b)
      ∙ ap (λ (l : List ByteWrite). map (write source destination) (below a) ++ l) (map_shifted (write source destination) (write (source + a) (destination + a)) (0 + a) 0 b moved)
    where
      moved : (k : ℕ) → k < b → write source destination (0 + a + k) ≡ write (source + a) (destination + a) (0 + k)
      moved k lt = let one : source + (0 + a + k) ≡ source + a + (0 + k) = omega arith in let other : destination + (0 + a + k) ≡ destination + a + (0 + k) = omega arith in rw (one, other) refl

  -- rows that lie together are one range
  pub stacked_writes : (source destination n h : ℕ) → flat_map (λ y. numbered_writes from to (copy_of (source + y * n) (destination + y * n) n)) (below h) ≡ numbered_writes from to (copy_of source destination (h * n))
  stacked_writes source destination n h = mapped_rows (λ y q. write (source + y * n) (destination + y * n) q) h n ∙ map_below (λ k. write (source + k / n * n) (destination + k / n * n) (k % n)) (write source destination) (h * n) same
    where
      same : (k : ℕ) → k < h * n → write (source + k / n * n) (destination + k / n * n) (k % n) ≡ write source destination k
      same k lt =
          let whole = div-add-mod' k n in
          let one : source + k / n * n + k % n ≡ source + k = omega arith in
          let other : destination + k / n * n + k % n ≡ destination + k = omega arith in
          rw (one, other) refl

-- ---- what is added

split_all : {X : Type 0} (P : X → Type 0) (xs ys : List X) → All P (xs ++ ys) → All P xs × All P ys
split_all P [] ys a = (All-nil P, a)
split_all P (x ∷ xs) ys a = let rest = split_all P xs ys (All-tail P x (xs ++ ys) a) in (All-cons P x xs (All-head P x (xs ++ ys) a) rest.0, rest.1)

pub more_added : (a b c : Copies) (gs hs : List BufferCopy) → AreAdded a b gs → AreAdded b c hs → AreAdded a c (gs ++ hs)
more_added a b c gs hs first second = record {
  writes = λ from to.
      second.writes from to ∙ ap (λ l. l ++ flat_map (numbered_writes from to) hs) (first.writes from to) ∙ append_assoc (gathered a from to) (flat_map (numbered_writes from to) gs) (flat_map (numbered_writes from to) hs)
      ∙ ap (λ l. gathered a from to ++ l) (sym (flat_map-append (numbered_writes from to) gs hs));
  within = λ s d both all. (let parts = split_all (LiesWithin s d) gs hs both in second.within s d parts.1 (first.within s d parts.0 all));
}

-- one row more of a layer
pub row_added : (a b c : Copies) (r : Rows) (z n : ℕ) (copy : BufferCopy) → copy ≡ row_copy r z n → AreAdded a b (map (row_copy r z) (below n)) → AreAdded b c (copy ∷ []) → AreAdded a c (map (row_copy r z) (below (n + 1)))
row_added a b c r z n copy is first second =
    subst (λ (gs : List BufferCopy). AreAdded a c gs) (sym (map-range_with_len_more (row_copy r z) 0 n n (omega arith)))
    (more_added a b c (map (row_copy r z) (below n)) (row_copy r z n ∷ []) first (subst (λ (g : BufferCopy). AreAdded b c (g ∷ [])) is second))

-- one layer more
pub layer_added : (a b c : Copies) (r : Rows) (n : ℕ) → AreAdded a b (flat_map (layer_copies r) (below n)) → AreAdded b c (layer_copies r n) → AreAdded a c (flat_map (layer_copies r) (below (n + 1)))
layer_added a b c r n first second = subst (λ (gs : List BufferCopy). AreAdded a c gs) (sym (flat_more (layer_copies r) n)) (more_added a b c (flat_map (layer_copies r) (below n)) (layer_copies r n) first second)

-- a layer whose rows lie together is as one copy
pub whole_layer_added : (a b : Copies) (r : Rows) (z : ℕ) (copy : BufferCopy) → r.source.row ≡ r.size → r.destination.row ≡ r.size → RowsFit r
    → copy ≡ copy_of (place_at r.source z 0) (place_at r.destination z 0) (r.height * r.size) → AreAdded a b (copy ∷ []) → AreAdded a b (layer_copies r z)
whole_layer_added a b r z copy source destination fit is added = record {
  writes = λ from to. added.writes from to ∙ ap (λ l. gathered a from to ++ l) (append-nil (numbered_writes from to copy) ∙ ap (numbered_writes from to) is ∙ sym (stacked from to));
  within = λ s d all old. added.within s d (All-cons (LiesWithin s d) copy [] (subst (λ (g : BufferCopy). LiesWithin s d g) (sym is) (last s d all)) (All-nil (LiesWithin s d))) old;
}
  where
    at : (p : Places) (y : ℕ) → p.row ≡ r.size → place_at p z y ≡ place_at p z 0 + y * r.size
    at p y e = omega (arith, ap (λ (n : ℕ). y * n) e)

    stacked : (from to : ℕ → Byte) → flat_map (numbered_writes from to) (layer_copies r z) ≡ numbered_writes from to (copy_of (place_at r.source z 0) (place_at r.destination z 0) (r.height * r.size))
    stacked from to =
        flat_mapped (numbered_writes from to) (row_copy r z) (below r.height)
        ∙ flat_same (λ y. numbered_writes from to (row_copy r z y)) (λ y. numbered_writes from to (copy_of (place_at r.source z 0 + y * r.size) (place_at r.destination z 0 + y * r.size) r.size)) (below r.height)
        (λ y. rw (at r.source y source, at r.destination y destination) refl)
        ∙ stacked_writes from to (place_at r.source z 0) (place_at r.destination z 0) r.size r.height

    last : (s d : ℕ) → All (LiesWithin s d) (layer_copies r z) → LiesWithin s d (copy_of (place_at r.source z 0) (place_at r.destination z 0) (r.height * r.size))
    last s d all =
        let y : ℕ = r.height - 1 in
        let row = All-contains (LiesWithin s d) (layer_copies r z) (row_copy r z y) all (map_has (row_copy r z) (below r.height) y (below_has r.height y (omega (arith, fit.some)))) in
        let whole : r.height * r.size ≡ y * r.size + r.size = one_less r.height r.size fit.some in
        record { reads = omega (arith, row.reads, at r.source y source, whole); writes = omega (arith, row.writes, at r.destination y destination, whole) }
      where
        one_less : (h n : ℕ) → 0 < h → h * n ≡ (h - 1) * n + n
        one_less zero n some = absurd (omega arith)
        one_less (suc h) n some = let less : suc h - 1 ≡ h = omega arith in rw less (omega arith)

-- the size of such a layer is a number of 64 bits
pub whole_fits : (r : Rows) (z : ℕ) → z < r.layers → r.source.row ≡ r.size → RowsFit r → place_at r.source z 0 + r.size * r.height < 2 ^ 64
whole_fits r z there source fit =
    let y : ℕ = r.height - 1 in
    let last = fit.source z y there (omega (arith, fit.some)) in
    let whole : r.size * r.height ≡ y * r.size + r.size = one_less r.height r.size fit.some in
    omega (arith, last, ap (λ (n : ℕ). y * n) source, whole)
  where
    one_less : (h n : ℕ) → 0 < h → n * h ≡ (h - 1) * n + n
    one_less zero n some = absurd (omega arith)
    one_less (suc h) n some = let less : suc h - 1 ≡ h = omega arith in rw less (omega arith)
