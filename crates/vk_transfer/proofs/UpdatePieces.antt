-- A piece of an update, and the region's bytes after it.
use Rattle.std.proofs.Common.{◌≡◌, ℕ, suc, ◌+◌, ◌*◌, ◌<◌, ◌≤◌, List, [], ◌∷◌, map, length, refl, ap, sym, ◌∙◌, arith, slice_index, slice_index_or, zero-add, add-zero}
use Rattle.std.proofs.lemmas.List.{get_or_default}
use Rattle.std.specs.Prelude.{is_some}
use Rattle.std.specs.List.{enumerate_from, range_with_len}
use Rattle.vk_heap.specs.Region.{splice, piece}
use Rattle.vk_heap.proofs.SpliceLemmas.{length-piece, get_or-piece}
use Rattle.vk_model.specs.Basics.{below}
use Rattle.vk_model.specs.Run.CachedRuns.{write_to}
use Rattle.vk_model.specs.World.Bytes.{Byte, in_buffer}
use Rattle.vk_model.specs.World.ByteWrites.{Source, Value, ByteWrite, byte_write}
use Rattle.vk_transfer.specs.declared.updating.Update.{Update}
use Rattle.vk_transfer.specs.Ran.{bytes_in, HaveRun}
use Rattle.vk_transfer.specs.Stretches.{is_byte_in}
use Rattle.vk_transfer.specs.Updates.{update_writes, update_piece, update_piece_size}
use Rattle.vk_transfer.proofs.Ranges.{nth_piece, length-writes, write, writes, piece_writes, writes_stretch}
use Rattle.vk_transfer.proofs.Spliced.{one_ran}

-- what is done with each item and its number, by the numbers
by_numbers : {X Y : Type 0} (g : ℕ × X → Y) (h : ℕ → X) (a : ℕ) (xs : List X) → ((i : ℕ) (d : X) → i < length xs → h (a + i) ≡ slice_index_or xs i d) → map g (enumerate_from a xs) ≡ map (λ k. g (k, h k)) (range_with_len a (length xs))
by_numbers g h a [] same = refl
by_numbers {X} {Y} g h a (x ∷ xs) same =
    let here : h a ≡ x = ap h (sym (add-zero a)) ∙ same 0 x (omega arith) in
    let rest : map g (enumerate_from (a + 1) xs) ≡ map (λ k. g (k, h k)) (range_with_len (a + 1) (length xs)) = by_numbers g h (a + 1) xs (λ i d lt. let at : a + 1 + i ≡ a + suc i = omega arith in ap h at ∙ same (suc i) d (omega (arith, lt))) in
    ap (λ (y : X). g (a, y) ∷ map g (enumerate_from (a + 1) xs)) (sym here) ∙ ap (λ (ys : List Y). g (a, h a) ∷ ys) rest

module _ (b : ℕ) (u : Update) where
  abbrev source : ℕ → Source
  source k = Value (slice_index u.bytes.now k)

  all_writes : update_writes b u ≡ map (write b u.offset source) (below (length u.bytes.now))
  all_writes = by_numbers (λ p. byte_write (in_buffer b (u.offset + p.0)) (Value p.1)) (λ k. slice_index u.bytes.now k) 0 u.bytes.now (λ i d lt. ap (λ (k : ℕ). slice_index u.bytes.now k) (zero-add i) ∙ get_or_default u.bytes.now i 0 d lt)

  pub length_update : length (update_writes b u) ≡ length u.bytes.now
  length_update = ap (λ (ms : List ByteWrite). length ms) all_writes ∙ length-writes b u.offset source (length u.bytes.now)

  -- the byte writes of a piece that is there
  pub update_piece_writes : (i : ℕ) → 4096 * i < length u.bytes.now → update_piece b u i ≡ writes b u.offset source (4096 * i) (update_piece_size u i)
  update_piece_writes i here = ap (λ (ms : List ByteWrite). nth_piece ms i) all_writes ∙ piece_writes b u.offset source (length u.bytes.now) i here

  -- they are of the bytes of a stretch
  pub update_stretch : (i size start : ℕ) → 4096 * i < length u.bytes.now → size ≡ update_piece_size u i → (c : Byte) → is_some (write_to c (update_piece b u i)) ≡ is_byte_in (record { at = start + u.offset + 4096 * i; size = size }) b start c
  update_stretch i size start here is c = rw (update_piece_writes i here, is) (writes_stretch b u.offset source (4096 * i) (update_piece_size u i) start c)

  -- a piece, by its number
  pub update_ran : (region : List ℕ) (start i : ℕ) → start + u.offset + length u.bytes.now ≤ length region → 4096 * i < length u.bytes.now
      → HaveRun (update_piece b u i) (bytes_in region start b) (bytes_in (splice region (start + u.offset + 4096 * i) (piece u.bytes.now (4096 * i) (update_piece_size u i))) start b)
  update_ran region start i room here =
      let n = update_piece_size u i in
      rw (update_piece_writes i here)
      (one_ran region (piece u.bytes.now (4096 * i) n) start u.offset (4096 * i) n (length-piece u.bytes.now (4096 * i) n (omega (arith, here))) (omega (arith, room, here)) b source
      (λ j low high. get_or-piece u.bytes.now (4096 * i) n j low high))
