-- A piece of a region of a copy, and the bytes of both buffers after it.
use Rattle.std.proofs.Common.{◌≡◌, zero, suc, ◌∷◌, map, add-zero, ◌⊎◌, inl, inr, ℕ, ◌+◌, ◌-◌, ◌*◌, ◌<◌, ◌≤◌, List, length, eqb, false, eq-eqb, refl, ap, sym, ◌∙◌, arith, slice_index}
use Rattle.std.proofs.lemmas.Bool.{lt-ltb, ne_eqb}
use Rattle.std.specs.Prelude.{is_some}
use Rattle.std.specs.List.{range_with_len}
use Rattle.vk_heap.specs.Region.{splice, piece}
use Rattle.vk_heap.proofs.SpliceLemmas.{length-piece, get_or-piece, splice-out}
use Rattle.vk_model.specs.declared.command.BufferCopy.{BufferCopy}
use Rattle.vk_model.specs.Run.CachedRuns.{write_to}
use Rattle.vk_model.specs.World.Bytes.{Byte, in_buffer}
use Rattle.vk_model.specs.World.ByteWrites.{Source, From, byte_write, copy_writes}
use Rattle.vk_transfer.specs.Ran.{bytes_in, bytes_of, two_buffers, stretch, AreApart, HaveRun}
use Rattle.vk_transfer.specs.Stretches.{is_byte_in}
use Rattle.vk_transfer.specs.Copies.{region_piece, region_piece_size, FitsBuffers}
use Rattle.vk_transfer.proofs.Ranges.{length-writes, writes, piece_writes, writes_stretch}
use Rattle.vk_transfer.proofs.Spliced.{one_ran, two_ran}

-- a byte of what was read
picked : (xs : List ℕ) (start offset lo n j : ℕ) → lo ≤ j → j < lo + n → slice_index (piece xs (start + offset + lo) n) (j - lo) ≡ slice_index xs (start + (offset + j))
picked xs start offset lo n j low high =
    let at : j - lo ≡ start + (offset + j) - (start + offset + lo) = omega (arith, low) in
    ap (λ (k : ℕ). slice_index (piece xs (start + offset + lo) n) k) at ∙ get_or-piece xs (start + offset + lo) n (start + (offset + j)) (omega (arith, low)) (omega (arith, high))

module _ (s d : ℕ) (g : BufferCopy) where
  abbrev source : ℕ → Source
  source k = From (in_buffer s (g.source_offset + k))

  pub length_copy : length (copy_writes s d g) ≡ g.size
  length_copy = length-writes d g.destination_offset source g.size

  piece_is : (i : ℕ) → 4096 * i < g.size → region_piece s d g i ≡ writes d g.destination_offset source (4096 * i) (region_piece_size g i)
  piece_is i here = piece_writes d g.destination_offset source g.size i here

  -- the byte writes of a piece that is there are of the bytes of a stretch
  pub copy_stretch : (i size start : ℕ) → 4096 * i < g.size → size ≡ region_piece_size g i → (c : Byte) → is_some (write_to c (region_piece s d g i)) ≡ is_byte_in (record { at = start + g.destination_offset + 4096 * i; size = size }) d start c
  copy_stretch i size start here is c = rw (piece_is i here, is) (writes_stretch d g.destination_offset source (4096 * i) (region_piece_size g i) start c)

-- the piece as a region of its own
shifted : {Y : Type 0} (f g : ℕ → Y) (a b n : ℕ) → ((k : ℕ) → f (a + k) ≡ g (b + k)) → map f (range_with_len a n) ≡ map g (range_with_len b n)
shifted f g a b zero same = refl
shifted {Y} f g a b (suc n) same =
    let here : f a ≡ g b = ap f (sym (add-zero a)) ∙ same 0 ∙ ap g (add-zero b) in
    let rest : map f (range_with_len (a + 1) n) ≡ map g (range_with_len (b + 1) n) = shifted f g (a + 1) (b + 1) n (λ k. ap f (next a k) ∙ same (suc k) ∙ ap g (sym (next b k))) in
    ap (λ (y : Y). y ∷ map f (range_with_len (a + 1) n)) here ∙ ap (λ (ys : List Y). g b ∷ ys) rest
  where
    next : (i k : ℕ) → i + 1 + k ≡ i + suc k
    next i k = omega arith

pub part_writes : (s d : ℕ) (g : BufferCopy) (i : ℕ) → 4096 * i < g.size
    → copy_writes s d (record { source_offset = g.source_offset + 4096 * i; destination_offset = g.destination_offset + 4096 * i; size = region_piece_size g i }) ≡ region_piece s d g i
part_writes s d g i here =
    let at : (k : ℕ) → g.destination_offset + 4096 * i + (0 + k) ≡ g.destination_offset + (4096 * i + k) = λ k. omega arith in
    let from : (k : ℕ) → g.source_offset + 4096 * i + (0 + k) ≡ g.source_offset + (4096 * i + k) = λ k. omega arith in
    shifted (λ k. byte_write (in_buffer d (g.destination_offset + 4096 * i + k)) (From (in_buffer s (g.source_offset + 4096 * i + k)))) (λ k. byte_write (in_buffer d (g.destination_offset + k)) (source s d g k)) 0 (4096 * i) (region_piece_size g i)
    (λ k. ap (λ (j : ℕ). byte_write (in_buffer d j) (From (in_buffer s (g.source_offset + 4096 * i + (0 + k))))) (at k) ∙ ap (λ (j : ℕ). byte_write (in_buffer d (g.destination_offset + (4096 * i + k))) (From (in_buffer s j))) (from k))
    ∙ sym (piece_is s d g i here)

-- the bytes of a piece that is read
abbrev pub read_from : BufferCopy → ℕ → List ℕ → ℕ → List ℕ
read_from g i xs start = piece xs (start + g.source_offset + 4096 * i) (region_piece_size g i)

-- the region with them written
abbrev pub written_to : BufferCopy → ℕ → List ℕ → ℕ → List ℕ → List ℕ
written_to g i xs start bytes = splice xs (start + g.destination_offset + 4096 * i) bytes

module _ (g : BufferCopy) (i : ℕ) (here : 4096 * i < g.size) where
  -- in one buffer
  pub one_copied : (b : ℕ) (region : List ℕ) (start : ℕ) → start + g.source_offset + g.size ≤ length region → start + g.destination_offset + g.size ≤ length region
      → HaveRun (region_piece b b g i) (bytes_in region start b) (bytes_in (written_to g i region start (read_from g i region start)) start b)
  one_copied b region start from to =
      let n = region_piece_size g i in
      rw (piece_is b b g i here)
      (one_ran region (read_from g i region start) start g.destination_offset (4096 * i) n (length-piece region (start + g.source_offset + 4096 * i) n (omega (arith, from, here))) (omega (arith, to, here)) b (source b b g)
      (λ j low high. rw (eq-eqb b b refl) (picked region start g.source_offset (4096 * i) n j low high)))

  module _ (s d : ℕ) (ne : s ≡ d → ⊥) (xs ys : List ℕ) (start m start' n : ℕ) (fits : FitsBuffers g m n) (from : start + g.source_offset + g.size ≤ length xs) (to : start' + g.destination_offset + g.size ≤ length ys) where
    abbrev new : List ℕ
    new = written_to g i ys start' (read_from g i xs start)

    other : eqb d s ≡ false
    other = ne_eqb d s (λ e. ne (sym e))

    read : length (read_from g i xs start) ≡ region_piece_size g i
    read = length-piece xs (start + g.source_offset + 4096 * i) (region_piece_size g i) (omega (arith, from, here))

    -- from one buffer to another, where the source is kept
    copied : (kept : List ℕ) → ((k : ℕ) → k < m → slice_index kept (start + k) ≡ slice_index xs (start + k))
        → HaveRun (region_piece s d g i) (bytes_of (two_buffers s (stretch xs start m) d (stretch ys start' n))) (bytes_of (two_buffers s (stretch kept start m) d (stretch new start' n)))
    copied kept same =
        rw (piece_is s d g i here)
        (two_ran s d ne (stretch xs start m) (stretch ys start' n) (read_from g i xs start) kept g.destination_offset (4096 * i) (region_piece_size g i) read (omega (arith, to, here)) (omega (arith, fits, here)) same (source s d g)
        (λ j low high. rw (other, eq-eqb s s refl, lt-ltb (g.source_offset + j) m (omega (arith, fits, high, here))) (picked xs start g.source_offset (4096 * i) (region_piece_size g i) j low high)))

    pub between_copied : HaveRun (region_piece s d g i) (bytes_of (two_buffers s (stretch xs start m) d (stretch ys start' n))) (bytes_of (two_buffers s (stretch xs start m) d (stretch new start' n)))
    between_copied = copied xs (λ k lt. refl)

  -- from one buffer to another in the same region
  pub within_copied : (s d : ℕ) (ne : s ≡ d → ⊥) (xs : List ℕ) (start m start' n : ℕ) (fits : FitsBuffers g m n) (from : start + g.source_offset + g.size ≤ length xs) (to : start' + g.destination_offset + g.size ≤ length xs)
      → AreApart start m start' n → let new = written_to g i xs start' (read_from g i xs start) in
      HaveRun (region_piece s d g i) (bytes_of (two_buffers s (stretch xs start m) d (stretch xs start' n))) (bytes_of (two_buffers s (stretch new start m) d (stretch new start' n)))
  within_copied s d ne xs start m start' n fits from to apart =
      copied s d ne xs xs start m start' n fits from to (written_to g i xs start' (read_from g i xs start)) (λ k lt. splice-out xs (read_from g i xs start) (start' + g.destination_offset + 4096 * i) (omega (arith, long, to, here)) (start + k) (beyond k lt apart))
    where
      long : length (read_from g i xs start) ≡ region_piece_size g i
      long = read s d ne xs xs start m start' n fits from to

      beyond : (k : ℕ) → k < m → AreApart start m start' n → (start + k < start' + g.destination_offset + 4096 * i) ⊎ (start' + g.destination_offset + 4096 * i + length (read_from g i xs start) ≤ start + k)
      beyond k lt (inl le) = inl (omega (arith, lt, le))
      beyond k lt (inr le) = inr (omega (arith, le, long, fits, here))
