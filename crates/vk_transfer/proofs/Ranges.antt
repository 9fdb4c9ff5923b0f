-- Byte writes of bytes of a buffer that follow each other: which one is of a byte, their pieces, and that they have been made.
use Rattle.std.proofs.Common.{◌≡◌, ◌⊎◌, inl, inr, ℕ, ◌+◌, ◌-◌, ◌*◌, ◌/◌, ◌%◌, ◌<◌, ◌≤◌, List, [], map, length, min, Bool, true, false, ◌&&◌, eqb, eq-eqb, refl, ap, sym, ◌∙◌, arith, slice_get, Some, None}
use Rattle.std.specs.Prelude.{is_some}
use Rattle.std.proofs.lemmas.Bool.{eqb-true, cases_lt}
use Rattle.std.proofs.lemmas.Bool.Decides.{nat_tests}
use Rattle.std.proofs.lemmas.List.FromFn.{length-map-range_with_len}
use Rattle.std.specs.List.{range_with_len}
use Rattle.vk_model.specs.Basics.{below, within}
use Rattle.vk_model.specs.World.Bytes.{Byte, in_buffer, in_image, same_byte}
use Rattle.vk_model.specs.World.ByteWrites.{Source, ByteWrite, byte_write}
use Rattle.vk_model.specs.Run.Pieces.{cut}
use Rattle.vk_model.specs.Run.CachedRuns.{write_to}
use Rattle.vk_transfer.specs.Ran.{given, stored, HaveRun}
use Rattle.vk_transfer.specs.Stretches.{is_byte_in}
use Rattle.vk_transfer.proofs.Cutting.{cut_at, cut_count, cut_range}
use Rattle.vk_transfer.proofs.Finding.{find_one, find_none}

-- a piece of some byte writes
abbrev pub nth_piece : List ByteWrite → ℕ → List ByteWrite
nth_piece ms number = elim (slice_get (cut 4096 ms) number) [ None ↦ [] | Some ms ↦ ms ]

-- how many there are
pub piece_counted : (ms : List ByteWrite) (size : ℕ) → length ms ≡ size → length (cut 4096 ms) ≡ size / 4096 + min (size % 4096) 1
piece_counted ms size long = cut_count 4096 (size / 4096) (size % 4096) ms (omega arith) (omega (arith, long)) (omega arith)

pub piece_below : (ms : List ByteWrite) (size number : ℕ) → length ms ≡ size → number < length (cut 4096 ms) → 4096 * number < size
piece_below ms size number long lt = omega (arith, piece_counted ms size long, lt)

module _ (b offset : ℕ) (source : ℕ → Source) where
  abbrev pub write : ℕ → ByteWrite
  write k = byte_write (in_buffer b (offset + k)) (source k)

  pub length-writes : (size : ℕ) → length (map write (below size)) ≡ size
  length-writes size = length-map-range_with_len write 0 size

  -- those of n bytes from one on
  abbrev pub writes : ℕ → ℕ → List ByteWrite
  writes lo n = map write (range_with_len lo n)

  pub piece_writes : (size number : ℕ) → 4096 * number < size → nth_piece (map write (below size)) number ≡ writes (4096 * number) (min 4096 (size - 4096 * number))
  piece_writes size number here =
      let long = length-writes size in
      rw (nth_piece, cut_at 4096 number (map write (below size)) (omega arith) (omega arith)) (cut_range write 4096 number 0 size ∙ ap (λ (a : ℕ). writes a (min 4096 (size - 4096 * number))) (omega arith))

  module _ (lo n : ℕ) where
    image_missed : (i l a x y p : ℕ) → write_to (in_image i l a x y p) (writes lo n) ≡ None
    image_missed i l a x y p = find_none (λ m. same_byte m.to (in_image i l a x y p)) write lo n (λ k low high. refl)

    other_missed : (c k : ℕ) → eqb b c ≡ false → write_to (in_buffer c k) (writes lo n) ≡ None
    other_missed c k ne = find_none (λ m. same_byte m.to (in_buffer c k)) write lo n (λ j low high. rw ne refl)

    outside_missed : (k : ℕ) → (k < offset + lo) ⊎ (offset + lo + n ≤ k) → write_to (in_buffer b k) (writes lo n) ≡ None
    outside_missed k out = find_none (λ m. same_byte m.to (in_buffer b k)) write lo n (λ j low high. go j (eqb (offset + j) k) refl low high out)
      where
        go : (j : ℕ) (t : Bool) → eqb (offset + j) k ≡ t → lo ≤ j → j < lo + n → (k < offset + lo) ⊎ (offset + lo + n ≤ k) → (eqb b b && t) ≡ false
        go j true e low high (inl lt) = let same = eqb-true (offset + j) k e in absurd (omega arith)
        go j true e low high (inr le) = let same = eqb-true (offset + j) k e in absurd (omega arith)
        go j false e low high out = rw (eq-eqb b b refl) refl

    inside_found : (k : ℕ) → offset + lo ≤ k → k < offset + lo + n → write_to (in_buffer b k) (writes lo n) ≡ Some (write (k - offset))
    inside_found k low high =
        let at : offset + (k - offset) ≡ k = omega arith in
        find_one (λ m. same_byte m.to (in_buffer b k)) write (k - offset) lo n (omega arith) (omega arith)
        (rw (eq-eqb b b refl, eq-eqb (offset + (k - offset)) k at) refl)
        (λ j e. only j (eqb (offset + j) k) refl e)
      where
        only : (j : ℕ) (t : Bool) → eqb (offset + j) k ≡ t → (eqb b b && t) ≡ true → j ≡ k - offset
        only j true e is_it = let same = eqb-true (offset + j) k e in omega arith
        only j false e is_it = let not_it : (eqb b b && false) ≡ false = rw (eq-eqb b b refl) refl in absurd cc

    -- they are of the bytes of a stretch, where the buffer lies from a place on
    pub writes_stretch : (start : ℕ) (c : Byte) → is_some (write_to c (writes lo n)) ≡ is_byte_in (record { at = start + offset + lo; size = n }) b start c
    writes_stretch start (in_image i l a x y p) = rw (image_missed i l a x y p) refl
    writes_stretch start (in_buffer c k) = go (eqb b c) refl
      where
        here : is_some (write_to (in_buffer b k) (writes lo n)) ≡ within (start + offset + lo) n (start + k)
        here = elim (cases_lt k (offset + lo)) [
          | inl lt ↦ rw (outside_missed k (inl lt)) (grind (arith, nat_tests))
          | inr ge ↦ elim (cases_lt k (offset + lo + n)) [
            | inl lt ↦ rw (inside_found k ge lt) (grind (arith, nat_tests))
            | inr le ↦ rw (outside_missed k (inr le)) (grind (arith, nat_tests))
          ]
        ]

        go : (t : Bool) → eqb b c ≡ t → is_some (write_to (in_buffer c k) (writes lo n)) ≡ (t && within (start + offset + lo) n (start + k))
        go true e = let same : b ≡ c = eqb-true b c e in rw (sym same) here
        go false e = rw (other_missed c k e) refl

    -- each of these bytes has its source's value, and no other byte has changed
    pub record Made (old new : Byte → ℕ) : Type 0 where
      pub inside : (j : ℕ) → lo ≤ j → j < lo + n → new (in_buffer b (offset + j)) ≡ given (source j) old
      pub outside : (k : ℕ) → (k < offset + lo) ⊎ (offset + lo + n ≤ k) → new (in_buffer b k) ≡ old (in_buffer b k)
      pub others : (c k : ℕ) → eqb b c ≡ false → new (in_buffer c k) ≡ old (in_buffer c k)
      pub images : (i l a x y p : ℕ) → new (in_image i l a x y p) ≡ old (in_image i l a x y p)

    made_at : (old new : Byte → ℕ) → Made old new → (k : ℕ) → new (in_buffer b k) ≡ stored (write_to (in_buffer b k) (writes lo n)) old (in_buffer b k)
    made_at old new made k = elim (cases_lt k (offset + lo)) [
      | inl lt ↦ rw (outside_missed k (inl lt)) (made.outside k (inl lt))
      | inr ge ↦ elim (cases_lt k (offset + lo + n)) [
        | inl lt ↦
            let at : offset + (k - offset) ≡ k = omega arith in
            rw (inside_found k ge lt) (ap (λ (j : ℕ). new (in_buffer b j)) (sym at) ∙ made.inside (k - offset) (omega arith) (omega arith))
        | inr le ↦ rw (outside_missed k (inr le)) (made.outside k (inr le))
      ]
    ]

    pub made_ran : (old new : Byte → ℕ) → Made old new → HaveRun (writes lo n) old new
    made_ran old new made (in_image i l a x y p) = rw (image_missed i l a x y p) (made.images i l a x y p)
    made_ran old new made (in_buffer c k) = go (eqb b c) refl
      where
        go : (t : Bool) → eqb b c ≡ t → new (in_buffer c k) ≡ stored (write_to (in_buffer c k) (writes lo n)) old (in_buffer c k)
        go true e = let same : b ≡ c = eqb-true b c e in rw (sym same) (made_at old new made k)
        go false e = rw (other_missed c k e) (made.others c k e)
