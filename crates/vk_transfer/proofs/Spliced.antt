-- Bytes that are spliced into a region make the byte writes of a buffer that lies there.
use Rattle.std.proofs.Common.{◌≡◌, ◌⊎◌, inl, inr, ℕ, ◌+◌, ◌-◌, ◌<◌, ◌≤◌, List, length, Bool, true, false, eqb, eq-eqb, nat_lt, if◌then◌else◌, refl, ap, sym, ◌∙◌, arith, slice_index, Some, None}
use Rattle.std.proofs.lemmas.Bool.{lt-ltb, ltb-true, ne_eqb}
use Rattle.vk_heap.specs.Region.{splice}
use Rattle.vk_heap.proofs.SpliceLemmas.{splice-in, splice-out}
use Rattle.vk_model.specs.World.ByteWrites.{Source}
use Rattle.vk_transfer.specs.Ran.{given, bytes_in, bytes_of, byte_in, two_buffers, Stretch, HaveRun}
use Rattle.vk_transfer.proofs.Ranges.{writes, made_ran}

-- what is spliced in begins offset + lo bytes after the start of the buffer
module _ (region bytes : List ℕ) (start offset lo n : ℕ) (long : length bytes ≡ n) (room : start + offset + lo + n ≤ length region) where
  abbrev pub spliced : List ℕ
  spliced = splice region (start + offset + lo) bytes

  value_there : (j : ℕ) → lo ≤ j → j < lo + n → slice_index spliced (start + (offset + j)) ≡ slice_index bytes (j - lo)
  value_there j low high =
      let at : start + (offset + j) - (start + offset + lo) ≡ j - lo = omega arith in
      splice-in region bytes (start + offset + lo) (omega (arith, long)) (start + (offset + j)) (omega arith) (omega (arith, long)) ∙ ap (λ (k : ℕ). slice_index bytes k) at

  as_before : (k : ℕ) → (k < offset + lo) ⊎ (offset + lo + n ≤ k) → slice_index spliced (start + k) ≡ slice_index region (start + k)
  as_before k out = splice-out region bytes (start + offset + lo) (omega (arith, long)) (start + k) (shifted out)
    where
      shifted : (k < offset + lo) ⊎ (offset + lo + n ≤ k) → (start + k < start + offset + lo) ⊎ (start + offset + lo + length bytes ≤ start + k)
      shifted (inl lt) = inl (omega (arith, lt))
      shifted (inr le) = inr (omega (arith, le, long))

  -- of one buffer
  pub one_ran : (b : ℕ) (source : ℕ → Source) → ((j : ℕ) → lo ≤ j → j < lo + n → slice_index bytes (j - lo) ≡ given (source j) (bytes_in region start b))
      → HaveRun (writes b offset source lo n) (bytes_in region start b) (bytes_in spliced start b)
  one_ran b source values = made_ran b offset source lo n (bytes_in region start b) (bytes_in spliced start b) (record {
    inside = λ j low high. rw (eq-eqb b b refl) (value_there j low high ∙ values j low high);
    outside = λ k out. rw (eq-eqb b b refl) (as_before k out);
    others = λ c k ne. rw ne refl;
    images = λ i l a x y p. refl;
  })

-- of a buffer d in a stretch q, beside a buffer s in a stretch p, which is kept
module _ (s d : ℕ) (ne : s ≡ d → ⊥) (p q : Stretch) (bytes kept : List ℕ) (offset lo n : ℕ) (long : length bytes ≡ n) (room : q.start + offset + lo + n ≤ length q.region) (fits : offset + lo + n ≤ q.size)
    (same : (k : ℕ) → k < p.size → slice_index kept (p.start + k) ≡ slice_index p.region (p.start + k)) where
  abbrev new : List ℕ
  new = spliced q.region bytes q.start offset lo n long room

  other : eqb d s ≡ false
  other = ne_eqb d s (λ e. ne (sym e))

  s_kept : (k : ℕ) (t : Bool) → nat_lt k p.size ≡ t → (if t then slice_index kept (p.start + k) else 0) ≡ (if t then slice_index p.region (p.start + k) else 0)
  s_kept k true e = same k (ltb-true k p.size e)
  s_kept k false e = refl

  pub two_ran : (source : ℕ → Source) → ((j : ℕ) → lo ≤ j → j < lo + n → slice_index bytes (j - lo) ≡ given (source j) (bytes_of (two_buffers s p d q)))
      → HaveRun (writes d offset source lo n) (bytes_of (two_buffers s p d q)) (bytes_of (two_buffers s (record p { region = kept }) d (record q { region = new })))
  two_ran source values = made_ran d offset source lo n (bytes_of (two_buffers s p d q)) (bytes_of (two_buffers s (record p { region = kept }) d (record q { region = new }))) (record {
    inside = λ j low high. rw (eq-eqb d d refl, lt-ltb (offset + j) q.size (omega (arith, fits, high))) (value_there q.region bytes q.start offset lo n long room j low high ∙ values j low high);
    outside = λ k out. rw (eq-eqb d d refl) (ap (λ (v : ℕ). if nat_lt k q.size then v else 0) (as_before q.region bytes q.start offset lo n long room k out));
    others = λ c k no. rw no (beside c k (eqb s c) refl);
    images = λ i l a x y p. refl;
  })
    where
      beside : (c k : ℕ) (t : Bool) → eqb s c ≡ t → byte_in (if t then Some (record p { region = kept }) else None) k ≡ byte_in (if t then Some p else None) k
      beside c k true e = s_kept k (nat_lt k p.size) refl
      beside c k false e = refl
