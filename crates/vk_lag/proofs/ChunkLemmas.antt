-- Bytes of a resource by the marks of their chunks.
use Rattle.std.proofs.Common.{◌≡◌, ◌≢◌, ℕ, ◌+◌, ◌-◌, ◌*◌, ◌<◌, ◌≤◌, ◌/◌, zero, suc, List, [], ◌∷◌, ◌++◌, length, get_or, set, map, take, drop, Bool, true, false, Option, Some, None, refl, sym, ap, subst, ◌∙◌, arith, get_or-set_other, ◌⊎◌, inl, inr}
use Rattle.std.specs.Prelude.{slice_index, if◌then◌else◌, replicate}
use Rattle.std.specs.List.{range_with_len}
use Rattle.std.proofs.lemmas.Bool.{cases_lt}
use Rattle.std.proofs.lemmas.Grind.{get_or-set_at}
use Rattle.std.proofs.lemmas.List.{get_or_past, ext_get_or, length-replicate}
use Rattle.std.proofs.lemmas.List.FromFn.{get_or-map-range_with_len, length-map-range_with_len}
use Rattle.vk_lag.specs.Lags.{late_in, is_between, is_due, caught_up}
use Rattle.vk_lag.specs.Inner.{IsPart, mark_at, writer_at, writer_by, writer_in, late_by, bytes_of, is_due_of, still_late}
use Rattle.vk_lag.specs.declared.late.Late.{Late}
use Rattle.vk_lag.specs.declared.late.Writer.{Writer}
use Rattle.vk_lag.specs.declared.late.Due.{Due}
use Rattle.vk_lag.specs.declared.late.Due.TheVariants as due
use Rattle.vk_lag.specs.declared.marks.Mark.{Mark}
use Rattle.vk_lag.specs.declared.marks.Mark.TheVariants as mark
use Rattle.vk_lag.specs.declared.parts.Part.{Part}
use Rattle.vk_lag.proofs.ByteLemmas.{between_true, between_below, between_above}

-- what isn't there yet is as if it were there
pub all_alike : {X : Type 0} (d : X) (n k : ℕ) → get_or (replicate n d) k d ≡ d
all_alike d zero k = refl
all_alike d (suc n) zero = refl
all_alike d (suc n) (suc k) = all_alike d n k

pub reached : {X : Type 0} (d : X) (xs : List X) (n k : ℕ) → get_or (xs ++ replicate n d) k d ≡ get_or xs k d
reached d [] n k = all_alike d n k
reached d (x ∷ xs) n zero = refl
reached d (x ∷ xs) n (suc k) = reached d xs n k

-- ---- all bytes of a resource

module _ (size : ℕ) (marks : List Mark) (values : List ℕ) (writers : List (Option Writer)) where
  pub length-bytes_of : length (bytes_of size marks values writers) ≡ size
  length-bytes_of = length-map-range_with_len (λ k. late_by (slice_index values k) (writer_in marks writers k)) 0 size

  -- a byte of the resource
  pub byte_within : (k : ℕ) → k < size → late_in (bytes_of size marks values writers) k ≡ late_by (slice_index values k) (writer_in marks writers k)
  byte_within k lt = get_or-map-range_with_len (λ j. late_by (slice_index values j) (writer_in marks writers j)) 0 size k k None lt (omega arith)

  -- none past its end
  pub byte_past : (k : ℕ) → size ≤ k → late_in (bytes_of size marks values writers) k ≡ None
  byte_past k le = get_or_past (bytes_of size marks values writers) k None (let n = length-bytes_of in omega (arith, n, le))

-- where no chunk has a late byte
pub no_late : (size : ℕ) (marks : List Mark) (values : List ℕ) (writers : List (Option Writer)) → ((k : ℕ) → mark_at marks k ≡ mark.Clean) → bytes_of size marks values writers ≡ replicate size None
no_late size marks values writers clean =
    ext_get_or None (bytes_of size marks values writers) (replicate size None) (length-bytes_of size marks values writers ∙ sym (length-replicate size None))
    (λ k less.
    let lt : k < size = (let n = length-bytes_of size marks values writers in omega (arith, n, less)) in
    byte_within size marks values writers k lt ∙ ap (λ (m : Mark). late_by (slice_index values k) (writer_by m (writer_at writers k))) (clean k) ∙ sym (all_alike None size k))

-- ---- bytes between two places, and the others

pub by_place : (low high k : ℕ) (P : Bool → Type 0) → (low ≤ k → k < high → P true) → ((k < low) ⊎ (high ≤ k) → P false) → P (is_between low high k)
by_place low high k P inside outside = elim (cases_lt k low) [
  | inl below ↦ subst P (sym (between_below low high k below)) (outside (inl below))
  | inr least ↦ elim (cases_lt k high) [
    | inl lt ↦ subst P (sym (between_true low high k least lt)) (inside least lt)
    | inr past ↦ subst P (sym (between_above low high k past)) (outside (inr past))
  ]
]

-- ---- the mark of one chunk is changed

module _ (size : ℕ) (part : Part) (is : IsPart size part) (marks : List Mark) (named : part.chunk < length marks) where
  chunk_here : (k : ℕ) → part.first ≤ k → k < part.stop → k / 2048 ≡ part.chunk
  chunk_here k le lt = omega (arith, is.first, is.stop, le, lt)

  chunk_there : (k : ℕ) → k < size → (k < part.first) ⊎ (part.stop ≤ k) → k / 2048 ≢ part.chunk
  chunk_there k within (inl below) = omega (arith, is.first, is.stop, within, below)
  chunk_there k within (inr past) = omega (arith, is.first, is.stop, within, past)

  pub mark_before : (k : ℕ) → part.first ≤ k → k < part.stop → mark_at marks k ≡ get_or marks part.chunk mark.Clean
  mark_before k le lt = ap (λ (n : ℕ). get_or marks n mark.Clean) (chunk_here k le lt)

  pub mark_here : (m : Mark) (k : ℕ) → part.first ≤ k → k < part.stop → mark_at (set marks part.chunk m) k ≡ m
  mark_here m k le lt = get_or-set_at marks part.chunk (k / 2048) m mark.Clean (chunk_here k le lt) named

  pub mark_there : (m : Mark) (k : ℕ) → k < size → (k < part.first) ⊎ (part.stop ≤ k) → mark_at (set marks part.chunk m) k ≡ mark_at marks k
  mark_there m k within out = get_or-set_other marks part.chunk (k / 2048) m mark.Clean (chunk_there k within out)

  -- of all its bytes
  pub whole_marked : (writers : List (Option Writer)) (m : Mark) → part.low ≡ part.first → part.high ≡ part.stop → (k : ℕ) → k < size
      → writer_in (set marks part.chunk m) writers k ≡ (if is_between part.low part.high k then writer_by m (writer_at writers k) else writer_in marks writers k)
  whole_marked writers m low high k within =
      by_place part.low part.high k (λ (b : Bool). writer_in (set marks part.chunk m) writers k ≡ (if b then writer_by m (writer_at writers k) else writer_in marks writers k))
      (λ le lt. ap (λ (n : Mark). writer_by n (writer_at writers k)) (mark_here m k (omega (arith, low, le)) (omega (arith, high, lt))))
      (λ out. ap (λ (n : Mark). writer_by n (writer_at writers k)) (mark_there m k within (outside out)))
    where
      outside : (k < part.low) ⊎ (part.high ≤ k) → (k < part.first) ⊎ (part.stop ≤ k)
      outside (inl below) = inl (omega (arith, low, below))
      outside (inr past) = inr (omega (arith, high, past))

  -- and of each byte the writer is kept for itself
  pub mixed_alike : (writers writers' : List (Option Writer)) (writer : Option Writer) → ((w : Option Writer) → writer_by (get_or marks part.chunk mark.Clean) w ≡ writer) → (k : ℕ) → k < size
      → writer_at writers' k ≡ (if is_between part.first part.stop k then writer else writer_at writers k) → writer_in (set marks part.chunk mark.Mixed) writers' k ≡ writer_in marks writers k
  mixed_alike writers writers' writer same k within =
      by_place part.first part.stop k (λ (b : Bool). writer_at writers' k ≡ (if b then writer else writer_at writers k) → writer_in (set marks part.chunk mark.Mixed) writers' k ≡ writer_in marks writers k)
      (λ le lt now. ap (λ (n : Mark). writer_by n (writer_at writers' k)) (mark_here mark.Mixed k le lt) ∙ now ∙ sym (same (writer_at writers k)) ∙ sym (ap (λ (n : Mark). writer_by n (writer_at writers k)) (mark_before k le lt)))
      (λ out now. ap (λ (n : Mark). writer_by n (writer_at writers' k)) (mark_there mark.Mixed k within out) ∙ ap (λ (w : Option Writer). writer_by (mark_at marks k) w) now)

-- writers of bytes of a mixed chunk change
module _ (marks : List Mark) (writers writers' : List (Option Writer)) (low high k : ℕ) (f : Option Writer → Option Writer) where
  pub mixed_changes : (low ≤ k → k < high → mark_at marks k ≡ mark.Mixed) → writer_at writers' k ≡ (if is_between low high k then f (writer_at writers k) else writer_at writers k)
      → writer_in marks writers' k ≡ (if is_between low high k then f (writer_in marks writers k) else writer_in marks writers k)
  mixed_changes mixed =
      by_place low high k (λ (b : Bool). writer_at writers' k ≡ (if b then f (writer_at writers k) else writer_at writers k) → writer_in marks writers' k ≡ (if b then f (writer_in marks writers k) else writer_in marks writers k))
      (λ le lt now. rw (mixed le lt) now)
      (λ out now. ap (λ (w : Option Writer). writer_by (mark_at marks k) w) now)

-- ---- what is seen of such changes

module _ (size : ℕ) (marks marks' : List Mark) (values values' : List ℕ) (writers writers' : List (Option Writer)) (low high : ℕ) (most : high ≤ size) (k : ℕ) where
  -- some bytes become late
  pub written : (writer : Writer) (value : ℕ) → (k < size → writer_in marks' writers' k ≡ (if is_between low high k then Some writer else writer_in marks writers k))
      → slice_index values' k ≡ (if is_between low high k then value else slice_index values k)
      → late_in (bytes_of size marks' values' writers') k ≡ (if is_between low high k then Some (record { writer = writer; value = value }) else late_in (bytes_of size marks values writers) k)
  written writer value = elim (cases_lt k size) [
    | inl lt ↦ λ claimed. λ read.
        byte_within size marks' values' writers' k lt
        ∙ by_place low high k (λ (b : Bool). writer_in marks' writers' k ≡ (if b then Some writer else writer_in marks writers k) → slice_index values' k ≡ (if b then value else slice_index values k)
        → late_by (slice_index values' k) (writer_in marks' writers' k) ≡ (if b then Some (record { writer = writer; value = value }) else late_in (bytes_of size marks values writers) k))
        (λ le less w v. rw (w, v) refl)
        (λ out w v. ap (λ (n : ℕ). late_by n (writer_in marks' writers' k)) v ∙ ap (λ (x : Option Writer). late_by (slice_index values k) x) w ∙ sym (byte_within size marks values writers k lt))
        (claimed lt) read
    | inr past ↦ λ claimed. λ read.
        byte_past size marks' values' writers' k past ∙ rw (between_above low high k (omega (arith, most, past))) (sym (byte_past size marks values writers k past))
  ]

-- memory catches up with a byte by its writer
due_alike : (d : Due) (value : ℕ) (w : Writer) → is_due d (record { writer = w; value = value }) ≡ is_due_of d w
due_alike due.All value w = refl
due_alike (due.Of q) value w = refl
due_alike (due.Before b) value w = refl

still_caught_up : (d : Due) (value : ℕ) (writer : Option Writer) → late_by value (still_late d writer) ≡ caught_up d (late_by value writer)
still_caught_up d value None = refl
still_caught_up d value (Some w) = rw (due_alike d value w) (go (is_due_of d w))
  where
    go : (b : Bool) → late_by value (if b then None else Some w) ≡ (if b then None else Some (record { writer = w; value = value }))
    go true = refl
    go false = refl

module _ (size : ℕ) (marks marks' : List Mark) (values : List ℕ) (writers writers' : List (Option Writer)) (low high : ℕ) (k : ℕ) (d : Due) where
  pub settled : (k < size → writer_in marks' writers' k ≡ (if is_between low high k then still_late d (writer_in marks writers k) else writer_in marks writers k))
      → late_in (bytes_of size marks' values writers') k ≡ (if is_between low high k then caught_up d (late_in (bytes_of size marks values writers) k) else late_in (bytes_of size marks values writers) k)
  settled = elim (cases_lt k size) [
    | inl lt ↦ λ now.
        byte_within size marks' values writers' k lt ∙ rw (byte_within size marks values writers k lt)
        (by_place low high k (λ (b : Bool). writer_in marks' writers' k ≡ (if b then still_late d (writer_in marks writers k) else writer_in marks writers k)
        → late_by (slice_index values k) (writer_in marks' writers' k) ≡ (if b then caught_up d (late_by (slice_index values k) (writer_in marks writers k)) else late_by (slice_index values k) (writer_in marks writers k)))
        (λ le less w. ap (λ (x : Option Writer). late_by (slice_index values k) x) w ∙ still_caught_up d (slice_index values k) (writer_in marks writers k))
        (λ out w. ap (λ (x : Option Writer). late_by (slice_index values k) x) w)
        (now lt))
    | inr past ↦ λ now.
        byte_past size marks' values writers' k past ∙ rw (byte_past size marks values writers k past) (sym (go (is_between low high k)))
  ]
    where
      go : (b : Bool) → (if b then caught_up d None else None) ≡ None
      go true = refl
      go false = refl

  -- a byte that isn't late
  pub none_late : (k < size → writer_in marks' writers' k ≡ None) → late_in (bytes_of size marks' values writers') k ≡ None
  none_late = elim (cases_lt k size) [
    | inl lt ↦ λ now. byte_within size marks' values writers' k lt ∙ ap (λ (x : Option Writer). late_by (slice_index values k) x) (now lt)
    | inr past ↦ λ now. byte_past size marks' values writers' k past
  ]
