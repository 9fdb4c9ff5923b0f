-- What a flush and an invalidation change of the bytes that they reach.
use Rattle.std.proofs.Common.{◌≡◌, ◌<◌, ◌≤◌, ◌+◌, ◌-◌, ℕ, List, ◌∷◌, length, slice_get, Bool, true, false, ◌&&◌, refl, ap, arith, Option, Some, None, ⊎_elim}
use Rattle.std.specs.Prelude.{if◌then◌else◌, nat_le, nat_lt}
use Rattle.std.specs.Option.{option_map}
use Rattle.std.proofs.lemmas.Bool.{cases_lt, lt-ltb, le-leb, lt-leb, le-ltb}
use Rattle.vk_ranges.specs.Overlaps.{Piece, AreRunsOf}
use Rattle.vk_model.specs.Basics.{holds, within}
use Rattle.vk_history.specs.Contents.{assigns, dirty_between}

-- ---- what is lost

-- the runs of the dirty bytes so far are lost
pub record AreLostTo (now old dirty : List Bool) (low high : ℕ) (left : List (Piece Bool)) : Type 0 where
  pub at : ℕ
  pub above : low ≤ at
  pub runs : AreRunsOf dirty at high left
  pub size : length now ≡ length old
  pub lost : (k : ℕ) → slice_get now k ≡ option_map (assigns (dirty_between dirty low at) false k) (slice_get old k)

none_below : (low k : ℕ) → (nat_le low k && nat_lt k low) ≡ false
none_below low k = ⊎_elim (λ lt. rw (lt-leb low k lt) refl) (λ ge. rw (le-leb low k ge, le-ltb k low ge) refl) (cases_lt k low)

module _ (now old dirty : List Bool) (low high : ℕ) (piece : Piece Bool) (left : List (Piece Bool)) (so_far : AreLostTo now old dirty low high (piece ∷ left)) where
  starts : piece.start ≡ so_far.at
  starts = so_far.runs.0

  -- whether a byte is dirty and below the run's end
  below_end : (k : ℕ) → dirty_between dirty low piece.end k ≡ (if within piece.start (piece.end - piece.start) k then piece.value else dirty_between dirty low so_far.at k)
  below_end k =
      let some : so_far.at < piece.end = so_far.runs.1 in
      let above = so_far.above in
      let is = starts in
      ⊎_elim
      (λ lt. rw (lt-leb piece.start k (omega (arith, is, lt)), lt-ltb k so_far.at lt, lt-ltb k piece.end (omega (arith, lt, some))) refl)
      (λ ge. ⊎_elim
      (λ lt. rw (le-leb piece.start k (omega (arith, is, ge)), lt-ltb k (piece.start + (piece.end - piece.start)) (omega (arith, lt, is, some)), lt-ltb k piece.end lt, le-leb low k (omega (arith, above, ge)))
      (ap (λ (o : Option Bool). holds o (λ d. d)) (so_far.runs.3 k (omega (arith, is, ge)) lt)))
      (λ past. rw (le-leb piece.start k (omega (arith, is, ge)), le-ltb k (piece.start + (piece.end - piece.start)) (omega (arith, past, is, some)), le-ltb k piece.end past, le-ltb k so_far.at ge) refl)
      (cases_lt k piece.end))
      (cases_lt k so_far.at)

  twice : (t u : Bool) (o : Option Bool) → option_map (λ d. if t then false else d) (option_map (λ d. if u then false else d) o) ≡ option_map (λ d. if (if t then true else u) then false else d) o
  twice true u None = refl
  twice false u None = refl
  twice true u (Some d) = refl
  twice false u (Some d) = refl

  same : (t u : Bool) → (if t then false else u) ≡ u → (o : Option Bool) → option_map (λ d. if u then false else d) o ≡ option_map (λ d. if (if t then false else u) then false else d) o
  same t u e o = rw e refl
