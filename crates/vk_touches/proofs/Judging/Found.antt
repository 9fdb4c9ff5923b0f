-- What a search finds of bytes by their numbers is what a test says of the bytes.
use Rattle.std.proofs.Common.{◌≡◌, ◌<◌, ◌≤◌, ◌+◌, ◌-◌, ℕ, List, map, slice_get, Bool, true, false, sym, ap, ◌∙◌, subst, arith, Some}
use Rattle.std.specs.Prelude.{Contains}
use Rattle.std.specs.List.{list_any, flat_map}
use Rattle.vk_model.specs.declared.command.BufferCopy.{BufferCopy}
use Rattle.vk_model.specs.Basics.{below}
use Rattle.vk_model.specs.World.Bytes.{Byte}
use Rattle.vk_model.specs.Trace.Point.{Past}
use Rattle.vk_model.proofs.Lists.Members.{any_map, member_passes, none_passes_any, numbers_have, range_from}
use Rattle.vk_touches.specs.declared.touches.LastTouches.{LastTouches}
use Rattle.vk_touches.specs.Touched.{touched}
use Rattle.vk_touches.specs.Conflicts.{FoundAt, FoundAmong}
use Rattle.vk_laws.proofs.Forms.Spread.{any_flat}

-- ---- in a list

pub any_found : {A : Type 0} (is : ℕ → Bool → A → Type 0) (xs : List A) (o n : ℕ) (r : Bool) (test : ℕ → Bool) → FoundAt is r xs o (o + n)
    → ((k : ℕ) → o ≤ k → k < o + n → (b : Bool) (a : A) → slice_get xs k ≡ Some a → is k b a → test k ≡ b) → list_any (λ k. test (o + k)) (below n) ≡ r
any_found is xs o n true test found same =
    let low = found.1 in
    let high = found.2 in
    let at : 0 + (found.0 - o) ≡ found.0 - o = omega arith in
    let back : o + (found.0 - o) ≡ found.0 = omega (arith, low) in
    member_passes (λ k. test (o + k)) (below n) (found.0 - o) (subst (λ (k : ℕ). Contains (below n) k) at (numbers_have 0 n (found.0 - o) (omega (arith, low, high))))
    (ap test back ∙ same found.0 low high true found.3 found.4 found.5)
any_found is xs o n false test found same = none_passes_any (λ k. test (o + k)) (below n) (λ k c.
    let lt = (range_from 0 n k c).1 in
    let at = found (o + k) (omega arith) (omega (arith, lt)) in
    same (o + k) (omega arith) (omega (arith, lt)) false at.0 at.1 at.2)

-- ---- of bytes of a resource, of which this is kept

module _ (past : Past) (byte : ℕ → Byte) (size : ℕ) (is : ℕ → Bool → LastTouches → Type 0) (test : Byte → Bool) (same : (k : ℕ) (r : Bool) → is k r (touched past (byte k)) → test (byte k) ≡ r) (touches : List LastTouches) (kept : (k : ℕ) → k < size → slice_get touches k ≡ Some (touched past (byte k))) where
  -- in a range
  pub numbers_found : (o n : ℕ) → o + n ≤ size → (r : Bool) → FoundAt is r touches o (o + n) → list_any test (map (λ k. byte (o + k)) (below n)) ≡ r
  numbers_found o n fits r found =
      any_map test (λ k. byte (o + k)) (below n)
      ∙ any_found is touches o n r (λ k. test (byte k)) found (λ k low high q t at h.
      let own : Some t ≡ Some (touched past (byte k)) = sym at ∙ kept k (omega (arith, high, fits)) in
      same k q (subst (λ (u : LastTouches). is k q u) (inside t (touched past (byte k)) own) h))
    where
      inside : (x y : LastTouches) → Some x ≡ Some y → x ≡ y
      inside x y e = cc

  -- in what copies read or write
  pub regions_found : (offset : BufferCopy → ℕ) (gs : List BufferCopy) → ((g : BufferCopy) → Contains gs g → offset g + g.size ≤ size) → (r : Bool)
      → FoundAmong (λ r g. FoundAt is r touches (offset g) (offset g + g.size)) r gs → list_any test (flat_map (λ g. map (λ k. byte (offset g + k)) (below g.size)) gs) ≡ r
  regions_found offset gs fits true found =
      any_flat test (λ g. map (λ k. byte (offset g + k)) (below g.size)) gs
      ∙ member_passes (λ g. list_any test (map (λ k. byte (offset g + k)) (below g.size))) gs found.0 found.1 (numbers_found (offset found.0) found.0.size (fits found.0 found.1) true found.2)
  regions_found offset gs fits false found =
      any_flat test (λ g. map (λ k. byte (offset g + k)) (below g.size)) gs
      ∙ none_passes_any (λ g. list_any test (map (λ k. byte (offset g + k)) (below g.size))) gs (λ g c. numbers_found (offset g) g.size (fits g c) false (found g c))
