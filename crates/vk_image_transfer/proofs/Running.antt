-- Texels that have been written make the byte writes of a row.
use Rattle.std.proofs.Common.{◌≡◌, inl, inr, ℕ, zero, suc, ◌+◌, ◌*◌, ◌/◌, ◌%◌, ◌<◌, ◌≤◌, List, map, Bool, true, false, cond, eqb, refl, ap, sym, ◌∙◌, arith, slice_index, Option, Some, None}
use Rattle.std.specs.List.{find, range_with_len}
use Rattle.std.proofs.lemmas.Bool.{eqb-true, cases_lt}
use Rattle.std.proofs.lemmas.Nat.{div_below, mod_below, div-mul-add, mod-mul-add, mul-add-lt}
use Rattle.vk_model.specs.Basics.{below}
use Rattle.vk_model.specs.World.Bytes.{Byte, same_byte, resource_at}
use Rattle.vk_model.specs.World.ByteWrites.{Source, ByteWrite, byte_write}
use Rattle.vk_model.specs.Run.CachedRuns.{write_to}
use Rattle.vk_transfer.specs.Ran.{given, stored, HaveRun}
use Rattle.vk_image_transfer.specs.Held.{Held, Form, place_of, byte_held, bytes_held}
use Rattle.vk_image_transfer.specs.Rows.{AreWritten}
use Rattle.vk_model.proofs.World.BytePlaces.{byte_same, byte_itself}

-- ---- what is found among what a function gives for numbers

-- an item that is found is that of one of the numbers, and passes the test
pub found_in : {X : Type 0} (test : X → Bool) (f : ℕ → X) (a n : ℕ) (m : X) → find test (map f (range_with_len a n)) ≡ Some m → (k : ℕ) × (a ≤ k) × (k < a + n) × (f k ≡ m) × (test (f k) ≡ true)
found_in test f a zero m e = absurd cc
found_in {X} test f a (suc n) m e = go (test (f a)) refl (λ h. found_in test f (a + 1) n m h) e
  where
    go : (t : Bool) → test (f a) ≡ t → (find test (map f (range_with_len (a + 1) n)) ≡ Some m → (k : ℕ) × (a + 1 ≤ k) × (k < a + 1 + n) × (f k ≡ m) × (test (f k) ≡ true))
        → cond t (Some (f a)) (find test (map f (range_with_len (a + 1) n))) ≡ Some m → (k : ℕ) × (a ≤ k) × (k < a + suc n) × (f k ≡ m) × (test (f k) ≡ true)
    go true h rest e = let same : f a ≡ m = cc in (a, omega arith, omega arith, same, h)
    go false h rest e = let r = rest e in (r.0, omega (arith, r.1), omega (arith, r.2), r.3, r.4)

-- where none is found, all fail it
pub none_in : {X : Type 0} (test : X → Bool) (f : ℕ → X) (a n : ℕ) → find test (map f (range_with_len a n)) ≡ None → (k : ℕ) → a ≤ k → k < a + n → test (f k) ≡ false
none_in test f a zero e k low high = absurd (omega arith)
none_in {X} test f a (suc n) e k low high = go (test (f a)) refl (λ h less. none_in test f (a + 1) n h k less (omega arith)) e
  where
    go : (t : Bool) → test (f a) ≡ t → (find test (map f (range_with_len (a + 1) n)) ≡ None → a + 1 ≤ k → test (f k) ≡ false) → cond t (Some (f a)) (find test (map f (range_with_len (a + 1) n))) ≡ None → test (f k) ≡ false
    go true h rest e = absurd cc
    go false h rest e = elim (cases_lt a k) [
      | inl less ↦ rest e (omega arith)
      | inr more ↦ (let same : k ≡ a = omega arith in ap (λ (i : ℕ). test (f i)) same ∙ h)
    ]

-- ---- a row

-- the byte writes of w texels of t bytes
abbrev pub row_writes : (w t : ℕ) → (ℕ → ℕ → Byte) → (ℕ → ℕ → Source) → List ByteWrite
row_writes w t to source = map (λ q. byte_write (to (q / t) (q % t)) (source (q / t) (q % t))) (below (w * t))

-- a byte is that of a write of the row, or of none
module _ (w t : ℕ) (to : ℕ → ℕ → Byte) (source : ℕ → ℕ → Source) (old new : Byte → ℕ) (some : 0 < t)
    (inside : (x p : ℕ) → x < w → p < t → new (to x p) ≡ given (source x p) old)
    (outside : (c : Byte) → ((x p : ℕ) → x < w → p < t → same_byte (to x p) c ≡ false) → new c ≡ old c) where
  pub row_ran : HaveRun (row_writes w t to source) old new
  row_ran c = go (write_to c (row_writes w t to source)) refl
    where
      go : (o : Option ByteWrite) → write_to c (row_writes w t to source) ≡ o → new c ≡ stored o old c
      go None e = outside c (λ x p lt low.
          let at : (x * t + p) / t ≡ x = div-mul-add x t p low in
          let part : (x * t + p) % t ≡ p = mod-mul-add x t p low in
          let high : x * t + p < t * w = mul-add-lt x t p w lt low in
          ap (λ (u : ℕ). same_byte (to u p) c) (sym at) ∙ ap (λ (u : ℕ). same_byte (to ((x * t + p) / t) u) c) (sym part)
          ∙ none_in (λ m. same_byte m.to c) (λ q. byte_write (to (q / t) (q % t)) (source (q / t) (q % t))) 0 (w * t) e (x * t + p) (omega arith) (omega (arith, high)))
      go (Some m) e =
          let r = found_in (λ m. same_byte m.to c) (λ q. byte_write (to (q / t) (q % t)) (source (q / t) (q % t))) 0 (w * t) m e in
          let here : to (r.0 / t) (r.0 % t) ≡ c = byte_same (to (r.0 / t) (r.0 % t)) c r.4 in
          let lt : r.0 / t < w = div_below r.0 t w some (omega (arith, r.2)) in
          ap new (sym here) ∙ inside (r.0 / t) (r.0 % t) lt (mod_below r.0 t some) ∙ ap (λ (n : ByteWrite). given n.source old) r.3

-- ---- a row of a resource that lies in a region

-- no two bytes of resource d lie at one place
abbrev pub PlacesApart : ℕ → Form → Type 0
PlacesApart d form = (c e : Byte) (k : ℕ) → resource_at c ≡ d → resource_at e ≡ d → place_of form c ≡ Some k → place_of form e ≡ Some k → c ≡ e

module _ (d w t : ℕ) (h : Held) (changed : List ℕ) (held after : ℕ → Option Held) (to : ℕ → ℕ → Byte) (source : ℕ → ℕ → Source) (place : ℕ → ℕ) (value : ℕ → ℕ → ℕ)
    (some : 0 < t) (old_is : held d ≡ Some h) (new_is : after d ≡ Some (record h { region = changed }))
    (beside : (c : Byte) → eqb d (resource_at c) ≡ false → byte_held (after (resource_at c)) c ≡ byte_held (held (resource_at c)) c)
    (apart : PlacesApart d h.form) (of_d : (x p : ℕ) → resource_at (to x p) ≡ d)
    (at : (x p : ℕ) → x < w → p < t → (k : ℕ) × (place_of h.form (to x p) ≡ Some k) × (h.start + k ≡ place x + p))
    (written : AreWritten h.region changed w t place value)
    (values : (x p : ℕ) → x < w → p < t → value x p ≡ given (source x p) (bytes_held held)) where
  abbrev held_at : List ℕ → Option ℕ → ℕ
  held_at xs None = 0
  held_at xs (Some k) = slice_index xs (h.start + k)

  in_place : (c : Byte) (k : ℕ) (xs : List ℕ) → place_of h.form c ≡ Some k → byte_held (Some (record h { region = xs })) c ≡ slice_index xs (h.start + k)
  in_place c k xs e = ap (held_at xs) e

  inside : (x p : ℕ) → x < w → p < t → bytes_held after (to x p) ≡ given (source x p) (bytes_held held)
  inside x p lt low =
      let there = at x p lt low in
      ap (λ (i : ℕ). byte_held (after i) (to x p)) (of_d x p) ∙ ap (λ (o : Option Held). byte_held o (to x p)) new_is
      ∙ in_place (to x p) there.0 changed there.1 ∙ ap (λ (j : ℕ). slice_index changed j) there.2 ∙ written.there x p lt low ∙ values x p lt low

  outside : (c : Byte) → ((x p : ℕ) → x < w → p < t → same_byte (to x p) c ≡ false) → bytes_held after c ≡ bytes_held held c
  outside c none = go (eqb d (resource_at c)) refl
    where
      kept : resource_at c ≡ d → (k : ℕ) → place_of h.form c ≡ Some k → slice_index changed (h.start + k) ≡ slice_index h.region (h.start + k)
      kept of_c k e = written.kept (h.start + k) (λ x p lt low is.
          let there = at x p lt low in
          let same : there.0 ≡ k = omega (arith, is, there.2) in
          let one : to x p ≡ c = apart (to x p) c k (of_d x p) of_c (there.1 ∙ ap (λ (j : ℕ). Some j) same) e in
          let is_it : same_byte (to x p) c ≡ true = ap (λ (b : Byte). same_byte (to x p) b) (sym one) ∙ byte_itself (to x p) in
          let not_it = none x p lt low in
          clash (same_byte (to x p) c) is_it not_it)
        where
          clash : (b : Bool) → b ≡ true → b ≡ false → ⊥
          clash b is_true is_false = absurd cc

      by_place : resource_at c ≡ d → (o : Option ℕ) → place_of h.form c ≡ o → held_at changed o ≡ held_at h.region o
      by_place of_c None e = refl
      by_place of_c (Some k) e = kept of_c k e

      go : (b : Bool) → eqb d (resource_at c) ≡ b → bytes_held after c ≡ bytes_held held c
      go false e = beside c e
      go true e =
          let of_c : d ≡ resource_at c = eqb-true d (resource_at c) e in
          ap (λ (i : ℕ). byte_held (after i) c) (sym of_c) ∙ ap (λ (o : Option Held). byte_held o c) new_is
          ∙ by_place (sym of_c) (place_of h.form c) refl
          ∙ sym (ap (λ (i : ℕ). byte_held (held i) c) (sym of_c) ∙ ap (λ (o : Option Held). byte_held o c) old_is)

  pub held_ran : HaveRun (row_writes w t to source) (bytes_held held) (bytes_held after)
  held_ran = row_ran w t to source (bytes_held held) (bytes_held after) some inside outside
