-- Lemmas on the marks of an object, and on chunks of them.
use Rattle.std.proofs.Common.{◌≡◌, ◌≢◌, ◌⊎◌, inl, inr, ℕ, ◌+◌, ◌-◌, ◌/◌, ◌<◌, ◌≤◌, List, length, take, drop, get_or, set, ap, sym, ◌∙◌, arith, Option, Some, None, replicate, Vec, get_or-set_other}
use Rattle.std.proofs.lemmas.Bool.{cases_lt}
use Rattle.std.proofs.lemmas.Grind.{get_or-set_at}
use Rattle.std.proofs.lemmas.List.{get_or-replicate, length-replicate}
use Rattle.std.specs.Vec.{with_items}
use Rattle.vk_map_cache.specs.declared.mark.Mark.{Mark}
use Rattle.vk_map_cache.specs.declared.mark.Mark.TheVariants.{Absent}
use Rattle.vk_map_cache.specs.Inner.Marks.{mark_at}
use Rattle.vk_map_cache.proofs.HoldingLemmas.{patch, length-part, length-patched, patched-in, patched-out}

-- ---- what is known of chunks, with one entry anew

pub alike_anew : (size : ℕ) (marks : List Mark) (alike : List (Option Mark)) (chunk : ℕ) (entry : Option Mark) → chunk < length alike
    → ((k : ℕ) (m : Mark) → k < size → k / 4096 ≢ chunk → get_or alike (k / 4096) None ≡ Some m → mark_at marks k ≡ m)
    → ((k : ℕ) (m : Mark) → k < size → k / 4096 ≡ chunk → entry ≡ Some m → mark_at marks k ≡ m)
    → (k : ℕ) (m : Mark) → k < size → get_or (set alike chunk entry) (k / 4096) None ≡ Some m → mark_at marks k ≡ m
alike_anew size marks alike chunk entry named kept here k m lt is = elim (cases_lt (k / 4096) chunk) [
  | inl below ↦ let other : k / 4096 ≢ chunk = omega (arith, below) in kept k m lt other (sym (get_or-set_other alike chunk (k / 4096) entry None other) ∙ is)
  | inr least ↦ elim (cases_lt chunk (k / 4096)) [
    | inl above ↦ let other : k / 4096 ≢ chunk = omega (arith, above) in kept k m lt other (sym (get_or-set_other alike chunk (k / 4096) entry None other) ∙ is)
    | inr most ↦ let at : k / 4096 ≡ chunk = omega (arith, least, most) in here k m lt at (sym (get_or-set_at alike chunk (k / 4096) entry None at named) ∙ is)
  ]
]

-- ---- a part that is marked alike

module _ {Z : Type 0} (v : Vec Mark Z) (xs ys : List Mark) (low high : ℕ) (mark : Mark) (is : xs ≡ v.items) (len : length xs ≡ v.len)
    (ys_are : ys ≡ replicate (length (take (high - low) (drop low xs))) mark) (order : low < high) (fits : high ≤ length xs)
  where
    part_fits : low + (high - low) ≤ length xs
    part_fits = omega (arith, order, fits)

    long : length ys ≡ high - low
    long = ap (λ (l : List Mark). length l) ys_are ∙ length-replicate (length (take (high - low) (drop low xs))) mark ∙ length-part xs low (high - low) part_fits

    pub length-marked : length (with_items v (patch xs low (high - low) ys)).items ≡ length v.items
    length-marked = length-patched Absent v xs ys low (high - low) is len long part_fits

    pub marked-in : (k : ℕ) → low ≤ k → k < high → mark_at (with_items v (patch xs low (high - low) ys)).items k ≡ mark
    marked-in k ge lt =
        patched-in Absent v xs ys low (high - low) is len long part_fits k ge (omega (arith, lt))
        ∙ ap (λ (l : List Mark). get_or l (k - low) Absent) ys_are
        ∙ get_or-replicate (length (take (high - low) (drop low xs))) (k - low) mark Absent (omega (arith, ge, lt, length-part xs low (high - low) part_fits))

    pub marked-out : (k : ℕ) → (k < low) ⊎ (high ≤ k) → mark_at (with_items v (patch xs low (high - low) ys)).items k ≡ mark_at v.items k
    marked-out k out = patched-out Absent v xs ys low (high - low) is len long part_fits k (beyond out)
      where
        beyond : (k < low) ⊎ (high ≤ k) → (k < low) ⊎ (low + (high - low) ≤ k)
        beyond (inl lt) = inl lt
        beyond (inr le) = inr (omega (arith, order, le))
