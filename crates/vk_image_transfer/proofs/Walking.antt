-- Rows of texels that are walked in stretches.
use Rattle.std.proofs.Common.{◌≡◌, ℕ, zero, suc, ◌+◌, ◌-◌, ◌*◌, ◌<◌, ◌≤◌, Bool, true, false, ◌||◌, refl, ap, sym, ◌∙◌, arith}
use Rattle.std.proofs.lemmas.List.FromFn.{length-map-range_with_len}
use Rattle.std.proofs.lemmas.Bool.{and_parts, and_from, leb-true, ltb-true, le-leb, lt-ltb}
use Rattle.std.proofs.lemmas.Bool.Decides.{nat_tests}
use Rattle.std.specs.List.{list_any, range_with_len}
use Rattle.std.specs.Prelude.{nat_le, nat_lt}
use Rattle.vk_model.specs.Basics.{within}
use Rattle.vk_model.proofs.Lists.Members.{some_member, none_passes_any, any_map, range_from}
use Rattle.vk_transfer.specs.declared.stretches.Stretch.{Stretch}
use Rattle.vk_transfer.specs.Stretches.{lies_in}
use Rattle.vk_image_transfer.specs.Inner.Lines.{line_place, line_texel, IsWalked}
use Rattle.vk_image_transfer.specs.declared.lines.Line.{Line}
use Rattle.vk_image_transfer.specs.Stretches.{is_among, Takes, texel_bytes, row_left}

pub within_from : (low count n : ℕ) → low ≤ n → n < low + count → within low count n ≡ true
within_from low count n le lt = and_from (nat_le low n) (nat_lt n (low + count)) (le-leb low n le) (lt-ltb n (low + count) lt)

pub within_parts : (low count n : ℕ) → within low count n ≡ true → (low ≤ n) × (n < low + count)
within_parts low count n e = let p = and_parts (nat_le low n) (nat_lt n (low + count)) e in (leb-true low n p.0, ltb-true n (low + count) p.1)

-- what is passed in a range is passed in its first part or in the rest
any_split : (test : ℕ → Bool) (x m n : ℕ) → list_any test (range_with_len x (m + n)) ≡ (list_any test (range_with_len x m) || list_any test (range_with_len (x + m) n))
any_split test x zero n = let none : zero + n ≡ n = omega arith in let here : x ≡ x + zero = omega arith in rw none (ap (λ (i : ℕ). list_any test (range_with_len i n)) here)
any_split test x (suc m) n =
    let more : suc m + n ≡ suc (m + n) = omega arith in
    let at : x + 1 + m ≡ x + suc m = omega arith in
    rw more (together (test x) (list_any test (range_with_len (x + 1) m)) (list_any test (range_with_len (x + suc m) n)) (list_any test (range_with_len (x + 1) (m + n)))
    (any_split test (x + 1) m n ∙ ap (λ (i : ℕ). list_any test (range_with_len (x + 1) m) || list_any test (range_with_len i n)) at))
  where
    together : (a b c d : Bool) → d ≡ (b || c) → (a || d) ≡ ((a || b) || c)
    together true b c d e = refl
    together false b c d e = e

-- texels that lie together have the bytes of one stretch
any_together : (place : ℕ → ℕ) (t at x m k : ℕ) → ((j : ℕ) → j < m → place (x + j) ≡ at + j * t) → list_any (λ j. within (place j) t k) (range_with_len x m) ≡ within at (m * t) k
any_together place t at x zero k lie = grind (arith, nat_tests)
any_together place t at x (suc m) k lie =
    let here : place x ≡ at = let first : x + 0 ≡ x = omega arith in let none : 0 * t ≡ 0 = omega arith in omega (arith, lie 0 (omega arith), ap place first, none) in
    let rest : list_any (λ j. within (place j) t k) (range_with_len (x + 1) m) ≡ within (at + t) (m * t) k = any_together place t (at + t) (x + 1) m k (λ j lt. next j lt) in
    rw (here, rest) (joined (m * t) (suc m * t) (omega arith))
  where
    next : (j : ℕ) → j < m → place (x + 1 + j) ≡ at + t + j * t
    next j lt = let same : x + 1 + j ≡ x + suc j = omega arith in let more : suc j * t ≡ t + j * t = omega arith in omega (arith, ap place same, lie (suc j) (omega arith), more)

    joined : (rest all : ℕ) → all ≡ t + rest → (within at t k || within (at + t) rest k) ≡ within at all k
    joined rest all is = grind (arith, nat_tests)

-- the bytes of a row, texel by texel
pub row_among : (place : ℕ → ℕ) (t x count k : ℕ) → is_among (row_left place t x count) k ≡ list_any (λ j. within (place j) t k) (range_with_len x count)
row_among place t x count k = any_map (λ s. lies_in s k) (texel_bytes place t) (range_with_len x count)

module _ (l : Line) (x count t : ℕ) (walked : IsWalked l x count t) (at m : ℕ) (some : 0 < m) (fits : x + m ≤ count) (together : (k : ℕ) → k < m → line_place l (x + k) ≡ at + k * line_texel l) where
  abbrev place : ℕ → ℕ
  place = line_place l

  abbrev s : Stretch
  s = record { at = at; size = m * t }

  lie : (j : ℕ) → j < m → place (x + j) ≡ at + j * t
  lie j lt = together j lt ∙ ap (λ (n : ℕ). at + j * n) walked.fits.texel

  test : ℕ → ℕ → Bool
  test k j = within (place j) t k

  pub size_some : 0 < m * t
  size_some = product m t some walked.some
    where
      product : (a b : ℕ) → 0 < a → 0 < b → 0 < a * b
      product zero b one two = absurd (omega arith)
      product (suc a) b one two = let more : suc a * b ≡ b + a * b = omega arith in omega arith

  here : (k : ℕ) → list_any (λ j. within (place j) t k) (range_with_len x m) ≡ lies_in s k
  here k = any_together place t at x m k lie

  all : (k : ℕ) → list_any (λ j. within (place j) t k) (range_with_len x (count - x)) ≡ (lies_in s k || list_any (λ j. within (place j) t k) (range_with_len (x + m) (count - (x + m))))
  all k =
      let parts : count - x ≡ m + (count - (x + m)) = omega arith in
      ap (λ (n : ℕ). list_any (λ j. within (place j) t k) (range_with_len x n)) parts
      ∙ any_split (λ j. within (place j) t k) x m (count - (x + m))
      ∙ ap (λ (b : Bool). b || list_any (λ j. within (place j) t k) (range_with_len (x + m) (count - (x + m)))) (here k)

  none_after : (k : ℕ) → lies_in s k ≡ true → list_any (λ j. within (place j) t k) (range_with_len (x + m) (count - (x + m))) ≡ false
  none_after k is =
      let found = some_member (λ j. within (place j) t k) (range_with_len x m) (here k ∙ is) in
      let u : ℕ = found.0 in
      let among = range_from x m u found.1 in
      let own = within_parts (place u) t k found.2 in
      none_passes_any (λ j. within (place j) t k) (range_with_len (x + m) (count - (x + m))) (λ j c. fails u among own j (range_from (x + m) (count - (x + m)) j c) (within (place j) t k) refl)
    where
      fails : (u : ℕ) → (x ≤ u) × (u < x + m) → (place u ≤ k) × (k < place u + t) → (j : ℕ) → (x + m ≤ j) × (j < x + m + (count - (x + m))) → (b : Bool) → within (place j) t k ≡ b → b ≡ false
      fails u among own j later false e = refl
      fails u among own j later true e =
          let part = within_parts (place j) t k e in
          let same : u ≡ j = walked.apart u (k - place u) j (k - place j) (omega (arith, among, fits)) (omega (arith, later, fits)) (omega (arith, own)) (omega (arith, part)) (omega (arith, own, part)) in
          absurd (omega (arith, same, among, later))

  pub taken : Takes s (row_left place t x (count - x)) (row_left place t (x + m) (count - (x + m)))
  taken = record {
    some = size_some;
    bytes = λ k. row_among place t x (count - x) k ∙ all k ∙ ap (λ (b : Bool). lies_in s k || b) (sym (row_among place t (x + m) (count - (x + m)) k));
    apart = λ k is. row_among place t (x + m) (count - (x + m)) k ∙ none_after k is;
    fewer = omega (arith, length-map-range_with_len (texel_bytes place t) x (count - x), length-map-range_with_len (texel_bytes place t) (x + m) (count - (x + m)));
  }
