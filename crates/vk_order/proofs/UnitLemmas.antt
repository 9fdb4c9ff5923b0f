-- Units of a resource: the bytes of a buffer, or the subresources of an image.
use Rattle.std.proofs.Common.{◌≡◌, ⊎_elim, ℕ, ◌+◌, ◌*◌, ◌-◌, ◌<◌, ◌≤◌, true, refl, ap, sym, ◌∙◌, subst, arith}
use Rattle.std.specs.Prelude.{◌/◌, ◌%◌, nat_le, nat_lt}
use Rattle.std.proofs.lemmas.Bool.{and_parts, and_from, cases_lt, leb-true, le-leb, ltb-true, lt-ltb}
use Rattle.std.proofs.lemmas.Nat.{div-mul-add, mod-mul-add}
use Rattle.std.proofs.Math.Nat.{le-div_iff_mul-le, div-add-mod, add-mul, lt-div-mul-add}
use Rattle.vk_model.specs.declared.command.SubresourceRange.{SubresourceRange}
use Rattle.vk_model.specs.Basics.{within}
use Rattle.vk_model.proofs.Lists.Truths.{bool_same}
use Rattle.vk_order.specs.declared.units.Units.{Units}
use Rattle.vk_order.specs.declared.units.Units.TheVariants as units
use Rattle.vk_order.specs.Units.{HaveNumbers, in_subresources}

-- fewer numbers are numbers of units as well
pub have_fewer : (u : Units) (end more : ℕ) → end ≤ more → HaveNumbers u more → HaveNumbers u end
have_fewer (units.Bytes b) end more le h = h
have_fewer (units.Subresources i levels) end more le h = (h.0, let all = h.1 in omega arith)

-- whole rows of numbers
row_within : (row first count k : ℕ) → 0 < row → within (first * row) (count * row) k ≡ within first count (k / row)
row_within row first count k some = bool_same _ _ to from where
  many : (first + count) * row ≡ first * row + count * row
  many = add-mul first count row

  to : within (first * row) (count * row) k ≡ true → within first count (k / row) ≡ true
  to h =
      let both = and_parts (nat_le (first * row) k) (nat_lt k (first * row + count * row)) h in
      let low = leb-true (first * row) k both.0 in
      let high = ltb-true k (first * row + count * row) both.1 in
      and_from (nat_le first (k / row)) (nat_lt (k / row) (first + count)) (le-leb first (k / row) ((le-div_iff_mul-le some).1 low))
      (⊎_elim (λ lt. lt-ltb (k / row) (first + count) lt) (λ ge. absurd (let le = (le-div_iff_mul-le some).0 ge in let e = many in omega (arith, le, e, high))) (cases_lt (k / row) (first + count)))

  from : within first count (k / row) ≡ true → within (first * row) (count * row) k ≡ true
  from h =
      let both = and_parts (nat_le first (k / row)) (nat_lt (k / row) (first + count)) h in
      let low = leb-true first (k / row) both.0 in
      let high = ltb-true (k / row) (first + count) both.1 in
      and_from (nat_le (first * row) k) (nat_lt k (first * row + count * row)) (le-leb (first * row) k ((le-div_iff_mul-le some).0 low))
      (⊎_elim (λ lt. lt-ltb k (first * row + count * row) lt) (λ ge. absurd (let le = (le-div_iff_mul-le some).1 (subst (λ (m : ℕ). m ≤ k) (sym many) ge) in omega (arith, le, high))) (cases_lt k (first * row + count * row)))

-- a range of all levels has the same of two subresources whose layers it has alike
pub whole_layers : (r : SubresourceRange) (row k at : ℕ) → 0 < row → r.first_level ≡ 0 → row ≤ r.levels
    → within (r.first_layer * row) (r.layers * row) k ≡ within (r.first_layer * row) (r.layers * row) at
    → in_subresources r (k % row) (k / row) ≡ in_subresources r (at % row) (at / row)
whole_layers r row k at some none all same =
    let layers : within r.first_layer r.layers (k / row) ≡ within r.first_layer r.layers (at / row) = sym (row_within row r.first_layer r.layers k some) ∙ same ∙ row_within row r.first_layer r.layers at some in
    rw (level k, level at, layers) refl
  where
    level : (j : ℕ) → within r.first_level r.levels (j % row) ≡ true
    level j =
        let lt = Rattle.std.proofs.Math.Nat.mod-lt j some in
        and_from (nat_le r.first_level (j % row)) (nat_lt (j % row) (r.first_level + r.levels)) (le-leb r.first_level (j % row) (omega (arith, none))) (lt-ltb (j % row) (r.first_level + r.levels) (omega (arith, lt, all)))

-- within a layer a range has the same of two subresources whose levels it has alike
pub within_layer : (r : SubresourceRange) (row k at : ℕ) → 0 < row → at ≤ k → k < at - at % row + row
    → within (at - at % row + r.first_level) r.levels k ≡ within (at - at % row + r.first_level) r.levels at
    → in_subresources r (k % row) (k / row) ≡ in_subresources r (at % row) (at / row)
within_layer r row k at some from to same =
    let here = div-add-mod at row in
    let low = Rattle.std.proofs.Math.Nat.mod-lt at some in
    let start : at - at % row ≡ at / row * row = (let e = Rattle.std.proofs.Math.Nat.mul_comm row (at / row) in omega (arith, here, e)) in
    let split : at / row * row + (k - (at - at % row)) ≡ k = omega (arith, start, here, from, low) in
    let less : k - (at - at % row) < row = omega (arith, to, from) in
    let row_is : k / row ≡ at / row = ap (λ (j : ℕ). j / row) (sym split) ∙ div-mul-add (at / row) row (k - (at - at % row)) less in
    let level_is : k % row ≡ k - (at - at % row) = ap (λ (j : ℕ). j % row) (sym split) ∙ mod-mul-add (at / row) row (k - (at - at % row)) less in
    let own : at % row ≡ at - (at - at % row) = omega (arith, here, low) in
    let levels : within r.first_level r.levels (k % row) ≡ within r.first_level r.levels (at % row) =
    ap (within r.first_level r.levels) level_is ∙ shifted (at - at % row) k (omega (arith, from)) ∙ same ∙ sym (shifted (at - at % row) at (omega arith)) ∙ ap (within r.first_level r.levels) (sym own) in
    rw (levels, row_is) refl
  where
    shifted : (start j : ℕ) → start ≤ j → within r.first_level r.levels (j - start) ≡ within (start + r.first_level) r.levels j
    shifted start j le = bool_same _ _
        (λ h. let both = and_parts (nat_le r.first_level (j - start)) (nat_lt (j - start) (r.first_level + r.levels)) h in
        let low = leb-true r.first_level (j - start) both.0 in let high = ltb-true (j - start) (r.first_level + r.levels) both.1 in
        and_from (nat_le (start + r.first_level) j) (nat_lt j (start + r.first_level + r.levels)) (le-leb (start + r.first_level) j (omega (arith, low, le))) (lt-ltb j (start + r.first_level + r.levels) (omega (arith, high, le))))
        (λ h. let both = and_parts (nat_le (start + r.first_level) j) (nat_lt j (start + r.first_level + r.levels)) h in
        let low = leb-true (start + r.first_level) j both.0 in let high = ltb-true j (start + r.first_level + r.levels) both.1 in
        and_from (nat_le r.first_level (j - start)) (nat_lt (j - start) (r.first_level + r.levels)) (le-leb r.first_level (j - start) (omega (arith, low))) (lt-ltb (j - start) (r.first_level + r.levels) (omega (arith, high, le))))
