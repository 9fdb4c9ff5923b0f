-- Sums over the levels of an image.
use Rattle.std.proofs.Common.{subst, ◌≡◌, ◌≤◌, ◌<◌, ◌+◌, ◌-◌, ◌*◌, ◌/◌, ◌^◌, ℕ, zero, suc, refl, ap, sym, ◌∙◌, arith, add_assoc, true}
use Rattle.std.specs.Prelude.{max, nat_lt}
use Rattle.std.specs.List.{sum_by, range_with_len}
use Rattle.std.proofs.Math.Nat.{div-eq_of_lt, pow-le-pow_right}
use Rattle.std.proofs.lemmas.Bool.{lt-ltb}
use Rattle.std.proofs.lemmas.List.Sums.{sum_by-cons}
use Rattle.std.proofs.lemmas.Nat.{mul-le}
use Rattle.vk_model.specs.Basics.{below}

-- a side of 32 bits is one texel at level 32 and later ones
pub last_texel : (side level : ℕ) → side < 2 ^ 32 → 32 ≤ level → 1 ≡ max 1 (side / 2 ^ level)
last_texel side level small late =
    let wide : 2 ^ 32 ≤ 2 ^ level = pow-le-pow_right (omega arith) late in
    let none : side / 2 ^ level ≡ 0 = div-eq_of_lt (omega arith) in
    rw none refl

module _ (f : ℕ → ℕ) where
  one_more : (a n j : ℕ) → a + n ≡ j → sum_by f (range_with_len a (suc n)) ≡ sum_by f (range_with_len a n) + f j
  one_more a zero j e = let same : a ≡ j = omega arith in ap (λ (k : ℕ). 0 + f k) same
  one_more a (suc n) j e =
      sum_by-cons f a (range_with_len (a + 1) (suc n)) ∙ ap (λ s. f a + s) (one_more (a + 1) n j (omega arith))
      ∙ sym (add_assoc (f a) (sum_by f (range_with_len (a + 1) n)) (f j)) ∙ ap (λ s. s + f j) (sym (sum_by-cons f a (range_with_len (a + 1) n)))

  -- a sum with one more number
  pub sum_more : (n : ℕ) → sum_by f (below (n + 1)) ≡ sum_by f (below n) + f n
  sum_more n = let e : n + 1 ≡ suc n = omega arith in ap (λ (k : ℕ). sum_by f (below k)) e ∙ one_more 0 n n (omega arith)

  -- the sum of fewer numbers isn't greater
  pub sum_rises : (n k : ℕ) → sum_by f (below n) ≤ sum_by f (below (n + k))
  sum_rises n zero = let e : n + 0 ≡ n = omega arith in rw e (omega arith)
  sum_rises n (suc k) =
      let e : n + suc k ≡ n + k + 1 = omega arith in
      let more : sum_by f (below (n + k + 1)) ≡ sum_by f (below (n + k)) + f (n + k) = sum_more (n + k) in
      let before : sum_by f (below n) ≤ sum_by f (below (n + k)) = sum_rises n k in
      let all : sum_by f (below n) ≤ sum_by f (below (n + k + 1)) = omega arith in
      subst (λ (j : ℕ). sum_by f (below n) ≤ sum_by f (below j)) (sym e) all

  -- where some of the levels ask for more than a limit, all layers do
  pub some_more : (n levels layers limit : ℕ) → n < levels → 0 < layers → limit < sum_by f (below n) + f n → true ≡ nat_lt limit (sum_by f (below levels) * layers)
  some_more n levels layers limit lt above over =
      let gap : n + 1 + (levels - (n + 1)) ≡ levels = omega arith in
      let here : sum_by f (below (n + 1)) ≡ sum_by f (below n) + f n = sum_more n in
      let rise : sum_by f (below (n + 1)) ≤ sum_by f (below levels) = subst (λ (j : ℕ). sum_by f (below (n + 1)) ≤ sum_by f (below j)) gap (sum_rises (n + 1) (levels - (n + 1))) in
      let one : sum_by f (below levels) * 1 ≤ sum_by f (below levels) * layers = mul-le _ _ _ _ (omega arith) above in
      let more : limit < sum_by f (below levels) * layers = omega arith in
      sym (lt-ltb _ _ more)
