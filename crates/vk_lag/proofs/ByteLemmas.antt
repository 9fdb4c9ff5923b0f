-- Late bytes that are changed one after another.
use Rattle.std.proofs.Common.{◌≡◌, ◌≢◌, ℕ, ◌+◌, ◌<◌, ◌≤◌, List, length, get_or, set, Bool, true, false, ◌&&◌, refl, sym, subst, ◌∙◌, arith, get_or-set_other, inl, inr}
use Rattle.std.specs.Prelude.{nat_le, nat_lt, if◌then◌else◌}
use Rattle.std.proofs.lemmas.Bool.{cases_lt, and_from, le-leb, lt-ltb, leb-true, ltb-true}
use Rattle.std.proofs.lemmas.List.{get_or-set_same}
use Rattle.vk_lag.specs.Lags.{is_between}

module _ {X : Type 0} (d : X) (xs xs' : List X) (i : ℕ) (v : X) (named : i < length xs') where
  -- what comes later stays
  pub kept_later : ((k : ℕ) → i ≤ k → get_or xs' k d ≡ get_or xs k d) → (k : ℕ) → i + 1 ≤ k → get_or (set xs' i v) k d ≡ get_or xs k d
  kept_later kept k lt = let other : k ≢ i = omega (arith, lt) in let le : i ≤ k = omega (arith, lt) in get_or-set_other xs' i k v d other ∙ kept k le

  -- what came before was changed, and so is this one
  pub changed_before : (f : ℕ → X) → ((k : ℕ) → k < i → get_or xs' k d ≡ f k) → v ≡ f i → (k : ℕ) → k < i + 1 → get_or (set xs' i v) k d ≡ f k
  changed_before f before this k lt = elim (cases_lt k i) [
    | inl below ↦ let other : k ≢ i = omega (arith, below) in get_or-set_other xs' i k v d other ∙ before k below
    | inr least ↦
        let at : k ≡ i = omega (arith, lt, least) in
        subst (λ (n : ℕ). get_or (set xs' i v) n d ≡ f n) (sym at) (get_or-set_same xs' i v d named ∙ this)
  ]

-- ---- bytes that become late chunk by chunk

pub between_true : (low high k : ℕ) → low ≤ k → k < high → is_between low high k ≡ true
between_true low high k le lt = and_from _ _ (le-leb low k le) (lt-ltb k high lt)

pub between_below : (low high k : ℕ) → k < low → is_between low high k ≡ false
between_below low high k lt = go (nat_le low k) (nat_lt k high) refl
  where
    go : (a b : Bool) → nat_le low k ≡ a → (a && b) ≡ false
    go false b e = refl
    go true b e = absurd (let le = leb-true low k e in omega (arith, le, lt))

pub between_above : (low high k : ℕ) → high ≤ k → is_between low high k ≡ false
between_above low high k le = go (nat_le low k) (nat_lt k high) refl
  where
    go : (a b : Bool) → nat_lt k high ≡ b → (a && b) ≡ false
    go true false e = refl
    go false false e = refl
    go a true e = absurd (let lt = ltb-true k high e in omega (arith, le, lt))

module _ {X : Type 0} (new mid old : X) (value given : X) (at done count k : ℕ) (now : new ≡ (if is_between (at + done) (at + done + count) k then given else mid)) (before : mid ≡ (if is_between at (at + done) k then value else old))
    (same : at + done ≤ k → k < at + done + count → given ≡ value) where
  pub one_more : new ≡ (if is_between at (at + (done + count)) k then value else old)
  one_more = elim (cases_lt k at) [
    | inl below ↦
        now ∙ rw (between_below (at + done) (at + done + count) k (omega (arith, below))) (before ∙ rw (between_below at (at + done) k below, between_below at (at + (done + count)) k below) refl)
    | inr least ↦ elim (cases_lt k (at + done)) [
      | inl lt ↦
          now ∙ rw (between_below (at + done) (at + done + count) k lt) (before ∙ rw (between_true at (at + done) k least lt, between_true at (at + (done + count)) k least (omega (arith, lt))) refl)
      | inr le ↦ elim (cases_lt k (at + done + count)) [
        | inl lt ↦ now ∙ rw (between_true (at + done) (at + done + count) k le lt, between_true at (at + (done + count)) k least (omega (arith, lt))) (same le lt)
        | inr past ↦
            now ∙ rw (between_above (at + done) (at + done + count) k past) (before ∙ rw (between_above at (at + done) k le, between_above at (at + (done + count)) k (omega (arith, past))) refl)
      ]
    ]
  ]
