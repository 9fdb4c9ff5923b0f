-- Parts of runs, and runs that are put together.
use Rattle.std.proofs.Common.{◌≡◌, ◌<◌, ◌≤◌, ℕ, List, [], ◌∷◌, ◌++◌, refl, sym, ap, subst, inl, inr, arith}
use Rattle.std.specs.Prelude.{min}
use Rattle.std.proofs.lemmas.Bool.{cases_lt, lt-ltb, le-ltb}
use Rattle.vk_ranges.specs.Runs.{IsTiling, IsMaximal, DiffersFromFirst, value_at, after, upto}

module _ {T : Type 0} where
  pub tiling_append : (start mid end : ℕ) (xs ys : List (ℕ × T)) → IsTiling start mid xs → IsTiling mid end ys → IsTiling start end (xs ++ ys)
  tiling_append start mid end [] ys s t = subst (λ (n : ℕ). IsTiling n end ys) (sym s) t
  tiling_append start mid end (x ∷ xs) ys s t = (s.0, tiling_append x.0 mid end xs ys s.1 t)

  pub tiling_le : (start end : ℕ) (runs : List (ℕ × T)) → IsTiling start end runs → start ≤ end
  tiling_le start end [] t = omega arith
  tiling_le start end (run ∷ runs) t = let more = tiling_le run.0 end runs t.1 in omega (arith, t.0)

  -- ---- the runs up to an index

  pub upto_none : (start end : ℕ) (runs : List (ℕ × T)) → end ≤ start → upto start end runs ≡ []
  upto_none start end [] le = refl
  upto_none start end (run ∷ runs) le = rw (le-ltb start end le) refl

  pub upto_last : (start end : ℕ) (run : ℕ × T) (runs : List (ℕ × T)) → start < end → end ≤ run.0 → upto start end (run ∷ runs) ≡ (end, run.1) ∷ []
  upto_last start end run runs lt le =
      let e : min end run.0 ≡ end = omega arith in
      rw (lt-ltb start end lt, e) (ap (λ (rest : List (ℕ × T)). (end, run.1) ∷ rest) (upto_none end end runs (omega arith)))

  pub upto_next : (start end : ℕ) (run : ℕ × T) (runs : List (ℕ × T)) → start < end → run.0 < end → upto start end (run ∷ runs) ≡ run ∷ upto run.0 end runs
  upto_next start end run runs lt less =
      let e : min end run.0 ≡ run.0 = omega arith in
      rw (lt-ltb start end lt, e) refl

  pub tiling_upto : (start mid end : ℕ) (runs : List (ℕ × T)) → IsTiling start end runs → start ≤ mid → mid ≤ end → IsTiling start mid (upto start mid runs)
  tiling_upto start mid end [] t low high = omega arith
  tiling_upto start mid end (run ∷ runs) t low high =
      elim (cases_lt start mid) [
        | inr none ↦ rw (upto_none start mid (run ∷ runs) none) (omega arith)
        | inl some ↦ elim (cases_lt run.0 mid) [
          | inl next ↦ rw (upto_next start mid run runs some next) (t.0, tiling_upto run.0 mid end runs t.1 (omega arith) high)
          | inr last ↦ rw (upto_last start mid run runs some last) (some, refl)
        ]
      ]

  pub value_upto : (start mid end : ℕ) (runs : List (ℕ × T)) → IsTiling start end runs → mid ≤ end → (index : ℕ) → start ≤ index → index < mid → value_at (upto start mid runs) index ≡ value_at runs index
  value_upto start mid end [] t high index from to = refl
  value_upto start mid end (run ∷ runs) t high index from to =
      let some : start < mid = omega arith in
      elim (cases_lt run.0 mid) [
        | inl next ↦ elim (cases_lt index run.0) [
          | inl here ↦ rw (upto_next start mid run runs some next, lt-ltb index run.0 here) refl
          | inr there ↦ rw (upto_next start mid run runs some next, le-ltb index run.0 there) (value_upto run.0 mid end runs t.1 high index there to)
        ]
        | inr last ↦ rw (upto_last start mid run runs some last, lt-ltb index mid to, lt-ltb index run.0 (omega arith)) refl
      ]

  pub differs_upto : (value : T) (start mid : ℕ) (runs : List (ℕ × T)) → DiffersFromFirst value runs → DiffersFromFirst value (upto start mid runs)
  differs_upto value start mid [] d = d
  differs_upto value start mid (run ∷ runs) d =
      elim (cases_lt start mid) [
        | inr none ↦ rw (upto_none start mid (run ∷ runs) none) tt
        | inl some ↦ rw (lt-ltb start mid some) d
      ]

  pub maximal_upto : (start mid : ℕ) (runs : List (ℕ × T)) → IsMaximal runs → IsMaximal (upto start mid runs)
  maximal_upto start mid [] m = tt
  maximal_upto start mid (run ∷ runs) m =
      elim (cases_lt start mid) [
        | inr none ↦ rw (upto_none start mid (run ∷ runs) none) tt
        | inl some ↦ rw (lt-ltb start mid some) (differs_upto run.1 (min mid run.0) mid runs m.0, maximal_upto (min mid run.0) mid runs m.1)
      ]

  -- ---- the runs after an index

  pub after_here : (index : ℕ) (run : ℕ × T) (runs : List (ℕ × T)) → index < run.0 → after index (run ∷ runs) ≡ run ∷ runs
  after_here index run runs lt = rw (lt-ltb index run.0 lt) refl

  pub after_later : (index : ℕ) (run : ℕ × T) (runs : List (ℕ × T)) → run.0 ≤ index → after index (run ∷ runs) ≡ after index runs
  after_later index run runs le = rw (le-ltb index run.0 le) refl

  pub tiling_after : (start mid end : ℕ) (runs : List (ℕ × T)) → IsTiling start end runs → start ≤ mid → mid ≤ end → IsTiling mid end (after mid runs)
  tiling_after start mid end [] t low high = omega arith
  tiling_after start mid end (run ∷ runs) t low high =
      elim (cases_lt mid run.0) [
        | inl here ↦ rw (after_here mid run runs here) (here, t.1)
        | inr there ↦ rw (after_later mid run runs there) (tiling_after run.0 mid end runs t.1 there high)
      ]

  pub maximal_after : (index : ℕ) (runs : List (ℕ × T)) → IsMaximal runs → IsMaximal (after index runs)
  maximal_after index [] m = tt
  maximal_after index (run ∷ runs) m =
      elim (cases_lt index run.0) [
        | inl here ↦ rw (after_here index run runs here) m
        | inr there ↦ rw (after_later index run runs there) (maximal_after index runs m.1)
      ]

  pub value_after : (mid : ℕ) (runs : List (ℕ × T)) → (index : ℕ) → mid ≤ index → value_at (after mid runs) index ≡ value_at runs index
  value_after mid [] index from = refl
  value_after mid (run ∷ runs) index from =
      elim (cases_lt mid run.0) [
        | inl here ↦ rw (after_here mid run runs here) refl
        | inr there ↦ rw (after_later mid run runs there, le-ltb index run.0 (omega arith)) (value_after mid runs index from)
      ]

  -- ---- runs that are put together

  pub value_low : (start mid : ℕ) (xs ys : List (ℕ × T)) → IsTiling start mid xs → (index : ℕ) → start ≤ index → index < mid → value_at (xs ++ ys) index ≡ value_at xs index
  value_low start mid [] ys t index from to = absurd (omega arith)
  value_low start mid (x ∷ xs) ys t index from to =
      elim (cases_lt index x.0) [
        | inl here ↦ rw (lt-ltb index x.0 here) refl
        | inr there ↦ rw (le-ltb index x.0 there) (value_low x.0 mid xs ys t.1 index there to)
      ]

  pub value_high : (start mid : ℕ) (xs ys : List (ℕ × T)) → IsTiling start mid xs → (index : ℕ) → mid ≤ index → value_at (xs ++ ys) index ≡ value_at ys index
  value_high start mid [] ys t index from = refl
  value_high start mid (x ∷ xs) ys t index from = let le = tiling_le x.0 mid xs t.1 in rw (le-ltb index x.0 (omega arith)) (value_high x.0 mid xs ys t.1 index from)
