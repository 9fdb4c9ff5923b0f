-- What is read of runs.
use Rattle.std.proofs.Common.{◌≡◌, ◌<◌, ◌≤◌, ℕ, List, [], ◌∷◌, refl, sym, ap, ◌∙◌, subst, Some, inl, inr, arith, length}
use Rattle.std.specs.Prelude.{slice_get}
use Rattle.std.proofs.lemmas.Bool.{cases_lt, lt-ltb, le-ltb}
use Rattle.vk_ranges.specs.Runs.{values_from, IsTiling, IsMaximal, AreRuns, DiffersFromFirst, value_at, after, upto}
use Rattle.vk_ranges.specs.Overlaps.{DiffersFromNext, AreRunsOf, with_starts}
use Rattle.vk_ranges.proofs.ListLemmas.{value_of_all, length_of_all}
use Rattle.vk_ranges.proofs.TilingLemmas.{upto_none, upto_last, upto_next, after_here, after_later, tiling_after, maximal_after, value_after, differs_upto}

module _ {T : Type 0} where
  -- the first run after an index has its value
  pub value_first : (index end : ℕ) (value : T) (runs others : List (ℕ × T)) → after index runs ≡ (end, value) ∷ others → value_at runs index ≡ Some value
  value_first index end value [] others e = absurd cc
  value_first index end value (run ∷ runs) others e =
      elim (cases_lt index run.0) [
        | inl here ↦
            let first : run ∷ runs ≡ (end, value) ∷ others = sym (after_here index run runs here) ∙ e in
            let is : ◌≡◌ {A = ℕ × T} run (end, value) = cc in
            rw (lt-ltb index run.0 here) (ap (λ (r : ℕ × T). Some r.1) is)
        | inr there ↦ rw (le-ltb index run.0 there) (value_first index end value runs others (sym (after_later index run runs there) ∙ e))
      ]

  pub some_after : (index len : ℕ) (runs : List (ℕ × T)) → IsTiling 0 len runs → index < len → after index runs ≡ [] → ⊥
  some_after index len runs t lt none =
      let end : index ≡ len = subst (λ (xs : List (ℕ × T)). IsTiling index len xs) none (tiling_after 0 index len runs t (omega arith) (omega arith)) in
      omega arith

  differs_next : (value : T) (start : ℕ) (runs : List (ℕ × T)) → DiffersFromFirst value runs → DiffersFromNext value (with_starts start runs)
  differs_next value start [] d = tt
  differs_next value start (run ∷ runs) d = d

  pieces_of_runs : (values : List T) (low high end : ℕ) (runs : List (ℕ × T)) → IsTiling low end runs → IsMaximal runs → low ≤ high → high ≤ end → ((index : ℕ) → low ≤ index → slice_get values index ≡ value_at runs index) → AreRunsOf values low high (with_starts low (upto low high runs))
  pieces_of_runs values low high end [] t m from to shows = omega arith
  pieces_of_runs values low high end (run ∷ runs) t m from to shows =
      elim (cases_lt low high) [
        | inr none ↦ rw (upto_none low high (run ∷ runs) none) (omega arith)
        | inl some ↦ elim (cases_lt run.0 high) [
          | inl next ↦
              rw (upto_next low high run runs some next) (
                refl,
                t.0,
                (omega arith),
                (λ index above below. shows index above ∙ rw (lt-ltb index run.0 below) refl),
                (differs_next run.1 run.0 (upto run.0 high runs) (differs_upto run.1 run.0 high runs m.0)),
                (pieces_of_runs values run.0 high end runs t.1 m.1 (omega arith) to (λ index above. let low_is = t.0 in shows index (omega arith) ∙ rw (le-ltb index run.0 above) refl)),
              )
          | inr last ↦
              rw (upto_last low high run runs some last)
              (refl, some, (omega arith), (λ index above below. shows index above ∙ rw (lt-ltb index run.0 (omega arith)) refl), tt, refl)
        ]
      ]

  -- ---- a map's list of values

  module _ (len : ℕ) (runs : List (ℕ × T)) (values : List T) (is : AreRuns len runs) (view : values_from 0 runs ≡ values) where
    pub length_is : length values ≡ len
    length_is = ap (λ (xs : List T). length xs) (sym view) ∙ length_of_all len runs is.tiling

    pub get_is : (index : ℕ) → slice_get values index ≡ value_at runs index
    get_is index = ap (λ (xs : List T). slice_get xs index) (sym view) ∙ value_of_all len runs is.tiling index

    pub pieces_are : (low high : ℕ) → low ≤ high → high ≤ length values → AreRunsOf values low high (with_starts low (upto low high (after low runs)))
    pieces_are low high order within =
        let e = length_is in
        pieces_of_runs values low high len (after low runs) (tiling_after 0 low len runs is.tiling (omega arith) (omega arith)) (maximal_after low runs is.maximal) order (omega arith)
        (λ index above. get_is index ∙ sym (value_after low runs index above))
