-- The values of runs, index by index.
use Rattle.std.proofs.Common.{◌≡◌, ◌<◌, ◌≤◌, ◌+◌, ◌-◌, ℕ, zero, suc, List, [], ◌∷◌, ◌++◌, length, refl, ap, ◌∙◌, Some, inl, inr, arith, length-append, zero-add}
use Rattle.std.specs.Prelude.{replicate, slice_get}
use Rattle.std.proofs.lemmas.List.{length-replicate}
use Rattle.std.proofs.lemmas.Bool.{cases_lt, lt-ltb, le-ltb}
use Rattle.vk_ranges.specs.Runs.{values_from, IsTiling, value_at}

module _ {T : Type 0} where
  get_front : (n k : ℕ) (x : T) (ys : List T) → k < n → slice_get (replicate n x ++ ys) k ≡ Some x
  get_front zero k x ys lt = absurd (omega arith)
  get_front (suc n) zero x ys lt = refl
  get_front (suc n) (suc k) x ys lt = get_front n k x ys (omega arith)

  get_back : (n k : ℕ) (x : T) (ys : List T) → slice_get (replicate n x ++ ys) (n + k) ≡ slice_get ys k
  get_back zero k x ys = ap (slice_get ys) (zero-add k)
  get_back (suc n) k x ys = (let e : suc n + k ≡ suc (n + k) = omega arith in ap (slice_get (x ∷ (replicate n x ++ ys))) e) ∙ get_back n k x ys

  pub value_of : (start end : ℕ) (runs : List (ℕ × T)) → IsTiling start end runs → (index : ℕ) → start ≤ index → slice_get (values_from start runs) (index - start) ≡ value_at runs index
  value_of start end [] t index from = refl
  value_of start end (run ∷ runs) t index from =
      elim (cases_lt index run.0) [
        | inl lt ↦ rw (lt-ltb index run.0 lt) (get_front (run.0 - start) (index - start) run.1 (values_from run.0 runs) (omega (arith, lt)))
        | inr le ↦
            let low = t.0 in
            let e : index - start ≡ (run.0 - start) + (index - run.0) = omega arith in
            rw (le-ltb index run.0 le, e) (get_back (run.0 - start) (index - run.0) run.1 (values_from run.0 runs) ∙ value_of run.0 end runs t.1 index le)
      ]

  pub length_of : (start end : ℕ) (runs : List (ℕ × T)) → IsTiling start end runs → start + length (values_from start runs) ≡ end
  length_of start end [] t = omega arith
  length_of start end (run ∷ runs) t =
      let low = t.0 in
      omega (arith, length-append (replicate (run.0 - start) run.1) (values_from run.0 runs), length-replicate (run.0 - start) run.1, length_of run.0 end runs t.1)

  pub value_of_all : (end : ℕ) (runs : List (ℕ × T)) → IsTiling 0 end runs → (index : ℕ) → slice_get (values_from 0 runs) index ≡ value_at runs index
  value_of_all end runs t index = let e : index ≡ index - 0 = omega arith in ap (slice_get (values_from 0 runs)) e ∙ value_of 0 end runs t index (omega arith)

  pub length_of_all : (end : ℕ) (runs : List (ℕ × T)) → IsTiling 0 end runs → length (values_from 0 runs) ≡ end
  length_of_all end runs t = omega (arith, length_of 0 end runs t)
