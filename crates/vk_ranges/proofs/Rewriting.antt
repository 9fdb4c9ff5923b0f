-- A map's list of values, after a range of its runs was rewritten.
use Rattle.std.proofs.Common.{◌≡◌, ◌<◌, ◌≤◌, ℕ, List, [], ◌∷◌, refl, sym, ap, ◌∙◌, subst, Option, Some, arith, length}
use Rattle.std.specs.Prelude.{slice_get}
use Rattle.std.specs.Option.{IsSomeAnd}
use Rattle.std.specs.Prelude.{Result, Ok, Err, OnOk, OnErr}
use Rattle.std.proofs.lemmas.Bool.{lt-ltb}
use Rattle.vk_ranges.specs.Runs.{values_from, AreRuns, IsTiling, value_at}
use Rattle.vk_ranges.specs.Inner.Plans.{IsRewritten}
use Rattle.vk_ranges.proofs.ListLemmas.{value_of_all, length_of_all}
use Rattle.vk_ranges.proofs.Reading.{length_is, get_is}

module _ {T : Type 0} (len : ℕ) (old : List (ℕ × T)) (values : List T) (is : AreRuns len old) (view : values_from 0 old ≡ values) where
  pub tiled : (high : ℕ) → high ≤ length values → (n : ℕ) × IsTiling 0 n old × (high ≤ n)
  tiled high within = let e = length_is len old values is view in (len, is.tiling, (omega arith))

  pub fits : (high : ℕ) → high ≤ length values → high ≤ len
  fits high within = let e = length_is len old values is view in omega arith

  -- whether it could be carried out or not
  pub are_still_runs : {U E : Type 0} (result : Result U E) (low high : ℕ) (new : List (ℕ × T)) → OnOk result ((runs : List (ℕ × T)) × IsRewritten low high len old new runs) → OnErr result (new ≡ old) → AreRuns len new
  are_still_runs (Ok done) low high new ok err = record { tiling = ok.1.tiling; maximal = ok.1.maximal }
  are_still_runs (Err error) low high new ok err = subst (λ (xs : List (ℕ × T)). AreRuns len xs) (sym err) is

  pub same_length : (new : List (ℕ × T)) → AreRuns len new → length (values_from 0 new) ≡ length values
  same_length new now = length_of_all len new now.tiling ∙ sym (length_is len old values is view)

  module _ (low high : ℕ) (new runs : List (ℕ × T)) (rewritten : IsRewritten low high len old new runs) where
    kept : (index : ℕ) → value_at new index ≡ value_at old index → slice_get (values_from 0 new) index ≡ slice_get values index
    kept index same = value_of_all len new rewritten.tiling index ∙ same ∙ sym (get_is len old values is view index)

    pub kept_before : (index : ℕ) → index < low → slice_get (values_from 0 new) index ≡ slice_get values index
    kept_before index to = kept index (rewritten.before index to)

    pub kept_after : (index : ℕ) → high ≤ index → slice_get (values_from 0 new) index ≡ slice_get values index
    kept_after index from = kept index (rewritten.after index from)

    pub one_inside : (value : T) → runs ≡ (high, value) ∷ [] → (index : ℕ) → low ≤ index → index < high → slice_get (values_from 0 new) index ≡ Some value
    one_inside value one index from to =
        value_of_all len new rewritten.tiling index ∙ rewritten.inside index from to ∙ ap (λ (xs : List (ℕ × T)). value_at xs index) one ∙ rw (lt-ltb index high to) refl

    pub each_inside : (gives : T → T → Type 0) → ((index : ℕ) → low ≤ index → index < high → IsSomeAnd (value_at old index) (λ before. IsSomeAnd (value_at runs index) (λ after. gives before after))) → (index : ℕ) → low ≤ index → index < high
        → IsSomeAnd (slice_get values index) (λ before. IsSomeAnd (slice_get (values_from 0 new) index) (λ after. gives before after))
    each_inside gives each index from to =
        let was : value_at old index ≡ slice_get values index = sym (get_is len old values is view index) in
        let now : value_at runs index ≡ slice_get (values_from 0 new) index = sym (value_of_all len new rewritten.tiling index ∙ rewritten.inside index from to) in
        subst (λ (o : Option T). IsSomeAnd o (λ before. IsSomeAnd (slice_get (values_from 0 new) index) (λ after. gives before after))) was
        (subst (λ (o : Option T). IsSomeAnd (value_at old index) (λ before. IsSomeAnd o (λ after. gives before after))) now (each index from to))
