-- Runs of which the last may become a part of the next one.
use Rattle.std.proofs.Common.{◌≡◌, ◌≢◌, ◌<◌, ℕ, List, [], ◌∷◌, ◌++◌, refl, sym, ap, ◌∙◌, subst, Option, Some, inl, inr, arith}
use Rattle.std.specs.Prelude.{nat_lt, if◌then◌else◌}
use Rattle.std.proofs.lemmas.Bool.{cases_lt, lt-ltb, le-ltb}
use Rattle.vk_ranges.specs.Runs.{IsTiling, IsMaximal, value_at}
use Rattle.vk_ranges.specs.Inner.Joins.{EndsApart, JoinsTo}
use Rattle.vk_ranges.proofs.TilingLemmas.{tiling_append}

module _ {T : Type 0} where
  pub maximal_append : (xs : List (ℕ × T)) (run : ℕ × T) (runs : List (ℕ × T)) → IsMaximal xs → IsMaximal (run ∷ runs) → EndsApart xs run.1 → IsMaximal (xs ++ run ∷ runs)
  maximal_append [] run runs m n apart = n
  maximal_append (x ∷ []) run runs m n apart = (apart, n)
  maximal_append (x ∷ x' ∷ xs) run runs m n apart = (m.0, maximal_append (x' ∷ xs) run runs m.1 n apart)

  pub apart_push : (runs : List (ℕ × T)) (run : ℕ × T) (value : T) → run.1 ≢ value → EndsApart (runs ++ run ∷ []) value
  apart_push [] run value apart = apart
  apart_push (x ∷ []) run value apart = apart
  apart_push (x ∷ x' ∷ runs) run value apart = apart_push (x' ∷ runs) run value apart

  -- ---- without the last of the runs before

  tiling_without : (start mid end : ℕ) (kept : List (ℕ × T)) (last run : ℕ × T) (runs : List (ℕ × T)) → IsTiling start mid (kept ++ last ∷ []) → IsTiling mid end (run ∷ runs) → IsTiling start end (kept ++ run ∷ runs)
  tiling_without start mid end [] last run runs s t = let low = s.0 in let is = s.1 in let high = t.0 in (omega arith, t.1)
  tiling_without start mid end (x ∷ kept) last run runs s t = (s.0, tiling_without x.0 mid end kept last run runs s.1 t)

  maximal_without : (kept : List (ℕ × T)) (last run : ℕ × T) (runs : List (ℕ × T)) → IsMaximal (kept ++ last ∷ []) → IsMaximal (run ∷ runs) → last.1 ≡ run.1 → IsMaximal (kept ++ run ∷ runs)
  maximal_without [] last run runs m n is = n
  maximal_without (x ∷ []) last run runs m n is = (subst (λ (v : T). x.1 ≢ v) is m.0, n)
  maximal_without (x ∷ x' ∷ kept) last run runs m n is = (m.0, maximal_without (x' ∷ kept) last run runs m.1 n is)

  value_without : (start mid : ℕ) (kept : List (ℕ × T)) (last run : ℕ × T) (runs : List (ℕ × T)) → IsTiling start mid (kept ++ last ∷ []) → mid < run.0 → last.1 ≡ run.1 → (index : ℕ) → value_at (kept ++ run ∷ runs) index ≡ value_at ((kept ++ last ∷ []) ++ run ∷ runs) index
  value_without start mid [] last run runs t lt is index =
      let end = t.1 in
      elim (cases_lt index last.0) [
        | inl here ↦ rw (lt-ltb index last.0 here, lt-ltb index run.0 (omega arith)) (ap Some (sym is))
        | inr there ↦ rw (le-ltb index last.0 there) refl
      ]
  value_without start mid (x ∷ kept) last run runs t lt is index = ap (λ (rest : Option T). if nat_lt index x.0 then Some x.1 else rest) (value_without x.0 mid kept last run runs t.1 lt is index)

  -- ---- runs put together that were joined

  pub record IsWhole (start end : ℕ) (runs : List (ℕ × T)) (before : List (ℕ × T)) : Type 0 where
    pub tiling : IsTiling start end runs
    pub maximal : IsMaximal runs
    pub value : (index : ℕ) → value_at runs index ≡ value_at before index

  pub joined : (start mid end : ℕ) (left kept : List (ℕ × T)) (run : ℕ × T) (runs : List (ℕ × T)) → IsTiling start mid left → IsMaximal left → IsTiling mid end (run ∷ runs) → IsMaximal (run ∷ runs) → JoinsTo mid left run.1 kept
      → IsWhole start end (kept ++ run ∷ runs) (left ++ run ∷ runs)
  joined start mid end left kept run runs s m t n (inl all) =
      let is : left ≡ kept = sym all.0 in
      subst (λ (xs : List (ℕ × T)). IsWhole start end (xs ++ run ∷ runs) (left ++ run ∷ runs)) is (record {
        tiling = tiling_append start mid end left (run ∷ runs) s t;
        maximal = maximal_append left run runs m n all.1;
        value = λ index. refl;
      })
  joined start mid end left kept run runs s m t n (inr with) =
      let is = with.is in
      let s' : IsTiling start mid (kept ++ (mid, with.last) ∷ []) = subst (λ (xs : List (ℕ × T)). IsTiling start mid xs) is s in
      let m' : IsMaximal (kept ++ (mid, with.last) ∷ []) = subst (λ (xs : List (ℕ × T)). IsMaximal xs) is m in
      record {
        tiling = tiling_without start mid end kept (mid, with.last) run runs s' t;
        maximal = maximal_without kept (mid, with.last) run runs m' n with.same;
        value = λ index. value_without start mid kept (mid, with.last) run runs s' t.0 with.same index ∙ ap (λ (xs : List (ℕ × T)). value_at (xs ++ run ∷ runs) index) (sym is);
      }
