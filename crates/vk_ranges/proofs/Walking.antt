-- Walks over the runs of a range.
use Rattle.std.proofs.Common.{◌≡◌, ◌<◌, ◌≤◌, ℕ, List, [], ◌∷◌, ◌++◌, refl, sym, ap, ◌∙◌, subst, arith, append_assoc}
use Rattle.vk_ranges.specs.declared.changes.Change.{Change}
use Rattle.vk_ranges.specs.Runs.{IsTiling}
use Rattle.vk_ranges.specs.Inner.Plans.{ends_of, run_ends}
use Rattle.vk_ranges.specs.Inner.Walks.{WalksTo}
use Rattle.vk_ranges.proofs.TilingLemmas.{tiling_append}

module _ {T : Type 0} where
  pub tiling_rest : (start mid end : ℕ) (xs ys : List (ℕ × T)) → IsTiling start mid xs → IsTiling start end (xs ++ ys) → IsTiling mid end ys
  tiling_rest start mid end [] ys s t = subst (λ (n : ℕ). IsTiling n end ys) s t
  tiling_rest start mid end (x ∷ xs) ys s t = tiling_rest x.0 mid end xs ys s.1 t.1

  pub ends_append : (xs ys : List (Change T)) → ends_of (xs ++ ys) ≡ ends_of xs ++ ends_of ys
  ends_append [] ys = refl
  ends_append (x ∷ xs) ys = ap (λ (ns : List ℕ). x.end ∷ ns) (ends_append xs ys)

  pub run_ends_append : (xs ys : List (ℕ × T)) → run_ends (xs ++ ys) ≡ run_ends xs ++ run_ends ys
  run_ends_append [] ys = refl
  run_ends_append (x ∷ xs) ys = ap (λ (ns : List ℕ). x.0 ∷ ns) (run_ends_append xs ys)

  unfoldable pub walk_start : (low high len : ℕ) (run : ℕ × T) (rest : List (ℕ × T)) → IsTiling low len (run ∷ rest) → low < high → WalksTo low high (run ∷ rest) [] run rest
  walk_start low high len run rest t lt = record { done = []; cursor = low; whole = refl; tiling = refl; below = lt; some = t.0; ends = refl }

  module _ (low high len : ℕ) (runs : List (ℕ × T)) (changes : List (Change T)) (run : ℕ × T) (rest : List (ℕ × T)) (t : IsTiling low len runs) (walk : WalksTo low high runs changes run rest) where
    -- the run is in the range, and there are others after it
    pub rest_tiling : IsTiling walk.cursor len (run ∷ rest)
    rest_tiling = tiling_rest low walk.cursor len walk.done (run ∷ rest) walk.tiling (subst (λ (xs : List (ℕ × T)). IsTiling low len xs) walk.whole t)

    unfoldable pub walk_next : (next : ℕ × T) (others : List (ℕ × T)) → rest ≡ next ∷ others → run.0 < high → (change : Change T) (new : List (Change T)) → change.end ≡ run.0 → new ≡ changes ++ change ∷ [] → WalksTo low high runs new next others
    walk_next next others is lt change new end pushed =
        let more : IsTiling walk.cursor len (run ∷ next ∷ others) = subst (λ (xs : List (ℕ × T)). IsTiling walk.cursor len (run ∷ xs)) is rest_tiling in
        record {
          done = walk.done ++ run ∷ [];
          cursor = run.0;
          whole = walk.whole ∙ ap (λ (xs : List (ℕ × T)). walk.done ++ run ∷ xs) is ∙ sym (append_assoc walk.done (run ∷ []) (next ∷ others));
          tiling = tiling_append low walk.cursor run.0 walk.done (run ∷ []) walk.tiling (walk.some, refl);
          below = lt;
          some = more.1.0;
          ends = ap ends_of pushed ∙ ends_append changes (change ∷ []) ∙ ap (λ (ns : List ℕ). ns ++ change.end ∷ []) walk.ends
              ∙ ap (λ (n : ℕ). run_ends walk.done ++ n ∷ []) end ∙ sym (run_ends_append walk.done (run ∷ []));
        }

    -- the last run of all reaches every end of a range
    pub last_reaches : rest ≡ [] → high ≤ len → high ≤ run.0
    last_reaches none le =
        let more : IsTiling walk.cursor len (run ∷ []) = subst (λ (xs : List (ℕ × T)). IsTiling walk.cursor len (run ∷ xs)) none rest_tiling in
        let is = more.1 in
        omega arith
