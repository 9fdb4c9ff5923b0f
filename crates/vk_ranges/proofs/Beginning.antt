-- Where a range begins: what lies before its low edge.
use Rattle.std.proofs.Common.{◌≡◌, ◌≢◌, ◌<◌, ◌-◌, ℕ, List, [], ◌∷◌, ◌++◌, refl, sym, ap, ◌∙◌, subst, None, Some, true, false, inl, inr, arith}
use Rattle.std.proofs.lemmas.Bool.{cases_lt}
use Rattle.vk_ranges.specs.Runs.{IsTiling, after, upto}
use Rattle.vk_ranges.specs.Inner.Edges.{Begins}
use Rattle.vk_ranges.proofs.TilingLemmas.{upto_last, upto_next, after_here, after_later}
use Rattle.vk_ranges.proofs.OrderLemmas.{after_all}
use Rattle.vk_ranges.proofs.Reading.{some_after}

module _ {T : Type 0} where
  record Around (start at : ℕ) (runs : List (ℕ × T)) (end : ℕ) (value : T) (others : List (ℕ × T)) : Type 0 where
    front : List (ℕ × T)
    left : upto start at runs ≡ front ++ (at, value) ∷ []
    ended : end ≡ at → (runs ≡ front ++ (at, value) ∷ after at runs) × (after at runs ≡ others)
    within : end ≢ at → (runs ≡ front ++ after at runs) × (after at runs ≡ (end, value) ∷ others)

  first_is : (run other : ℕ × T) (runs others : List (ℕ × T)) → run ∷ runs ≡ other ∷ others → (run ≡ other) × (runs ≡ others)
  first_is run other runs others e = ((cc), (cc))

  around : (start len at end : ℕ) (runs others : List (ℕ × T)) (value : T) → IsTiling start len runs → start < at → after (at - 1) runs ≡ (end, value) ∷ others → Around start at runs end value others
  around start len at end [] others value t low first = absurd cc
  around start len at end (run ∷ runs) others value t low first =
      elim (cases_lt run.0 at) [
        | inl lt ↦
            let rest = around run.0 len at end runs others value t.1 lt (sym (after_later (at - 1) run runs (omega arith)) ∙ first) in
            let later : after at (run ∷ runs) ≡ after at runs = after_later at run runs (omega arith) in
            record {
              front = run ∷ rest.front;
              left = upto_next start at run runs low lt ∙ ap (λ (xs : List (ℕ × T)). run ∷ xs) rest.left;
              ended = λ is. (
                (ap (λ (xs : List (ℕ × T)). run ∷ xs) (rest.ended is).0 ∙ ap (λ (xs : List (ℕ × T)). run ∷ (rest.front ++ (at, value) ∷ xs)) (sym later)),
                (later ∙ (rest.ended is).1),
              );
              within = λ apart. (
                (ap (λ (xs : List (ℕ × T)). run ∷ xs) (rest.within apart).0 ∙ ap (λ (xs : List (ℕ × T)). run ∷ (rest.front ++ xs)) (sym later)),
                (later ∙ (rest.within apart).1),
              );
            }
        | inr ge ↦
            let both = first_is run (end, value) runs others (sym (after_here (at - 1) run runs (omega arith)) ∙ first) in
            let is : run.0 ≡ end = ap (λ (r : ℕ × T). r.0) both.0 in
            let has : run.1 ≡ value = ap (λ (r : ℕ × T). r.1) both.0 in
            record {
              front = [];
              left = upto_last start at run runs low ge ∙ ap (λ (v : T). (at, v) ∷ []) has;
              ended = λ here.
                  let all : after at (run ∷ runs) ≡ runs = after_later at run runs (omega arith) ∙ after_all run.0 len at runs t.1 (omega arith) in
                  let head : ◌≡◌ {A = ℕ × T} run (at, value) = both.0 ∙ ap (λ (n : ℕ). (n, value)) here in (
                    (ap (λ (r : ℕ × T). r ∷ runs) head ∙ ap (λ (xs : List (ℕ × T)). (at, value) ∷ xs) (sym all)),
                    (all ∙ both.1),
                  );
              within = λ apart.
                  let above : at < run.0 = omega arith in
                  let all : after at (run ∷ runs) ≡ run ∷ runs = after_here at run runs above in (
                    (sym all),
                    (all ∙ ap (λ (r : ℕ × T). r ∷ runs) both.0 ∙ ap (λ (xs : List (ℕ × T)). (end, value) ∷ xs) both.1),
                  );
            }
      ]

  module _ (low : ℕ) (runs : List (ℕ × T)) (tiled : (len : ℕ) × IsTiling 0 len runs × (low < len)) where
    pub never_none : after (low - 1) runs ≡ [] → ⊥
    never_none none = let lt = tiled.2 in some_after (low - 1) tiled.0 runs tiled.1 (omega arith) none

    module _ (end : ℕ) (value : T) (others : List (ℕ × T)) (first : after (low - 1) runs ≡ (end, value) ∷ others) where
      pub begins_at_start : low ≡ 0 → Begins low runs None true (end, value) others
      begins_at_start is =
          let same : low - 1 ≡ low = omega arith in
          record { front = []; before = (is, refl, refl); here = subst (λ (n : ℕ). after n runs ≡ (end, value) ∷ others) same first }

      pub begins_within : (low ≡ 0 → ⊥) → (end ≡ low → ⊥) → Begins low runs (Some value) false (end, value) others
      begins_within some apart =
          let found = around 0 tiled.0 low end runs others value tiled.1 (omega arith) first in
          record { front = found.front; before = (found.left, (found.within apart).0); here = (found.within apart).1 }

      pub never_last : (low ≡ 0 → ⊥) → end ≡ low → others ≡ [] → ⊥
      never_last some is none =
          let found = around 0 tiled.0 low end runs others value tiled.1 (omega arith) first in
          some_after low tiled.0 runs tiled.1 tiled.2 ((found.ended is).1 ∙ none)

      pub begins_at_end : (next : ℕ × T) (rest : List (ℕ × T)) → (low ≡ 0 → ⊥) → end ≡ low → others ≡ next ∷ rest → Begins low runs (Some value) true next rest
      begins_at_end next rest some is more =
          let found = around 0 tiled.0 low end runs others value tiled.1 (omega arith) first in
          record { front = found.front; before = (found.left, (found.ended is).0); here = (found.ended is).1 ∙ more }
