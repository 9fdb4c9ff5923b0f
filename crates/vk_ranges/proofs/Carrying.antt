-- A plan carried out.
use Rattle.std.proofs.Common.{◌≡◌, ◌<◌, ◌≤◌, ◌+◌, ℕ, List, [], ◌∷◌, ◌++◌, refl, sym, ap, ◌∙◌, subst, Bool, Option, Some, append_assoc, arith}
use Rattle.std.proofs.lemmas.Bool.{lt-ltb}
use Rattle.vk_ranges.specs.declared.changes.Change.{Change}
use Rattle.vk_ranges.specs.declared.changes.Plan.{Plan}
use Rattle.vk_ranges.specs.declared.changes.Edge.{Edge}
use Rattle.vk_ranges.specs.declared.changes.Edge.TheVariants.{Stays, Goes, Becomes, New}
use Rattle.vk_ranges.specs.Runs.{IsTiling, IsMaximal, value_at, after, upto}
use Rattle.vk_ranges.specs.Inner.Joins.{JoinsTo, Closes}
use Rattle.vk_ranges.specs.Inner.Plans.{runs_of, applied, edged, both_edged, carried_out, CanBeUndone, IsRewritten, Makes}
use Rattle.vk_ranges.specs.Inner.Edges.{Begins, IsEdgeBefore}
use Rattle.vk_ranges.specs.Inner.Walks.{Walked, with_last}
use Rattle.vk_ranges.proofs.TilingLemmas.{tiling_after}
use Rattle.vk_ranges.proofs.OrderLemmas.{after_append}
use Rattle.vk_ranges.proofs.EdgeLemmas.{Below, LowDone, low_done, HighDone, high_done, below_append, below_weaker, below_tiling, above_tiling, above_append}
use Rattle.vk_ranges.proofs.PlanLemmas.{applied_between, carried}
use Rattle.vk_ranges.proofs.Walking.{tiling_rest}

module _ {T : Type 0} (low high : ℕ) (old : List (ℕ × T)) (m : IsMaximal old) (some : low < high) (left : Option T) (is_end : Bool) (run : ℕ × T) (rest : List (ℕ × T)) (begins : Begins low old left is_end run rest) (plan : Plan T) (first last : T) (before : IsEdgeBefore is_end left first plan.at_low) (walked : Walked low high (run ∷ rest) plan.changes.items plan.at_high last) where
  abbrev changes : List (Change T)
  changes = plan.changes.items

  abbrev done : List (ℕ × T)
  done = walked.walk.done

  -- the runs from the last one of the range on
  abbrev others : List (ℕ × T)
  others = walked.run ∷ walked.rest

  here : after low old ≡ done ++ others
  here = begins.here ∙ walked.walk.whole

  done_below : Below high done
  done_below = (below_tiling low walked.walk.cursor high done walked.walk.tiling walked.walk.below).1

  module _ (len : ℕ) (t : IsTiling 0 len old) (fits : high ≤ len) where
    right_tiling : IsTiling low len (after low old)
    right_tiling = tiling_after 0 low len old t (omega arith) (omega arith)

    others_tiling : IsTiling walked.walk.cursor len others
    others_tiling = tiling_rest low walked.walk.cursor len done others walked.walk.tiling (subst (λ (xs : List (ℕ × T)). IsTiling low len xs) here right_tiling)

    at_low : LowDone low old first plan.at_low
    at_low = low_done low len old t (omega arith) first left is_end begins.front plan.at_low begins.before before

    at_high : HighDone high walked.run walked.rest plan.at_high last
    at_high = high_done high walked.walk.cursor len walked.run walked.rest others_tiling last plan.at_high walked.closed

    before_below : (xs : List (ℕ × T)) → Below (low + 1) xs → Below high (xs ++ done)
    before_below xs below = below_append high xs done (below_weaker (low + 1) high xs (omega arith) below) done_below

    whole : old ≡ (at_low.front ++ done) ++ others
    whole = at_low.whole ∙ ap (λ (xs : List (ℕ × T)). at_low.front ++ xs) here ∙ sym (append_assoc at_low.front done others)

    -- the low edge first
    low_first : (edge : Edge T) → ((xs : List (ℕ × T)) → Below high xs → edged high edge (xs ++ others) ≡ xs ++ at_high.tail) → edged high edge (edged low plan.at_low old) ≡ at_low.kept ++ (done ++ at_high.tail)
    low_first edge does =
        ap (edged high edge) (ap (edged low plan.at_low) at_low.whole ∙ at_low.does (after low old) (above_tiling low len low (after low old) right_tiling (omega arith))
        ∙ ap (λ (xs : List (ℕ × T)). at_low.kept ++ xs) here ∙ sym (append_assoc at_low.kept done others))
        ∙ does (at_low.kept ++ done) (before_below at_low.kept at_low.kept_below) ∙ append_assoc at_low.kept done at_high.tail

    -- the high edge first
    high_first : (edge : Edge T) → ((xs : List (ℕ × T)) → Below high xs → edged high edge (xs ++ others) ≡ xs ++ at_high.tail) → edged low plan.at_low (edged high edge old) ≡ at_low.kept ++ (done ++ at_high.tail)
    high_first edge does =
        ap (edged low plan.at_low) (ap (edged high edge) whole ∙ does (at_low.front ++ done) (before_below at_low.front at_low.front_below) ∙ append_assoc at_low.front done at_high.tail)
        ∙ at_low.does (done ++ at_high.tail) (above_append low walked.walk.cursor low done at_high.tail walked.walk.tiling (omega arith) (at_high.above low some))

    by_edge : (edge : Edge T) → ((xs : List (ℕ × T)) → Below high xs → edged high edge (xs ++ others) ≡ xs ++ at_high.tail) → both_edged low plan.at_low high edge old ≡ at_low.kept ++ (done ++ at_high.tail)
    by_edge Stays does = low_first Stays does
    by_edge Goes does = low_first Goes does
    by_edge (Becomes value) does = low_first (Becomes value) does
    by_edge (New value) does = high_first (New value) does

    final : carried_out low high plan old ≡ (at_low.kept ++ runs_of changes) ++ at_high.tail
    final =
        ap (applied changes) (by_edge plan.at_high at_high.does)
        ∙ applied_between low walked.walk.cursor changes at_low.kept done at_high.tail at_low.kept_below walked.walk.tiling walked.walk.ends
        ∙ sym (append_assoc at_low.kept (runs_of changes) at_high.tail)

    back : after high (after low old) ≡ at_high.back
    back =
        let below = walked.walk.below in
        ap (after high) here ∙ after_append low walked.walk.cursor high done others walked.walk.tiling (omega arith) ∙ at_high.back_is

    first_is : (next : ℕ × T) (runs : List (ℕ × T)) → low < next.0 → value_at (next ∷ runs) low ≡ Some first → first ≡ next.1
    first_is next runs lt starts = let is : Some next.1 ≡ Some first = sym (rw (lt-ltb low next.0 lt) refl) ∙ starts in cc

    by_runs : (runs : List (ℕ × T)) → with_last changes high last ≡ runs → IsTiling low high runs → IsMaximal runs → value_at runs low ≡ Some first → IsRewritten low high len old (carried_out low high plan old) runs
    by_runs [] is rt rm starts = absurd (omega arith)
    by_runs (next ∷ runs) is rt rm starts =
        let joins : JoinsTo low (upto 0 low old) next.1 at_low.kept = subst (λ (v : T). JoinsTo low (upto 0 low old) v at_low.kept) (first_is next runs rt.0 starts) at_low.joins in
        let left_is : (at_low.kept ++ runs_of changes) ++ (high, last) ∷ [] ≡ at_low.kept ++ next ∷ runs =
        append_assoc at_low.kept (runs_of changes) ((high, last) ∷ []) ∙ ap (λ (xs : List (ℕ × T)). at_low.kept ++ xs) is
        in
        let closes : Closes high (at_low.kept ++ next ∷ runs) (after high (after low old)) (carried_out low high plan old) =
        subst (λ (xs : List (ℕ × T)). Closes high (at_low.kept ++ next ∷ runs) (after high (after low old)) xs) (sym final)
        (subst (λ (xs : List (ℕ × T)). Closes high (at_low.kept ++ next ∷ runs) xs ((at_low.kept ++ runs_of changes) ++ at_high.tail)) (sym back)
        (subst (λ (xs : List (ℕ × T)). Closes high xs at_high.back ((at_low.kept ++ runs_of changes) ++ at_high.tail)) left_is (at_high.closes (at_low.kept ++ runs_of changes))))
        in
        carried low high len old t m some fits next runs rt rm at_low.kept (carried_out low high plan old) joins closes

    undone : CanBeUndone high plan.at_high old
    undone = subst (λ (xs : List (ℕ × T)). CanBeUndone high plan.at_high xs) (sym whole) (at_high.undone (at_low.front ++ done) (before_below at_low.front at_low.front_below))

  pub makes : (tiled : (len : ℕ) × IsTiling 0 len old × (high ≤ len)) (runs : List (ℕ × T)) → with_last changes high last ≡ runs → IsTiling low high runs → IsMaximal runs → value_at runs low ≡ Some first → Makes low high old plan runs
  makes tiled runs is rt rm starts = record { undone = undone tiled.0 tiled.1 tiled.2; rewrites = λ len t fits. by_runs len t fits runs is rt rm starts }

module _ {T : Type 0} (low high : ℕ) (old : List (ℕ × T)) (tiled : (len : ℕ) × IsTiling 0 len old × (high ≤ len)) (some : low < high) (run : ℕ × T) (rest : List (ℕ × T)) (here : after low old ≡ run ∷ rest) where
  -- the runs from the first one of the range on
  pub begun : IsTiling low tiled.0 (run ∷ rest)
  begun = let le = tiled.2 in subst (λ (xs : List (ℕ × T)). IsTiling low tiled.0 xs) here (tiling_after 0 low tiled.0 old tiled.1 (omega arith) (omega arith))

pub one_starts : {T : Type 0} (low high : ℕ) (value : T) → low < high → value_at ((high, value) ∷ []) low ≡ Some value
one_starts low high value some = rw (lt-ltb low high some) refl
