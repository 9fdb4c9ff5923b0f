-- Walks that give each run of a range a value.
use Rattle.std.proofs.Common.{◌≡◌, ◌<◌, ◌≤◌, ℕ, List, [], ◌∷◌, ◌++◌, refl, sym, ap, ◌∙◌, subst, Option, Some, None, inl, inr, arith, append-nil}
use Rattle.std.specs.Option.{IsSomeAnd}
use Rattle.std.proofs.lemmas.Bool.{cases_lt, lt-ltb}
use Rattle.vk_ranges.specs.declared.changes.Change.{Change}
use Rattle.vk_ranges.specs.Runs.{IsTiling, value_at, after}
use Rattle.vk_ranges.specs.Inner.Joins.{JoinsTo}
use Rattle.vk_ranges.specs.Inner.Plans.{with_run, runs_of, IsKept}
use Rattle.vk_ranges.specs.Inner.Walks.{WalksTo, Gives, with_last, AreNew}
use Rattle.vk_ranges.proofs.TilingLemmas.{tiling_le, value_after, value_low, value_high}
use Rattle.vk_ranges.proofs.JoinLemmas.{apart_push, joined, IsWhole}
use Rattle.vk_ranges.proofs.PlanLemmas.{runs_append}
use Rattle.vk_ranges.proofs.Walking.{walk_start, walk_next}

module _ {T : Type 0} where
  -- A walk that has given a value to each run up to the one that it has come to.
  pub record IsMapping (gives : T → T → Type 0) (low high : ℕ) (runs : List (ℕ × T)) (changes : List (Change T)) (run : ℕ × T) (rest : List (ℕ × T)) (value first : T) : Type 0 where
    pub walk : WalksTo low high runs changes run rest
    pub news : (end : ℕ) → walk.cursor < end → end ≤ run.0 → AreNew gives low end runs (with_last changes end value) first

  gives_by : (gives : T → T → Type 0) (old new : List (ℕ × T)) (index : ℕ) (before after : T) → value_at old index ≡ Some before → value_at new index ≡ Some after → gives before after → Gives gives old new index
  gives_by gives old new index before after was is given =
      subst (λ (o : Option T). IsSomeAnd o (λ before. IsSomeAnd (value_at new index) (λ after. gives before after))) (sym was)
      (subst (λ (o : Option T). IsSomeAnd o (λ after. gives before after)) (sym is) given)

  pub gives_new : (gives : T → T → Type 0) (old new other : List (ℕ × T)) (index : ℕ) → value_at other index ≡ value_at new index → Gives gives old new index → Gives gives old other index
  gives_new gives old new other index is given = subst (λ (o : Option T). IsSomeAnd (value_at old index) (λ before. IsSomeAnd o (λ after. gives before after))) (sym is) given

  pub gives_after : (gives : T → T → Type 0) (low : ℕ) (old new : List (ℕ × T)) (index : ℕ) → low ≤ index → Gives gives (after low old) new index → Gives gives old new index
  gives_after gives low old new index from given = subst (λ (o : Option T). IsSomeAnd o (λ before. IsSomeAnd (value_at new index) (λ after. gives before after))) (value_after low old index from) given

  at_first : (end index : ℕ) (value : T) (rest : List (ℕ × T)) → index < end → value_at ((end, value) ∷ rest) index ≡ Some value
  at_first end index value rest lt = rw (lt-ltb index end lt) refl

  pub mapping_start : (gives : T → T → Type 0) (low high len : ℕ) (run : ℕ × T) (rest : List (ℕ × T)) (answer : T) → IsTiling low len (run ∷ rest) → low < high → gives run.1 answer → IsMapping gives low high (run ∷ rest) [] run rest answer answer
  unfolding walk_start
  mapping_start gives low high len run rest answer t lt given =
      record {
        walk = walk_start low high len run rest t lt;
        news = λ end some fits. record {
          tiling = (some, refl);
          maximal = (tt, tt);
          starts = at_first end low answer [] some;
          values = λ index from to.
              gives_by gives (run ∷ rest) ((end, answer) ∷ []) index run.1 answer (at_first run.0 index run.1 rest (omega arith)) (at_first end index answer [] to) given;
        };
      }

  joins : (changes : List (Change T)) (end : ℕ) (before value : T) (kept : Option T) → IsKept before value kept → JoinsTo end (with_last changes end before) value (runs_of changes ++ with_run end kept [])
  joins changes end before value None same =
      let none : runs_of changes ++ [] ≡ runs_of changes = append-nil (runs_of changes) in
      inr (record { last = before; is = ap (λ (xs : List (ℕ × T)). xs ++ (end, before) ∷ []) (sym none); same = same })
  joins changes end before value (Some kept) is =
      let same : kept ≡ before = is.0 in
      inl (ap (λ (v : T). runs_of changes ++ (end, v) ∷ []) same, apart_push (runs_of changes) (end, before) value is.1)

  module _ (gives : T → T → Type 0) (low high len : ℕ) (runs : List (ℕ × T)) (changes : List (Change T)) (run next : ℕ × T) (rest others : List (ℕ × T)) (before value first : T) (t : IsTiling low len runs) (so_far : IsMapping gives low high runs changes run rest before first) (is : rest ≡ next ∷ others) (within : run.0 < high) (change : Change T) (new : List (Change T)) (end_is : change.end ≡ run.0) (kept : IsKept before value change.value) (pushed : new ≡ changes ++ change ∷ []) (given : gives next.1 value) where
    walk : WalksTo low high runs new next others
    walk = walk_next low high len runs changes run rest t so_far.walk next others is within change new end_is pushed

    old_new : AreNew gives low run.0 runs (with_last changes run.0 before) first
    old_new = so_far.news run.0 so_far.walk.some (omega arith)

    stays : List (ℕ × T)
    stays = runs_of changes ++ with_run run.0 change.value []

    new_is : (end : ℕ) → stays ++ (end, value) ∷ [] ≡ with_last new end value
    unfolding stays
    new_is end =
        ap (λ (xs : List (ℕ × T)). xs ++ (end, value) ∷ [])
        (sym (ap runs_of pushed ∙ runs_append changes (change ∷ []) ∙ ap (λ (n : ℕ). runs_of changes ++ with_run n change.value []) end_is))

    whole : (end : ℕ) → run.0 < end → IsWhole low end (stays ++ (end, value) ∷ []) (with_last changes run.0 before ++ (end, value) ∷ [])
    unfolding stays
    whole end lt =
        joined low run.0 end (with_last changes run.0 before) (runs_of changes ++ with_run run.0 change.value []) (end, value) [] old_new.tiling old_new.maximal (lt, refl) (tt, tt) (joins changes run.0 before value change.value kept)

    value_before : (end index : ℕ) → run.0 < end → low ≤ index → index < run.0 → value_at (stays ++ (end, value) ∷ []) index ≡ value_at (with_last changes run.0 before) index
    value_before end index lt from to = (whole end lt).value index ∙ value_low low run.0 (with_last changes run.0 before) ((end, value) ∷ []) old_new.tiling index from to

    value_here : (end index : ℕ) → run.0 < end → run.0 ≤ index → index < end → value_at (stays ++ (end, value) ∷ []) index ≡ Some value
    value_here end index lt from to =
        (whole end lt).value index ∙ value_high low run.0 (with_last changes run.0 before) ((end, value) ∷ []) old_new.tiling index from ∙ at_first end index value [] to

    was_here : (index : ℕ) → run.0 ≤ index → index < next.0 → value_at runs index ≡ Some next.1
    unfolding walk walk_next
    was_here index from to =
        ap (λ (xs : List (ℕ × T)). value_at xs index) walk.whole ∙ value_high low run.0 (so_far.walk.done ++ run ∷ []) (next ∷ others) walk.tiling index from ∙ at_first next.0 index next.1 others to

    begins : low < run.0
    begins = let some = so_far.walk.some in let le = tiling_le low so_far.walk.cursor so_far.walk.done so_far.walk.tiling in omega arith

    are_new : (end : ℕ) → run.0 < end → end ≤ next.0 → AreNew gives low end runs (stays ++ (end, value) ∷ []) first
    are_new end lt fits =
        record {
          tiling = (whole end lt).tiling;
          maximal = (whole end lt).maximal;
          starts = value_before end low lt (omega arith) begins ∙ old_new.starts;
          values = λ index from to. elim (cases_lt index run.0) [
            | inl earlier ↦ gives_new gives runs (with_last changes run.0 before) (stays ++ (end, value) ∷ []) index (value_before end index lt from earlier) (old_new.values index from earlier)
            | inr later ↦ gives_by gives runs (stays ++ (end, value) ∷ []) index next.1 value (was_here index later (omega arith)) (value_here end index lt later to) given
          ];
        }

    pub mapping_next : IsMapping gives low high runs new next others value first
    unfolding walk walk_next
    mapping_next =
        record {
          walk = walk;
          news = λ end some fits. subst (λ (xs : List (ℕ × T)). AreNew gives low end runs xs first) (new_is end) (are_new end some fits);
        }
