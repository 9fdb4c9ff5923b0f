-- Carrying out a plan.
use Rattle.std.proofs.Common.{◌≡◌, ◌<◌, ◌≤◌, ◌+◌, ℕ, List, [], ◌∷◌, ◌++◌, refl, sym, ap, ◌∙◌, subst, Option, Some, None, arith, append-nil}
use Rattle.vk_ranges.specs.declared.changes.Change.{Change}
use Rattle.vk_ranges.specs.Runs.{IsTiling, IsMaximal, value_at, after, upto}
use Rattle.vk_ranges.specs.Inner.Joins.{JoinsTo, Closes}
use Rattle.vk_ranges.specs.Inner.Plans.{with_run, runs_of, ends_of, run_ends, changed, applied, IsRewritten}
use Rattle.vk_ranges.proofs.TilingLemmas.{tiling_upto, tiling_after, maximal_upto, maximal_after, value_upto, value_after, value_low, value_high}
use Rattle.vk_ranges.proofs.OrderLemmas.{same, more}
use Rattle.vk_ranges.proofs.JoinLemmas.{joined, IsWhole}
use Rattle.vk_ranges.proofs.EdgeLemmas.{Below}

module _ {T : Type 0} where
  -- the ends of a plan rise from a number on
  abbrev Rises : ℕ → List (Change T) → Type 0
  Rises low [] = Unit {0}
  Rises low (change ∷ plan) = (low < change.end) × Rises change.end plan

  changed_past : (end : ℕ) (value : Option T) (run : ℕ × T) (runs : List (ℕ × T)) → run.0 < end → changed end value (run ∷ runs) ≡ run ∷ changed end value runs
  changed_past end None run runs lt = rw (more end run.0 lt) refl
  changed_past end (Some value) run runs lt = rw (more end run.0 lt) refl

  changed_here : (end : ℕ) (value : Option T) (run : ℕ × T) (runs : List (ℕ × T)) → end ≡ run.0 → changed end value (run ∷ runs) ≡ with_run end value runs
  changed_here end None run runs is = rw (same end run.0 is) refl
  changed_here end (Some value) run runs is = rw (same end run.0 is) (ap (λ (n : ℕ). (n, value) ∷ runs) (sym is))

  -- a run before all ends of a plan stays
  past : (low : ℕ) (run : ℕ × T) (plan : List (Change T)) (runs : List (ℕ × T)) → run.0 ≤ low → Rises low plan → applied plan (run ∷ runs) ≡ run ∷ applied plan runs
  past low run [] runs le rises = refl
  past low run (change ∷ plan) runs le rises =
      let lt = rises.0 in
      ap (applied plan) (changed_past change.end change.value run runs (omega arith)) ∙ past change.end run plan (changed change.end change.value runs) (omega arith) rises.1

  past_all : (low : ℕ) (xs : List (ℕ × T)) (plan : List (Change T)) (runs : List (ℕ × T)) → Below (low + 1) xs → Rises low plan → applied plan (xs ++ runs) ≡ xs ++ applied plan runs
  past_all low [] plan runs below rises = refl
  past_all low (x ∷ xs) plan runs below rises =
      let lt = below.0 in
      past low x plan (xs ++ runs) (omega arith) rises ∙ ap (λ (rest : List (ℕ × T)). x ∷ rest) (past_all low xs plan runs below.1 rises)

  with_run_past : (low end : ℕ) (value : Option T) (plan : List (Change T)) (runs : List (ℕ × T)) → end ≤ low → Rises low plan → applied plan (with_run end value runs) ≡ with_run end value (applied plan runs)
  with_run_past low end None plan runs le rises = refl
  with_run_past low end (Some value) plan runs le rises = past low (end, value) plan runs le rises

  with_run_append : (end : ℕ) (value : Option T) (xs ys : List (ℕ × T)) → with_run end value (xs ++ ys) ≡ with_run end value xs ++ ys
  with_run_append end None xs ys = refl
  with_run_append end (Some value) xs ys = refl

  rises_as : (low end : ℕ) (plan : List (Change T)) (runs : List (ℕ × T)) → IsTiling low end runs → ends_of plan ≡ run_ends runs → Rises low plan
  rises_as low end [] runs t e = tt
  rises_as low end (change ∷ plan) [] t e = absurd cc
  rises_as low end (change ∷ plan) (run ∷ runs) t e =
      let is : change.end ≡ run.0 = cc in
      let rest : ends_of plan ≡ run_ends runs = cc in
      let lt = t.0 in
      (omega arith, subst (λ (n : ℕ). Rises n plan) (sym is) (rises_as run.0 end plan runs t.1 rest))

  -- the changed runs take the place of the old ones
  replaced : (low end : ℕ) (plan : List (Change T)) (runs others : List (ℕ × T)) → IsTiling low end runs → ends_of plan ≡ run_ends runs → applied plan (runs ++ others) ≡ runs_of plan ++ others
  replaced low end [] [] others t e = refl
  replaced low end [] (run ∷ runs) others t e = absurd cc
  replaced low end (change ∷ plan) [] others t e = absurd cc
  replaced low end (change ∷ plan) (run ∷ runs) others t e =
      let is : change.end ≡ run.0 = cc in
      let rest : ends_of plan ≡ run_ends runs = cc in
      ap (applied plan) (changed_here change.end change.value run (runs ++ others) is)
      ∙ with_run_past run.0 change.end change.value plan (runs ++ others) (omega arith) (rises_as run.0 end plan runs t.1 rest)
      ∙ ap (with_run change.end change.value) (replaced run.0 end plan runs others t.1 rest)
      ∙ with_run_append change.end change.value (runs_of plan) others

  pub applied_between : (low end : ℕ) (plan : List (Change T)) (left runs right : List (ℕ × T)) → Below (low + 1) left → IsTiling low end runs → ends_of plan ≡ run_ends runs → applied plan (left ++ (runs ++ right)) ≡ left ++ (runs_of plan ++ right)
  applied_between low end plan left runs right below t e =
      past_all low left plan (runs ++ right) below (rises_as low end plan runs t e) ∙ ap (λ (rest : List (ℕ × T)). left ++ rest) (replaced low end plan runs right t e)

  pub runs_append : (plan more : List (Change T)) → runs_of (plan ++ more) ≡ runs_of plan ++ runs_of more
  runs_append [] more = refl
  runs_append (change ∷ plan) more = ap (with_run change.end change.value) (runs_append plan more) ∙ by_value change.end change.value where
    by_value : (end : ℕ) (value : Option T) → with_run end value (runs_of plan ++ runs_of more) ≡ with_run end value (runs_of plan) ++ runs_of more
    by_value end None = refl
    by_value end (Some value) = refl

  -- ---- what the range has then

  module _ (low high len : ℕ) (old : List (ℕ × T)) (t : IsTiling 0 len old) (m : IsMaximal old) (some : low < high) (fits : high ≤ len) (run : ℕ × T) (runs : List (ℕ × T)) (rt : IsTiling low high (run ∷ runs)) (rm : IsMaximal (run ∷ runs)) where
    abbrev left : List (ℕ × T)
    left = upto 0 low old

    abbrev right : List (ℕ × T)
    right = after high (after low old)

    left_tiling : IsTiling 0 low left
    left_tiling = tiling_upto 0 low len old t (omega arith) (omega arith)

    right_tiling : IsTiling high len right
    right_tiling = tiling_after low high len (after low old) (tiling_after 0 low len old t (omega arith) (omega arith)) (omega arith) fits

    right_maximal : IsMaximal right
    right_maximal = maximal_after high (after low old) (maximal_after low old m)

    first : (kept : List (ℕ × T)) → JoinsTo low left run.1 kept → IsWhole 0 high (kept ++ run ∷ runs) (left ++ run ∷ runs)
    first kept joins = joined 0 low high left kept run runs left_tiling (maximal_upto 0 low old m) rt rm joins

    from : (kept new : List (ℕ × T)) → JoinsTo low left run.1 kept → IsWhole 0 len new ((kept ++ run ∷ runs) ++ right) → IsRewritten low high len old new (run ∷ runs)
    from kept new joins whole =
        let one = first kept joins in
        record {
          tiling = whole.tiling;
          maximal = whole.maximal;
          before = λ index to.
              whole.value index ∙ value_low 0 high (kept ++ run ∷ runs) right one.tiling index (omega arith) (omega arith)
              ∙ one.value index ∙ value_low 0 low left (run ∷ runs) left_tiling index (omega arith) to ∙ value_upto 0 low len old t (omega arith) index (omega arith) to;
          inside = λ index from to.
              whole.value index ∙ value_low 0 high (kept ++ run ∷ runs) right one.tiling index (omega arith) to
              ∙ one.value index ∙ value_high 0 low left (run ∷ runs) left_tiling index from;
          after = λ index from.
              whole.value index ∙ value_high 0 high (kept ++ run ∷ runs) right one.tiling index from
              ∙ value_after high (after low old) index from ∙ value_after low old index (omega arith);
        }

    -- both edges of the range joined
    pub carried : (kept new : List (ℕ × T)) → JoinsTo low left run.1 kept → Closes high (kept ++ run ∷ runs) right new → IsRewritten low high len old new (run ∷ runs)
    carried kept new joins closes = by_right right refl right_tiling right_maximal closes where
      whole : IsWhole 0 high (kept ++ run ∷ runs) (left ++ run ∷ runs)
      whole = first kept joins

      by_right : (rest : List (ℕ × T)) → right ≡ rest → IsTiling high len rest → IsMaximal rest → Closes high (kept ++ run ∷ runs) rest new → IsRewritten low high len old new (run ∷ runs)
      by_right [] none tiling maximal is =
          from kept new joins (record {
            tiling = subst (λ (xs : List (ℕ × T)). IsTiling 0 len xs) (sym is) (subst (λ (n : ℕ). IsTiling 0 n (kept ++ run ∷ runs)) tiling whole.tiling);
            maximal = subst (λ (xs : List (ℕ × T)). IsMaximal xs) (sym is) whole.maximal;
            value = λ index. ap (λ (xs : List (ℕ × T)). value_at xs index) (is ∙ sym (append-nil (kept ++ run ∷ runs)) ∙ ap (λ (xs : List (ℕ × T)). (kept ++ run ∷ runs) ++ xs) (sym none));
          })
      by_right (next ∷ rest) some tiling maximal two =
          let all = joined 0 high len (kept ++ run ∷ runs) two.kept next rest whole.tiling whole.maximal tiling maximal two.joins in
          from kept new joins (record {
            tiling = subst (λ (xs : List (ℕ × T)). IsTiling 0 len xs) (sym two.is) all.tiling;
            maximal = subst (λ (xs : List (ℕ × T)). IsMaximal xs) (sym two.is) all.maximal;
            value = λ index. ap (λ (xs : List (ℕ × T)). value_at xs index) two.is ∙ all.value index ∙ ap (λ (xs : List (ℕ × T)). value_at ((kept ++ run ∷ runs) ++ xs) index) (sym some);
          })
