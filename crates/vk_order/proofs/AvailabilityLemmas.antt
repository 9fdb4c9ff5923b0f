-- Elements of sets that make a write available, and the nodes to which they lead.
use Rattle.std.proofs.Common.{◌≡◌, ⊎_elim, ℕ, ◌+◌, ◌<◌, List, [], Bool, true, false, ◌&&◌, Some, refl, ap, sym, ◌∙◌, arith}
use Rattle.std.specs.Prelude.{nat_lt, Contains, slice_get}
use Rattle.std.proofs.lemmas.Bool.{cases_lt}
use Rattle.std.proofs.Math.Bool.{and-false, or-false}
use Rattle.vk_model.specs.Sync.Node.{Node, Act, Hosts, Waits, Signals, Runs, Depends, Barrier, SetOf, AwaitOf}
use Rattle.vk_model.proofs.Lists.Members.{none_passes_any, member_passes}
use Rattle.vk_order.specs.declared.acts.Row.{Row}
use Rattle.vk_model.specs.Trace.PointViews.{point_of}
use Rattle.vk_order.specs.NodeViews.{act_of, node_of, nodes_after}
use Rattle.vk_model.proofs.Lists.Truths.{no}
use Rattle.vk_order.specs.Lines.{class_on, line_on, is_of_sets}
use Rattle.vk_order.specs.Edges.{unsignaled}
use Rattle.vk_order.specs.Inner.Availability.{is_set_element, is_carried, comes_after_sets, HasSets}
use Rattle.vk_model.specs.Trace.Point.{Point}
use Rattle.vk_order.proofs.BeforeLemmas.{node_row}
use Rattle.vk_order.proofs.NamedLemmas.{node_there}
use Rattle.vk_model.proofs.Lists.Items.{some_same}

module _ (rows : List Row) (test : Node → Bool) (number : ℕ) (row : Row) where
  none_of : ((j : ℕ) (x : Row) → slice_get rows j ≡ Some x → (is_set_element (act_of x.act) && test (node_of j x) && (nat_lt j number && unsignaled (node_of j x) (node_of number row))) ≡ false) → is_carried (nodes_after [] rows) test (node_of number row) ≡ false
  none_of none = none_passes_any (λ s. is_set_element s.act && test s && (nat_lt s.number number && unsignaled s (node_of number row))) (nodes_after [] rows)
      (λ s cs. let found = node_row rows s s.number cs refl in
      ap (λ (s : Node). is_set_element s.act && test s && (nat_lt s.number number && unsignaled s (node_of number row))) found.2 ∙ none s.number found.0 found.1)

  pub none_carried : (sets : List ℕ) → HasSets rows test sets
      → ((j : ℕ) (x : Row) → Contains sets j → slice_get rows j ≡ Some x → (is_set_element (act_of x.act) && test (node_of j x) && (nat_lt j number && unsignaled (node_of j x) (node_of number row))) ≡ false) → is_carried (nodes_after [] rows) test (node_of number row) ≡ false
  none_carried sets has none = none_of (λ j x at. go j x at (is_set_element (act_of x.act) && test (node_of j x)) refl)
    where
      go : (j : ℕ) (x : Row) → slice_get rows j ≡ Some x → (t : Bool) → (is_set_element (act_of x.act) && test (node_of j x)) ≡ t → (is_set_element (act_of x.act) && test (node_of j x) && (nat_lt j number && unsignaled (node_of j x) (node_of number row))) ≡ false
      go j x at true e = none j x (has j x at e) at
      go j x at false e = ap (λ (t : Bool). t && (nat_lt j number && unsignaled (node_of j x) (node_of number row))) e

  -- sets lead to no other acts
  pub not_after_sets : comes_after_sets (act_of row.act) ≡ false → is_carried (nodes_after [] rows) test (node_of number row) ≡ false
  not_after_sets off = none_of (λ j x at. from_set (test (node_of j x)) (nat_lt j number) j (point_of x.point) (act_of x.act) (point_of row.point) (act_of row.act) off)
    where
      last : (t u : Bool) → (t && (u && false)) ≡ false
      last true true = refl
      last true false = refl
      last false u = refl

      from_set : (t u : Bool) (j : ℕ) (p : Point) (a : Act) (q : Point) (d : Act) → comes_after_sets d ≡ false
          → (is_set_element a && t && (u && unsignaled (record { number = j; point = p; act = a }) (record { number = number; point = q; act = d }))) ≡ false
      from_set t u j p (Hosts x) q d off = refl
      from_set t u j p (Waits s) q d off = refl
      from_set t u j p (Signals s) q d off = refl
      from_set t u j p (Runs c) q d off = refl
      from_set t u j p (Depends Barrier e) q d off = refl
      from_set t u j p (Depends (AwaitOf v k) e) q d off = refl
      from_set t u j p (Depends (SetOf v k) e) q d off = ap (λ (z : Bool). t && (u && z)) (quiet d off) ∙ last t u
        where
          quiet : (d : Act) → comes_after_sets d ≡ false → unsignaled (record { number = j; point = p; act = Depends (SetOf v k) e }) (record { number = number; point = q; act = d }) ≡ false
          quiet (Hosts x) off = simp (and-false, or-false)
          quiet (Waits s) off = simp (and-false, or-false)
          quiet (Signals s) off = simp (off, and-false, or-false)
          quiet (Runs c) off = simp (and-false, or-false)
          quiet (Depends Barrier f) off = simp (and-false, or-false)
          quiet (Depends (SetOf u i) f) off = simp (and-false, or-false)
          quiet (Depends (AwaitOf u i) f) off = no (sym off)

  pub some_carried : (j : ℕ) (x : Row) → slice_get rows j ≡ Some x → (is_set_element (act_of x.act) && test (node_of j x) && (nat_lt j number && unsignaled (node_of j x) (node_of number row))) ≡ true → is_carried (nodes_after [] rows) test (node_of number row) ≡ true
  some_carried j x at h = member_passes (λ s. is_set_element s.act && test s && (nat_lt s.number number && unsignaled s (node_of number row))) (nodes_after [] rows) (node_of j x) (node_there rows j x at) h

-- ---- walks over rows

pub below_more : (test : ℕ → Row → Bool) (rows : List Row) (k : ℕ) (row : Row) → slice_get rows k ≡ Some row → test k row ≡ false → ((j : ℕ) (x : Row) → slice_get rows j ≡ Some x → j < k → test j x ≡ false)
    → (j : ℕ) (x : Row) → slice_get rows j ≡ Some x → j < k + 1 → test j x ≡ false
below_more test rows k row at off below j x e lt = ⊎_elim (λ low. below j x e low) (λ high. here (let same : j ≡ k = omega arith in same)) (cases_lt j k)
  where
    here : j ≡ k → test j x ≡ false
    here same = ap (λ (i : ℕ). test i x) same ∙ ap (test k) (some_same x row (sym e ∙ ap (slice_get rows) same ∙ at)) ∙ off

-- ---- acts on lines

pub lined : (q : ℕ) (a : Act) → is_of_sets (class_on q a) ≡ false → line_on q a ≡ Some (class_on q a)
lined q (Hosts x) h = refl
lined q (Waits s) h = refl
lined q (Signals s) h = refl
lined q (Runs c) h = refl
lined q (Depends Barrier e) h = refl
lined q (Depends (SetOf v k) e) h = no (sym h)
lined q (Depends (AwaitOf v k) e) h = refl

pub set_line : (q : ℕ) (a : Act) → is_set_element a ≡ false → is_of_sets (class_on q a) ≡ true → ⊥
set_line q (Hosts x) h e = no e
set_line q (Waits s) h e = no e
set_line q (Signals s) h e = no e
set_line q (Runs c) h e = no e
set_line q (Depends Barrier x) h e = no e
set_line q (Depends (SetOf v k) x) h e = no (sym h)
set_line q (Depends (AwaitOf v k) x) h e = no e
