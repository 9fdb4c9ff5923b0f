-- What is reported of a trace is its first fault.
use Rattle.std.proofs.Common.{◌≡◌, ◌≤◌, ◌+◌, ℕ, List, [], ◌∷◌, refl, ap, sym, ◌∙◌, subst, length, take, drop, Option, Some, None}
use Rattle.std.specs.Prelude.{option_map, slice_get}
use Rattle.std.specs.List.{fold}
use Rattle.std.proofs.lemmas.List.{take-append-drop, take_all}
use Rattle.std.proofs.lemmas.List.Sums.{fold-append}
use Rattle.vk_model.specs.declared.entry.Entry.{Entry}
use Rattle.vk_model.specs.declared.rule.At.{At}
use Rattle.vk_model.specs.declared.rule.Rule.{Rule}
use Rattle.vk_model.specs.Trace.Point as spec
use Rattle.vk_model.specs.Trace.Point.{Past, at_of}
use Rattle.vk_model.specs.Trace.Order.{order}
use Rattle.vk_model.specs.Trace.Structure.{IsOrdered}
use Rattle.vk_model.specs.Rules.Fault.{Comes}
use Rattle.vk_model.specs.Rules.Table.{first_rule, fault, first_fault}
use Rattle.vk_model.proofs.Rules.Fault.{no_fault-cons}
use Rattle.vk_model.proofs.Trace.Structure.{order_ordered}
use Rattle.vk_model.specs.declared.point.Point.{Point}
use Rattle.vk_model.specs.Trace.PointViews.{point_of}
use Rattle.vk_queues.specs.PointViews.{past_of, add}
use Rattle.vk_queues.proofs.NewPoints.{comes_at}
use Rattle.vk_history.specs.PointViews.{past, Walk}
use Rattle.vk_history.specs.Judged.{IsJudged}
use Rattle.vk_history.proofs.Kept.PastLemmas.{past-next}

-- ---- the first of the points that breaks a rule

-- the fault of a past with one point more: the older one, or that of the point
abbrev or_here : Option (At × Rule) → spec.Point → Option Rule → Option (At × Rule)
or_here older p here = elim older [ Some f ↦ Some f | None ↦ option_map (λ r. (at_of p, r)) here ]

-- what is reported of the points of a trace
module _ (xs : List Entry) (points : Past) (laid : points ≡ order xs) where
  pub ordered : IsOrdered points
  ordered = subst IsOrdered (sym laid) (order_ordered xs)

  module _ (f : Option (At × Rule)) (found : f ≡ fault points) where
    pub reports : f ≡ first_fault xs
    unfolding first_fault
    reports = found ∙ ap fault laid

    pub accepts : f ≡ None → first_fault xs ≡ None
    accepts none = sym reports ∙ none

-- ---- the points one after another

fault_stays : (f : At × Rule) (ps : List Point) (a : Past) → fault a ≡ Some f → fault (fold add a ps) ≡ Some f
unfolding fault
fault_stays f [] a some = some
fault_stays f (x ∷ ps) a some = fault_stays f ps (add a x) (rw some refl)

fault_here : (past : Past) (p : spec.Point) (r : Rule) → fault past ≡ None → first_rule past p ≡ Some r → fault (p ∷ past) ≡ Some (at_of p, r)
unfolding fault
fault_here past p r none some = ap (λ (o : Option (At × Rule)). or_here o p (first_rule past p)) none ∙ ap (λ (o : Option Rule). or_here None p o) some

ordered_first : (ps : List Point) (a : Past) → IsOrdered (fold add a ps) → IsOrdered a
ordered_first [] a o = o
ordered_first (x ∷ ps) a o = (ordered_first ps (add a x) o).1

module _ (h : Walk) (points : List Point) (k : ℕ) (here : h ≡ record { points = points; count = k }) where
  pub done : IsJudged (past h) → length points ≤ k → None ≡ fault (past_of points)
  unfolding past
  done j le = sym (ap fault (sym (ap past here ∙ ap past_of (take_all k points le))) ∙ j.faultless)

  module _ (x : Point) (at : slice_get points k ≡ Some x) where
    -- the point is one of them, with what has happened before it
    pub comes_here : Comes (past_of points) (past h) (point_of x)
    unfolding past
    comes_here = subst (λ (before : Past). Comes (past_of points) before (point_of x)) (sym (ap past here)) (comes_at [] points k x at)

    cut : past_of points ≡ fold add (point_of x ∷ past h) (drop (k + 1) points)
    unfolding past
    cut =
        ap past_of (sym (take-append-drop (k + 1) points)) ∙ fold-append add [] (take (k + 1) points) (drop (k + 1) points)
        ∙ ap (λ (a : Past). fold add a (drop (k + 1) points)) (past-next points k x at ∙ ap (λ (v : Walk). point_of x ∷ past v) (sym here))

    pub next_ordered : IsOrdered (past_of points) → IsOrdered (point_of x ∷ past h)
    next_ordered o = ordered_first (drop (k + 1) points) (point_of x ∷ past h) (subst IsOrdered cut o)

    pub next_judged : IsJudged (past h) → IsOrdered (past_of points) → None ≡ first_rule (past h) (point_of x) → IsJudged (point_of x ∷ past h)
    next_judged j o none = record {
      ordered = next_ordered o;
      faultless = no_fault-cons (past h) (point_of x) j.faultless (sym none);
    }

    pub reported_here : (r : Rule) → IsJudged (past h) → first_rule (past h) (point_of x) ≡ Some r → Some (at_of (point_of x), r) ≡ fault (past_of points)
    reported_here r j some = sym (ap fault cut ∙ fault_stays (at_of (point_of x), r) (drop (k + 1) points) (point_of x ∷ past h) (fault_here (past h) (point_of x) r j.faultless some))
