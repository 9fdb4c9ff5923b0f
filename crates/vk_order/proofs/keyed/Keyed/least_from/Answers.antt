use Rattle.std.proofs.Common.{◌≡◌, ℕ, ◌≤◌, ◌<◌, List, ◌∷◌, Option, Some, None, false, refl, ap, ◌∙◌, subst, arith, rules}
use Rattle.std.specs.Prelude.{slice_get, IsSome}
use Rattle.std.specs.Option.{IfSome, option_and_then}
use Rattle.std.specs.Ordering.{nat_cmp, is_gt}
use Rattle.std.specs.BTreeMap.{BTreeMap, get}
use Rattle.std.specs.BTreeMap.Range.{IsRangeOf}
use Rattle.std.specs.declared.ops.Bound.TheVariants.{Included, Unbounded}
use Rattle.vk_order.specs.declared.fronts.Front.{Front}
use Rattle.vk_order.specs.Inner.Keyed.{front_at}
use Rattle.vk_order.proofs.keyed.Keyed.least_from.Goals as goal
use Rattle.std.proofs.lemmas.Map.Keys.{le_from_not_gt}
use Rattle.vk_model.proofs.Lists.Keys.{not_above}

by_some : (o : Option Front) (g : Front) → o ≡ Some g → IsSome o
by_some o g e = search (rules, e)

-- the first entry of a range has the least number
first : (m : BTreeMap ℕ Front) (v u : ℕ) (f : Front) (rest r : List (ℕ × Front)) → r ≡ (u, f) ∷ rest → IsRangeOf nat_cmp (Included v) Unbounded m r → (v ≤ u) × (get nat_cmp m u ≡ Some f) × ((w : ℕ) → v ≤ w → w < u → get nat_cmp m w ≡ None)
first m v u f rest r is range =
    let here : slice_get r 0 ≡ Some (u, f) = ap (λ (l : List (ℕ × Front)). slice_get l 0) is in
    let least = subst (λ (o : Option (ℕ × Front)). IfSome o (λ e. ((is_gt (nat_cmp v e.0) ≡ false) × Unit {0}) × (get nat_cmp m e.0 ≡ Some e.1))) here range.1 in
    (le_from_not_gt v u least.0.0, least.1, (λ w low lt. go w low lt (get nat_cmp m w) refl))
  where
    go : (w : ℕ) → v ≤ w → w < u → (o : Option Front) → get nat_cmp m w ≡ o → get nat_cmp m w ≡ None
    go w low lt None e = e
    go w low lt (Some g) e =
        let here : slice_get r 0 ≡ Some (u, f) = ap (λ (l : List (ℕ × Front)). slice_get l 0) is in
        let le = subst (λ (o : Option (ℕ × Front)). IfSome o (λ e. is_gt (nat_cmp e.0 w) ≡ false)) here (range.2 w (not_above v w low, tt) (by_some (get nat_cmp m w) g e)) in
        absurd (let bad = le_from_not_gt u w le in omega arith)

pub returns-in-Some : goal.returns-in-Some
returns-in-Some c =
    let r = first c.in_ok-table.table.now c.args.number c.in-Some.field-0-0.now c.in-Some.front.now c.next.new.self c.range.result c.in-Some.ensures.steps (c.range.ensures.in_range tt) in
    let at : get nat_cmp c.args.self.now.tables c.args.id ≡ Some c.in_ok-table.table.now = search rules in
    let there : (w : ℕ) → front_at c.args.self.now c.args.id w ≡ get nat_cmp c.in_ok-table.table.now w = (λ w. ap (λ (o : Option (BTreeMap ℕ Front)). option_and_then (λ t. get nat_cmp t w) o) at) in
    (c.in-Some.field-0-0.now, r.0, there c.in-Some.field-0-0.now ∙ r.1, (λ w low lt. there w ∙ r.2 w low lt))
