-- Points up to and with one.
use Rattle.std.proofs.Common.{◌≡◌, ◌<◌, ◌+◌, ℕ, List, [], ◌∷◌, zero, suc, length, take, Some, refl, sym, ap, ◌∙◌, subst, arith}
use Rattle.std.specs.Prelude.{slice_get}
use Rattle.std.proofs.lemmas.List.{take-take, length-take, get_or-take}
use Rattle.std.proofs.lemmas.Option.{slice_get_within, slice_get-get_or, get_or_from_slice_get}
use Rattle.vk_model.specs.declared.entry.Entry.{Entry}
use Rattle.vk_model.specs.declared.rule.At.{At}
use Rattle.vk_model.specs.Trace.Point.{Past, Point, at_of}
use Rattle.vk_model.specs.Trace.Order.{order}
use Rattle.vk_model.specs.Rules.Fault.{Comes, newest, older}
use Rattle.vk_model.specs.Sync.Node.{nodes}
use Rattle.vk_model.specs.declared.point.Point.{Point as Given}
use Rattle.vk_model.specs.Trace.PointViews.{point_of}
use Rattle.vk_order.specs.Places.{IsApart}
use Rattle.vk_order.specs.Queries.{IsNew}
use Rattle.vk_queues.specs.PointViews.{past_of}
use Rattle.vk_queues.proofs.NewPoints.{comes_at, order_apart}
use Rattle.vk_hazards.specs.Until.{IsNowhere, IsUntil}
use Rattle.vk_hazards.proofs.PastLemmas.{past_more}

-- no point of an empty past is reported so
pub nowhere_none : (at : At) → IsNowhere [] at
nowhere_none at before p comes e = go [] before p comes refl_nil
  where
    refl_nil : (let l : Past = [] in l) ≡ []
    refl_nil = ap (λ (l : Past). l) (λ i. [])

    go : (all before : Past) (p : Point) → Comes all before p → all ≡ [] → ⊥
    go all before p newest is = cc
    go all before p (older come) is = cc

-- nor one of a point more that isn't reported so
pub nowhere_more : (whole : Past) (q : Point) (at : At) → (at_of q ≡ at → ⊥) → IsNowhere whole at → IsNowhere (q ∷ whole) at
nowhere_more whole q at differs none before p comes e = go (q ∷ whole) before p comes (λ i. q ∷ whole) e
  where
    go : (all before : Past) (p : Point) → Comes all before p → all ≡ q ∷ whole → at_of p ≡ at → ⊥
    go all before p newest is e = let same : p ≡ q = cc in differs (ap at_of (sym same) ∙ e)
    go all before p (older {past = rest} {q = r} come) is e = let same : rest ≡ whole = cc in none before p (subst (λ (l : Past). Comes l before p) same come) e

-- points that are new stay so among the first of them
pub new_first : (ps : List Given) (i : ℕ) → ((k : ℕ) (p : Given) → slice_get ps k ≡ Some p → IsNew (point_of p) (nodes (past_of (take k ps))))
    → (k : ℕ) (p : Given) → slice_get (take i ps) k ≡ Some p → IsNew (point_of p) (nodes (past_of (take k (take i ps))))
new_first ps i new k p at =
    let within = slice_get_within (take i ps) k p at in
    let size = length-take i ps in
    let lt : k < length ps = omega arith in
    let here : slice_get ps k ≡ Some p = slice_get-get_or ps k p lt ∙ ap Some (sym (get_or-take i ps k p (omega arith)) ∙ get_or_from_slice_get (take i ps) k p p at) in
    subst (λ (l : List Given). IsNew (point_of p) (nodes (past_of l))) (sym (take-take k i ps (omega arith))) (new k p here)

-- there is an item at each index
some_item : (ps : List Given) (i : ℕ) → i < length ps → (p : Given) × (slice_get ps i ≡ Some p)
some_item [] i lt = absurd (omega arith)
some_item (p ∷ ps) zero lt = (p, refl)
some_item (p ∷ ps) (suc i) lt = some_item ps i (omega arith)

-- points up to and with one of an index
pub until_at : (ps : List Given) (i : ℕ) (at : At) (whole past : Past) → i < length ps → ((p : Given) → slice_get ps i ≡ Some p → at_of (point_of p) ≡ at)
    → past_of ps ≡ whole → past ≡ past_of (take (i + 1) ps) → IsUntil whole at past
until_at ps i at whole past lt called is here =
    let p = some_item ps i lt in
    record {
      before = past_of (take i ps);
      point = point_of p.0;
      comes = subst (λ (l : Past). Comes l (past_of (take i ps)) (point_of p.0)) is (comes_at [] ps i p.0 p.1);
      is_reported = called p.0 p.1;
      here = here ∙ past_more ps i p.0 lt ∙ ap (λ (q : Given). point_of q ∷ past_of (take i ps)) (get_or_from_slice_get ps i p.0 p.0 p.1);
    }

-- the points up to and with one have no two commands at one place
apart_of : (all before : Past) (p : Point) → Comes all before p → IsApart all → IsApart (p ∷ before)
apart_of all before p newest apart = apart
apart_of all before p (older {past = rest} {q = q} come) apart = apart_of rest before p come apart.1

pub until_apart : (t : List Entry) (at : At) (past : Past) → IsUntil (order t) at past → IsApart past
until_apart t at past until = subst IsApart (sym until.here) (apart_of (order t) until.before until.point until.comes (order_apart t))
