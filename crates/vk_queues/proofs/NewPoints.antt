-- In an ordered past no two commands are at one place. Other crates cite it.
use Rattle.std.proofs.Common.{◌≡◌, ℕ, zero, suc, List, [], ◌∷◌, Bool, true, false, Some, refl, subst, take, slice_get}
use Rattle.std.specs.Prelude.{◌&&◌, ◌==◌}
use Rattle.std.proofs.lemmas.Bool.{and_parts, eqb-true}
use Rattle.vk_model.specs.declared.command.Cmd.{Cmd}
use Rattle.vk_model.specs.declared.entry.Entry.{Entry}
use Rattle.vk_model.specs.Trace.Point.{Past, Point, Run, at_of}
use Rattle.vk_model.specs.Trace.Order.{order}
use Rattle.vk_model.specs.Trace.Structure.{IsOrdered}
use Rattle.vk_model.specs.Sync.Node.{nodes, same_place}
use Rattle.vk_model.specs.Rules.Fault.{Comes, newest, older}
use Rattle.vk_model.proofs.Trace.Once.{come_once}
use Rattle.vk_model.proofs.Trace.Structure.{order_ordered}
use Rattle.vk_model.proofs.Trace.Older.{comes_has}
use Rattle.vk_model.specs.declared.point.Point.{Point as Given}
use Rattle.vk_model.specs.Trace.PointViews.{point_of}
use Rattle.vk_order.specs.Queries.{IsNew}
use Rattle.vk_order.specs.Places.{IsElsewhere, IsApart}
use Rattle.vk_order.proofs.ElementPlaces.{elsewhere}
use Rattle.vk_queues.specs.PointViews.{past_after, past_of}

-- commands at one place are reported alike
alike : (p q : Point) (c d : Cmd) → p.action ≡ Run c → q.action ≡ Run d → same_place q p ≡ true → at_of q ≡ at_of p
alike p q c d is_p is_q same =
    let parts = and_parts (q.entry == p.entry && q.batch == p.batch) (q.place == p.place) same in
    let both = and_parts (q.entry == p.entry) (q.batch == p.batch) parts.0 in
    rw (is_p, is_q, eqb-true q.entry p.entry both.0, eqb-true q.batch p.batch both.1, eqb-true q.place p.place parts.1) refl

pub is_elsewhere : (past before : Past) (p : Point) → IsOrdered past → Comes past before p → IsElsewhere p before
is_elsewhere past before p ordered come = λ c is_p earlier q d there is_q. go c is_p earlier q d there is_q (same_place q p) refl where
  go : (c : Cmd) → p.action ≡ Run c → (earlier : Past) (q : Point) (d : Cmd) → Comes before earlier q → q.action ≡ Run d → (b : Bool) → same_place q p ≡ b → b ≡ false
  go c is_p earlier q d there is_q false e = refl
  go c is_p earlier q d there is_q true e = absurd (come_once past before p q ordered come (comes_has before earlier q there) (alike p q c d is_p is_q e))

pub ordered_new : (past before : Past) (p : Point) → IsOrdered past → Comes past before p → IsNew p (nodes before)
ordered_new past before p ordered come = λ c is m at element. elsewhere before p c is (is_elsewhere past before p ordered come) m at element

pub ordered_apart : (past : Past) → IsOrdered past → IsApart past
ordered_apart [] ordered = tt
ordered_apart (p ∷ past) ordered = (is_elsewhere (p ∷ past) past p ordered newest, ordered_apart past ordered.1)

-- each point of reference order is new among the nodes of those before it
pub order_new : (t : List Entry) (before : Past) (p : Point) → Comes (order t) before p → IsNew p (nodes before)
order_new t before p come = ordered_new (order t) before p (order_ordered t) come

pub order_apart : (t : List Entry) → IsApart (order t)
order_apart t = ordered_apart (order t) (order_ordered t)

-- ---- points in their order

still_comes : (past before : Past) (p : Point) (ps : List Given) → Comes past before p → Comes (past_after past ps) before p
still_comes past before p [] come = come
still_comes past before p (q ∷ qs) come = still_comes (point_of q ∷ past) before p qs (older come)

-- each of some points comes after the ones before it
pub comes_at : (past : Past) (ps : List Given) (k : ℕ) (p : Given) → slice_get ps k ≡ Some p → Comes (past_after past ps) (past_after past (take k ps)) (point_of p)
comes_at past [] k p at = absurd cc
comes_at past (q ∷ qs) zero p at = let same : q ≡ p = cc in still_comes (point_of q ∷ past) past (point_of p) qs (subst (λ (r : Given). Comes (point_of q ∷ past) past (point_of r)) same newest)
comes_at past (q ∷ qs) (suc k) p at = comes_at (point_of q ∷ past) qs k p at

-- so each point of reference order is new after the ones before it
pub new_at : (t : List Entry) (ps : List Given) (k : ℕ) (p : Given) → past_of ps ≡ order t → slice_get ps k ≡ Some p → IsNew (point_of p) (nodes (past_of (take k ps)))
new_at t ps k p is at = order_new t (past_of (take k ps)) (point_of p) (subst (λ (past : Past). Comes past (past_of (take k ps)) (point_of p)) is (comes_at [] ps k p at))
