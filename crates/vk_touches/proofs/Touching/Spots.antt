-- Where the last nodes are stays as points come.
use Rattle.std.proofs.Common.{◌≡◌, ◌<◌, ◌≤◌, ℕ, [], ◌∷◌, ◌++◌, length, Bool, true, false, refl, ap, ◌∙◌, arith, Option, Some, None}
use Rattle.std.specs.Prelude.{if◌then◌else◌}
use Rattle.std.specs.Option.{option_map}
use Rattle.vk_model.specs.World.Bytes.{Byte}
use Rattle.vk_model.specs.Trace.Point.{Past, Point, Action}
use Rattle.vk_model.specs.Sync.Node.{Node, Act, nodes, acts}
use Rattle.vk_model.proofs.Sync.Numbers.{numbered, number_below}
use Rattle.vk_laws.proofs.Nodes.Counts.{more_nodes}
use Rattle.vk_order.specs.Lines.{class_of, class_on, place}
use Rattle.vk_order.specs.declared.lines.Line.{Line}
use Rattle.vk_order.proofs.PlaceLemmas as places
use Rattle.vk_touches.specs.declared.touches.Spot.{Spot}
use Rattle.vk_touches.specs.declared.touches.Touch.{Touch}
use Rattle.vk_touches.specs.Touched.{next_node, next_place, next_spot, act_next, class_next, touches, touch_next, signaler_next, last_of, last_spot, last_signaler, spot_of, signal_spot}
use Rattle.vk_touches.proofs.Touching.LastNodes.{GivesOwn, last_found, toucher_is, touchers_own, touches_alone, touches_on, signaler_is, signalers_own, next_there}

-- ---- places

pub place_stays : (past : Past) (p : Point) (l : Line) (k : ℕ) → k ≤ length (nodes past) → place (nodes (p ∷ past)) l k ≡ place (nodes past) l k
place_stays past p l k le = places.place_stays p (acts p.action) (nodes past) l k le

-- ---- the last node is there

abbrev pub GivesAlone : (Past → Point → Action → Option Node) → Type 0
GivesAlone of = (past : Past) (p : Point) (v : Node) → of past p p.action ≡ Some v → (a : Act) × (acts p.action ≡ a ∷ [])

pub last_low : (of : Past → Point → Action → Option Node) → GivesOwn of → GivesAlone of → (past : Past) (v : Node) → last_of of past ≡ Some v → v.number < length (nodes past)
last_low of own alone past v is =
    let l = last_found of past v is in
    let n = (own l.before l.at l.at.action v l.gives).0 in
    let a = alone l.before l.at v l.gives in
    let low = number_below (nodes (l.at ∷ l.before)) (numbered (l.at ∷ l.before)) (next_node l.before l.at a.0) (next_there l.before l.at a.0 a.1) in
    let more = more_nodes l.newer (l.at ∷ l.before) in
    let whole : length (nodes past) ≡ length (nodes (l.newer ++ l.at ∷ l.before)) = ap (λ (q : Past). length (nodes q)) l.whole in
    omega (arith, n, low, more, whole)

pub touchers_alone : (t : Touch) (b : Byte) → GivesAlone (touch_next t b)
touchers_alone t b past p v is = let w = toucher_is t b past p p.action v is in (_, touches_alone t b past p p.action w.touches_it)

pub signalers_alone : (s : ℕ) → GivesAlone (signaler_next s)
signalers_alone s past p v is = let r = signaler_is s past p p.action v is in (_, r.alone)

-- ---- spots

same_spots : {S : Type 0} (of : Past → Point → Action → Option Node) → GivesOwn of → GivesAlone of → (spot : Past → Node → S)
    → ((past : Past) (p : Point) (v : Node) → v.number < length (nodes past) → spot (p ∷ past) v ≡ spot past v)
    → (past : Past) (p : Point) → of past p p.action ≡ None → option_map (spot (p ∷ past)) (last_of of (p ∷ past)) ≡ option_map (spot past) (last_of of past)
same_spots of own alone spot stays past p none = rw none (go (last_of of past) refl) where
  go : (o : Option Node) → last_of of past ≡ o → option_map (spot (p ∷ past)) o ≡ option_map (spot past) o
  go None e = refl
  go (Some v) e = ap Some (stays past p v (last_low of own alone past v e))

pub spot_stays : (past : Past) (p : Point) (v : Node) → v.number < length (nodes past) → spot_of (p ∷ past) v ≡ spot_of past v
spot_stays past p v lt = ap (λ k. record { line = class_of v; place = k; number = v.number }) (place_stays past p (class_of v) v.number (omega (arith, lt)))

signal_spot_stays : (past : Past) (p : Point) (v : Node) → v.number < length (nodes past) → signal_spot (p ∷ past) v ≡ signal_spot past v
signal_spot_stays past p v lt = ap (λ k. (class_of v, k)) (place_stays past p (class_of v) v.number (omega (arith, lt)))

-- where the last node that touches a byte so is, after a point
pub last_step : (t : Touch) (past : Past) (p : Point) (b : Byte) → last_spot t (p ∷ past) b ≡ (if touches t b past p p.action then Some (next_spot past p) else last_spot t past b)
last_step t past p b = go (touches t b past p p.action) refl where
  go : (test : Bool) → touches t b past p p.action ≡ test → last_spot t (p ∷ past) b ≡ (if test then Some (next_spot past p) else last_spot t past b)
  go false e = same_spots (touch_next t b) (touchers_own t b) (touchers_alone t b) spot_of spot_stays past p (rw e refl)
  go true e =
      let on : class_on p.queue (act_next p.action) ≡ class_next p = touches_on t b past p p.action e in
      let at : Line → ℕ → Option Spot = λ l k. Some (record { line = l; place = k; number = length (nodes past) }) in
      rw e (ap (λ (l : Line). at l (place (nodes (p ∷ past)) l (length (nodes past)))) on ∙ ap (at (class_next p)) (place_stays past p (class_next p) (length (nodes past)) (omega arith)))

pub same_signaler : (past : Past) (p : Point) (s : ℕ) → signaler_next s past p p.action ≡ None → option_map (signal_spot (p ∷ past)) (last_signaler (p ∷ past) s) ≡ option_map (signal_spot past) (last_signaler past s)
same_signaler past p s none = same_spots (signaler_next s) (signalers_own s) (signalers_alone s) signal_spot signal_spot_stays past p none

-- the next node's own
pub new_signaler : (past : Past) (p : Point) (s : ℕ) (a : Act) → signaler_next s past p p.action ≡ Some (next_node past p a)
    → option_map (signal_spot (p ∷ past)) (last_signaler (p ∷ past) s) ≡ Some (class_of (next_node past p a), next_place past (class_of (next_node past p a)))
new_signaler past p s a some = rw some (ap (λ k. Some (class_of (next_node past p a), k)) (place_stays past p (class_of (next_node past p a)) (length (nodes past)) (omega arith)))
