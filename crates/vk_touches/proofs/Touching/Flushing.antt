-- The first flush of a byte, and whether its last invalidation sees its last write, after a point.
use Rattle.std.proofs.Common.{◌≡◌, ◌<◌, ◌≤◌, ℕ, [], ◌∷◌, length, Bool, true, false, refl, ap, sym, ◌∙◌, subst, arith, Option, Some, None}
use Rattle.std.specs.Prelude.{Contains, if◌then◌else◌}
use Rattle.std.specs.Option.{option_map, option_or}
use Rattle.std.proofs.lemmas.Bool.{le-ltb}
use Rattle.vk_model.specs.declared.command.Cmd.{Cmd}
use Rattle.vk_model.specs.declared.entry.Entry.{Entry}
use Rattle.vk_model.specs.Basics.{holds}
use Rattle.vk_model.specs.World.Bytes.{Byte}
use Rattle.vk_model.specs.Trace.Point.{Past, Point, Action, Host, Wait, Run, Signal}
use Rattle.vk_model.specs.Sync.Node.{Node, Act, Hosts, Waits, Signals, Runs, Depends, nodes, acts}
use Rattle.vk_model.specs.Sync.Edge.{edge}
use Rattle.vk_model.specs.Sync.Seen.{Read, seen, flushes, invalidates}
use Rattle.vk_model.proofs.Lists.Members.{none_passes_any}
use Rattle.vk_model.proofs.Sync.Growth.{growth}
use Rattle.vk_model.proofs.Sync.Numbers.{numbered, number_below}
use Rattle.vk_laws.proofs.Nodes.Counts.{more_nodes}
use Rattle.vk_laws.proofs.Nodes.Actions.{host_action}
use Rattle.vk_laws.proofs.Nodes.Points.{at_point}
use Rattle.vk_laws.proofs.Nodes.Prefixes.{has_more}
use Rattle.vk_order.specs.Cached.{uncached}
use Rattle.vk_order.specs.Lines.{place, class_on}
use Rattle.vk_order.specs.declared.lines.Line.{Line}
use Rattle.vk_touches.specs.declared.touches.Spot.{Spot}
use Rattle.vk_touches.specs.declared.touches.Touch.TheVariants as touch
use Rattle.vk_touches.specs.Touched.{next_node, next_spot, act_next, class_next, line_next, only_if, touches, touch_next, last_touch, flush_next, invalidation_next, first_flush, last_invalidation, is_invalidated, flush_spot, spot_of}
use Rattle.vk_touches.proofs.Touching.LastNodes.{GivesOwn, HasLast, last_found, last_from, toucher_is, next_there, touches_alone, only_new, picked}
use Rattle.vk_touches.proofs.Touching.Spots.{spot_stays, place_stays}

-- ---- host entries that flush and invalidate

-- what flushes a byte is an entry of the host
pub flush_alone : (b : Byte) (d : Action) → flushes (act_next d) b ≡ true → (x : Entry) × (d ≡ Host x)
flush_alone b (Host x) e = (x, refl)
flush_alone b (Wait s) e = absurd cc
flush_alone b (Run c) e = absurd cc
flush_alone b (Signal s) e = absurd cc

-- and what invalidates one
invalidation_alone : (b : Byte) (d : Action) → invalidates (act_next d) b ≡ true → (x : Entry) × (d ≡ Host x)
invalidation_alone b (Host x) e = (x, refl)
invalidation_alone b (Wait s) e = absurd cc
invalidation_alone b (Run c) e = absurd cc
invalidation_alone b (Signal s) e = absurd cc

-- the node of a host entry is its point's newest
pub host_there : (past : Past) (p : Point) (x : Entry) → p.action ≡ Host x → Contains (nodes (p ∷ past)) (next_node past p (act_next p.action))
host_there past p x is = next_there past p (act_next p.action) (rw is refl)

host_low : (past : Past) (p : Point) (x : Entry) → p.action ≡ Host x → length (nodes past) < length (nodes (p ∷ past))
host_low past p x is = number_below (nodes (p ∷ past)) (numbered (p ∷ past)) (next_node past p (act_next p.action)) (host_there past p x is)

more_low : (past : Past) (p : Point) → length (nodes past) ≤ length (nodes (p ∷ past))
more_low past p = more_nodes (p ∷ []) past

-- ---- the first flush

flush_low : (past : Past) (b : Byte) (v : Node) → first_flush past b ≡ Some v → v.number < length (nodes past)
flush_low [] b v is = absurd cc
flush_low (p ∷ past) b v is = go (touches touch.HostWrite b past p p.action) is (flush_low past b v) where
  here : (t : Bool) → flushes (act_next p.action) b ≡ t → only_if t (next_node past p (act_next p.action)) ≡ Some v → v.number < length (nodes (p ∷ past))
  here true f e =
      let x = flush_alone b p.action f in
      let low = host_low past p x.0 x.1 in
      let same : v.number ≡ length (nodes past) = ap (λ (n : Node). n.number) (sym (picked true (next_node past p (act_next p.action)) v e).1) in
      omega (arith, low, same)
  here false f e = absurd cc

  earlier : (o : Option Node) → first_flush past b ≡ o → option_or o (flush_next b past p p.action) ≡ Some v → (first_flush past b ≡ Some v → v.number < length (nodes past)) → v.number < length (nodes (p ∷ past))
  earlier None f e rest = here (flushes (act_next p.action) b) refl e
  earlier (Some u) f e rest = let same : u ≡ v = cc in let low = rest (f ∙ ap Some same) in let more = more_low past p in omega (arith, low, more)

  go : (t : Bool) → (if t then None else option_or (first_flush past b) (flush_next b past p p.action)) ≡ Some v → (first_flush past b ≡ Some v → v.number < length (nodes past)) → v.number < length (nodes (p ∷ past))
  go true e rest = absurd cc
  go false e rest = earlier (first_flush past b) refl e rest

-- after a point: a host write forgets it, and a flush counts where there was none
pub flush_step : (past : Past) (p : Point) (b : Byte) → flush_spot (p ∷ past) b
    ≡ (if touches touch.HostWrite b past p p.action then None else if flushes (act_next p.action) b then option_or (flush_spot past b) (Some (next_spot past p)) else flush_spot past b)
flush_step past p b = go (touches touch.HostWrite b past p p.action) where
  placed : Option Node → Option Spot
  placed o = option_map (spot_of (p ∷ past)) o

  new_place : (x : Entry) → p.action ≡ Host x → spot_of (p ∷ past) (next_node past p (act_next p.action)) ≡ next_spot past p
  new_place x is =
      let at : Line → ℕ → Spot = λ l k. record { line = l; place = k; number = length (nodes past) } in
      let on : class_on p.queue (act_next p.action) ≡ class_next p = ap (λ (d : Action). class_on p.queue (act_next d)) is ∙ sym (ap (line_next p) is) in
      ap (λ (l : Line). at l (place (nodes (p ∷ past)) l (length (nodes past)))) on ∙ ap (at (class_next p)) (place_stays past p (class_next p) (length (nodes past)) (omega arith))

  here : (t : Bool) → flushes (act_next p.action) b ≡ t → placed (only_if t (next_node past p (act_next p.action))) ≡ (if t then Some (next_spot past p) else None)
  here true f = let x = flush_alone b p.action f in ap Some (new_place x.0 x.1)
  here false f = refl

  kept : (t : Bool) (v : Node) → first_flush past b ≡ Some v → Some (spot_of (p ∷ past) v) ≡ (if t then option_or (Some (spot_of past v)) (Some (next_spot past p)) else Some (spot_of past v))
  kept true v e = ap Some (spot_stays past p v (flush_low past b v e))
  kept false v e = ap Some (spot_stays past p v (flush_low past b v e))

  earlier : (o : Option Node) → first_flush past b ≡ o → placed (option_or o (flush_next b past p p.action))
      ≡ (if flushes (act_next p.action) b then option_or (option_map (spot_of past) o) (Some (next_spot past p)) else option_map (spot_of past) o)
  earlier None e = here (flushes (act_next p.action) b) refl
  earlier (Some v) e = kept (flushes (act_next p.action) b) v e

  go : (t : Bool) → placed (if t then None else option_or (first_flush past b) (flush_next b past p p.action)) ≡ (if t then None else if flushes (act_next p.action) b then option_or (flush_spot past b) (Some (next_spot past p)) else flush_spot past b)
  go true = refl
  go false = earlier (first_flush past b) refl

-- ---- the last invalidation

invalidations_own : (b : Byte) → GivesOwn (invalidation_next b)
invalidations_own b past p d v is = let h = picked (invalidates (act_next d) b) (next_node past p (act_next d)) v is in (ap (λ (n : Node). n.number) (sym h.1), ap (λ (n : Node). n.point) (sym h.1))

-- the last invalidation is there, and is one
pub record IsInvalidation (past : Past) (b : Byte) (f : Node) : Type 0 where
  pub there : Contains (nodes past) f
  pub invalidating : invalidates f.act b ≡ true

pub invalidation_is : (past : Past) (b : Byte) (f : Node) → last_invalidation past b ≡ Some f → IsInvalidation past b f
invalidation_is past b f is =
    let l = last_found (invalidation_next b) past f is in
    let h = picked (invalidates (act_next l.at.action) b) (next_node l.before l.at (act_next l.at.action)) f l.gives in
    let x = invalidation_alone b l.at.action h.0 in
    let here : Contains (nodes (l.at ∷ l.before)) f = subst (λ (n : Node). Contains (nodes (l.at ∷ l.before)) n) h.1 (host_there l.before l.at x.0 x.1) in
    record {
      there = subst (λ (l : Past). Contains (nodes l) f) (sym l.whole) (has_more growth l.newer (l.at ∷ l.before) f here);
      invalidating = ap (λ (n : Node). invalidates n.act b) (sym h.1) ∙ h.0;
    }

-- none that is there is later
pub invalidation_last : (past : Past) (b : Byte) (g : Node) → Contains (nodes past) g → invalidates g.act b ≡ true → HasLast (invalidation_next b) past g
invalidation_last past b g there invalidating =
    let s = at_point past g there in
    let x = by_host g.act invalidating in
    let action : s.at.action ≡ Host x.0 = host_action s.at.action x.0 (subst (λ (a : Act). Contains (acts s.at.action) a) x.1 s.acted) in
    let act : act_next s.at.action ≡ g.act = ap act_next action ∙ sym x.1 in
    let node : next_node s.past s.at (act_next s.at.action) ≡ g = only_new s.past s.at (act_next s.at.action) (ap acts action ∙ ap (λ (d : Action). act_next d ∷ []) (sym action)) g s.here s.new in
    let gives : invalidation_next b s.past s.at s.at.action ≡ Some g = ap (λ (t : Bool). only_if t (next_node s.past s.at (act_next s.at.action))) (ap (λ (a : Act). invalidates a b) act ∙ invalidating) ∙ ap Some node in
    subst (λ (l : Past). HasLast (invalidation_next b) l g) (sym s.whole) (last_from (invalidation_next b) (invalidations_own b) s.newer s.past s.at g gives)
  where
    by_host : (a : Act) → invalidates a b ≡ true → (x : Entry) × (a ≡ Hosts x)
    by_host (Hosts x) e = (x, refl)
    by_host (Waits s) e = absurd cc
    by_host (Signals s) e = absurd cc
    by_host (Runs c) e = absurd cc
    by_host (Depends r e) h = absurd cc

-- what isn't there yet isn't seen
unseen_new : (past : Past) (p : Point) (c : Cmd) (f : Node) (b : Byte) → Contains (nodes past) f → seen uncached (nodes (p ∷ past)) (next_node past p (Runs c)) f Read b ≡ false
unfolding seen edge
unseen_new past p c f b there = (growth past (p ∷ [])).visibilities uncached (next_node past p (Runs c)) f Read b there ∙ none_passes_any _ (nodes past) (λ m k. rw (le-ltb (length (nodes past)) m.number (let lt = number_below (nodes past) (numbered past) m k in omega (arith, lt))) refl)

-- after a point: a write by a command forgets it, and an invalidation decides
pub invalidated_step : (past : Past) (p : Point) (b : Byte) → is_invalidated (p ∷ past) b
    ≡ (if touches touch.Write b past p p.action then false else if invalidates (act_next p.action) b then holds (last_touch touch.Write past b) (λ v. seen uncached (nodes (p ∷ past)) v (next_node past p (act_next p.action)) Read b) else is_invalidated past b)
invalidated_step past p b = go (touches touch.Write b past p p.action) (invalidates (act_next p.action) b) refl refl where
  new : Node
  new = next_node past p (act_next p.action)

  sees : Node → Node → Bool
  sees v f = seen uncached (nodes (p ∷ past)) v f Read b

  by_command : (d : Action) → touches touch.Write b past p d ≡ true → (c : Cmd) × (d ≡ Run c)
  by_command (Run c) e = (c, refl)
  by_command (Host x) e = absurd cc
  by_command (Wait s) e = absurd cc
  by_command (Signal s) e = absurd cc

  unseen : (c : Cmd) → p.action ≡ Run c → (o : Option Node) → last_invalidation past b ≡ o → holds o (λ f. sees new f) ≡ false
  unseen c is None e = refl
  unseen c is (Some f) e = ap (λ (d : Action). sees (next_node past p (act_next d)) f) is ∙ unseen_new past p c f b (invalidation_is past b f e).there

  kept : (o : Option Node) → last_invalidation past b ≡ o → (v : Node) → holds o (λ f. sees v f) ≡ holds o (λ f. seen uncached (nodes past) v f Read b)
  kept None e v = refl
  kept (Some f) e v = (growth past (p ∷ [])).visibilities uncached v f Read b (invalidation_is past b f e).there

  stays : (o : Option Node) → holds o (λ v. holds (last_invalidation past b) (λ f. sees v f)) ≡ holds o (λ v. holds (last_invalidation past b) (λ f. seen uncached (nodes past) v f Read b))
  stays None = refl
  stays (Some v) = kept (last_invalidation past b) refl v

  go : (w i : Bool) → touches touch.Write b past p p.action ≡ w → invalidates (act_next p.action) b ≡ i
      → holds (option_or (only_if w new) (last_touch touch.Write past b)) (λ v. holds (option_or (only_if i new) (last_invalidation past b)) (λ f. sees v f))
      ≡ (if w then false else if i then holds (last_touch touch.Write past b) (λ v. sees v new) else is_invalidated past b)
  go true true we ie = absurd (let c = by_command p.action we in let bad : false ≡ true = ap (λ (d : Action). invalidates (act_next d) b) (sym c.1) ∙ ie in cc)
  go true false we ie = let c = by_command p.action we in unseen c.0 c.1 (last_invalidation past b) refl
  go false true we ie = refl
  go false false we ie = stays (last_touch touch.Write past b)

-- ---- the last write by a command

-- it is there, and is a command's
pub record IsLastWriter (past : Past) (v : Node) : Type 0 where
  pub command : Cmd
  pub runs : v.act ≡ Runs command
  pub there : Contains (nodes past) v

pub writer_is : (past : Past) (b : Byte) (v : Node) → last_touch touch.Write past b ≡ Some v → IsLastWriter past v
writer_is past b v is =
    let l = last_found (touch_next touch.Write b) past v is in
    let w = toucher_is touch.Write b l.before l.at l.at.action v l.gives in
    let here : Contains (nodes (l.at ∷ l.before)) v = subst (λ (n : Node). Contains (nodes (l.at ∷ l.before)) n) w.node_is (next_there l.before l.at (act_next l.at.action) (touches_alone touch.Write b l.before l.at l.at.action w.touches_it)) in
    let c = by_command l.before l.at l.at.action w.touches_it in
    record { command = c.0; runs = ap (λ (n : Node). n.act) (sym w.node_is) ∙ ap act_next c.1; there = subst (λ (l : Past). Contains (nodes l) v) (sym l.whole) (has_more growth l.newer (l.at ∷ l.before) v here) }
  where
    by_command : (past : Past) (p : Point) (d : Action) → touches touch.Write b past p d ≡ true → (c : Cmd) × (d ≡ Run c)
    by_command past p (Run c) e = (c, refl)
    by_command past p (Host x) e = absurd cc
    by_command past p (Wait s) e = absurd cc
    by_command past p (Signal s) e = absurd cc
