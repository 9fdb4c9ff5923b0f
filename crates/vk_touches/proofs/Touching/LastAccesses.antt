-- Who touches a byte, and the last node that does; in a past without a fault the last writer of a byte decides for all of its writers whether an access sees them.
use Rattle.std.proofs.Common.{◌≡◌, ◌==◌, ⊎_elim, ◌<◌, ◌≤◌, List, [], ◌∷◌, ◌++◌, length, true, false, IsTrue, ap, sym, ◌∙◌, subst, arith, refl, Some, None}
use Rattle.std.specs.Prelude.{Contains}
use Rattle.std.proofs.lemmas.Bool.{false_from_ne_true, cases_lt, and_parts, and_from, eqb-true, eq-eqb}
use Rattle.std.proofs.lemmas.List.{append_assoc}
use Rattle.vk_model.specs.declared.command.Cmd.{Cmd}
use Rattle.vk_model.specs.declared.entry.Entry.{Entry}
use Rattle.vk_model.specs.declared.rule.Rule.TheVariants as rule
use Rattle.vk_model.specs.World.Bytes.{Byte, resource_at}
use Rattle.vk_model.specs.World.ByteWrites.{byte_writes}
use Rattle.vk_model.specs.Trace.Point.{Past, Point, Action, Host, Wait, Run, Signal}
use Rattle.vk_model.specs.Trace.Objects.{is_cached}
use Rattle.vk_model.specs.Sync.Node.{Node, Act, Hosts, Runs, nodes, acts}
use Rattle.vk_model.specs.Sync.Edge.{is_host}
use Rattle.vk_model.specs.Sync.Before.{IsNumbered}
use Rattle.vk_model.specs.Sync.Seen.{Access, seen}
use Rattle.vk_model.specs.Sync.Access.{reads, writes, is_in, is_seen, targets, origins, hazard, waw, reads_of, writes_of}
use Rattle.vk_model.specs.Rules.Table.{fault, breaks}
use Rattle.vk_model.specs.Rules.Fault.{Comes, IsUnbroken}
use Rattle.vk_model.proofs.Rules.Fault.{unbroken_of_none}
use Rattle.vk_model.proofs.Sync.Growth.{growth}
use Rattle.vk_model.proofs.Sync.Numbers.{numbered, unique, number_below}
use Rattle.vk_model.proofs.Lists.Members.{some_member}
use Rattle.vk_laws.specs.Trace.{accesses}
use Rattle.vk_laws.proofs.Caching.CacheFree.{same_cached}
use Rattle.vk_order.proofs.LastWriter as order
use Rattle.vk_laws.proofs.Nodes.Steady.{commands_stay, comes_here, new_ids, live_ids}
use Rattle.vk_laws.proofs.Nodes.Actions.{host_action}
use Rattle.vk_laws.proofs.Nodes.Points.{at_point, action_of, older_node}
use Rattle.vk_laws.proofs.Nodes.Prefixes.{has_more}
use Rattle.vk_touches.specs.declared.touches.Touch.{Touch}
use Rattle.vk_touches.specs.declared.touches.Touch.TheVariants as touch
use Rattle.vk_touches.specs.Touched.{next_node, act_next, touches, touch_next, last_touch}
use Rattle.vk_touches.proofs.Touching.LastNodes.{last_found, HasLast, last_from, toucher_is, touchers_own, touches_alone, next_there, only_new}
use Rattle.vk_model.proofs.World.BytePlaces.{byte_same, is_in_from}

module _ (past : Past) (none : fault past ≡ None) (p : Point) (steady : (c : Cmd) → byte_writes (p ∷ past) c ≡ byte_writes past c) where
  sound : IsUnbroken past
  sound = (unbroken_of_none past) none

  -- a command's byte writes stay
  stays : (newer between older : Past) (q : Point) (c : Cmd) → past ≡ newer ++ (between ++ q ∷ older) → q.action ≡ Run c → byte_writes (between ++ q ∷ older) c ≡ byte_writes (q ∷ older) c
  unfolding breaks
  stays newer between older q c whole runs = commands_stay past newer between older q c whole runs (λ b r comes h. sound b r rule.NewId (comes, h)) (λ b r comes h. sound b r rule.LiveId (comes, h))

  now : (newer older : Past) (q : Point) (c : Cmd) → past ≡ newer ++ q ∷ older → q.action ≡ Run c → byte_writes (p ∷ past) c ≡ byte_writes (q ∷ older) c
  now newer older q c whole runs = steady c ∙ ap (λ (l : Past). byte_writes l c) whole ∙ stays [] newer older q c whole runs

  -- a command's node, with its point
  pub record IsCommand (x : Node) (c : Cmd) : Type 0 where
    pub newer : Past
    pub older : Past
    pub at : Point
    pub whole : past ≡ newer ++ at ∷ older
    pub runs : at.action ≡ Run c
    pub pointed : x.point ≡ at
    pub here : Contains (nodes (at ∷ older)) x
    pub new : length (nodes older) ≤ x.number

  pub is_command_of : (x : Node) (c : Cmd) → Contains (nodes past) x → x.act ≡ Runs c → IsCommand x c
  is_command_of x c there is =
      let s = at_point past x there in
      record { newer = s.newer; older = s.past; at = s.at; whole = s.whole; runs = action_of s.at.action c (subst (λ (a : Act). Contains (acts s.at.action) a) is s.acted); pointed = s.pointed; here = s.here; new = s.new }

  -- ---- who touches a byte

  -- a node that touches a byte so
  abbrev pub Touches : Touch → Byte → Node → Type 0
  Touches touch.Write b x = (c : Cmd) × (x.act ≡ Runs c) × (is_in b (writes (p ∷ past) x) ≡ true)
  Touches touch.HostWrite b x = (e : Entry) × (x.act ≡ Hosts e) × (is_in b (writes (p ∷ past) x) ≡ true)
  Touches touch.HostRead b x = (e : Entry) × (x.act ≡ Hosts e) × (is_in b (reads (p ∷ past) x) ≡ true)
  Touches (touch.Read q) b x = (c : Cmd) × (x.act ≡ Runs c) × (is_in b (reads (p ∷ past) x) ≡ true) × (x.point.queue ≡ q)

  -- what a point gives that touches a byte isn't later than the last
  given : (t : Touch) (b : Byte) (newer older : Past) (q : Point) (x : Node) → past ≡ newer ++ q ∷ older → touches t b older q q.action ≡ true → Contains (nodes (q ∷ older)) x → length (nodes older) ≤ x.number → HasLast (touch_next t b) past x
  given t b newer older q x whole h here new =
      let node : next_node older q (act_next q.action) ≡ x = only_new older q (act_next q.action) (touches_alone t b older q q.action h) x here new in
      let gives : touch_next t b older q q.action ≡ Some x = rw h (ap Some node) in
      subst (λ (l : Past). HasLast (touch_next t b) l x) (sym whole) (last_from (touch_next t b) (touchers_own t b) newer older q x gives)

  pub touch_last : (t : Touch) (b : Byte) (x : Node) → Contains (nodes past) x → Touches t b x → HasLast (touch_next t b) past x
  touch_last touch.Write b x there (c, is, wrote) =
      let k = is_command_of x c there is in
      let here : is_in b (targets (byte_writes (k.at ∷ k.older) c)) ≡ true =
      ap (λ w. is_in b (targets w)) (sym (now k.newer k.older k.at c k.whole k.runs)) ∙ ap (λ (a : Act). is_in b (writes_of (p ∷ past) x.point.queue a)) (sym is) ∙ wrote in
      given touch.Write b k.newer k.older k.at x k.whole (ap (λ (d : Action). touches touch.Write b k.older k.at d) k.runs ∙ here) k.here k.new
  touch_last (touch.Read r) b x there (c, is, read, queue) =
      let k = is_command_of x c there is in
      let here : is_in b (origins (byte_writes (k.at ∷ k.older) c)) ≡ true =
      ap (λ w. is_in b (origins w)) (sym (now k.newer k.older k.at c k.whole k.runs)) ∙ ap (λ (a : Act). is_in b (reads_of (p ∷ past) x.point.queue a)) (sym is) ∙ read in
      let on : k.at.queue ≡ r = ap (λ (q : Point). q.queue) (sym k.pointed) ∙ queue in
      given (touch.Read r) b k.newer k.older k.at x k.whole (ap (λ (d : Action). touches (touch.Read r) b k.older k.at d) k.runs ∙ and_from _ _ (eq-eqb k.at.queue r on) here) k.here k.new
  touch_last touch.HostWrite b x there (e, is, wrote) =
      let s = at_point past x there in
      let action : s.at.action ≡ Host e = host_action s.at.action e (subst (λ (a : Act). Contains (acts s.at.action) a) is s.acted) in
      given touch.HostWrite b s.newer s.past s.at x s.whole (ap (λ (d : Action). touches touch.HostWrite b s.past s.at d) action ∙ ap (λ (a : Act). is_in b (writes_of (p ∷ past) x.point.queue a)) (sym is) ∙ wrote) s.here s.new
  touch_last touch.HostRead b x there (e, is, read) =
      let s = at_point past x there in
      let action : s.at.action ≡ Host e = host_action s.at.action e (subst (λ (a : Act). Contains (acts s.at.action) a) is s.acted) in
      given touch.HostRead b s.newer s.past s.at x s.whole (ap (λ (d : Action). touches touch.HostRead b s.past s.at d) action ∙ ap (λ (a : Act). is_in b (reads_of (p ∷ past) x.point.queue a)) (sym is) ∙ read) s.here s.new

  -- the last node that touched a byte so
  pub record IsLastTouch (t : Touch) (v : Node) (b : Byte) : Type 0 where
    pub there : Contains (nodes past) v
    pub does : Touches t b v

  pub last_touch_is : (t : Touch) (v : Node) (b : Byte) → last_touch t past b ≡ Some v → IsLastTouch t v b
  last_touch_is t v b is =
      let l = last_found (touch_next t b) past v is in
      let w = toucher_is t b l.before l.at l.at.action v l.gives in
      let here : Contains (nodes (l.at ∷ l.before)) v = subst (λ (n : Node). Contains (nodes (l.at ∷ l.before)) n) w.node_is (next_there l.before l.at (act_next l.at.action) (touches_alone t b l.before l.at l.at.action w.touches_it)) in
      let act : v.act ≡ act_next l.at.action = ap (λ (n : Node). n.act) (sym w.node_is) in
      let point : v.point ≡ l.at = ap (λ (n : Node). n.point) (sym w.node_is) in
      record { there = subst (λ (l : Past). Contains (nodes l) v) (sym l.whole) (has_more growth l.newer (l.at ∷ l.before) v here); does = by t l.newer l.before l.at l.whole l.at.action refl w.touches_it act point }
    where
      by : (t : Touch) (newer older : Past) (q : Point) → past ≡ newer ++ q ∷ older → (d : Action) → q.action ≡ d → touches t b older q d ≡ true → v.act ≡ act_next d → v.point ≡ q → Touches t b v
      by touch.Write newer older q whole (Run c) runs h act point =
          (c, act, ap (λ (a : Act). is_in b (writes_of (p ∷ past) v.point.queue a)) act ∙ ap (λ w. is_in b (targets w)) (now newer older q c whole runs) ∙ h)
      by (touch.Read r) newer older q whole (Run c) runs h act point =
          let both = and_parts (q.queue == r) (is_in b (origins (byte_writes (q ∷ older) c))) h in
          let on : v.point.queue ≡ r = ap (λ (q : Point). q.queue) point ∙ eqb-true q.queue r both.0 in
          (c, act, ap (λ (a : Act). is_in b (reads_of (p ∷ past) v.point.queue a)) act ∙ ap (λ w. is_in b (origins w)) (now newer older q c whole runs) ∙ both.1, on)
      by touch.HostWrite newer older q whole (Host x) runs h act point = (x, act, ap (λ (a : Act). is_in b (writes_of (p ∷ past) v.point.queue a)) act ∙ h)
      by touch.HostRead newer older q whole (Host x) runs h act point = (x, act, ap (λ (a : Act). is_in b (reads_of (p ∷ past) v.point.queue a)) act ∙ h)
      by touch.Write newer older q whole (Host x) runs h act point = absurd cc
      by touch.Write newer older q whole (Wait s) runs h act point = absurd cc
      by touch.Write newer older q whole (Signal s) runs h act point = absurd cc
      by (touch.Read r) newer older q whole (Host x) runs h act point = absurd cc
      by (touch.Read r) newer older q whole (Wait s) runs h act point = absurd cc
      by (touch.Read r) newer older q whole (Signal s) runs h act point = absurd cc
      by touch.HostWrite newer older q whole (Run c) runs h act point = absurd cc
      by touch.HostWrite newer older q whole (Wait s) runs h act point = absurd cc
      by touch.HostWrite newer older q whole (Signal s) runs h act point = absurd cc
      by touch.HostRead newer older q whole (Run c) runs h act point = absurd cc
      by touch.HostRead newer older q whole (Wait s) runs h act point = absurd cc
      by touch.HostRead newer older q whole (Signal s) runs h act point = absurd cc

  -- the last writer is a command that writes the byte
  pub record IsLastWriter (v : Node) (b : Byte) : Type 0 where
    pub command : Cmd
    pub runs_it : v.act ≡ Runs command
    pub newer : Past
    pub older : Past
    pub at : Point
    pub whole : past ≡ newer ++ at ∷ older
    pub action : at.action ≡ Run command
    pub number : v.number ≡ length (nodes older)
    pub here : Contains (nodes (at ∷ older)) v
    pub there : Contains (nodes past) v
    pub wrote : is_in b (writes (at ∷ older) v) ≡ true
    pub writes_it : is_in b (writes (p ∷ past) v) ≡ true

  pub last_is : (v : Node) (b : Byte) → last_touch touch.Write past b ≡ Some v → IsLastWriter v b
  last_is v b is =
      let l = last_found (touch_next touch.Write b) past v is in
      let w = toucher_is touch.Write b l.before l.at l.at.action v l.gives in
      let t = last_touch_is touch.Write v b is in
      let here : Contains (nodes (l.at ∷ l.before)) v = subst (λ (n : Node). Contains (nodes (l.at ∷ l.before)) n) w.node_is (next_there l.before l.at (act_next l.at.action) (touches_alone touch.Write b l.before l.at l.at.action w.touches_it)) in
      by t.there t.does l.newer l.before l.at l.whole w.touches_it (ap (λ (n : Node). n.act) (sym w.node_is)) (ap (λ (n : Node). n.number) (sym w.node_is)) here
    where
      by : Contains (nodes past) v → Touches touch.Write b v → (newer older : Past) (q : Point) → past ≡ newer ++ q ∷ older → touches touch.Write b older q q.action ≡ true → v.act ≡ act_next q.action → v.number ≡ length (nodes older) → Contains (nodes (q ∷ older)) v → IsLastWriter v b
      by there (c, is, wrote) newer older q whole h act number here =
          let action : q.action ≡ Run c = runs_it q.action (sym is ∙ act) h in
          record {
            command = c;
            runs_it = is;
            newer = newer;
            older = older;
            at = q;
            whole = whole;
            action = action;
            number = number;
            here = here;
            there = there;
            wrote = ap (λ (a : Act). is_in b (writes_of (q ∷ older) v.point.queue a)) is ∙ sym (ap (λ (d : Action). touches touch.Write b older q d) action) ∙ h;
            writes_it = wrote;
          }
        where
          runs_it : (d : Action) → Runs c ≡ act_next d → touches touch.Write b older q d ≡ true → d ≡ Run c
          runs_it (Run e) s t = let same : c ≡ e = cc in ap Run (sym same)
          runs_it (Host x) s t = absurd cc
          runs_it (Wait x) s t = absurd cc
          runs_it (Signal x) s t = absurd cc

  -- no point has a write after write
  free : (newer older : Past) (q : Point) → past ≡ newer ++ q ∷ older → hazard waw older q ≡ false
  unfolding breaks
  free newer older q whole = false_from_ne_true (hazard waw older q) (λ h. sound older q rule.HazardWaw (subst (λ (l : Past). Comes l older q) (sym whole) (comes_here newer older q), h))

  -- who sees the last writer sees each
  pub all_seen : (b : Byte) → is_cached (p ∷ past) (resource_at b) ≡ is_cached past (resource_at b)
      → (x v y : Node) (c : Cmd) (k : Access) → Contains (nodes past) x → x.act ≡ Runs c → is_in b (writes (p ∷ past) x) ≡ true → last_touch touch.Write past b ≡ Some v → x.number ≤ v.number
      → is_seen (p ∷ past) v y k b ≡ true → is_seen (p ∷ past) x y k b ≡ true
  all_seen b still x v y c k there runs wrote last le seen_v = ⊎_elim earlier same (cases_lt x.number v.number) where
    l : IsLastWriter v b
    l = last_is v b last

    -- the host reached the byte's resource at its last write as it does now
    still_then : is_cached (p ∷ past) (resource_at b) ≡ is_cached (l.at ∷ l.older) (resource_at b)
    still_then = still ∙ sym (same_cached past l.newer (l.at ∷ l.older) l.whole (new_ids past sound) (live_ids past sound) v l.here (ap accesses l.runs_it) b (l.at ∷ l.older) (is_in_from b (writes (l.at ∷ l.older) v) l.wrote))

    in_past : Contains (nodes (l.newer ++ l.at ∷ l.older)) x
    in_past = subst (λ (q : Past). Contains (nodes q) x) l.whole there

    same : v.number ≤ x.number → is_seen (p ∷ past) x y k b ≡ true
    same ge = subst (λ (n : Node). is_seen (p ∷ past) n y k b ≡ true) (unique (nodes past) (numbered past) v x l.there there (omega (arith, le, ge))) seen_v

    earlier : x.number < v.number → is_seen (p ∷ past) x y k b ≡ true
    earlier lt =
        let m = is_command_of x c there runs in
        let in_old : Contains (nodes (l.at ∷ l.older)) x = old lt in
        subst (λ (q : Past). seen (λ d. is_cached (p ∷ past) (resource_at d)) (nodes (p ∷ q)) x y k b ≡ true) (sym l.whole)
        (order.last_writer growth l.older (p ∷ l.newer) l.at (λ d. is_cached (p ∷ past) (resource_at d)) x v y k b (free l.newer l.older l.at l.whole) still_then in_old l.here (let n = l.number in omega (arith, n)) lt (ap is_host l.runs_it) (wrote_then in_old) (is_in_from b (writes (l.at ∷ l.older) v) l.wrote)
        (subst (λ (q : Past). seen (λ d. is_cached (p ∷ past) (resource_at d)) (nodes (p ∷ q)) v y k b ≡ true) l.whole seen_v))
      where
        old : x.number < v.number → Contains (nodes (l.at ∷ l.older)) x
        old lt =
            let kept = growth (l.at ∷ l.older) l.newer in
            let low = number_below (nodes (l.at ∷ l.older)) (numbered (l.at ∷ l.older)) v l.here in
            older_node kept.added.0 (nodes (l.at ∷ l.older)) x (subst (λ (ns : List Node). IsNumbered ns) kept.added.1 (numbered (l.newer ++ l.at ∷ l.older))) (subst (λ (ns : List Node). Contains ns x) kept.added.1 in_past) (omega (arith, low, lt))

        wrote_then : Contains (nodes (l.at ∷ l.older)) x → is_in b (writes (l.at ∷ l.older) x) ≡ true
        wrote_then there_then =
            let s = at_point (l.at ∷ l.older) x there_then in
            let action : s.at.action ≡ Run c = action_of s.at.action c (subst (λ (a : Act). Contains (acts s.at.action) a) runs s.acted) in
            let split : past ≡ l.newer ++ (s.newer ++ s.at ∷ s.past) = l.whole ∙ ap (λ (q : Past). l.newer ++ q) s.whole in
            let far : past ≡ (l.newer ++ s.newer) ++ s.at ∷ s.past = split ∙ sym (append_assoc l.newer s.newer (s.at ∷ s.past)) in
            let then : byte_writes (l.at ∷ l.older) c ≡ byte_writes (s.at ∷ s.past) c = ap (λ (q : Past). byte_writes q c) s.whole ∙ stays l.newer s.newer s.past s.at c split action in
            ap (λ (a : Act). is_in b (writes_of (l.at ∷ l.older) x.point.queue a)) runs
            ∙ ap (λ w. is_in b (targets w)) (then ∙ sym (now (l.newer ++ s.newer) s.past s.at c far action))
            ∙ ap (λ (a : Act). is_in b (writes_of (p ∷ past) x.point.queue a)) (sym runs) ∙ wrote
