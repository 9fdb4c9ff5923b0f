-- The hazards of a node of a point that comes next, by the last nodes that touched each byte; and those of a point with one node.
use Rattle.std.proofs.Common.{◌≡◌, ⊎_elim, ◌≤◌, ◌<◌, ◌+◌, ℕ, zero, suc, List, [], ◌∷◌, length, Bool, true, false, not, ◌&&◌, nat_lt, refl, ap, sym, ◌∙◌, subst, arith, Option, Some, None}
use Rattle.std.specs.Prelude.{Contains}
use Rattle.std.specs.List.{list_any}
use Rattle.std.proofs.lemmas.Bool.{lt-ltb, le-ltb, and_parts, and_from, not-true, cases_lt}
use Rattle.std.proofs.Math.Bool.{or-false}
use Rattle.vk_model.specs.declared.command.Cmd.{Cmd}
use Rattle.vk_model.specs.Basics.{holds}
use Rattle.vk_model.specs.World.Bytes.{Byte, resource_at}
use Rattle.vk_model.specs.World.ByteWrites.{byte_writes}
use Rattle.vk_model.specs.Trace.Point.{Past, Point}
use Rattle.vk_model.specs.Trace.Objects.{is_cached}
use Rattle.vk_model.specs.Sync.Node.{Node, Act, Hosts, Waits, Signals, Runs, Depends, nodes, acts, with_acts, next_nodes}
use Rattle.vk_model.specs.Sync.Edge.{is_host, is_element}
use Rattle.vk_model.specs.Sync.Before.{before}
use Rattle.vk_model.specs.Sync.Seen.{Access, Read, Write}
use Rattle.vk_model.specs.Sync.Access.{writes, reads, reads_of, writes_of, is_in, is_seen, share, precedes, hazard, war, raw, waw}
use Rattle.vk_model.specs.Rules.Table.{fault}
use Rattle.vk_model.proofs.Lists.Members.{some_member, member_passes, contains-cons, contains-head, contains-tail, none_in, only_one, place_has, any_same}
use Rattle.vk_model.proofs.Lists.Truths.{bool_same, clash, no}
use Rattle.vk_model.proofs.Sync.Growth.{growth}
use Rattle.vk_model.proofs.Sync.Numbers.{numbered, number_below, unique}
use Rattle.vk_laws.proofs.Nodes.Prefixes.{has_more}
use Rattle.vk_order.specs.declared.lines.Line.{Line}
use Rattle.vk_order.specs.declared.lines.Line.TheVariants.{Host as OfHost, Commands as OfCommands}
use Rattle.vk_order.specs.Lines.{line_of, line_on}
use Rattle.vk_order.specs.Prefixes.{LinePrefix}
use Rattle.vk_order.specs.Visibility.{HostSeen}
use Rattle.vk_touches.specs.declared.touches.Touch.{Touch}
use Rattle.vk_touches.specs.declared.touches.Touch.TheVariants as touch
use Rattle.vk_touches.specs.Touched.{next_node, last_touch, last_transition}
use Rattle.vk_laws.proofs.Forms.Spread.{any_and}
use Rattle.vk_touches.proofs.Touching.NextNodes.{lined, next_nodes-lined}
use Rattle.vk_touches.proofs.Touching.LastNodes.{next_there}
use Rattle.vk_touches.proofs.Touching.LastAccesses.{Touches, touch_last, last_touch_is, all_seen}
use Rattle.vk_touches.proofs.Touching.AllTransitions.{Transits, transition_last, last_transition_is, all_transitions_seen, all_transitions_before}
use Rattle.vk_model.proofs.World.BytePlaces.{is_in_from, is_in_of}

-- the node of a point with one act is its only one
pub one_next : (past : Past) (p : Point) (a : Act) → acts p.action ≡ a ∷ [] → next_nodes past p ≡ next_node past p a ∷ []
one_next past p a alone = rw (next_nodes-lined past p, alone) refl

-- the next nodes are of the point's acts
pub next_acted : (past : Past) (p : Point) (n : Node) → Contains (next_nodes past p) n → Contains (acts p.action) n.act
next_acted past p n c = lined_act (length (nodes past)) (acts p.action) (subst (λ (ns : List Node). Contains ns n) (next_nodes-lined past p) c) where
  lined_act : (k : ℕ) (more : List Act) → Contains (lined p k more) n → Contains more n.act
  lined_act k [] c = absurd (none_in n c)
  lined_act k (a ∷ more) c = ⊎_elim
      (λ e. subst (λ (b : Act). Contains (a ∷ more) b) (ap (λ (m : Node). m.act) e) (contains-head a more))
      (λ later. contains-tail a more n.act (lined_act (k + 1) more later))
      (contains-cons (record { number = k; point = p; act = a }) (lined p (k + 1) more) n c)

pub nodes_with : (past : Past) (p : Point) (a : Act) → acts p.action ≡ a ∷ [] → nodes (p ∷ past) ≡ next_node past p a ∷ nodes past
nodes_with past p a alone = ap (λ l. with_acts p l (nodes past)) alone

module _ (past : Past) (p : Point) (a : Act) (alone : acts p.action ≡ a ∷ []) where
  pub older_there : (x : Node) → Contains (nodes past) x → Contains (nodes (p ∷ past)) x
  older_there x there = subst (λ (ns : List Node). Contains ns x) (sym (nodes_with past p a alone)) (contains-tail (next_node past p a) (nodes past) x there)

  -- a hazard of the point is one of its node
  pub hazard_of_one : (kind : Past → Node → Node → Bool) → hazard kind past p ≡ list_any (λ x. precedes x (next_node past p a) && kind (p ∷ past) x (next_node past p a)) (nodes (p ∷ past))
  hazard_of_one kind = ap (λ ns. list_any (λ y. list_any (λ x. precedes x y && kind (p ∷ past) x y) (nodes (p ∷ past))) ns) (one_next past p a alone) ∙ or-false _

-- that the host reaches each resource after a point as before it
abbrev pub StaysCached : Past → Point → Type 0
StaysCached past p = (r : ℕ) → is_cached (p ∷ past) r ≡ is_cached past r

-- a list of which one item is in another, turned about
share_turned : (bs cs : List Byte) → share bs cs ≡ list_any (λ c. is_in c bs) cs
share_turned bs cs = bool_same _ _ to from where
  to : share bs cs ≡ true → list_any (λ c. is_in c bs) cs ≡ true
  to h = let b = some_member (λ b. is_in b cs) bs h in member_passes (λ c. is_in c bs) cs b.0 (is_in_from b.0 cs b.2) (is_in_of b.0 bs b.1)

  from : list_any (λ c. is_in c bs) cs ≡ true → share bs cs ≡ true
  from h = let c = some_member (λ c. is_in c bs) cs h in member_passes (λ b. is_in b cs) bs c.0 (is_in_from c.0 bs c.2) (is_in_of c.0 cs c.1)

-- ---- ways to touch a byte

-- as a command or a host entry touches it, or by a transition
pub data Way : Type 0 where
  By : Touch → Way
  Moving : Way

abbrev pub last_way : Way → Past → Byte → Option Node
last_way (By t) past b = last_touch t past b
last_way Moving past b = last_transition past b

-- of ways that count, whether the last node of one is bad
abbrev pub some_last : Past → List (Bool × Way) → (Node → Byte → Bool) → Byte → Bool
some_last past ways bad b = list_any (λ w. w.0 && holds (last_way w.1 past b) (λ v. bad v b)) ways

-- writes by commands, by the host where the judged node isn't of it, and by transitions
abbrev pub write_ways : Bool → List (Bool × Way)
write_ways host = (true, By touch.Write) ∷ (not host, By touch.HostWrite) ∷ (true, Moving) ∷ []

-- reads by the host where the judged node isn't of it, by commands of each queue, and by transitions
abbrev pub read_ways : Bool → List (Bool × Way)
read_ways host = (not host, By touch.HostRead) ∷ (true, By (touch.Read 0)) ∷ (true, By (touch.Read 1)) ∷ (true, By (touch.Read 2)) ∷ (true, By (touch.Read 3)) ∷ (true, Moving) ∷ []

-- what isn't seen, and what doesn't come before
abbrev pub unseen : Past → Point → Node → Access → Node → Byte → Bool
unseen past p y k x b = not (is_seen (p ∷ past) x y k b)

abbrev pub early : Past → Point → Node → Node → Byte → Bool
early past p y x b = not (before (nodes (p ∷ past)) x y)

-- commands are on the four queues
abbrev pub OnQueues : Past → Type 0
OnQueues past = (x : Node) (c : Cmd) → Contains (nodes past) x → x.act ≡ Runs c → x.point.queue < 4

-- ---- the hazards of a node of the point with older nodes

module _ (past : Past) (none : fault past ≡ None) (p : Point) (steady : (c : Cmd) → byte_writes (p ∷ past) c ≡ byte_writes past c) (y : Node) (here : Contains (nodes (p ∷ past)) y) (late : length (nodes past) ≤ y.number) where
  -- a node that touches a byte so
  abbrev pub Does : Way → Byte → Node → Type 0
  Does (By t) b x = Touches past none p steady t b x
  Does Moving b x = Transits past none p steady b x

  -- the last one isn't earlier
  way_last : (w : Way) (b : Byte) (x : Node) → Contains (nodes past) x → Does w b x → (v : Node) × (last_way w past b ≡ Some v) × (x.number ≤ v.number)
  way_last (By t) b x there does = let l = touch_last past none p steady t b x there does in (l.node, l.is, l.not_before)
  way_last Moving b x there does = let l = transition_last past none p steady b x there does in (l.node, l.is, l.not_before)

  -- and touches it so
  pub way_is : (w : Way) (v : Node) (b : Byte) → last_way w past b ≡ Some v → Contains (nodes past) v × Does w b v
  way_is (By t) v b is = let l = last_touch_is past none p steady t v b is in (l.there, l.does)
  way_is Moving v b is = let l = last_transition_is past none p steady b v is in (l.there, l.does)

  comes_first : (x : Node) → Contains (nodes past) x → (is_host x.act && is_host y.act) ≡ false → precedes x y ≡ true
  comes_first x there apart = let low = number_below (nodes past) (numbered past) x there in rw (lt-ltb x.number y.number (omega (arith, low, late)), apart) refl

  not_both : (x : Node) → precedes x y ≡ true → is_host x.act ≡ true → not (is_host y.act) ≡ true
  not_both x first is =
      let both : not (is_host x.act && is_host y.act) ≡ true = (and_parts (nat_lt x.number y.number) (not (is_host x.act && is_host y.act)) first).1 in
      subst (λ (t : Bool). not (t && is_host y.act) ≡ true) is both

  old_there : (x : Node) → Contains (nodes past) x → Contains (nodes (p ∷ past)) x
  old_there x there = has_more growth (p ∷ []) past x there

  -- of ways that count, the last node decides whether there is a bad one, and each such node is found by a test and comes first
  record Decides (ways : List (Bool × Way)) (test bad : Node → Byte → Bool) : Type 0 where
    covers : (x : Node) (b : Byte) → Contains (nodes past) x → precedes x y ≡ true → test x b ≡ true → (w : Bool × Way) × Contains ways w × (w.0 ≡ true) × Does w.1 b x
    found_by : (w : Bool × Way) → Contains ways w → w.0 ≡ true → (v : Node) (b : Byte) → Contains (nodes past) v → Does w.1 b v → (test v b ≡ true) × (precedes v y ≡ true)
    last : (w : Bool × Way) → Contains ways w → w.0 ≡ true → (x v : Node) (b : Byte) → Contains (nodes past) x → Contains (nodes past) v → Does w.1 b x → Does w.1 b v → last_way w.1 past b ≡ Some v → x.number ≤ v.number → bad x b ≡ true → bad v b ≡ true

  by_last : (ways : List (Bool × Way)) (test bad : Node → Byte → Bool) → Decides ways test bad → (bs : List Byte)
      → list_any (λ x. precedes x y && list_any (λ b. test x b && bad x b) bs) (nodes past) ≡ list_any (some_last past ways bad) bs
  by_last ways test bad d bs = bool_same _ _ to from where
    to : list_any (λ x. precedes x y && list_any (λ b. test x b && bad x b) bs) (nodes past) ≡ true → list_any (some_last past ways bad) bs ≡ true
    to h =
        let x = some_member (λ x. precedes x y && list_any (λ b. test x b && bad x b) bs) (nodes past) h in
        let parts = and_parts (precedes x.0 y) (list_any (λ b. test x.0 b && bad x.0 b) bs) x.2 in
        let b = some_member (λ b. test x.0 b && bad x.0 b) bs parts.1 in
        let both = and_parts (test x.0 b.0) (bad x.0 b.0) b.2 in
        let w = d.covers x.0 b.0 x.1 parts.0 both.0 in
        let l = way_last w.0.1 b.0 x.0 x.1 w.3 in
        let v = way_is w.0.1 l.0 b.0 l.1 in
        let worse = d.last w.0 w.1 w.2 x.0 l.0 b.0 x.1 v.0 w.3 v.1 l.1 l.2 both.1 in
        member_passes (some_last past ways bad) bs b.0 b.1 (member_passes (λ w. w.0 && holds (last_way w.1 past b.0) (λ v. bad v b.0)) ways w.0 w.1 (and_from w.0.0 _ w.2 (rw (l.1) worse)))

    from : list_any (some_last past ways bad) bs ≡ true → list_any (λ x. precedes x y && list_any (λ b. test x b && bad x b) bs) (nodes past) ≡ true
    from h =
        let b = some_member (some_last past ways bad) bs h in
        let w = some_member (λ w. w.0 && holds (last_way w.1 past b.0) (λ v. bad v b.0)) ways b.2 in
        let both = and_parts w.0.0 (holds (last_way w.0.1 past b.0) (λ v. bad v b.0)) w.2 in
        at b.0 b.1 w.0 w.1 both.0 (last_way w.0.1 past b.0) refl both.1
      where
        at : (b : Byte) → Contains bs b → (w : Bool × Way) → Contains ways w → w.0 ≡ true → (o : Option Node) → last_way w.1 past b ≡ o → holds o (λ v. bad v b) ≡ true → list_any (λ x. precedes x y && list_any (λ b. test x b && bad x b) bs) (nodes past) ≡ true
        at b in_bs w in_ways counts None e h = no h
        at b in_bs w in_ways counts (Some v) e h =
            let l = way_is w.1 v b e in
            let f = d.found_by w in_ways counts v b l.0 l.1 in
            member_passes (λ x. precedes x y && list_any (λ b. test x b && bad x b) bs) (nodes past) v l.0
            (and_from (precedes v y) (list_any (λ b. test v b && bad v b) bs) f.1 (member_passes (λ b. test v b && bad v b) bs b in_bs (and_from (test v b) (bad v b) f.0 h)))

  unless_so : (s t : Bool) → (t ≡ true → s ≡ true) → not s ≡ true → not t ≡ true
  unless_so s true imp h = absurd (let both : s ≡ true = imp refl in let bad : false ≡ true = rw both at h in cc)
  unless_so s false imp h = refl

  -- ---- what isn't seen

  module _ (host_seen : HostSeen) (still : StaysCached past p) (k : Access) where
    -- by a command, by the host, or by a transition
    by_write : (P : Bool × Way → Type 0) → P (true, By touch.Write) → P (not (is_host y.act), By touch.HostWrite) → P (true, Moving) → (w : Bool × Way) → Contains (write_ways (is_host y.act)) w → P w
    by_write P command host moving w c = ⊎_elim
        (λ e. subst P e command)
        (λ c1. ⊎_elim (λ e. subst P e host) (λ c2. subst P (only_one (true, Moving) w c2) moving) (contains-cons (not (is_host y.act), By touch.HostWrite) ((true, Moving) ∷ []) w c1))
        (contains-cons (true, By touch.Write) ((not (is_host y.act), By touch.HostWrite) ∷ (true, Moving) ∷ []) w c)

    write_covers : (x : Node) (b : Byte) → Contains (nodes past) x → precedes x y ≡ true → is_in b (writes (p ∷ past) x) ≡ true → (w : Bool × Way) × Contains (write_ways (is_host y.act)) w × (w.0 ≡ true) × Does w.1 b x
    write_covers x b there first wrote = go x.act refl where
      go : (a : Act) → x.act ≡ a → (w : Bool × Way) × Contains (write_ways (is_host y.act)) w × (w.0 ≡ true) × Does w.1 b x
      go (Runs c) is = ((true, By touch.Write), place_has (write_ways (is_host y.act)) 0 _ refl, refl, (c, is, wrote))
      go (Hosts e) is = ((not (is_host y.act), By touch.HostWrite), place_has (write_ways (is_host y.act)) 1 _ refl, not_both x first (ap is_host is), (e, is, wrote))
      go (Depends r e) is = ((true, Moving), place_has (write_ways (is_host y.act)) 2 _ refl, refl, (r, e, is, wrote))
      go (Waits s) is = absurd (let bad : false ≡ true = sym (ap (λ (a : Act). is_in b (writes_of (p ∷ past) x.point.queue a)) is) ∙ wrote in cc)
      go (Signals s) is = absurd (let bad : false ≡ true = sym (ap (λ (a : Act). is_in b (writes_of (p ∷ past) x.point.queue a)) is) ∙ wrote in cc)

    by_host : (x v : Node) (b : Byte) → Contains (nodes past) x → Contains (nodes past) v → is_host x.act ≡ true → is_host v.act ≡ true → x.number ≤ v.number → is_seen (p ∷ past) v y k b ≡ true → is_seen (p ∷ past) x y k b ≡ true
    by_host x v b cx cv hx hv le seen_v = ⊎_elim
        (λ lt. host_seen (nodes (p ∷ past)) (λ c. is_cached (p ∷ past) (resource_at c)) x v y k b (numbered (p ∷ past)) (old_there x cx) (old_there v cv) hx hv lt seen_v)
        (λ ge. subst (λ (n : Node). is_seen (p ∷ past) n y k b ≡ true) (unique (nodes past) (numbered past) v x cv cx (omega (arith, le, ge))) seen_v)
        (cases_lt x.number v.number)

    writes_decide : Decides (write_ways (is_host y.act)) (λ x b. is_in b (writes (p ∷ past) x)) (unseen past p y k)
    writes_decide = record {
      covers = write_covers;
      found_by = by_write (λ w. w.0 ≡ true → (v : Node) (b : Byte) → Contains (nodes past) v → Does w.1 b v → (is_in b (writes (p ∷ past) v) ≡ true) × (precedes v y ≡ true))
          (λ n v b there d. (d.2, comes_first v there (rw (ap is_host d.1) refl)))
          (λ n v b there d. (d.2, comes_first v there (rw (ap is_host d.1, not-true (is_host y.act) n) refl)))
          (λ n v b there d. (d.3, comes_first v there (rw (ap is_host d.2) refl)));
      last = by_write (λ w. w.0 ≡ true → (x v : Node) (b : Byte) → Contains (nodes past) x → Contains (nodes past) v → Does w.1 b x → Does w.1 b v → last_way w.1 past b ≡ Some v → x.number ≤ v.number → unseen past p y k x b ≡ true → unseen past p y k v b ≡ true)
          (λ n x v b cx cv d f l le h. unless_so (is_seen (p ∷ past) x y k b) (is_seen (p ∷ past) v y k b) (λ s. all_seen past none p steady b (still (resource_at b)) x v y d.0 k cx d.1 d.2 l le s) h)
          (λ n x v b cx cv d f l le h. unless_so (is_seen (p ∷ past) x y k b) (is_seen (p ∷ past) v y k b) (λ s. by_host x v b cx cv (rw (ap is_host d.1) refl) (rw (ap is_host f.1) refl) le s) h)
          (λ n x v b cx cv d f l le h. unless_so (is_seen (p ∷ past) x y k b) (is_seen (p ∷ past) v y k b) (λ s. all_transitions_seen past none p steady b (still (resource_at b)) x v y k cx d l le s) h);
    }

    -- of some bytes
    pub unseen_is : (bs : List Byte) → list_any (λ x. precedes x y && list_any (λ b. is_in b (writes (p ∷ past) x) && not (is_seen (p ∷ past) x y k b)) bs) (nodes past) ≡ list_any (some_last past (write_ways (is_host y.act)) (unseen past p y k)) bs
    unseen_is bs = by_last (write_ways (is_host y.act)) (λ x b. is_in b (writes (p ∷ past) x)) (unseen past p y k) writes_decide bs

  -- ---- what doesn't come before

  module _ (line : LinePrefix) (on_queues : OnQueues past) where
    on_queue : (q : ℕ) → q < 4 → Contains (read_ways (is_host y.act)) (true, By (touch.Read q))
    on_queue zero lt = place_has (read_ways (is_host y.act)) 1 _ refl
    on_queue (suc zero) lt = place_has (read_ways (is_host y.act)) 2 _ refl
    on_queue (suc (suc zero)) lt = place_has (read_ways (is_host y.act)) 3 _ refl
    on_queue (suc (suc (suc zero))) lt = place_has (read_ways (is_host y.act)) 4 _ refl
    on_queue (suc (suc (suc (suc q)))) lt = absurd (omega (arith, lt))

    read_covers : (x : Node) (b : Byte) → Contains (nodes past) x → precedes x y ≡ true → is_in b (reads (p ∷ past) x) ≡ true → (w : Bool × Way) × Contains (read_ways (is_host y.act)) w × (w.0 ≡ true) × Does w.1 b x
    read_covers x b there first read = go x.act refl where
      go : (a : Act) → x.act ≡ a → (w : Bool × Way) × Contains (read_ways (is_host y.act)) w × (w.0 ≡ true) × Does w.1 b x
      go (Runs c) is = ((true, By (touch.Read x.point.queue)), on_queue x.point.queue (on_queues x c there is), refl, (c, is, read, refl))
      go (Hosts e) is = ((not (is_host y.act), By touch.HostRead), place_has (read_ways (is_host y.act)) 0 _ refl, not_both x first (ap is_host is), (e, is, read))
      go (Depends r e) is = (
        (true, Moving),
        place_has (read_ways (is_host y.act)) 5 _ refl,
        refl,
        (r, e, is, ap (λ (a : Act). is_in b (writes_of (p ∷ past) x.point.queue a)) is ∙ sym (ap (λ (a : Act). is_in b (reads_of (p ∷ past) x.point.queue a)) is) ∙ read),
      )
      go (Waits s) is = absurd (let bad : false ≡ true = sym (ap (λ (a : Act). is_in b (reads_of (p ∷ past) x.point.queue a)) is) ∙ read in cc)
      go (Signals s) is = absurd (let bad : false ≡ true = sym (ap (λ (a : Act). is_in b (reads_of (p ∷ past) x.point.queue a)) is) ∙ read in cc)

    -- by the host, by a command of a queue, or by a transition
    by_read : (P : Bool × Way → Type 0) → P (not (is_host y.act), By touch.HostRead) → ((q : ℕ) → P (true, By (touch.Read q))) → P (true, Moving) → (w : Bool × Way) → Contains (read_ways (is_host y.act)) w → P w
    by_read P host command moving w c = ⊎_elim
        (λ e. subst P e host)
        (λ c1. ⊎_elim (λ e. subst P e (command 0))
        (λ c2. ⊎_elim (λ e. subst P e (command 1))
        (λ c3. ⊎_elim (λ e. subst P e (command 2))
        (λ c4. ⊎_elim (λ e. subst P e (command 3))
        (λ c5. subst P (only_one (true, Moving) w c5) moving)
        (contains-cons (true, By (touch.Read 3)) ((true, Moving) ∷ []) w c4))
        (contains-cons (true, By (touch.Read 2)) ((true, By (touch.Read 3)) ∷ (true, Moving) ∷ []) w c3))
        (contains-cons (true, By (touch.Read 1)) ((true, By (touch.Read 2)) ∷ (true, By (touch.Read 3)) ∷ (true, Moving) ∷ []) w c2))
        (contains-cons (true, By (touch.Read 0)) ((true, By (touch.Read 1)) ∷ (true, By (touch.Read 2)) ∷ (true, By (touch.Read 3)) ∷ (true, Moving) ∷ []) w c1))
        (contains-cons (not (is_host y.act), By touch.HostRead) ((true, By (touch.Read 0)) ∷ (true, By (touch.Read 1)) ∷ (true, By (touch.Read 2)) ∷ (true, By (touch.Read 3)) ∷ (true, Moving) ∷ []) w c)

    in_line : (l : Line) (x v : Node) → Contains (nodes past) x → Contains (nodes past) v → line_of x ≡ Some l → line_of v ≡ Some l → is_element x.act ≡ false → x.number ≤ v.number → before (nodes (p ∷ past)) v y ≡ true → before (nodes (p ∷ past)) x y ≡ true
    in_line l x v cx cv lx lv plain le h = ⊎_elim
        (λ lt. line (nodes (p ∷ past)) l x v y (numbered (p ∷ past)) (λ e. clash e plain) (old_there x cx) (old_there v cv) here lx lv lt h)
        (λ ge. subst (λ (n : Node). before (nodes (p ∷ past)) n y ≡ true) (unique (nodes past) (numbered past) v x cv cx (omega (arith, le, ge))) h)
        (cases_lt x.number v.number)

    reads_decide : Decides (read_ways (is_host y.act)) (λ x b. is_in b (reads (p ∷ past) x)) (early past p y)
    reads_decide = record {
      covers = read_covers;
      found_by = by_read (λ w. w.0 ≡ true → (v : Node) (b : Byte) → Contains (nodes past) v → Does w.1 b v → (is_in b (reads (p ∷ past) v) ≡ true) × (precedes v y ≡ true))
          (λ n v b there d. (d.2, comes_first v there (rw (ap is_host d.1, not-true (is_host y.act) n) refl)))
          (λ q n v b there d. (d.2, comes_first v there (rw (ap is_host d.1) refl)))
          (λ n v b there d. (ap (λ (a : Act). is_in b (reads_of (p ∷ past) v.point.queue a)) d.2 ∙ sym (ap (λ (a : Act). is_in b (writes_of (p ∷ past) v.point.queue a)) d.2) ∙ d.3, comes_first v there (rw (ap is_host d.2) refl)));
      last = by_read (λ w. w.0 ≡ true → (x v : Node) (b : Byte) → Contains (nodes past) x → Contains (nodes past) v → Does w.1 b x → Does w.1 b v → last_way w.1 past b ≡ Some v → x.number ≤ v.number → early past p y x b ≡ true → early past p y v b ≡ true)
          (λ n x v b cx cv d f l le h. unless_so (before (nodes (p ∷ past)) x y) (before (nodes (p ∷ past)) v y) (λ s.
          in_line OfHost x v cx cv (rw (ap (line_on x.point.queue) d.1) refl) (rw (ap (line_on v.point.queue) f.1) refl) (rw (ap is_element d.1) refl) le s) h)
          (λ q n x v b cx cv d f l le h. unless_so (before (nodes (p ∷ past)) x y) (before (nodes (p ∷ past)) v y) (λ s.
          in_line (OfCommands q) x v cx cv (ap (line_on x.point.queue) d.1 ∙ ap (λ (r : ℕ). Some (OfCommands r)) d.3) (ap (line_on v.point.queue) f.1 ∙ ap (λ (r : ℕ). Some (OfCommands r)) f.3) (rw (ap is_element d.1) refl) le s) h)
          (λ n x v b cx cv d f l le h. unless_so (before (nodes (p ∷ past)) x y) (before (nodes (p ∷ past)) v y) (λ s. all_transitions_before past none p steady b x v y cx d l le here s) h);
    }

    pub early_is : list_any (λ x. precedes x y && war (p ∷ past) x y) (nodes past) ≡ list_any (some_last past (read_ways (is_host y.act)) (early past p y)) (writes (p ∷ past) y)
    early_is =
        any_same _ _ (nodes past) (λ x c. ap (λ (t : Bool). precedes x y && t) (ap (λ (t : Bool). t && not (before (nodes (p ∷ past)) x y)) (share_turned (reads (p ∷ past) x) (writes (p ∷ past) y)) ∙ sym (any_and (λ b. is_in b (reads (p ∷ past) x)) (not (before (nodes (p ∷ past)) x y)) (writes (p ∷ past) y))))
        ∙ by_last (read_ways (is_host y.act)) (λ x b. is_in b (reads (p ∷ past) x)) (early past p y) reads_decide (writes (p ∷ past) y)

-- ---- the hazards of a point with one act

module _ (past : Past) (none : fault past ≡ None) (p : Point) (steady : (c : Cmd) → byte_writes (p ∷ past) c ≡ byte_writes past c) (a : Act) (alone : acts p.action ≡ a ∷ []) where
  abbrev y : Node
  y = next_node past p a

  there : Contains (nodes (p ∷ past)) y
  there = next_there past p a alone

  -- the node itself isn't earlier
  of_older : (kind : Past → Node → Node → Bool) → hazard kind past p ≡ list_any (λ x. precedes x y && kind (p ∷ past) x y) (nodes past)
  of_older kind = hazard_of_one past p a alone kind ∙ ap (list_any (λ x. precedes x y && kind (p ∷ past) x y)) (nodes_with past p a alone) ∙ rw (le-ltb y.number y.number (omega arith)) refl

  -- HAZARD_RAW and HAZARD_WAW
  pub raw_is : HostSeen → StaysCached past p → hazard raw past p ≡ list_any (some_last past (write_ways (is_host a)) (unseen past p y Read)) (reads (p ∷ past) y)
  raw_is host_seen still = of_older raw ∙ unseen_is past none p steady y there (omega arith) host_seen still Read (reads (p ∷ past) y)

  pub waw_is : HostSeen → StaysCached past p → hazard waw past p ≡ list_any (some_last past (write_ways (is_host a)) (unseen past p y Write)) (writes (p ∷ past) y)
  waw_is host_seen still = of_older waw ∙ unseen_is past none p steady y there (omega arith) host_seen still Write (writes (p ∷ past) y)

  -- HAZARD_WAR
  pub war_is : LinePrefix → OnQueues past → hazard war past p ≡ list_any (some_last past (read_ways (is_host a)) (early past p y)) (writes (p ∷ past) y)
  war_is line on_queues = of_older war ∙ early_is past none p steady y there (omega arith) line on_queues
