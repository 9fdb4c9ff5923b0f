-- What is visible to a trace's accesses, its caches show them.
use Rattle.std.proofs.Common.{◌≡◌, ◌⊎◌, inl, inr, ⊎_elim, ℕ, suc, ◌<◌, ◌≤◌, List, [], ◌∷◌, length, Bool, true, false, cond, ◌&&◌, ◌||◌, not, IsTrue, Option, Some, None, refl, ap, sym, ◌∙◌, subst, arith}
use Rattle.std.specs.Prelude.{Contains, ◌==◌, nat_lt, if◌then◌else◌}
use Rattle.std.specs.List.{find}
use Rattle.std.proofs.lemmas.Bool.{eqb-true, eq-eqb, or_left, or_right, and_parts, or_cases, and_from}
use Rattle.vk_model.specs.declared.entry.Entry.{Entry}
use Rattle.vk_model.specs.declared.command.Cmd.{Cmd}
use Rattle.vk_model.specs.Basics.{holds}
use Rattle.vk_model.specs.World.Bytes.{Byte}
use Rattle.vk_model.specs.Trace.Point.{Past}
use Rattle.vk_model.specs.Sync.Node.{Node, Act, Hosts, Waits, Signals, Runs, Depends, Barrier, SetOf, AwaitOf, nodes}
use Rattle.vk_model.specs.Sync.Edge.{edge, is_host, is_submit, is_command, pairs, by_semaphore, earlier, signaled_by, same_queue}
use Rattle.vk_model.specs.Sync.Before.{before, IsNumbered}
use Rattle.vk_model.specs.Sync.Seen.{Read, Write, command_mask, host_mask, seen, makes_writes_available, makes_writes_visible, available_by, visible_by, invalidates, is_wait, to_host, passes, flushes}
use Rattle.vk_model.specs.Sync.Access.{is_in, writes}
use Rattle.vk_model.specs.Laws.{BeforeIsPath, BeforeIsTransitive}
use Rattle.vk_laws.specs.Machine.{Task, Precedes}
use Rattle.vk_laws.specs.Caches.{Seen, Available}
use Rattle.vk_laws.specs.Trace.{accesses}
use Rattle.vk_laws.specs.Tasks.{node_at, task_count, accesses_of}
use Rattle.vk_model.specs.Run.Caches.{agent_of}
use Rattle.vk_laws.specs.TraceCaches.{submits_to, host_wrote, cached, was_made, makes_write_available, makes_visible_to_host, makes_visible_to, caching_of}
use Rattle.vk_laws.proofs.Accesses.TaskNodes.{node_of}
use Rattle.vk_model.proofs.Lists.Members.{contains-cons, member_passes, some_member, none_in}
use Rattle.vk_model.proofs.Lists.Truths.{clash}
use Rattle.vk_laws.proofs.Nodes.NoHazard.{edge_before, Reaches, reaches_join, or_before, reaches_before, before_reaches}
use Rattle.vk_model.proofs.Sync.Numbers.{numbered, number_below}
use Rattle.vk_model.proofs.Sync.Paths.{leads_on}
use Rattle.vk_model.proofs.Sync.HostActs.{submit_host}
use Rattle.vk_model.proofs.Sync.EdgeKinds.{by_kind}

-- ---- kinds of events

submit_event : (a : Act) → IsTrue (is_submit a) → is_command a ≡ false
submit_event (Runs c) h = absurd cc
submit_event (Hosts x) h = refl
submit_event (Waits s) h = refl
submit_event (Signals s) h = refl
submit_event (Depends r e) h = refl

wait_queue : (a : Act) → IsTrue (is_wait a) → is_host a ≡ false
wait_queue (Runs c) h = absurd cc
wait_queue (Hosts x) h = absurd cc
wait_queue (Waits s) h = refl
wait_queue (Signals s) h = absurd cc
wait_queue (Depends r e) h = absurd cc

wait_event : (a : Act) → IsTrue (is_wait a) → is_command a ≡ false
wait_event (Runs c) h = absurd cc
wait_event (Hosts x) h = refl
wait_event (Waits s) h = refl
wait_event (Signals s) h = refl
wait_event (Depends r e) h = refl

host_event : (a : Act) → IsTrue (to_host a) → is_command a ≡ false
host_event (Runs c) h = absurd cc
host_event (Hosts x) h = refl
host_event (Waits s) h = refl
host_event (Signals s) h = refl
host_event (Depends r e) h = refl

invalidate_event : (a : Act) (b : Byte) → IsTrue (invalidates a b) → is_command a ≡ false
invalidate_event (Runs c) b h = absurd cc
invalidate_event (Hosts x) b h = refl
invalidate_event (Waits s) b h = refl
invalidate_event (Signals s) b h = refl
invalidate_event (Depends r e) b h = refl

module _ (one other : Byte → Bool) (ns : List Node) (b : Byte) where
  pub available_same : (p : Node) (a : Act) → IsTrue (makes_writes_available one ns p b a) → IsTrue (makes_writes_available other ns p b a) × (is_command a ≡ false)
  available_same p (Runs c) h = absurd cc
  available_same p (Hosts x) h = absurd cc
  available_same p (Waits s) h = absurd cc
  available_same p (Signals s) h = (refl, refl)
  available_same p (Depends r e) h = (h, refl)

  visible_queue : (mask : ℕ) (q : Node) (a : Act) → IsTrue (makes_writes_visible one ns mask b q a) → is_host a ≡ false
  visible_queue mask q (Runs c) h = absurd cc
  visible_queue mask q (Hosts x) h = absurd cc
  visible_queue mask q (Waits s) h = absurd cc
  visible_queue mask q (Signals s) h = absurd cc
  visible_queue mask q (Depends r e) h = refl

  pub visible_same : (mask : ℕ) (q : Node) (a : Act) → IsTrue (makes_writes_visible one ns mask b q a) → IsTrue (makes_writes_visible other ns mask b q a) × (is_command a ≡ false)
  visible_same mask q (Runs c) h = absurd cc
  visible_same mask q (Hosts x) h = absurd cc
  visible_same mask q (Waits s) h = absurd cc
  visible_same mask q (Signals s) h = absurd cc
  visible_same mask q (Depends r e) h = (h, refl)

pub never_holds : {X : Type 0} (o : Option X) → IsTrue (holds o (λ x. false)) → ⊥
never_holds None h = cc
never_holds (Some x) h = cc

-- an edge to a command comes from its submit, or from its queue
no_pair_run : (a : Act) (c : Cmd) → IsTrue (pairs a (Runs c)) → ⊥
no_pair_run (Runs x) c h = cc
no_pair_run (Hosts x) c h = cc
no_pair_run (Waits s) c h = cc
no_pair_run (Signals s) c h = cc
no_pair_run (Depends Barrier e) c h = cc
no_pair_run (Depends (SetOf v k) e) c h = cc
no_pair_run (Depends (AwaitOf v k) e) c h = cc

abbrev pub OnQueue : Node → Node → Type 0
OnQueue q y = IsTrue (not (is_host q.act)) × (q.point.queue ≡ y.point.queue)

pub on_queue : (q y : Node) → IsTrue (same_queue q y) → OnQueue q y
on_queue q y h = let g = and_parts _ _ h in ((and_parts _ _ g.0).0, eqb-true q.point.queue y.point.queue g.1)

edge_to_command : (ns : List Node) (q y : Node) (c : Cmd) → y.act ≡ Runs c → IsTrue (edge ns q y) → (IsTrue (is_submit q.act) × (q.point.entry ≡ y.point.entry)) ⊎ OnQueue q y
edge_to_command ns q y c is h =
    by_kind ns q y (record {
      host = λ g. from_host (or_cases _ _ g);
      stages = λ g. inr (on_queue q y (and_parts _ _ (and_parts _ _ (and_parts _ _ g).0).0).0);
      signal = λ g. inr (on_queue q y (and_parts _ _ (and_parts _ _ g).0).0);
      all_commands = λ g. inr (on_queue q y (and_parts _ _ g).0);
      pair = λ g. absurd (no_pair_run q.act c (subst (λ (a : Act). IsTrue (pairs q.act a)) is g));
      semaphore = λ g. absurd (no_semaphore g);
    }) h
  where
    from_host : IsTrue (is_host q.act && is_host y.act) ⊎ IsTrue (is_submit q.act && q.point.entry == y.point.entry) → (IsTrue (is_submit q.act) × (q.point.entry ≡ y.point.entry)) ⊎ OnQueue q y
    from_host (inl g) = absurd (clash {b = is_host y.act} (and_parts _ _ g).1 (ap is_host is))
    from_host (inr g) = let k = and_parts _ _ g in inl (k.0, eqb-true q.point.entry y.point.entry k.1)

    no_semaphore : IsTrue (by_semaphore (earlier y ns) q y) → ⊥
    no_semaphore h = never_holds (signaled_by q.act) (rw is at h)

module _ (paths : BeforeIsPath) (joins : BeforeIsTransitive) (all : Past) where
  abbrev numbered_task : ℕ → Task
  numbered_task k = record { node = k; index = 0 }

  abbrev task_of : Node → Task
  task_of n = numbered_task n.number

  pub node_at_self : (n : Node) → Contains (nodes all) n → node_at all n.number ≡ Some n
  node_at_self n c = go (nodes all) (numbered all) c
    where
      step : (k : Node) (ns : List Node) → (k.number ≡ length ns) → (k ≡ n) ⊎ (Contains ns n × (n.number < length ns)) → (Contains ns n → find (λ m. m.number == n.number) ns ≡ Some n) → (b : Bool) → (k.number == n.number) ≡ b
          → cond b (Some k) (find (λ m. m.number == n.number) ns) ≡ Some n
      step k ns size (inl e) rest true same = ap Some e
      step k ns size (inl e) rest false same = let f = eq-eqb k.number n.number (ap (λ (m : Node). m.number) e) in absurd (clash {b = k.number == n.number} f same)
      step k ns size (inr h) rest true same = let f = eqb-true k.number n.number same in let lt = h.1 in absurd (omega arith)
      step k ns size (inr h) rest false same = rest h.0

      go : (ns : List Node) → IsNumbered ns → Contains ns n → find (λ m. m.number == n.number) ns ≡ Some n
      go [] numbers c = absurd (none_in n c)
      go (k ∷ ns) numbers c = step k ns numbers.0 (⊎_elim (λ e. inl e) (λ later. inr (later, number_below ns numbers.1 n later)) (contains-cons k ns n c)) (go ns numbers.1) (k.number == n.number) refl

  event_there : (a : Act) → is_command a ≡ false → IsTrue (nat_lt 0 (task_count all a))
  event_there (Runs c) e = absurd cc
  event_there (Hosts x) e = refl
  event_there (Waits s) e = refl
  event_there (Signals s) e = refl
  event_there (Depends r d) e = refl

  pub precedes : (m n : Node) → Contains (nodes all) m → is_command m.act ≡ false → IsTrue (before (nodes all) m n) → (u : Task) → node_at all u.node ≡ Some n → Precedes (accesses_of all) (task_of m) u
  precedes m n cm quiet b u e = (rw (node_at_self m cm) (event_there m.act quiet), rw (node_at_self m cm, e) b)

  -- ---- what makes available

  pub record Made (one : Byte → Bool) (w p : Node) (b : Byte) : Type 0 where
    pub is_made : IsTrue (available_by (cached all w.number) (nodes all) w w.act b p)
    pub quiet : is_command p.act ≡ false
    pub later : IsTrue (before (nodes all) w p)

  pub made_of : (one : Byte → Bool) (w p : Node) (b : Byte) → one b ≡ cached all w.number b → Contains (nodes all) w → Contains (nodes all) p → IsTrue (accesses w.act) → IsTrue (available_by one (nodes all) w w.act b p) → Made one w p b
  made_of one w p b same cw cp access h = go w.act access h
    where
      pack : (a : Act) → w.act ≡ a → IsTrue (available_by (cached all w.number) (nodes all) w a b p) → is_command p.act ≡ false → IsTrue (before (nodes all) w p) → Made one w p b
      pack a e h quiet later = record { is_made = subst (λ (a : Act). IsTrue (available_by (cached all w.number) (nodes all) w a b p)) (sym e) h; quiet = quiet; later = later }

      by_act' : (a : Act) → w.act ≡ a → IsTrue (accesses a) → IsTrue (available_by one (nodes all) w a b p) → Made one w p b
      by_act' (Runs c) e access h =
          let g = and_parts _ _ h in
          let s = available_same one (cached all w.number) (nodes all) b p p.act g.1 in
          pack (Runs c) e (and_from _ _ g.0 s.0) s.1 (edge_before paths all w p cw cp g.0)
      by_act' (Hosts x) e access h =
          let g = and_parts _ _ h in
          let k = and_parts _ _ g.0 in
          pack (Hosts x) e (and_from _ _ g.0 (subst (λ (z : Bool). IsTrue (not z || passes (cached all w.number) (nodes all) (λ f. flushes f b) w p)) same g.1)) (submit_event p.act k.0) k.1
      by_act' (Waits s) e access h = absurd cc
      by_act' (Signals s) e access h = absurd cc
      by_act' (Depends r d) e access h = absurd cc

      go : (a : Act) → IsTrue (accesses w.act) → IsTrue (available_by one (nodes all) w w.act b p) → Made one w p b
      go a access h = by_act' w.act refl access h

  -- ---- what makes visible

  -- a node that shows a byte to the agent of y, at or after node q
  pub record MadeVisible (q y : Node) (b : Byte) : Type 0 where
    pub by : Node
    pub present : Contains (nodes all) by
    pub order : Reaches paths all joins q by
    pub made_visible : IsTrue (makes_visible_to all by (agent_of y) b)
    pub quiet : is_command by.act ≡ false
    pub earlier : IsTrue (before (nodes all) by y)

  -- a submit is to the queue of its commands
  abbrev pub Submits : Type 0
  Submits = (q y : Node) (c : Cmd) → Contains (nodes all) q → Contains (nodes all) y → IsTrue (is_submit q.act) → y.act ≡ Runs c → q.point.entry ≡ y.point.entry → IsTrue (submits_to q.act y.point.queue)

  visible_to_queue : Submits → (one : Byte → Bool) (x q y : Node) (c : Cmd) (b : Byte) → Contains (nodes all) q → Contains (nodes all) y → y.act ≡ Runs c → (is_host x.act ≡ true → IsTrue (host_wrote all q b)) → IsTrue (visible_by one (nodes all) x y (Runs c) Read b q) → MadeVisible q y b
  visible_to_queue submits one x q y c b cq cy is ready h =
      let g = and_parts _ _ h in
      let made_visible = by_edge (edge_to_command (nodes all) q y c is g.0) g.1 in
      record {
        by = q;
        present = cq;
        order = inl refl;
        made_visible = subst (λ (k : ℕ). IsTrue (makes_visible_to all q k b)) (sym (ap (λ (a : Act). if is_host a then 0 else suc y.point.queue) is)) made_visible.0;
        quiet = made_visible.1;
        earlier = edge_before paths all q y cq cy g.0;
      }
    where
      by_edge : (IsTrue (is_submit q.act) × (q.point.entry ≡ y.point.entry)) ⊎ OnQueue q y → IsTrue (makes_writes_visible one (nodes all) (command_mask Read) b q q.act || is_wait q.act || is_host x.act && is_submit q.act)
          → IsTrue (makes_visible_to all q (suc y.point.queue) b) × (is_command q.act ≡ false)
      by_edge (inl g) h = (
        or_right _ _ (and_from _ _ (submits q y c cq cy g.0 is g.1) (by_host' (or_cases _ _ h))),
        submit_event q.act g.0,
      )
        where
          by_host' : IsTrue (makes_writes_visible one (nodes all) (command_mask Read) b q q.act || is_wait q.act) ⊎ IsTrue (is_host x.act && is_submit q.act) → IsTrue (host_wrote all q b)
          by_host' (inl k) = ⊎_elim
              (λ r. absurd (clash {b = is_host q.act} (submit_host q.act g.0) (visible_queue one (cached all q.number) (nodes all) b (command_mask Read) q q.act r)))
              (λ w. absurd (clash {b = is_host q.act} (submit_host q.act g.0) (wait_queue q.act w)))
              (or_cases _ _ k)
          by_host' (inr k) = ready (and_parts _ _ k).0
      by_edge (inr g) h = by_kind (or_cases _ _ h)
        where
          at_queue : IsTrue (makes_writes_visible (cached all q.number) (nodes all) (command_mask Read) b q q.act || is_wait q.act) → IsTrue (makes_visible_to all q (suc y.point.queue) b)
          at_queue k = or_left _ _ (and_from _ _ (and_from _ _ g.0 (eq-eqb q.point.queue y.point.queue g.1)) k)

          by_kind : IsTrue (makes_writes_visible one (nodes all) (command_mask Read) b q q.act || is_wait q.act) ⊎ IsTrue (is_host x.act && is_submit q.act) → IsTrue (makes_visible_to all q (suc y.point.queue) b) × (is_command q.act ≡ false)
          by_kind (inl k) = ⊎_elim
              (λ r. let s = visible_same one (cached all q.number) (nodes all) b (command_mask Read) q q.act r in (at_queue (or_left _ _ s.0), s.1))
              (λ w. (at_queue (or_right _ _ w), wait_event q.act w))
              (or_cases _ _ k)
          by_kind (inr k) = let s = submit_host q.act (and_parts _ _ k).1 in absurd (clash {b = not (is_host q.act)} g.0 (ap not s))

  visible_to_host : (one : Byte → Bool) (x q y : Node) (e : Entry) (b : Byte) → ((n : Node) → Contains (nodes all) n → x.number ≤ n.number → one b ≡ cached all n.number b) → ((n : Node) → Contains (nodes all) n → x.number ≤ n.number → IsTrue (was_made all n.number b)) → Contains (nodes all) x → IsTrue (before (nodes all) x q) → Contains (nodes all) q → y.act ≡ Hosts e → IsTrue (visible_by one (nodes all) x y (Hosts e) Read b q) → MadeVisible q y b
  visible_to_host one x q y e b same there cx later cq is h =
      let g = and_parts _ _ h in
      let k = and_parts _ _ g.0 in
      let l = and_parts _ _ k.0 in
      go (one b) refl l.0 l.1 k.1 g.1
    where
      to_agent : (f : Node) → IsTrue (makes_visible_to_host all f b) → IsTrue (makes_visible_to all f (agent_of y) b)
      to_agent f h = subst (λ (k : ℕ). IsTrue (makes_visible_to all f k b)) (sym (ap (λ (a : Act). if is_host a then 0 else suc y.point.queue) is)) h

      after : (n : Node) → IsTrue (before (nodes all) x n) → x.number ≤ n.number
      after n b = let lt = leads_on (nodes all) x n b in omega (arith, lt)

      further : (n : Node) → Contains (nodes all) n → IsTrue (before (nodes all) q n) → x.number ≤ n.number
      further n cn b = after n (joins all x q n cx cq cn later b)

      go : (z : Bool) → one b ≡ z → IsTrue (before (nodes all) q y) → IsTrue (to_host q.act) → IsTrue (makes_writes_visible one (nodes all) (host_mask Read) b q q.act) → IsTrue (not z || passes one (nodes all) (λ f. invalidates f b) q y) → MadeVisible q y b
      go true c earlier to r p =
          let f = some_member (λ f. invalidates f.act b && before (nodes all) q f && before (nodes all) f y) (nodes all) p in
          let k = and_parts _ _ f.2 in
          let l = and_parts _ _ k.0 in
          record { by = f.0; present = f.1; order = inr l.1; made_visible = to_agent f.0 (rw (sym (same f.0 f.1 (further f.0 f.1 l.1)) ∙ c) l.0); quiet = invalidate_event f.0.act b l.0; earlier = k.1 }
      go false c earlier to r p =
          let s = visible_same one (cached all q.number) (nodes all) b (host_mask Read) q q.act r in
          record { by = q; present = cq; order = inl refl; made_visible = to_agent q (rw (sym (same q cq (after q later)) ∙ c) (and_from _ _ (and_from _ _ to s.0) (there q cq (after q later)))); quiet = host_event q.act to; earlier = earlier }

  -- ---- accesses that see a write

  -- a host entry that wrote the byte, and comes before a node or is it
  pub record HostSource (x : Node) (b : Byte) : Type 0 where
    pub by : Node
    pub present : Contains (nodes all) by
    pub host : IsTrue (is_host by.act)
    pub wrote : IsTrue (is_in b (writes all by))
    pub order : Reaches paths all joins by x

  pub agent_is : (t : Task) (y : Node) → node_at all t.node ≡ Some y → (caching_of all).agent t ≡ agent_of y
  agent_is t y e = ap (λ (o : Option Node). elim o [ None ↦ 0 | Some n ↦ agent_of n ]) e

  module _ (w t : Task) (x y : Node) (at_w : node_at all w.node ≡ Some x) (at_t : node_at all t.node ≡ Some y) (has : IsTrue ((accesses_of all).has w)) (cx : Contains (nodes all) x) (cy : Contains (nodes all) y)
      (ax : IsTrue (accesses x.act)) (ay : IsTrue (accesses y.act)) (one : Byte → Bool) (b : Byte) (same : (n : Node) → Contains (nodes all) n → x.number ≤ n.number → one b ≡ cached all n.number b) where
    at_writer : one b ≡ cached all x.number b
    at_writer = same x cx (let le : x.number ≤ x.number = omega arith in le)

    made_available : (p : Node) → Contains (nodes all) p → Made one x p b → IsTrue ((caching_of all).makes_available (task_of p) w b)
    made_available p cp s = and_from _ _ has (rw (node_at_self p cp, at_w) (and_from _ _ ax s.is_made))

    -- it comes before what shows the byte
    host_first : HostSource x b → (q : Node) → Contains (nodes all) q → IsTrue (before (nodes all) x q) → IsTrue (host_wrote all q b)
    host_first v q cq later = member_passes (λ v. is_host v.act && is_in b (writes all v) && before (nodes all) v q) (nodes all) v.by v.present (and_from _ _ (and_from _ _ v.host v.wrote) (reaches_before paths all joins v.by x q v.present cx cq v.order later))

    -- the byte's resource was made by then
    abbrev IsThere : Type 0
    IsThere = (n : Node) → Contains (nodes all) n → x.number ≤ n.number → IsTrue (was_made all n.number b)

    visible_of : Submits → IsThere → (q : Node) → Contains (nodes all) q → IsTrue (before (nodes all) x q) → (is_host x.act ≡ true → IsTrue (host_wrote all q b)) → IsTrue (visible_by one (nodes all) x y y.act Read b q) → MadeVisible q y b
    visible_of submits there q cq later ready h = go y.act refl ay h
      where
        go : (a : Act) → y.act ≡ a → IsTrue (accesses a) → IsTrue (visible_by one (nodes all) x y a Read b q) → MadeVisible q y b
        go (Runs c) e access h = visible_to_queue submits one x q y c b cq cy e ready h
        go (Hosts z) e access h = visible_to_host one x q y z b same there cx later cq e h
        go (Waits s) e access h = absurd cc
        go (Signals s) e access h = absurd cc
        go (Depends r d) e access h = absurd cc

    -- what is made visible to a write is before it
    before_write : (q : Node) → Contains (nodes all) q → IsTrue (visible_by one (nodes all) x y y.act Write b q) → IsTrue (before (nodes all) q y)
    before_write q cq h = go y.act ay h
      where
        go : (a : Act) → IsTrue (accesses a) → IsTrue (visible_by one (nodes all) x y a Write b q) → IsTrue (before (nodes all) q y)
        go (Runs c) access h = edge_before paths all q y cq cy (and_parts _ _ h).0
        go (Hosts z) access h = (and_parts _ _ (and_parts _ _ (and_parts _ _ h).0).0).0
        go (Waits s) access h = absurd cc
        go (Signals s) access h = absurd cc
        go (Depends r d) access h = absurd cc

    seen_by : (p q : Node) → Contains (nodes all) p → Made one x p b → (made_visible : MadeVisible q y b) → Reaches paths all joins p made_visible.by → Seen (accesses_of all) (caching_of all) w t b
    seen_by p q cp is_made made_visible order = record {
      p = task_of p;
      q = task_of made_visible.by;
      available = made_available p cp is_made;
      order = ⊎_elim (λ e. inl (ap (λ (k : ℕ). numbered_task k) e)) (λ earlier. inr (precedes p made_visible.by cp is_made.quiet earlier (task_of made_visible.by) (node_at_self made_visible.by made_visible.present))) order;
      visible = subst (λ (a : ℕ). IsTrue (holds (node_at all made_visible.by.number) (λ n. makes_visible_to all n a b))) (sym (agent_is t y at_t)) (rw (node_at_self made_visible.by made_visible.present) made_visible.made_visible);
      before = precedes made_visible.by y made_visible.present made_visible.quiet made_visible.earlier t at_t;
    }

    pub seen_task : Submits → IsThere → (is_host x.act ≡ true → HostSource x b) → IsTrue (seen one (nodes all) x y Read b) → Seen (accesses_of all) (caching_of all) w t b
    unfolding seen
    seen_task submits there source h =
        let p = some_member _ (nodes all) h in
        let first = and_parts _ _ p.2 in
        let q = some_member _ (nodes all) first.1 in
        let second = and_parts _ _ (and_parts _ _ q.2).0 in
        let is_made = made_of one x p.0 b at_writer cx p.1 ax first.0 in
        let last = before_reaches paths all joins x p.0 q.0 cx p.1 q.1 is_made.later (or_before paths all joins one p.0 q.0 second.0) in
        let made_visible = visible_of submits there q.0 q.1 last (λ host. host_first (source host) q.0 q.1 last) second.1 in
        let order = reaches_join paths all joins p.0 q.0 made_visible.by p.1 q.1 made_visible.present (or_before paths all joins one p.0 q.0 second.0) made_visible.order in
        seen_by p.0 q.0 p.1 is_made made_visible order

    pub available_task : IsTrue (seen one (nodes all) x y Write b) → Available (accesses_of all) (caching_of all) w t b
    unfolding seen
    available_task h =
        let p = some_member _ (nodes all) h in
        let first = and_parts _ _ p.2 in
        let q = some_member _ (nodes all) first.1 in
        let second = and_parts _ _ (and_parts _ _ q.2).0 in
        let is_made = made_of one x p.0 b at_writer cx p.1 ax first.0 in
        let last = before_write q.0 q.1 second.1 in
        record {
          p = task_of p.0;
          available = made_available p.0 p.1 is_made;
          before = precedes p.0 y p.1 is_made.quiet (reaches_before paths all joins p.0 q.0 y p.1 q.1 cy (or_before paths all joins one p.0 q.0 second.0) last) t at_t;
        }

  -- nothing is made available before it was written
  pub available_later : (p w : Task) (b : Byte) → IsTrue ((caching_of all).makes_available p w b) → Precedes (accesses_of all) w p
  available_later p w b h = go (node_at all p.node) (node_at all w.node) refl refl (and_parts _ _ h).0 (and_parts _ _ h).1
    where
      go : (o u : Option Node) → node_at all p.node ≡ o → node_at all w.node ≡ u → IsTrue ((accesses_of all).has w) → IsTrue (holds o (λ m. holds u (λ n. makes_write_available all m n b))) → Precedes (accesses_of all) w p
      go None u e f has h = absurd cc
      go (Some m) None e f has h = absurd cc
      go (Some m) (Some n) e f has h =
          let g = and_parts _ _ h in
          let cm = (node_of all p.node m e).0 in
          let cn = (node_of all w.node n f).0 in
          (has, rw (f, e) (made_of (cached all n.number) n m b refl cn cm g.0 g.1).later)
