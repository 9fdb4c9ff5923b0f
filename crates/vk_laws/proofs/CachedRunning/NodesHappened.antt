-- Which dependencies, waits and signals have happened at a stage, and that what may come next may do so once they and the pieces and entries are done.
use Rattle.std.proofs.Common.{◌≡◌, ℕ, ◌<◌, ◌≤◌, List, length, Bool, true, false, ◌||◌, not, IsTrue, Option, Some, None, refl, ap, sym, ◌∙◌, subst, arith}
use Rattle.std.specs.Prelude.{Contains, nat_lt, ◌↔◌}
use Rattle.std.specs.List.{list_all}
use Rattle.std.proofs.lemmas.Bool.{ltb-true, lt-ltb, and_parts, and_from}
use Rattle.vk_model.specs.declared.command.Cmd.{Cmd}
use Rattle.vk_model.specs.declared.entry.Entry.{Entry}
use Rattle.vk_model.specs.Basics.{below, holds}
use Rattle.vk_model.specs.Trace.Point.{Past, Point}
use Rattle.vk_model.specs.Trace.Order.{order}
use Rattle.vk_model.specs.World.ByteWrites.{ByteWrite}
use Rattle.vk_model.specs.Run.Pieces.{pieces}
use Rattle.vk_model.specs.Sync.Node.{Node, Act, Hosts, Waits, Signals, Runs, Depends, nodes}
use Rattle.vk_model.specs.Sync.Before.{before}
use Rattle.vk_model.specs.Run.Runs.{Name, is_done, node_pieces, is_free, Stage}
use Rattle.vk_model.specs.Run.CachedRuns.{is_synchronization, node_happened}
use Rattle.vk_laws.specs.Machine.{IsIn, Task, TraceAccesses, Precedes, MayRun}
use Rattle.vk_laws.specs.Trace.{accesses}
use Rattle.vk_laws.specs.Tasks.{task_count, node_at, by_act, accesses_of}
use Rattle.vk_laws.specs.DefinedRuns.{is_event, piece_task, has_happened}
use Rattle.vk_laws.proofs.Accesses.TaskNodes.{node_of, same_task, has_task}
use Rattle.vk_model.proofs.Lists.Members.{mapped_from, range_from, each_of}
use Rattle.vk_laws.proofs.Caching.TraceCaches.{node_at_self}
use Rattle.vk_laws.proofs.Nodes.Prefixes.{tasks_lead_on}
use Rattle.vk_laws.proofs.Running.Eager.{transitive}
use Rattle.vk_laws.proofs.Running.Stages.{Placed, later, low}
use Rattle.vk_model.proofs.Trace.Growing.{Grows}
use Rattle.vk_laws.proofs.Running.StageTasks.{turned, Kind, piece, hosts, kind, plain_is, happened_is, before_is, Known, old_node, node_in_all, pieces_same, before_same, free_done}
use Rattle.vk_laws.proofs.Running.AtStage.{AtPoint}

-- the task of an event's node
abbrev pub event_task : Node → Task
event_task n = record { node = n.number; index = 0 }

synchronizes : (a : Act) → not (accesses a) ≡ true → is_synchronization a ≡ true
synchronizes (Runs c) e = absurd cc
synchronizes (Hosts x) e = absurd cc
synchronizes (Waits s) e = refl
synchronizes (Signals s) e = refl
synchronizes (Depends r d) e = refl

no_access : (a : Act) → is_synchronization a ≡ true → not (accesses a) ≡ true
no_access (Runs c) e = absurd cc
no_access (Hosts x) e = absurd cc
no_access (Waits s) e = refl
no_access (Signals s) e = refl
no_access (Depends r d) e = refl

one_task : (all : Past) (a : Act) → is_synchronization a ≡ true → task_count all a ≡ 1
one_task all (Runs c) e = absurd cc
one_task all (Hosts x) e = absurd cc
one_task all (Waits s) e = refl
one_task all (Signals s) e = refl
one_task all (Depends r d) e = refl

module _ {t : List Entry} (known : Known t) where
  abbrev all : Past
  all = order t

  abbrev tr : TraceAccesses
  tr = accesses_of all

  -- ---- events

  pub record Event (u : Task) : Type 0 where
    pub node : Node
    pub present : Contains (nodes all) node
    pub kind : is_synchronization node.act ≡ true
    pub is : u ≡ event_task node

  event_of : (u : Task) → IsTrue (tr.has u) → is_event all u ≡ true → Event u
  event_of u there e = go (node_at all u.node) refl there e
    where
      go : (o : Option Node) → node_at all u.node ≡ o → IsTrue (by_act false (λ a. nat_lt u.index (task_count all a)) o) → holds o (λ n. not (accesses n.act)) ≡ true → Event u
      go None at there e = absurd cc
      go (Some n) at there e =
          let found = node_of all u.node n at in
          let lt = ltb-true u.index (task_count all n.act) there in
          let one = one_task all n.act (synchronizes n.act e) in
          record { node = n; present = found.0; kind = synchronizes n.act e; is = same_task u (event_task n) (sym found.1) (omega (arith, lt, one)) }

  module _ (n : Node) (cn : Contains (nodes all) n) where
    pub event_at : node_at all n.number ≡ Some n
    event_at = node_at_self known.paths known.joins all n cn

    pub event_there : is_synchronization n.act ≡ true → IsTrue (tr.has (event_task n))
    event_there e = has_task all (event_task n) n event_at (let one = one_task all n.act e in lt-ltb 0 (task_count all n.act) (omega (arith, one)))

    pub event_is : is_synchronization n.act ≡ true → is_event all (event_task n) ≡ true
    event_is e = ap (λ (o : Option Node). holds o (λ n. not (accesses n.act))) event_at ∙ no_access n.act e

  -- ---- nodes that are free

  -- the pieces before a node have run, among all of the trace
  abbrev pub CommandsDone : List Name → Node → Type 0
  CommandsDone done n = (m : Node) (c : Cmd) (j : ℕ) → Contains (nodes all) m → m.act ≡ Runs c → j < length (pieces all c) → IsTrue (before (nodes all) m n) → IsTrue (is_done done (m.number, j))

  free_from : (P : Point → Type 0) (past : Past) → Grows P past all → (done : List Name) (n : Node) → Contains (nodes past) n → CommandsDone done n → IsTrue (is_free past done n)
  free_from P past g done n cn commands_done = each_of (λ m. not (before (nodes past) m n) || list_all (is_done done) (node_pieces past m m.act)) (nodes past) (λ m cm. go m cm (before (nodes past) m n) refl)
    where
      pieces_run : (m : Node) → Contains (nodes past) m → before (nodes past) m n ≡ true → (a : Act) → m.act ≡ a → IsTrue (list_all (is_done done) (node_pieces past m a))
      pieces_run m cm b (Runs c) act = each_of (is_done done) (node_pieces past m (Runs c)) (λ y h.
          let j = mapped_from (λ j. (m.number, j)) (below (length (pieces past c))) y h in
          let within = (range_from 0 (length (pieces past c)) j.0 j.1).1 in
          let count : length (pieces all c) ≡ length (pieces past c) = ap (λ (ps : List (List ByteWrite)). length ps) (pieces_same known P past g m c cm act) in
          subst (λ (z : Name). IsTrue (is_done done z)) j.2
          (commands_done m c j.0 (node_in_all known P past g m cm) act (omega (arith, within, count)) (turned (sym (before_same known P past g m n cn)) b)))
      pieces_run m cm b (Hosts x) act = refl
      pieces_run m cm b (Waits x) act = refl
      pieces_run m cm b (Signals x) act = refl
      pieces_run m cm b (Depends r d) act = refl

      go : (m : Node) → Contains (nodes past) m → (b : Bool) → before (nodes past) m n ≡ b → IsTrue (not b || list_all (is_done done) (node_pieces past m m.act))
      go m cm false e = refl
      go m cm true e = pieces_run m cm e m.act refl

  module _ (s : Stage) (p : Placed known.keeps t s) (n : Node) (cn : Contains (nodes all) n) where
    pub happened_from : n.number < length (nodes s.front.past) → CommandsDone s.done n → IsTrue (node_happened s n)
    happened_from lt commands_done =
        let g = later known.keeps t s p in
        and_from _ _ (lt-ltb n.number (length (nodes s.front.past)) lt) (free_from _ s.front.past g s.done n (old_node known _ s.front.past g n cn lt) commands_done)

    pub happened_low : IsTrue (node_happened s n) → n.number < length (nodes s.front.past)
    happened_low h = ltb-true n.number (length (nodes s.front.past)) (and_parts _ _ h).0

    pub happened_commands_done : IsTrue (node_happened s n) → CommandsDone s.done n
    happened_commands_done h =
        let g = later known.keeps t s p in
        λ m c j cm act lt b. free_done known _ s.front.past g s.done n (old_node known _ s.front.past g n cn (happened_low h)) (and_parts _ _ h).1 m c j cm act lt b

  -- what comes before what is free is free
  commands_done_before : (done : List Name) (k n : Node) → Contains (nodes all) k → Contains (nodes all) n → IsTrue (before (nodes all) k n) → CommandsDone done n → CommandsDone done k
  commands_done_before done k n ck cn b commands_done = λ m c j cm act lt h. commands_done m c j cm act lt (known.joins all m k n cm ck cn h b)

  -- ---- tasks of the machine where the definitions are at a stage

  abbrev pub Plain : Stage → List Task → Type 0
  Plain s done = (u : Task) → IsTrue (tr.has u) → is_event all u ≡ false → IsIn u done ↔ IsTrue (has_happened all s u)

  abbrev pub Events : Stage → List Task → Type 0
  Events s done = (n : Node) → Contains (nodes all) n → is_synchronization n.act ≡ true → IsIn (event_task n) done ↔ IsTrue (node_happened s n)

  module _ (s : Stage) (did : List Task) (i : AtPoint known s did) (done : List Task) (plain : Plain s done) (events : Events s done) where
    -- what may come next among tasks with all events that could happen may come next among these
    pub may_come : (u : Task) (n : Node) → node_at all u.node ≡ Some n → is_event all u ≡ false → u.node ≤ length (nodes s.front.past) → MayRun tr i.tasks u → MayRun tr done u
    may_come u n at_u own le may = record {
      there = may.there;
      fresh = λ h. may.fresh ((i.happened u may.there own).1 ((plain u may.there own).0 h));
      after = λ v p. go v p (is_event all v) refl;
    }
      where
        by_event : (v : Task) → Precedes tr v u → Event v → IsIn v done
        by_event v p e =
            let at_v : node_at all v.node ≡ Some e.node = ap (λ (w : Task). node_at all w.node) e.is ∙ event_at e.node e.present in
            let number : v.node ≡ e.node.number = ap (λ (w : Task). w.node) e.is in
            let lt = tasks_lead_on all v.node u.node p.1 in
            let commands_done : CommandsDone s.done e.node = λ m c j cm act less b.
            let w : Task = piece_task (m.number, j) in
            let at_w = event_at m cm in
            let there : IsTrue (tr.has w) = has_task all w m at_w (subst (λ (a : Act). IsTrue (nat_lt j (task_count all a))) (sym act) (lt-ltb j (length (pieces all c)) less)) in
            let first : IsTrue (tr.before w.node v.node) = turned (sym (before_is all w v m e.node at_w at_v)) b in
            let present = may.after w (there, transitive known.paths known.joins known.leads all w.node v.node u.node first p.1) in
            turned (happened_is all s w m at_w (Runs c) act) ((i.happened w there (plain_is all w m at_w (Runs c) act refl)).0 present) in
            subst (λ (w : Task). IsIn w done) (sym e.is) ((events e.node e.present e.kind).1 (happened_from s i.placed e.node e.present (omega (arith, lt, number, le)) commands_done))

        go : (v : Task) → Precedes tr v u → (b : Bool) → is_event all v ≡ b → IsIn v done
        go v p false e = (plain v p.0 e).1 ((i.happened v p.0 e).0 (may.after v p))
        go v p true e = by_event v p (event_of v p.0 e)

  -- an event whose earlier events are done may come next
  pub event_may : (s : Stage) (p : Placed known.keeps t s) (done : List Task) → Plain s done → (n : Node) → Contains (nodes all) n → is_synchronization n.act ≡ true → IsTrue (node_happened s n)
      → (IsIn (event_task n) done → ⊥) → ((k : Node) → Contains (nodes all) k → is_synchronization k.act ≡ true → k.number < n.number → IsTrue (node_happened s k) → IsIn (event_task k) done) → MayRun tr done (event_task n)
  event_may s p done plain n cn kind_n happened fresh earlier = record {
    there = event_there n cn kind_n;
    fresh = fresh;
    after = λ v q. go v q (is_event all v) refl;
  }
    where
      commands_done : CommandsDone s.done n
      commands_done = happened_commands_done s p n cn happened

      ran : (v : Task) → Precedes tr v (event_task n) → Kind all v → IsTrue (has_happened all s v)
      ran v q (piece m c at act lt) =
          let found = node_of all v.node m at in
          let b = turned (before_is all v (event_task n) m n at (event_at n cn)) q.1 in
          turned (sym (happened_is all s v m at (Runs c) act)) (subst (λ (k : ℕ). IsTrue (is_done s.done (k, v.index))) found.1 (commands_done m c v.index found.0 act lt b))
      ran v q (hosts m x at act first) =
          let found = node_of all v.node m at in
          let lt = tasks_lead_on all v.node n.number q.1 in
          let same = found.1 in
          let less = happened_low s p n cn happened in
          let old = old_node known _ s.front.past (later known.keeps t s p) m found.0 (omega (arith, lt, less, same)) in
          turned (sym (happened_is all s v m at (Hosts x) act)) (lt-ltb m.point.entry s.count (low known.keeps t s p m old))

      go : (v : Task) → Precedes tr v (event_task n) → (b : Bool) → is_event all v ≡ b → IsIn v done
      go v q false e = (plain v q.0 e).1 (ran v q (kind all v q.0 e))
      go v q true e =
          let k = event_of v q.0 e in
          let at_v : node_at all v.node ≡ Some k.node = ap (λ (w : Task). node_at all w.node) k.is ∙ event_at k.node k.present in
          let b = turned (before_is all v (event_task n) k.node n at_v (event_at n cn)) q.1 in
          let lt = known.leads (nodes all) k.node n b in
          let less = happened_low s p n cn happened in
          subst (λ (w : Task). IsIn w done) (sym k.is) (earlier k.node k.present k.kind lt (happened_from s p k.node k.present (omega (arith, lt, less)) (commands_done_before s.done k.node n k.present cn b commands_done)))
