-- The tasks of the machine that match a stage of the definitions, and that what the stage offers may run.
use Rattle.std.proofs.Common.{◌≡◌, ℕ, ◌<◌, ◌≤◌, List, [], ◌∷◌, length, Bool, true, false, ◌||◌, not, IsTrue, Some, refl, ap, sym, ◌∙◌, subst, arith}
use Rattle.std.specs.Prelude.{Contains, nat_lt, ◌==◌, ◌↔◌}
use Rattle.std.specs.List.{filter}
use Rattle.std.proofs.lemmas.Bool.{eq-eqb, ltb-true, lt-ltb}
use Rattle.vk_model.specs.declared.command.Cmd.{Cmd}
use Rattle.vk_model.specs.declared.entry.Entry.{Entry}
use Rattle.vk_model.specs.Trace.Point.{Past, Point}
use Rattle.vk_model.specs.Trace.Order.{order}
use Rattle.vk_model.specs.World.ByteWrites.{ByteWrite}
use Rattle.vk_model.specs.Run.Pieces.{pieces}
use Rattle.vk_model.specs.Sync.Node.{Node, Act, Hosts, Waits, Signals, Runs, Depends, nodes}
use Rattle.vk_model.specs.Sync.Edge.{edge, is_host}
use Rattle.vk_model.specs.Sync.Before.{before, Path, direct, longer}
use Rattle.vk_model.specs.Run.Runs.{Name, is_done, is_free, Stage, start, is_host_wait, past_with, may_go, entered}
use Rattle.vk_laws.specs.Machine.{IsIn, Task, TraceAccesses, MayRun, IsAllowed}
use Rattle.vk_laws.specs.Growth.{IsDue, IsEager}
use Rattle.vk_laws.specs.Tasks.{task_count, node_at, accesses_of}
use Rattle.vk_laws.specs.DefinedRuns.{is_event, piece_task, entry_task, has_happened}
use Rattle.vk_laws.proofs.Accesses.TaskNodes.{node_of, has_task}
use Rattle.vk_model.proofs.Lists.Members.{contains-tail, all_passes}
use Rattle.vk_model.proofs.Lists.Truths.{implied, contradicted}
use Rattle.vk_laws.proofs.Caching.TraceCaches.{node_at_self}
use Rattle.vk_laws.proofs.EveryOrder.Fresh.{closed}
use Rattle.vk_laws.proofs.EveryOrder.Growth.{may_run}
use Rattle.vk_model.proofs.Trace.Growing.{Grows}
use Rattle.vk_laws.proofs.Running.Eager.{transitive, due_done, is_eager}
use Rattle.vk_laws.proofs.Running.Stages.{From, Placed, start_placed, later, low, next_placed, entry_node, entry_present, still_there, wait_alone}
use Rattle.vk_model.proofs.Sync.Numbers.{number_below, numbered}
use Rattle.vk_model.proofs.Sync.Paths.{target}
use Rattle.vk_laws.proofs.Running.OfferedPieces.{Offered}
use Rattle.vk_laws.proofs.Running.StageTasks.{edge_to_entry, turned, Kind, piece, hosts, kind, plain_is, happened_is, before_is, Known, old_node, node_in_all, pieces_same, free_done}

module _ {t : List Entry} (known : Known t) where
  abbrev all : Past
  all = order t

  abbrev tr : TraceAccesses
  tr = accesses_of all

  abbrev Place : Stage → Type 0
  Place s = Placed known.keeps t s

  abbrev Front : Stage → Type 0
  Front s = Grows (From s.count) s.front.past all

  -- ---- tasks that match a stage

  -- tasks that the machine may have run where the definitions are at a stage
  pub record AtPoint (s : Stage) (did : List Task) : Type 0 where
    pub placed : Place s
    pub tasks : List Task
    pub allowed : IsAllowed tr tasks
    pub happened : (u : Task) → IsTrue (tr.has u) → is_event all u ≡ false → IsIn u tasks ↔ IsTrue (has_happened all s u)
    pub eager : IsEager tr (is_event all) tasks
    pub order : filter (λ u. not (is_event all u)) tasks ≡ did

  -- with the events that can happen
  pub settle : (s : Stage) (did : List Task) → Place s → (tasks : List Task) → IsAllowed tr tasks → ((u : Task) → IsTrue (tr.has u) → is_event all u ≡ false → IsIn u tasks ↔ IsTrue (has_happened all s u))
      → filter (λ u. not (is_event all u)) tasks ≡ did → AtPoint s did
  settle s did placed tasks ok happened order =
      let g = due_done known.paths known.joins known.leads all tasks ok in
      record {
        placed = placed;
        tasks = g.tasks;
        allowed = g.allowed;
        happened = λ u there plain. (λ h. (happened u there plain).0 (g.added u plain h), λ h. g.kept u ((happened u there plain).1 h));
        eager = is_eager known.paths known.joins known.leads all tasks g;
        order = g.same ∙ order;
      }

  pub begins : AtPoint (start t) []
  begins = settle (start t) [] (start_placed known.keeps t) [] tt (λ u there plain. (λ h. absurd h, λ h. absurd (nothing u there plain h))) refl
    where
      nothing : (u : Task) → IsTrue (tr.has u) → is_event all u ≡ false → IsTrue (has_happened all (start t) u) → ⊥
      nothing u there plain h = go (kind all u there plain)
        where
          go : Kind all u → ⊥
          go (piece n c at act lt) = let no = turned (happened_is all (start t) u n at (Runs c) act) h in cc
          go (hosts n x at act first) = let lt = ltb-true n.point.entry 0 (turned (happened_is all (start t) u n at (Hosts x) act) h) in omega (arith, lt)

  module _ (s : Stage) (did : List Task) (i : AtPoint s did) where
    pub grows : Front s
    grows = later known.keeps t s i.placed

    pub piece_in : (v : Task) (m : Node) (c : Cmd) → IsTrue (tr.has v) → node_at all v.node ≡ Some m → m.act ≡ Runs c → IsTrue (is_done s.done (v.node, v.index)) → IsIn v i.tasks
    piece_in v m c there at act h = (i.happened v there (plain_is all v m at (Runs c) act refl)).1 (turned (sym (happened_is all s v m at (Runs c) act)) h)

    pub entry_in : (v : Task) (m : Node) (x : Entry) → IsTrue (tr.has v) → node_at all v.node ≡ Some m → m.act ≡ Hosts x → Contains (nodes s.front.past) m → IsIn v i.tasks
    entry_in v m x there at act c =
        (i.happened v there (plain_is all v m at (Hosts x) act refl)).1 (turned (sym (happened_is all s v m at (Hosts x) act)) (lt-ltb m.point.entry s.count (low known.keeps t s i.placed m c)))

    -- where the pieces before a next task are done, it is due
    due : (u : Task) (n : Node) → node_at all u.node ≡ Some n → n.number ≤ length (nodes s.front.past)
        → ((v : Task) (m : Node) (c : Cmd) → IsTrue (tr.has v) → node_at all v.node ≡ Some m → m.act ≡ Runs c → v.index < length (pieces all c) → IsTrue (before (nodes all) m n) → IsIn v i.tasks)
        → IsDue tr (is_event all) i.tasks u
    due u n at_u le each v plain p = go (kind all v p.0 plain)
      where
        go : Kind all v → IsIn v i.tasks
        go (piece m c at act lt) = each v m c p.0 at act lt (turned (before_is all v u m n at at_u) p.1)
        go (hosts m x at act first) =
            let lt = known.leads (nodes all) m n (turned (before_is all v u m n at at_u) p.1) in
            entry_in v m x p.0 at act (old_node known _ s.front.past grows m (node_of all v.node m at).0 (omega (arith, lt, le)))

    -- pieces that have run before a node that is free
    free_in : (P : Point → Type 0) (past : Past) → Grows P past all → (n : Node) → Contains (nodes past) n → IsTrue (is_free past s.done n)
        → (v : Task) (m : Node) (c : Cmd) → IsTrue (tr.has v) → node_at all v.node ≡ Some m → m.act ≡ Runs c → v.index < length (pieces all c) → IsTrue (before (nodes all) m n) → IsIn v i.tasks
    free_in P past g n cn free v m c there at act lt b =
        let found = node_of all v.node m at in
        piece_in v m c there at act (subst (λ (k : ℕ). IsTrue (is_done s.done (k, v.index))) found.1 (free_done known P past g s.done n cn free m c v.index found.0 act lt b))

    -- ---- a piece that is offered

    pub offered_at : (x : Name) (o : Offered s.front.past s.done x) → node_at all x.0 ≡ Some o.node
    offered_at x o = subst (λ (k : ℕ). node_at all k ≡ Some o.node) o.number (node_at_self known.paths known.joins all o.node (node_in_all known _ s.front.past grows o.node o.present))

    pub piece_may : (x : Name) → Offered s.front.past s.done x → MayRun tr i.tasks (piece_task x)
    piece_may x o =
        let at = offered_at x o in
        let count : length (pieces all o.command) ≡ length (pieces s.front.past o.command) = ap (λ (ps : List (List ByteWrite)). length ps) (pieces_same known _ s.front.past grows o.node o.command o.present o.act) in
        let within = o.index in
        let there : IsTrue (tr.has (piece_task x)) = has_task all (piece_task x) o.node at
        (subst (λ (a : Act). IsTrue (nat_lt x.1 (task_count all a))) (sym o.act) (lt-ltb x.1 (length (pieces all o.command)) (omega (arith, count, within)))) in
        let small = number_below (nodes s.front.past) (numbered s.front.past) o.node o.present in
        may_run tr (is_event all) i.tasks (piece_task x) (transitive known.paths known.joins known.leads all) i.eager there
        (λ h. contradicted (is_done s.done x) (turned (happened_is all s (piece_task x) o.node at (Runs o.command) o.act) ((i.happened (piece_task x) there (plain_is all (piece_task x) o.node at (Runs o.command) o.act refl)).0 h)) o.fresh)
        (due (piece_task x) o.node at (omega (arith, small)) (free_in _ s.front.past grows o.node o.present o.free))

    -- ---- the entry that comes next

    module _ (x : Entry) (xs : List Entry) (left : s.left ≡ x ∷ xs) where
      abbrev pub here : Node
      here = entry_node known.keeps t s i.placed x xs left

      abbrev after : Place (entered s x xs)
      after = next_placed known.keeps t s i.placed x xs left

      pub after_grows : Front (entered s x xs)
      after_grows = later known.keeps t (entered s x xs) after

      pub there_before : (n : Node) → Contains (nodes s.front.past) n → Contains (nodes (past_with s x)) n
      there_before n c = still_there known.keeps t s i.placed x xs left n (contains-tail here (nodes s.front.past) n c)

      pub only_here : is_host_wait x ≡ true → (m : Node) → Contains (nodes (past_with s x)) m → m.point.entry ≡ s.count → here ≡ m
      only_here = wait_alone known.keeps t s i.placed x xs left

      pub here_present : Contains (nodes (past_with s x)) here
      here_present = entry_present known.keeps t s i.placed x xs left

      pub here_in_all : Contains (nodes all) here
      here_in_all = node_in_all known _ (past_with s x) after_grows here here_present

      pub here_at : node_at all here.number ≡ Some here
      here_at = node_at_self known.paths known.joins all here here_in_all

      pub here_there : IsTrue (tr.has (entry_task s))
      here_there = has_task all (entry_task s) here here_at refl

      -- a piece before it by a host entry was done before that one
      by_path : is_host_wait x ≡ false → (v : Task) (m : Node) (c : Cmd) → IsTrue (tr.has v) → node_at all v.node ≡ Some m → m.act ≡ Runs c → v.index < length (pieces all c) → IsTrue (before (nodes all) m here) → IsIn v i.tasks
      by_path plain v m c there at act lt b = go m here (node_of all v.node m at).0 at act refl ((known.paths all m here (node_of all v.node m at).0 here_in_all).0 b)
        where
          through : (m k n : Node) → Contains (nodes all) m → node_at all v.node ≡ Some m → n ≡ here → Path (nodes all) m k → Contains (nodes all) n → IsTrue (edge (nodes all) k n) → IsIn v i.tasks
          through m k n cm at same p cn e =
              let ck = target (nodes all) m k p in
              let host = edge_to_entry (nodes all) k n x (ap (λ (n : Node). n.act) same) plain e in
              let less = known.leads (nodes all) k n ((known.paths all k n ck cn).1 (direct ck cn e)) in
              let size : n.number ≡ length (nodes s.front.past) = ap (λ (n : Node). n.number) same in
              let old = old_node known _ s.front.past grows k ck (omega (arith, less, size)) in
              let first = (known.paths all m k cm ck).1 p in
              by_host_act k ck old first k.act refl host
            where
              by_host_act : (k : Node) → Contains (nodes all) k → Contains (nodes s.front.past) k → IsTrue (before (nodes all) m k) → (a : Act) → k.act ≡ a → IsTrue (is_host a) → IsIn v i.tasks
              by_host_act k ck old first (Hosts y) act h =
                  let u : Task = record { node = k.number; index = 0 } in
                  let at_k = node_at_self known.paths known.joins all k ck in
                  let there_k = has_task all u k at_k (subst (λ (a : Act). IsTrue (nat_lt 0 (task_count all a))) (sym act) refl) in
                  closed tr i.tasks i.allowed u v (entry_in u k y there_k at_k act old) (there, turned (sym (before_is all v u m k at at_k)) first)
              by_host_act k ck old first (Runs z) act h = absurd cc
              by_host_act k ck old first (Waits z) act h = absurd cc
              by_host_act k ck old first (Signals z) act h = absurd cc
              by_host_act k ck old first (Depends r d) act h = absurd cc

          go : (m n : Node) → Contains (nodes all) m → node_at all v.node ≡ Some m → m.act ≡ Runs c → n ≡ here → Path (nodes all) m n → IsIn v i.tasks
          go m n cm at act same (direct d f e) = let host = subst (λ (a : Act). IsTrue (is_host a)) act (edge_to_entry (nodes all) m n x (ap (λ (n : Node). n.act) same) plain e) in absurd cc
          go m n cm at act same (longer {k = k} p d e) = through m k n cm at same p d e

      entry_due : IsTrue (may_go s x) → (b : Bool) → is_host_wait x ≡ b → IsDue tr (is_event all) i.tasks (entry_task s)
      entry_due may false plain = due (entry_task s) here here_at (omega arith) (by_path plain)
      entry_due may true waits =
          let all_free = implied (is_host_wait x) _ waits may in
          let free = implied (here.point.entry == s.count) (is_free (past_with s x) s.done here) (eq-eqb s.count s.count refl) (all_passes (λ n. not (n.point.entry == s.count) || is_free (past_with s x) s.done n) (nodes (past_with s x)) here all_free here_present) in
          due (entry_task s) here here_at (omega arith) (free_in _ (past_with s x) after_grows here here_present free)

      pub entry_may : IsTrue (may_go s x) → MayRun tr i.tasks (entry_task s)
      entry_may may = may_run tr (is_event all) i.tasks (entry_task s) (transitive known.paths known.joins known.leads all) i.eager here_there
          (λ h. let lt = ltb-true s.count s.count (turned (happened_is all s (entry_task s) here here_at (Hosts x) refl) ((i.happened (entry_task s) here_there (plain_is all (entry_task s) here here_at (Hosts x) refl refl)).0 h)) in omega (arith, lt))
          (entry_due may (is_host_wait x) refl)
