-- Dependencies, waits and signals that happen at a stage are events of the machine, after what their queues' caches do.
use Rattle.std.proofs.Common.{◌≡◌, ◌⊎◌, inl, inr, ⊎_elim, ℕ, zero, suc, List, [], ◌∷◌, ◌++◌, length, Bool, true, false, ◌&&◌, ◌||◌, not, IsTrue, Option, Some, None, refl, ap, sym, ◌∙◌, subst, arith}
use Rattle.std.specs.Prelude.{Contains, ◌==◌, is_some, nat_lt, nat_le, bit_and, if◌then◌else◌}
use Rattle.std.proofs.lemmas.Nat.{and_assoc}
use Rattle.std.proofs.lemmas.Bool.{eqb-true, lt-ltb, and_parts, and_from, or_cases, or_left, or_right}
use Rattle.vk_model.specs.declared.command.Cmd.{Cmd}
use Rattle.vk_model.specs.declared.entry.Entry.{Entry}
use Rattle.vk_model.specs.Basics.{holds, has_some}
use Rattle.vk_model.specs.World.Bytes.{Byte, resource_at}
use Rattle.vk_model.specs.World.Effect.{world}
use Rattle.vk_model.specs.Trace.Point.{Past, Point}
use Rattle.vk_model.specs.Trace.Objects.{made, is_cached}
use Rattle.vk_model.specs.Trace.Order.{order}
use Rattle.vk_model.specs.Run.Caches.{Clean, Dirty, Cell, queue_agent, written_back, dropped}
use Rattle.vk_model.specs.Run.Runs.{Name, Stage}
use Rattle.vk_model.specs.World.Ownership.{dependency_of, is_release}
use Rattle.vk_model.specs.Run.CachedRuns.{Cells, is_synchronization, makes_last_available, any_access, makes_byte_visible, after_node}
use Rattle.vk_model.specs.Sync.Node.{Node, Act, Hosts, Waits, Signals, Runs, Depends, nodes}
use Rattle.vk_model.specs.Sync.Edge.{edge, is_host, is_submit, pairs, by_semaphore, earlier, signaled_by}
use Rattle.vk_model.specs.Sync.Seen.{Read, command_mask, host_mask, makes_writes_available, makes_writes_visible, available_by, invalidates, is_wait, is_set, covers, to_host}
use Rattle.vk_model.specs.Rules.Fault.{Comes}
use Rattle.vk_laws.specs.Machine.{Task, Put, TraceAccesses, MayRun, latest}
use Rattle.vk_laws.specs.Caches.{Touched, CellRan, Reached, Touch, Run}
use Rattle.vk_laws.specs.Trace.{accesses}
use Rattle.vk_laws.specs.Tasks.{node_at, accesses_of}
use Rattle.vk_laws.specs.TraceBytes.{before_node}
use Rattle.vk_laws.specs.Discards.{with_discards}
use Rattle.vk_laws.specs.TraceCaches.{submits_to, cached, was_made, makes_write_available, makes_visible_to, caching_of}
use Rattle.vk_model.proofs.Lists.Truths.{clash}
use Rattle.vk_model.proofs.Trace.Growing.{Grows}
use Rattle.vk_laws.proofs.Nodes.Steady.{IsNew, new_ids, live_ids, comes_within}
use Rattle.vk_laws.proofs.Caching.CachedStays.{cached_stays}
use Rattle.vk_laws.proofs.Caching.TraceCaches.{on_queue, available_same, visible_same, agent_is}
use Rattle.vk_laws.proofs.Running.Stages.{From, Placed, later}
use Rattle.vk_laws.proofs.Running.StageTasks.{Known, node_in_all}
use Rattle.vk_laws.proofs.Running.Runs.{may_too}
use Rattle.vk_laws.proofs.Running.DefinedBytes.{silent_too}
use Rattle.vk_laws.proofs.CachedRunning.Touches.{unchanged, back_touches, drop_touches, within_joins, back_within, drop_within, back_clean, drop_gone}
use Rattle.vk_laws.proofs.CachedRunning.NodesHappened.{event_task, event_at, event_is}
use Rattle.vk_laws.proofs.CachedRunning.LastWriters.{Last, IsNamed, writer_found}
use Rattle.vk_laws.proofs.CachedRunning.HostCaches.{HostByte, HostOk, byte_within}
use Rattle.vk_model.proofs.Sync.EdgeKinds.{by_kind}

-- ---- kinds of nodes

not_submit : (a : Act) → is_synchronization a ≡ true → IsTrue (is_submit a) → ⊥
not_submit (Runs c) e h = absurd cc
not_submit (Hosts x) e h = absurd cc
not_submit (Waits s) e h = absurd cc
not_submit (Signals s) e h = absurd cc
not_submit (Depends r d) e h = absurd cc

not_to_queue : (a : Act) (k : ℕ) → is_synchronization a ≡ true → IsTrue (submits_to a k) → ⊥
not_to_queue (Runs c) k e h = absurd cc
not_to_queue (Hosts x) k e h = absurd cc
not_to_queue (Waits s) k e h = absurd cc
not_to_queue (Signals s) k e h = absurd cc
not_to_queue (Depends r d) k e h = absurd cc

not_invalidates : (a : Act) (c : Byte) → is_synchronization a ≡ true → IsTrue (invalidates a c) → ⊥
not_invalidates (Runs x) c e h = absurd cc
not_invalidates (Hosts x) c e h = absurd cc
not_invalidates (Waits s) c e h = absurd cc
not_invalidates (Signals s) c e h = absurd cc
not_invalidates (Depends r d) c e h = absurd cc

pub no_run : (a : Act) → is_synchronization a ≡ true → (x : Cmd) → a ≡ Runs x → ⊥
no_run a e x same = let no : is_synchronization a ≡ false = ap is_synchronization same in clash e no

-- an edge from a command leads to a node of its queue
edge_from_command : (ns : List Node) (k n : Node) (x : Cmd) → k.act ≡ Runs x → IsTrue (edge ns k n) → k.point.queue ≡ n.point.queue
edge_from_command ns k n x is h =
    by_kind ns k n (record {
      host = λ g. absurd (from_host (or_cases _ _ g));
      stages = λ g. (on_queue k n (and_parts _ _ (and_parts _ _ (and_parts _ _ g).0).0).0).1;
      signal = λ g. (on_queue k n (and_parts _ _ (and_parts _ _ g).0).0).1;
      all_commands = λ g. (on_queue k n (and_parts _ _ g).0).1;
      pair = λ g. absurd (no_pair n.act (subst (λ (a : Act). IsTrue (pairs a n.act)) is g));
      semaphore = λ g. absurd (no_semaphore g);
    }) h
  where
    from_host : IsTrue (is_host k.act && is_host n.act) ⊎ IsTrue (is_submit k.act && k.point.entry == n.point.entry) → ⊥
    from_host (inl f) = clash {b = is_host k.act} (and_parts _ _ f).0 (ap is_host is)
    from_host (inr f) = clash {b = is_submit k.act} (and_parts _ _ f).0 (ap is_submit is)

    no_pair : (a : Act) → IsTrue (pairs (Runs x) a) → ⊥
    no_pair a g = cc

    no_semaphore : IsTrue (by_semaphore (earlier n ns) k n) → ⊥
    no_semaphore g = let none : signaled_by k.act ≡ None = ap signaled_by is in let h : false ≡ true = rw none at g in cc

-- a mask that has reads by commands has some access
reads_among : (mask : ℕ) → IsTrue (has_some mask (command_mask Read)) → IsTrue (has_some mask any_access)
reads_among mask h = positive (bit_and mask any_access) refl
  where
    none : bit_and mask any_access ≡ 0 → bit_and mask (command_mask Read) ≡ 0
    none z = sym (and_assoc (command_mask Read) mask any_access) ∙ ap (λ (k : ℕ). bit_and k (command_mask Read)) z

    positive : (k : ℕ) → bit_and mask any_access ≡ k → IsTrue (has_some mask any_access)
    positive zero z = let no : nat_lt 0 (bit_and mask (command_mask Read)) ≡ false = ap (nat_lt 0) (none z) in clash h no
    positive (suc k) z = lt-ltb 0 (bit_and mask any_access) (omega (arith, z))

-- ---- what comes before a node is the end of a past

before_part : (all : Past) (k : ℕ) → (more : Past) × (all ≡ more ++ before_node all k)
before_part [] k = ([], refl)
before_part (p ∷ past) k = go (before_part past k) (nat_le (length (nodes (p ∷ past))) k)
  where
    go : (more : Past) × (past ≡ more ++ before_node past k) → (b : Bool) → (more : Past) × (p ∷ past ≡ more ++ (if b then p ∷ past else before_node past k))
    go m true = ([], refl)
    go m false = (p ∷ m.0, ap (λ (l : Past). p ∷ l) m.1)

module _ {t : List Entry} (known : Known t) where
  abbrev all : Past
  all = order t

  abbrev tr : TraceAccesses
  tr = with_discards all

  -- a resource that was made before a node is cached then or never
  cached_at : (k : ℕ) (c : Byte) → IsTrue (was_made all k c) → is_cached all (resource_at c) ≡ cached all k c
  cached_at k c h = go (made low (resource_at c)) refl h
    where
      low : Past
      low = before_node all k

      new : IsNew all
      new = new_ids all known.sound

      part : (more : Past) × (all ≡ more ++ low)
      part = before_part all k

      come : (b : Past) (q : Point) → Comes low b q → Comes all b q
      come b q g = comes_within all part.0 low part.1 b q g

      go : (o : Option Entry) → made low (resource_at c) ≡ o → IsTrue (is_some o) → is_cached all (resource_at c) ≡ cached all k c
      go None e h = absurd cc
      go (Some x) e h =
          ap (λ (l : Past). is_cached l (resource_at c)) part.1
          ∙ cached_stays part.0 low (subst (λ (l : Past). IsNew l) part.1 new) (λ b q g. live_ids all known.sound b q (come b q g)) (λ b q g. new b q (come b q g)) (resource_at c) x e

  module _ (e : Stage) (p : Placed known.keeps t e) where
    abbrev past : Past
    past = e.front.past

    g : Grows (From e.count) past all
    g = later known.keeps t e p

    -- ---- one event

    module _ (n : Node) (cn : Contains (nodes past) n) (kind : is_synchronization n.act ≡ true) (done : List Task) (cells : Cells) (named : (y : Name) → Contains e.done y → IsNamed known past y) (last : Last all e.done done) (host : HostOk known past cells) where
      abbrev a : ℕ
      a = queue_agent n.point.queue

      abbrev after : Cells
      after = after_node past e.done n cells

      here : Contains (nodes all) n
      here = node_in_all known _ past g n cn

      -- what is written back, and what is then dropped
      abbrev back : Bool → Cell → Cell
      back b cell = if b then written_back a cell else cell

      abbrev made_visible_cell : Bool → Cell → Cell
      made_visible_cell b cell = if b then dropped a cell else cell

      back_touched : (cell : Cell) (b : Bool) → Touched cell (back b cell)
      back_touched cell true = back_touches a cell
      back_touched cell false = unchanged cell

      show_touched : (cell : Cell) (b : Bool) → Touched cell (made_visible_cell b cell)
      show_touched cell true = drop_touches a cell
      show_touched cell false = unchanged cell

      -- a byte that the node makes available isn't dirty then, and no copy is left of one that it makes visible
      clean_after : (c : Byte) (u : ℕ) → makes_last_available past e.done n c ≡ true → (after c).held a ≡ Some (Dirty u) → ⊥
      clean_after c u is held = go (makes_last_available past e.done n c) (makes_byte_visible past n c) is held
        where
          go : (k v : Bool) → k ≡ true → (made_visible_cell v (back k (cells c))).held a ≡ Some (Dirty u) → ⊥
          go true true is held = let w = (drop_within a (written_back a (cells c)) a).dirty u held in back_clean a (cells c) w.0 w.1
          go true false is held = back_clean a (cells c) u held
          go false v is held = cc

      gone_after : (c : Byte) (u : ℕ) → makes_byte_visible past n c ≡ true → (after c).held a ≡ Some (Clean u) → ⊥
      gone_after c u is held = go (makes_byte_visible past n c) is held
        where
          go : (v : Bool) → v ≡ true → (made_visible_cell v (back (makes_last_available past e.done n c) (cells c))).held a ≡ Some (Clean u) → ⊥
          go true is held = drop_gone a (back (makes_last_available past e.done n c) (cells c)) u held
          go false is held = cc

      pub host_after : HostOk known past after
      host_after c = go (makes_last_available past e.done n c) (makes_byte_visible past n c)
        where
          go : (k v : Bool) → HostByte known c ((world past).dirty c) (made_visible_cell v (back k (cells c)))
          go true true = byte_within known c _ (cells c) _ (within_joins _ _ _ (back_within a (cells c) 0) (drop_within a (written_back a (cells c)) 0)) (host c)
          go true false = byte_within known c _ (cells c) _ (back_within a (cells c) 0) (host c)
          go false true = byte_within known c _ (cells c) _ (drop_within a (cells c) 0) (host c)
          go false false = host c

      -- what it makes available of the machine's last writer, it makes so by the definitions
      makes_last : (c : Byte) (w : Task) (k : Node) (x : Cmd) → latest tr c done ≡ Some w → node_at all w.node ≡ Some k → k.act ≡ Runs x → IsTrue (edge (nodes all) k n) → IsTrue (makes_writes_available (cached all k.number) (nodes all) n c n.act)
          → makes_last_available past e.done n c ≡ true
      makes_last c w k x last_is at act ed makes =
          let writer = writer_found known _ past g e.done done named last c w k x last_is at act in
          let same : edge (nodes all) k n ≡ edge (nodes past) k n = ap (λ (l : Past). edge (nodes l) k n) g.whole ∙ (known.keeps past g.newer).edges k n cn in
          let here_too = (available_same (cached all k.number) (λ b. false) (nodes all) c n n.act makes).0 in
          ap (λ (o : Option Node). holds o (λ w. available_by (λ b. false) (nodes past) w w.act c n)) writer.0
          ∙ ap (λ (d : Act). available_by (λ b. false) (nodes past) k d c n) act
          ∙ and_from _ _ (sym same ∙ ed) (by_act n.act here_too)
        where
          by_act : (d : Act) → IsTrue (makes_writes_available (λ b. false) (nodes all) n c d) → IsTrue (makes_writes_available (λ b. false) (nodes past) n c d)
          by_act (Runs y) h = h
          by_act (Hosts y) h = h
          by_act (Waits s) h = h
          by_act (Signals s) h = h
          by_act (Depends r d) h = h

      back_done : (c : Byte) (w : Task) (u : ℕ) → latest tr c done ≡ Some w → IsTrue ((caching_of all).makes_available (event_task n) w c) → (after c).held ((caching_of all).agent w) ≡ Some (Dirty u) → ⊥
      back_done c w u last_is h held =
          go (node_at all w.node) refl (ap (λ (o : Option Node). holds o (λ m. holds (node_at all w.node) (λ k. makes_write_available all m k c))) (sym (event_at known n here)) ∙ (and_parts _ _ h).1)
        where
          by_kind : (k : Node) → node_at all w.node ≡ Some k → (d : Act) → k.act ≡ d → IsTrue (accesses d) → IsTrue (available_by (cached all k.number) (nodes all) k d c n) → ⊥
          by_kind k at (Runs x) act access h =
              let parts = and_parts _ _ h in
              let queue = edge_from_command (nodes all) k n x act parts.0 in
              let agent : (caching_of all).agent w ≡ a = agent_is known.paths known.joins all w k at ∙ ap (λ (d : Act). if is_host d then 0 else queue_agent k.point.queue) act ∙ ap queue_agent queue in
              clean_after c u (makes_last c w k x last_is at act parts.0 parts.1) (subst (λ (b : ℕ). (after c).held b ≡ Some (Dirty u)) agent held)
          by_kind k at (Hosts x) act access h = not_submit n.act kind (and_parts _ _ (and_parts _ _ h).0).0
          by_kind k at (Waits s) act access h = absurd cc
          by_kind k at (Signals s) act access h = absurd cc
          by_kind k at (Depends r d) act access h = absurd cc

          go : (o : Option Node) → node_at all w.node ≡ o → IsTrue (holds o (λ k. makes_write_available all n k c)) → ⊥
          go None at h = absurd cc
          go (Some k) at h = let parts = and_parts _ _ h in by_kind k at k.act refl parts.0 parts.1

      -- and what it makes visible
      shows_too : (c : Byte) → IsTrue (makes_writes_visible (cached all n.number) (nodes all) (command_mask Read) c n n.act || is_wait n.act) → makes_byte_visible past n c ≡ true
      shows_too c h = ⊎_elim (λ v. or_right (is_wait n.act) _ (by_act n.act (visible_same (cached all n.number) (λ b. false) (nodes all) c (command_mask Read) n n.act v).0)) (λ v. or_left (is_wait n.act) _ v) (or_cases _ _ h)
        where
          by_act : (d : Act) → IsTrue (makes_writes_visible (λ b. false) (nodes all) (command_mask Read) c n d) → IsTrue (makes_writes_visible (λ b. false) (nodes past) any_access c n d)
          by_act (Depends r d) h =
              let kinds = and_parts (not (is_set r) && not (is_release n.point.queue d) && has_some (dependency_of d).destination_accesses.0 (command_mask Read)) (covers d c) h in
              let some = and_parts (not (is_set r) && not (is_release n.point.queue d)) (has_some (dependency_of d).destination_accesses.0 (command_mask Read)) kinds.0 in
              and_from _ _ (and_from _ _ some.0 (reads_among (dependency_of d).destination_accesses.0 some.1)) kinds.1
          by_act (Runs y) h = h
          by_act (Hosts y) h = h
          by_act (Waits s) h = h
          by_act (Signals s) h = h

      drop_done : (c : Byte) (b u : ℕ) → IsTrue ((caching_of all).makes_visible (event_task n) b c) → (after c).held b ≡ Some (Clean u) → ⊥
      drop_done c b u h held = by_agent b (ap (λ (o : Option Node). holds o (λ m. makes_visible_to all m b c)) (sym (event_at known n here)) ∙ h) held
        where
          by_host' : (k : Bool) → cached all n.number c ≡ k → IsTrue (if k then invalidates n.act c else to_host n.act && makes_writes_visible (cached all n.number) (nodes all) (host_mask Read) c n n.act && was_made all n.number c)
              → (after c).held 0 ≡ Some (Clean u) → ⊥
          by_host' true is h held = not_invalidates n.act c kind h
          by_host' false is h held = clash {b = is_cached all (resource_at c)} ((host_after c).cached (Clean u) held) (cached_at n.number c (and_parts _ _ h).1 ∙ is)

          in_queue : (k : ℕ) → IsTrue (not (is_host n.act) && n.point.queue == k && (makes_writes_visible (cached all n.number) (nodes all) (command_mask Read) c n n.act || is_wait n.act)) → (after c).held (suc k) ≡ Some (Clean u) → ⊥
          in_queue k h held =
              let parts = and_parts (not (is_host n.act) && n.point.queue == k) (makes_writes_visible (cached all n.number) (nodes all) (command_mask Read) c n n.act || is_wait n.act) h in
              let same = eqb-true n.point.queue k (and_parts (not (is_host n.act)) (n.point.queue == k) parts.0).1 in
              gone_after c u (shows_too c parts.1) (subst {A = ℕ} (λ (b : ℕ). (after c).held (suc b) ≡ Some (Clean u)) (sym same) held)

          by_agent : (b : ℕ) → IsTrue (makes_visible_to all n b c) → (after c).held b ≡ Some (Clean u) → ⊥
          by_agent zero h held = by_host' (cached all n.number c) refl h held
          by_agent (suc k) h held = ⊎_elim (λ v. in_queue k v held) (λ v. not_to_queue n.act k kind (and_parts _ _ v).0) (or_cases _ _ h)

      pub event_done : Reached tr (caching_of all) done cells → MayRun (accesses_of all) done (event_task n) → Reached tr (caching_of all) (event_task n ∷ done) after
      event_done r may =
          let half : Cells = λ c. back (makes_last_available past e.done n c) (cells c) in
          Run done (event_task n) after after
          (Touch done half after (Touch done cells half r (λ c. back_touched (cells c) (makes_last_available past e.done n c))) (λ c. show_touched (half c) (makes_byte_visible past n c)))
          (may_too all done (event_task n) may)
          (record { written_back = λ c w u is h held. back_done c w u is h held; dropped = λ c b u h held. drop_done c b u h held })
          (λ c. subst (λ (o : Option Put). CellRan o ((caching_of all).agent (event_task n)) after (after c) (after c)) (sym (silent_too all (event_task n) c (event_is known n here kind))) (refl, λ b. refl))
