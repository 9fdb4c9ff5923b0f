-- A host entry that comes next runs in the machine, after what it asks of caches.
use Rattle.std.proofs.Common.{◌≡◌, ⊎_elim, ℕ, zero, suc, ◌<◌, ◌≤◌, List, [], ◌∷◌, ◌++◌, length, Bool, true, false, ◌&&◌, ◌||◌, not, IsTrue, Option, Some, None, refl, ap, sym, ◌∙◌, subst, arith, append_assoc}
use Rattle.std.specs.Prelude.{Contains, ◌==◌, option_map, if◌then◌else◌}
use Rattle.std.proofs.lemmas.Bool.{eqb-true, lt-ltb, and_parts, or_cases}
use Rattle.vk_model.specs.declared.entry.Entry.{Entry}
use Rattle.vk_model.specs.declared.entry.Entry.TheVariants as entry
use Rattle.vk_model.specs.Basics.{holds}
use Rattle.vk_model.specs.World.Bytes.{Byte, resource_at}
use Rattle.vk_model.specs.World.ByteWrites.{Value}
use Rattle.vk_model.specs.World.Effect.{written, reaches}
use Rattle.vk_model.specs.Trace.Objects.{is_cached}
use Rattle.vk_model.specs.Trace.Order.{host, order}
use Rattle.vk_model.specs.Trace.Point.{Past, Action}
use Rattle.vk_model.specs.Run.Caches.{Clean, Dirty, queue_agent, dropped}
use Rattle.vk_model.specs.Run.Runs.{Stage, past_with}
use Rattle.vk_model.specs.Run.CachedRuns.{Cells, after_host}
use Rattle.vk_model.specs.Sync.Node.{Node, Act, Hosts, Waits, Signals, Runs, Depends, nodes, acts, with_acts}
use Rattle.vk_model.specs.Sync.Edge.{edge, is_host}
use Rattle.vk_model.specs.Sync.Before.{before}
use Rattle.vk_model.specs.Sync.Seen.{available_by, flushes, invalidates, passes}
use Rattle.vk_model.specs.Laws.{PiecesAreByteWrites}
use Rattle.vk_laws.specs.Machine.{IsIn, Task, Put, Puts, Unknown, TraceAccesses, Writes, HazardFree, MayRun, IsAllowed, latest}
use Rattle.vk_laws.specs.Caches.{Caching, CellRan, Reached, Run}
use Rattle.vk_laws.specs.Trace.{accesses}
use Rattle.vk_laws.specs.Tasks.{host_value, task_write, node_at, by_act, accesses_of}
use Rattle.vk_laws.specs.TraceBytes.{before_node}
use Rattle.vk_laws.specs.Discards.{entry_forgets, forgets, or_unknown, with_discards}
use Rattle.vk_laws.specs.TraceCaches.{submits_to, host_wrote, cached, makes_write_available, makes_visible_to, caching_of}
use Rattle.vk_laws.specs.DefinedRuns.{entry_task}
use Rattle.vk_model.proofs.Lists.Members.{contains-head, some_member}
use Rattle.vk_model.proofs.Lists.Truths.{clash, contradicted}
use Rattle.vk_model.proofs.Trace.Growing.{Grows, Quiet, entry_grows}
use Rattle.vk_laws.proofs.Accesses.TaskNodes.{node_of, has_task}
use Rattle.vk_laws.proofs.Accesses.TaskAccesses.{host_writes_it, writer}
use Rattle.vk_laws.proofs.Bytes.BeforeNodes.{before_inside}
use Rattle.vk_laws.proofs.EveryOrder.Fresh.{latest_in, latest_most}
use Rattle.vk_laws.proofs.Nodes.Actions.{host_action}
use Rattle.vk_laws.proofs.Nodes.Counts.{count_acts}
use Rattle.vk_laws.proofs.Nodes.Points.{AtPoint, at_point, at_point_below, comes_at}
use Rattle.vk_laws.proofs.Nodes.Prefixes.{has_more}
use Rattle.vk_laws.proofs.Nodes.Steady.{IsNew, IsLive, new_ids, live_ids}
use Rattle.vk_laws.proofs.Caching.CacheFree.{cached_then}
use Rattle.vk_laws.proofs.Caching.Dirty.{DirtiedBy, dirtied_by}
use Rattle.vk_laws.proofs.Caching.Discards.{Forgot, write_kind}
use Rattle.vk_laws.proofs.Caching.Forgotten.{flush_of, reached_buffer, forgets_of}
use Rattle.vk_laws.proofs.Caching.TraceCaches.{node_at_self, agent_is}
use Rattle.vk_laws.proofs.Running.Stages.{low}
use Rattle.vk_laws.proofs.Running.StageTasks.{turned, plain_is, happened_is, Known, old_node, node_in_all}
use Rattle.vk_laws.proofs.Running.AtStage.{grows, here, after_grows, here_in_all, here_at, here_there}
use Rattle.vk_laws.proofs.Running.Runs.{may_too}
use Rattle.vk_laws.proofs.CachedRunning.Touches.{drop_gone}
use Rattle.vk_laws.proofs.CachedRunning.NodesHappened.{Plain}
use Rattle.vk_laws.proofs.CachedRunning.HostCaches.{HostOk}
use Rattle.vk_laws.proofs.CachedRunning.EntryCells.{ready, ready_reached, ready_ok, entry_ran}

module _ {t : List Entry} (known : Known t) (together : PiecesAreByteWrites) where
  abbrev all : Past
  all = order t

  abbrev tr : TraceAccesses
  tr = with_discards all

  abbrev ca : Caching
  ca = caching_of all

  new : IsNew all
  new = new_ids all known.sound

  alive : IsLive all
  alive = live_ids all known.sound

  -- where the host caches a byte now, it did so for each write of it
  writer_cached : (w : Task) (c : Byte) (k : Node) → Writes tr w c → node_at all w.node ≡ Some k → is_cached all (resource_at c) ≡ true → cached all k.number c ≡ true
  writer_cached w c k wr at kept = ⊎_elim forgot wrote (write_kind all w c wr)
    where
      forgot : Forgot all w c → cached all k.number c ≡ true
      forgot f =
          let one : Some f.node ≡ Some k = sym f.at ∙ at in
          let same : f.node ≡ k = cc in
          subst (λ (n : Node). cached all n.number c ≡ true) same (forgets_of (before_node all f.node.number) f.entry c f.lost).kept

      wrote : Writes (accesses_of all) w c → cached all k.number c ≡ true
      wrote b =
          let a = writer together all w c b in
          let one : Some a.node ≡ Some k = sym a.at ∙ at in
          let same : a.node ≡ k = cc in
          let le : a.node.number ≤ a.node.number = omega arith in
          subst (λ (n : Node). cached all n.number c ≡ true) same (cached_then all new alive a.node a.present a.is_access c all a.accessed a.node a.present le ∙ kept)

  module _ (s : Stage) (did : List Task) (i : Rattle.vk_laws.proofs.Running.AtStage.AtPoint known s did) (x : Entry) (xs : List Entry) (left : s.left ≡ x ∷ xs) where
    abbrev past : Past
    past = s.front.past

    abbrev self : Node
    self = here known s did i x xs left

    self_in : Contains (nodes all) self
    self_in = here_in_all known s did i x xs left

    self_at : node_at all self.number ≡ Some self
    self_at = here_at known s did i x xs left

    pub split : (newer : Past) × (all ≡ newer ++ host s.count x ∷ past)
    split =
        let g = after_grows known s did i x xs left in
        let b : Grows Quiet (host s.count x ∷ past) (past_with s x) = entry_grows s.count x s.front in
        (g.newer ++ b.newer, g.whole ∙ ap (λ (l : Past). g.newer ++ l) b.whole ∙ sym (append_assoc g.newer b.newer (host s.count x ∷ past)))

    before_self : before_node all self.number ≡ past
    before_self =
        let more = count_acts (host s.count x) (Hosts x ∷ []) (nodes past) in
        ap (λ (l : Past). before_node l (length (nodes past))) split.1 ∙ before_inside split.0 past (host s.count x) (length (nodes past)) (omega arith) (omega (arith, more))

    pub stays : (c : Byte) (b o : ℕ) (bytes : List ℕ) (v : ℕ) → x ≡ entry.Write b o bytes → written b o bytes c ≡ Some v → is_cached past (resource_at c) ≡ is_cached all (resource_at c)
    stays c b o bytes v is w =
        let le : self.number ≤ self.number = omega arith in
        ap (λ (l : Past). is_cached l (resource_at c)) (sym before_self)
        ∙ cached_then all new alive self self_in refl c all (host_writes_it together all x c v (ap (λ (y : Entry). host_value y c) is ∙ w)) self self_in le

    entry_write : (c : Byte) → tr.write_of (entry_task s) c ≡ or_unknown (entry_forgets past x c) (option_map (λ v. Puts (Value v)) (host_value x c))
    entry_write c =
        ap (λ (o : Option Node). or_unknown (0 == 0 && by_act false (λ a. forgets all (length (nodes past)) a c) o) (by_act None (λ a. task_write all a 0 c) o)) self_at
        ∙ ap (λ (l : Past). or_unknown (entry_forgets l x c) (option_map (λ v. Puts (Value v)) (host_value x c))) before_self

    entry_agent : ca.agent (entry_task s) ≡ 0
    entry_agent = agent_is known.paths known.joins all (entry_task s) self self_at

    module _ (free : HazardFree tr) (done : List Task) (plain : Plain known s done) (ok : IsAllowed tr done) (moved : List ℕ) (cells : Cells) (host_ok : HostOk known past cells) where
      abbrev set : Cells
      set c = ready past moved x c (cells c)

      set_ok : HostOk known past set
      set_ok c = ready_ok known past moved x c (cells c) (host_ok c)

      -- ---- a submit makes available what the host wrote: nothing of it is dirty

      module _ (c : Byte) (w : Task) (k : Node) (last_is : latest tr c done ≡ Some w) (at : node_at all w.node ≡ Some k) (kept : is_cached all (resource_at c) ≡ true) (d : DirtiedBy past c) where
        abbrev write : Entry
        write = entry.Write d.buffer d.offset d.bytes

        abbrev v : Node
        v = record { number = length (nodes d.low); point = d.at; act = Hosts write }

        v_past : Contains (nodes past) v
        v_past = subst (λ (l : Past). Contains (nodes l) v) (sym d.whole)
            (has_more known.keeps d.newer (d.at ∷ d.low) v (subst (λ (a : Action). Contains (with_acts d.at (acts a) (nodes d.low)) v) (sym d.action) (contains-head v (nodes d.low))))

        v_all : Contains (nodes all) v
        v_all = node_in_all known _ past (grows known s did i) v v_past

        v_at : node_at all v.number ≡ Some v
        v_at = node_at_self known.paths known.joins all v v_all

        abbrev v_task : Task
        v_task = record { node = v.number; index = 0 }

        v_done : IsIn v_task done
        v_done =
            let there = has_task all v_task v v_at refl in
            (plain v_task there (plain_is all v_task v v_at (Hosts write) refl refl)).1
            (turned (sym (happened_is all s v_task v v_at (Hosts write) refl)) (lt-ltb v.point.entry s.count (low known.keeps t s i.placed v v_past)))

        v_writes : Writes tr v_task c
        v_writes = go (0 == 0 && by_act false (λ a. forgets all v.number a c) (node_at all v.number))
          where
            puts : (accesses_of all).write_of v_task c ≡ Some (Puts (Value d.value))
            puts = ap (λ (o : Option Node). by_act None (λ a. task_write all a 0 c) o) v_at ∙ ap (λ (o : Option ℕ). option_map (λ v. Puts (Value v)) o) d.is

            go : (b : Bool) → (y : Put) × (or_unknown b ((accesses_of all).write_of v_task c) ≡ Some y)
            go true = (Unknown, refl)
            go false = (Puts (Value d.value), puts)

        v_first : v.number ≤ w.node
        v_first = latest_most tr free done c w v_task ok last_is v_done v_writes

        unflushed : (f : Node) → Contains (nodes past) f → IsTrue (flushes f.act c) → v.number < f.number → ⊥
        unflushed f cf h lt =
            let u = flush_of f.act c h in
            let p : AtPoint past f = at_point past f cf in
            let act = host_action p.at.action (entry.Flush u.0 u.1 u.2) (subst (λ (a : Act). Contains (acts p.at.action) a) u.3 p.acted) in
            let size = count_acts p.at (acts p.at.action) (nodes p.past) in
            let one : length (acts p.at.action) ≡ 1 = ap (λ (a : Action). length (acts a)) act in
            let size_v = count_acts d.at (acts d.at.action) (nodes d.low) in
            let one_v : length (acts d.at.action) ≡ 1 = ap (λ (a : Action). length (acts a)) d.action in
            let small = at_point_below past f p in
            let large = p.new in
            let off = d.unflushed p.past p.at (comes_at past f p) (omega (arith, size, one, size_v, one_v, small, large, lt)) u.0 u.1 u.2 act u.4 in
            let g = grows known s did i in
            let f_all = node_in_all known _ past g f cf in
            let whole : all ≡ (g.newer ++ p.newer) ++ p.at ∷ p.past = g.whole ∙ ap (λ (l : Past). g.newer ++ l) p.whole ∙ sym (append_assoc g.newer p.newer (p.at ∷ p.past)) in
            let low_f : before_node all f.number ≡ p.past = ap (λ (l : Past). before_node l f.number) whole ∙ before_inside (g.newer ++ p.newer) p.past p.at f.number large small in
            let same = cached_then all new alive v v_all refl c all (host_writes_it together all write c d.value d.is) f f_all (omega (arith, lt)) in
            let on : is_cached p.past (resource_at c) ≡ true = ap (λ (l : Past). is_cached l (resource_at c)) (sym low_f) ∙ same ∙ kept in
            clash {b = is_cached p.past (resource_at c)} on (ap (is_cached p.past) (reached_buffer u.0 u.1 u.2 c u.4) ∙ off)

        not_passed : IsTrue (passes (cached all k.number) (nodes all) (λ f. flushes f c) k self) → k.number ≡ w.node → ⊥
        not_passed h number =
            let f = some_member (λ f. flushes f.act c && before (nodes all) k f && before (nodes all) f self) (nodes all) h in
            let g = and_parts (flushes f.0.act c && before (nodes all) k f.0) (before (nodes all) f.0 self) f.2 in
            let l = and_parts (flushes f.0.act c) (before (nodes all) k f.0) g.0 in
            let after = known.leads (nodes all) k f.0 l.1 in
            let until = known.leads (nodes all) f.0 self g.1 in
            let first = v_first in
            unflushed f.0 (old_node known _ past (grows known s did i) f.0 f.1 until) l.0 (omega (arith, after, first, number))

      -- ---- the guard of the entry

      back_done : (c : Byte) (w : Task) (u : ℕ) → latest tr c done ≡ Some w → IsTrue (ca.makes_available (entry_task s) w c) → (set c).held (ca.agent w) ≡ Some (Dirty u) → ⊥
      back_done c w u last_is h held =
          go (node_at all w.node) refl (ap (λ (o : Option Node). holds o (λ m. holds (node_at all w.node) (λ k. makes_write_available all m k c))) (sym self_at) ∙ (and_parts _ _ h).1)
        where
          submitted : (k : Node) (y : Entry) → node_at all w.node ≡ Some k → k.act ≡ Hosts y → IsTrue (not (cached all k.number c) || passes (cached all k.number) (nodes all) (λ f. flushes f c) k self) → ⊥
          submitted k y at act h =
              let agent : ca.agent w ≡ 0 = agent_is known.paths known.joins all w k at ∙ ap (λ (d : Act). if is_host d then 0 else queue_agent k.point.queue) act in
              let held_here : (set c).held 0 ≡ Some (Dirty u) = subst (λ (b : ℕ). (set c).held b ≡ Some (Dirty u)) agent held in
              let kept = (set_ok c).cached (Dirty u) held_here in
              let number = (node_of all w.node k at).1 in
              ⊎_elim
              (λ no_cache. contradicted (cached all k.number c) (writer_cached w c k (latest_in tr done c w last_is).1 at kept) no_cache)
              (λ passed. not_passed c w k last_is at kept (dirtied_by past c ((set_ok c).dirty u held_here)) passed number)
              (or_cases (not (cached all k.number c)) (passes (cached all k.number) (nodes all) (λ f. flushes f c) k self) h)

          by_kind : (k : Node) → node_at all w.node ≡ Some k → (d : Act) → k.act ≡ d → IsTrue (accesses d) → IsTrue (available_by (cached all k.number) (nodes all) k d c self) → ⊥
          by_kind k at (Runs y) act access h = let no_write : IsTrue false = (and_parts (edge (nodes all) k self) false h).1 in cc
          by_kind k at (Hosts y) act access h = submitted k y at act (and_parts _ _ h).1
          by_kind k at (Waits y) act access h = absurd cc
          by_kind k at (Signals y) act access h = absurd cc
          by_kind k at (Depends r d) act access h = absurd cc

          go : (o : Option Node) → node_at all w.node ≡ o → IsTrue (holds o (λ k. makes_write_available all self k c)) → ⊥
          go None at h = absurd cc
          go (Some k) at h = let parts = and_parts _ _ h in by_kind k at k.act refl parts.0 parts.1

      cached_self : (c : Byte) → cached all self.number c ≡ is_cached past (resource_at c)
      cached_self c = ap (λ (l : Past). is_cached l (resource_at c)) before_self

      drop_done : (c : Byte) (b u : ℕ) → IsTrue (ca.makes_visible (entry_task s) b c) → (set c).held b ≡ Some (Clean u) → ⊥
      drop_done c b u h held = by_agent b (ap (λ (o : Option Node). holds o (λ m. makes_visible_to all m b c)) (sym self_at) ∙ h) held
        where
          by_cache : (y : Entry) (k : Bool) → is_cached past (resource_at c) ≡ k → IsTrue (if k then invalidates (Hosts y) c else false) → (ready past moved y c (cells c)).held 0 ≡ Some (Clean u) → ⊥
          by_cache (entry.Invalidate b o n) true is h held =
              let here_cached : is_cached past b ≡ true = ap (is_cached past) (sym (reached_buffer b o n c h)) ∙ is in
              let both : (is_cached past b && reaches b o n c) ≡ true = rw (here_cached, h) refl in
              drop_gone 0 (cells c) u (subst (λ (z : Bool). (if z then dropped 0 (cells c) else cells c).held 0 ≡ Some (Clean u)) both held)
          by_cache y false is h held = cc
          by_cache _ true is h held = cc

          in_queue : (y : Entry) (k : ℕ) → IsTrue (submits_to (Hosts y) k) → (ready past moved y c (cells c)).held (suc k) ≡ Some (Clean u) → ⊥
          in_queue (entry.Submit q bs) k h held = drop_gone (queue_agent q) (cells c) u (subst (λ (j : ℕ). (dropped (queue_agent q) (cells c)).held (suc j) ≡ Some (Clean u)) (sym (eqb-true q k h)) held)
          in_queue _ k h held = cc

          by_agent : (b : ℕ) → IsTrue (makes_visible_to all self b c) → (set c).held b ≡ Some (Clean u) → ⊥
          by_agent zero h held = by_cache x (is_cached past (resource_at c)) refl (subst (λ (z : Bool). IsTrue (if z then invalidates (Hosts x) c else false)) (cached_self c) h) held
          by_agent (suc k) h held = in_queue x k (and_parts (submits_to (Hosts x) k) (host_wrote all self c) h).0 held

      pub entry_done : Reached tr ca done cells → MayRun (accesses_of all) done (entry_task s) → Reached tr ca (entry_task s ∷ done) (λ c. after_host past moved x c (cells c))
      entry_done r may = Run done (entry_task s) set _ (ready_reached tr ca done cells r past moved x) (may_too all done (entry_task s) may)
          (record { written_back = back_done; dropped = drop_done })
          (λ c.
          subst (λ (a : ℕ). CellRan (tr.write_of (entry_task s) c) a set (set c) (after_host past moved x c (cells c))) (sym entry_agent)
          (subst (λ (o : Option Put). CellRan o 0 set (set c) (after_host past moved x c (cells c))) (sym (entry_write c))
          (entry_ran known past moved set c (cells c) (host_ok c) x (λ b o bytes v is w. stays c b o bytes v is w))))
