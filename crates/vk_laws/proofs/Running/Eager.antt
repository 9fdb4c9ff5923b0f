-- Events that are due are done after any tasks, one node after another.
use Rattle.std.proofs.Common.{◌≡◌, inl, inr, ℕ, zero, suc, ◌<◌, List, ◌∷◌, length, Bool, true, false, ◌&&◌, not, IsTrue, Option, Some, None, refl, subst, arith}
use Rattle.std.specs.Prelude.{nat_lt}
use Rattle.std.specs.List.{filter}
use Rattle.std.proofs.lemmas.Bool.{cases_lt, ltb-true, and_parts, and_from}
use Rattle.vk_model.specs.Basics.{holds}
use Rattle.vk_model.specs.Trace.Point.{Past}
use Rattle.vk_model.specs.Sync.Node.{Node, Act, Hosts, Waits, Signals, Runs, Depends, nodes}
use Rattle.vk_model.specs.Sync.Before.{before}
use Rattle.vk_model.specs.Laws.{BeforeIsPath, BeforeIsTransitive, BeforeLeadsOn}
use Rattle.vk_laws.specs.Machine.{IsIn, Task, TraceAccesses, Precedes, MayRun, IsAllowed}
use Rattle.vk_laws.specs.Growth.{IsTransitive, IsDue, IsEager}
use Rattle.vk_laws.specs.Trace.{accesses}
use Rattle.vk_laws.specs.Tasks.{task_count, node_at, by_act, accesses_of}
use Rattle.vk_laws.specs.DefinedRuns.{is_event}
use Rattle.vk_laws.proofs.Accesses.TaskNodes.{node_of, same_task}
use Rattle.vk_model.proofs.Lists.Truths.{implies, clash}
use Rattle.vk_laws.proofs.Nodes.Prefixes.{there_below, tasks_lead_on}
use Rattle.vk_laws.proofs.Running.Runs.{is_done, may_run, may_run_holds, in_order, found_in, in_found}
use Rattle.vk_model.proofs.Lists.Members.{each_of}

module _ (paths : BeforeIsPath) (joins : BeforeIsTransitive) (leads : BeforeLeadsOn) (all : Past) where
  abbrev tr : TraceAccesses
  tr = accesses_of all

  pub transitive : IsTransitive tr
  transitive a b c h k = go (node_at all a) (node_at all b) (node_at all c) refl refl refl h k
    where
      go : (o u v : Option Node) → node_at all a ≡ o → node_at all b ≡ u → node_at all c ≡ v
          → IsTrue (holds o (λ m. holds u (λ n. before (nodes all) m n))) → IsTrue (holds u (λ m. holds v (λ n. before (nodes all) m n))) → IsTrue (holds o (λ m. holds v (λ n. before (nodes all) m n)))
      go None u v e f g h k = absurd cc
      go (Some l) None v e f g h k = absurd cc
      go (Some l) (Some m) None e f g h k = absurd cc
      go (Some l) (Some m) (Some n) e f g h k = joins all l m n (node_of all a l e).0 (node_of all b m f).0 (node_of all c n g).0 h k

  -- an event has one task
  event_part : (u : Task) → is_event all u ≡ true → IsTrue (tr.has u) → u.index ≡ 0
  event_part u e h = go (node_at all u.node) e h
    where
      by_kind : (a : Act) → not (accesses a) ≡ true → IsTrue (nat_lt u.index (task_count all a)) → u.index ≡ 0
      by_kind (Runs c) e h = absurd cc
      by_kind (Hosts x) e h = absurd cc
      by_kind (Waits s) e h = let lt = ltb-true u.index 1 h in omega (arith, lt)
      by_kind (Signals s) e h = let lt = ltb-true u.index 1 h in omega (arith, lt)
      by_kind (Depends r d) e h = let lt = ltb-true u.index 1 h in omega (arith, lt)

      go : (o : Option Node) → holds o (λ n. not (accesses n.act)) ≡ true → IsTrue (by_act false (λ a. nat_lt u.index (task_count all a)) o) → u.index ≡ 0
      go None e h = absurd cc
      go (Some n) e h = by_kind n.act e h

  abbrev event : ℕ → Task
  event k = record { node = k; index = 0 }

  abbrev size : ℕ
  size = length (nodes all)

  -- what may come next passes the test
  may_run_test : (done : List Task) (t : Task) → MayRun tr done t → IsTrue (may_run leads all size done t)
  may_run_test done t may =
      and_from _ _ (and_from _ _ may.there (absent (is_done leads all t done) refl))
      (each_of _ (in_order leads all size) (λ s c. implies (tr.has s && tr.before s.node t.node) (is_done leads all s done) (λ h. in_found leads all s done (may.after s (and_parts _ _ h)))))
    where
      absent : (b : Bool) → is_done leads all t done ≡ b → IsTrue (not b)
      absent true e = absurd (may.fresh (found_in leads all t done e))
      absent false e = refl

  -- the events below a node that are due have been done too
  pub record Grown (k : ℕ) (done : List Task) : Type 0 where
    pub tasks : List Task
    pub allowed : IsAllowed tr tasks
    pub kept : (u : Task) → IsIn u done → IsIn u tasks
    pub added : (u : Task) → is_event all u ≡ false → IsIn u tasks → IsIn u done
    pub same : filter (λ u. not (is_event all u)) tasks ≡ filter (λ u. not (is_event all u)) done
    pub eager : (u : Task) → is_event all u ≡ true → IsTrue (tr.has u) → u.node < k → IsDue tr (is_event all) tasks u → IsIn u tasks

  -- an event whose earlier events were done as soon as they could may come next, or is done
  due_event : (k : ℕ) (done : List Task) (g : Grown k done) (u : Task) → u.node ≡ k → IsTrue (tr.has u) → IsDue tr (is_event all) g.tasks u → (IsIn u g.tasks → ⊥) → MayRun tr g.tasks u
  due_event k done g u at there due fresh = record { there = there; fresh = fresh; after = λ s p. go s p (is_event all s) refl }
    where
      go : (s : Task) → Precedes tr s u → (b : Bool) → is_event all s ≡ b → IsIn s g.tasks
      go s p false e = due s e p
      go s p true e = g.eager s e p.0 (let lt = tasks_lead_on all s.node u.node p.1 in omega (arith, lt, at)) (λ r piece q. due r piece (q.0, transitive r.node s.node u.node q.1 p.1))

  with_event : (k : ℕ) (done : List Task) (g : Grown k done) (b : Bool) → (is_event all (event k) && may_run leads all size g.tasks (event k)) ≡ b → Grown (suc k) done
  with_event k done g true test = record {
    tasks = event k ∷ g.tasks;
    allowed = (may_run_holds leads all size g.tasks (event k) (omega arith) (and_parts _ _ test).1, g.allowed);
    kept = λ u h. inr (g.kept u h);
    added = λ u plain h. g.added u plain (older u plain h);
    same = let is : is_event all (event k) ≡ true = (and_parts _ _ test).0 in rw is g.same;
    eager = λ u e there lt due. elim (cases_lt u.node k) [
      | inl less ↦ inr (g.eager u e there less (λ s plain p. older s plain (due s plain p)))
      | inr le ↦ inl (same_task u (event k) (let same : u.node ≡ k = omega (arith, lt, le) in same) (event_part u e there))
    ];
  }
    where
      older : (u : Task) → is_event all u ≡ false → IsIn u (event k ∷ g.tasks) → IsIn u g.tasks
      older u plain (inl e) = absurd (clash {b = is_event all (event k)} (and_parts _ _ test).0 (subst (λ (t : Task). is_event all t ≡ false) e plain))
      older u plain (inr h) = h
  with_event k done g false test = record {
    tasks = g.tasks;
    allowed = g.allowed;
    kept = g.kept;
    added = g.added;
    same = g.same;
    eager = λ u e there lt due. elim (cases_lt u.node k) [
      | inl less ↦ g.eager u e there less due
      | inr le ↦ here u e there (let same : u.node ≡ k = omega (arith, lt, le) in same) due (is_done leads all u g.tasks) refl
    ];
  }
    where
      here : (u : Task) → is_event all u ≡ true → IsTrue (tr.has u) → u.node ≡ k → IsDue tr (is_event all) g.tasks u → (b : Bool) → is_done leads all u g.tasks ≡ b → IsIn u g.tasks
      here u e there at due true found = found_in leads all u g.tasks found
      here u e there at due false found =
          let may = due_event k done g u at there due (λ h. clash {b = is_done leads all u g.tasks} (in_found leads all u g.tasks h) found) in
          let same : u ≡ event k = same_task u (event k) at (event_part u e there) in
          let passes = subst (λ (t : Task). IsTrue (is_event all t && may_run leads all size g.tasks t)) same (and_from _ _ e (may_run_test g.tasks u may)) in
          absurd (clash passes test)

  grown : (k : ℕ) (done : List Task) → IsAllowed tr done → Grown k done
  grown zero done ok = record {
    tasks = done;
    allowed = ok;
    kept = λ u h. h;
    added = λ u plain h. h;
    same = refl;
    eager = λ u e there lt due. absurd (omega (arith, lt));
  }
  grown (suc k) done ok = let g = grown k done ok in with_event k done g (is_event all (event k) && may_run leads all size g.tasks (event k)) refl

  pub due_done : (done : List Task) → IsAllowed tr done → Grown size done
  due_done done ok = grown size done ok

  pub is_eager : (done : List Task) (g : Grown size done) → IsEager tr (is_event all) g.tasks
  is_eager done g u e there due = g.eager u e there (there_below all u.node (λ a. nat_lt u.index (task_count all a)) there) due
