-- Runs in which caches hold nothing, and the run in reference order.
use Rattle.std.proofs.Common.{◌∙◌, ◌≡◌, ◌⊎◌, inl, inr, ⊎_elim, ℕ, zero, suc, ◌<◌, ◌≤◌, List, [], ◌∷◌, length, Bool, true, false, ◌&&◌, ◌||◌, not, IsTrue, Option, Some, None, refl, ap, subst, arith}
use Rattle.std.specs.Prelude.{◌==◌, nat_lt}
use Rattle.std.specs.List.{list_any, list_all}
use Rattle.std.proofs.lemmas.Bool.{eqb-true, eq-eqb, ltb-true, lt-ltb, cases_lt, or_right, and_parts, or_cases, or_parts}
use Rattle.vk_model.specs.Basics.{holds}
use Rattle.vk_model.specs.World.Bytes.{Byte}
use Rattle.vk_model.specs.World.ByteWrites.{Value, From}
use Rattle.vk_model.specs.Trace.Point.{Past}
use Rattle.vk_model.specs.Sync.Node.{Node, nodes}
use Rattle.vk_model.specs.Sync.Before.{before}
use Rattle.vk_model.specs.Laws.{BeforeLeadsOn}
use Rattle.vk_laws.specs.Machine.{IsIn, Task, Put, Puts, Unknown, TraceAccesses, Precedes, MayRun, IsAllowed}
use Rattle.vk_model.specs.Run.Caches.{Cell}
use Rattle.vk_laws.specs.Caches.{Caching, CellRan, Reached, Start, Run}
use Rattle.vk_laws.specs.Tasks.{task_count, node_at, by_act, accesses_of}
use Rattle.vk_laws.specs.Discards.{with_discards}
use Rattle.vk_laws.specs.DefinedRuns.{stored, bytes_after}
use Rattle.vk_laws.proofs.Accesses.TaskNodes.{node_of, same_task}
use Rattle.vk_model.proofs.Lists.Members.{some_member}
use Rattle.vk_model.proofs.Lists.Truths.{implied, contradicted}
use Rattle.vk_model.proofs.Sync.Numbers.{number_below, numbered}

-- ---- caches that hold nothing

abbrev pub bare : (Byte → ℕ) → Byte → Cell
bare memory c = record { region = memory c; held = λ a. None }

ran : (o : Option Put) (a : ℕ) (memory : Byte → ℕ) (c : Byte) → CellRan o a (bare memory) (bare memory c) (record { region = stored o memory c; held = λ a. None })
ran None a memory c = (refl, λ b. refl)
ran (Some (Puts (Value v))) a memory c = record { others = λ b n. refl; mine = inr (refl, inl refl) }
ran (Some (Puts (From d))) a memory c = record { others = λ b n. refl; mine = inr (refl, inl refl) }
ran (Some Unknown) a memory c = (0, record { others = λ b n. refl; mine = inr (refl, inl refl) })

module _ (tr : TraceAccesses) (ca : Caching) where
  pub reached_from : (first : Byte → ℕ) (done : List Task) → IsAllowed tr done → Reached tr ca done (bare (bytes_after tr first done))
  reached_from first [] ok = Start _ (λ c a. refl)
  reached_from first (t ∷ done) ok =
      Run done t (bare (bytes_after tr first done)) _ (reached_from first done ok.1) ok.0
      (record { written_back = λ c w u is a held. cc; dropped = λ c a u is held. cc })
      (λ c. ran (tr.write_of t c) (ca.agent t) (bytes_after tr first done) c)

  abbrev pub memory_after : List Task → Byte → ℕ
  memory_after done = bytes_after tr (λ c. 0) done

  pub reached : (done : List Task) → IsAllowed tr done → Reached tr ca done (bare (memory_after done))
  reached done ok = reached_from (λ c. 0) done ok

-- ---- the run in reference order

module _ (leads : BeforeLeadsOn) (all : Past) where
  abbrev tr : TraceAccesses
  tr = accesses_of all

  abbrev count : ℕ → ℕ
  count k = elim (node_at all k) [ None ↦ 0 | Some n ↦ task_count all n.act ]

  -- the first tasks of a node, after other tasks
  abbrev with_parts : ℕ → ℕ → List Task → List Task
  with_parts k zero rest = rest
  with_parts k (suc j) rest = record { node = k; index = j } ∷ with_parts k j rest

  abbrev pub in_order : ℕ → List Task
  in_order zero = []
  in_order (suc k) = with_parts k (count k) (in_order k)

  there : (u : Task) → IsTrue (tr.has u) → u.index < count u.node
  there u h = go (node_at all u.node) h
    where
      go : (o : Option Node) → IsTrue (by_act false (λ a. nat_lt u.index (task_count all a)) o) → u.index < (elim o [ None ↦ 0 | Some n ↦ task_count all n.act ])
      go None h = absurd cc
      go (Some n) h = ltb-true u.index (task_count all n.act) h

  has_part : (k j : ℕ) → j < count k → IsTrue (tr.has (record { node = k; index = j }))
  has_part k j lt = go (node_at all k) lt
    where
      go : (o : Option Node) → j < (elim o [ None ↦ 0 | Some n ↦ task_count all n.act ]) → IsTrue (by_act false (λ a. nat_lt j (task_count all a)) o)
      go None lt = absurd (omega (arith, lt))
      go (Some n) lt = lt-ltb j (task_count all n.act) lt

  -- what comes before a task has an earlier node
  earlier : (s t : Task) → Precedes tr s t → s.node < t.node
  earlier s t p = go (node_at all s.node) (node_at all t.node) refl refl p.1
    where
      go : (o u : Option Node) → node_at all s.node ≡ o → node_at all t.node ≡ u → IsTrue (holds o (λ m. holds u (λ n. before (nodes all) m n))) → s.node < t.node
      go None u e f h = absurd cc
      go (Some m) None e f h = absurd cc
      go (Some m) (Some n) e f h =
          let lt = leads (nodes all) m n h in
          let a = (node_of all s.node m e).1 in
          let b = (node_of all t.node n f).1 in omega arith

  index_in : (k j : ℕ) (rest : List Task) (u : Task) → u.node ≡ k → u.index < j → IsIn u (with_parts k j rest)
  index_in k zero rest u e lt = absurd (omega (arith, lt))
  index_in k (suc j) rest u e lt = elim (cases_lt u.index j) [ inl less ↦ inr (index_in k j rest u e less) | inr le ↦ inl (same_task u (record { node = k; index = j }) e (omega (arith, lt, le))) ]

  later_in : (k j : ℕ) (rest : List Task) (u : Task) → IsIn u rest → IsIn u (with_parts k j rest)
  later_in k zero rest u h = h
  later_in k (suc j) rest u h = inr (later_in k j rest u h)

  pub task_in : (k : ℕ) (u : Task) → IsTrue (tr.has u) → u.node < k → IsIn u (in_order k)
  task_in zero u h lt = absurd (omega (arith, lt))
  task_in (suc k) u h lt = elim (cases_lt u.node k) [
    | inl less ↦ later_in k (count k) (in_order k) u (task_in k u h less)
    | inr le ↦ let e : u.node ≡ k = omega (arith, lt, le) in index_in k (count k) (in_order k) u e (subst (λ (n : ℕ). u.index < count n) e (there u h))
  ]

  -- a task of the run: of an earlier node, or of an earlier index
  in_parts : (k j : ℕ) (rest : List Task) (u : Task) → IsIn u (with_parts k j rest) → IsIn u rest ⊎ ((u.node ≡ k) × (u.index < j))
  in_parts k zero rest u h = inl h
  in_parts k (suc j) rest u (inl e) = inr (ap (λ (t : Task). t.node) e, let f = ap (λ (t : Task). t.index) e in omega (arith, f))
  in_parts k (suc j) rest u (inr h) = ⊎_elim (λ r. inl r) (λ p. inr (p.0, let lt = p.1 in omega (arith, lt))) (in_parts k j rest u h)

  low : (k : ℕ) (u : Task) → IsIn u (in_order k) → u.node < k
  low zero u h = absurd h
  low (suc k) u h = ⊎_elim (λ r. let lt = low k u r in omega (arith, lt)) (λ p. let e = p.0 in omega (arith, e)) (in_parts k (count k) (in_order k) u h)

  parts_allowed : (k j : ℕ) → j ≤ count k → IsAllowed tr (in_order k) → IsAllowed tr (with_parts k j (in_order k))
  parts_allowed k zero le ok = ok
  parts_allowed k (suc j) le ok = (
    record {
      there = has_part k j (omega (arith, le));
      fresh = λ h. ⊎_elim (λ r. let lt : k < k = low k (record { node = k; index = j }) r in omega (arith, lt)) (λ p. let lt : j < j = p.1 in omega (arith, lt)) (in_parts k j (in_order k) (record { node = k; index = j }) h);
      after = λ s p. later_in k j (in_order k) s (task_in k s p.0 (earlier s (record { node = k; index = j }) p));
    },
    parts_allowed k j (omega (arith, le)) ok,
  )

  pub in_order_allowed : (k : ℕ) → IsAllowed tr (in_order k)
  in_order_allowed zero = tt
  in_order_allowed (suc k) = parts_allowed k (count k) (omega arith) (in_order_allowed k)

  pub runs_next : (t : Task) → IsTrue (tr.has t) → MayRun tr (in_order t.node) t
  runs_next t h = record {
    there = h;
    fresh = λ i. let lt = low t.node t i in omega (arith, lt);
    after = λ s p. task_in t.node s p.0 (earlier s t p);
  }

  -- ---- a run by tests

  abbrev pub same : Task → Task → Bool
  same t u = t.node == u.node && t.index == u.index

  abbrev pub is_done : Task → List Task → Bool
  is_done t done = list_any (same t) done

  abbrev pub may_run : ℕ → List Task → Task → Bool
  may_run size done t = tr.has t && not (is_done t done) && list_all (λ s. not (tr.has s && tr.before s.node t.node) || is_done s done) (in_order size)

  abbrev pub is_allowed : ℕ → List Task → Bool
  is_allowed size [] = true
  is_allowed size (t ∷ done) = may_run size done t && is_allowed size done

  is_same : (t u : Task) → IsTrue (same t u) → t ≡ u
  is_same t u h = let g = and_parts _ _ h in same_task t u (eqb-true t.node u.node g.0) (eqb-true t.index u.index g.1)

  pub found_in : (t : Task) (done : List Task) → IsTrue (is_done t done) → IsIn t done
  found_in t [] h = absurd cc
  found_in t (u ∷ done) h = ⊎_elim (λ e. inl (is_same t u e)) (λ later. inr (found_in t done later)) (or_cases (same t u) (is_done t done) h)

  pub in_found : (t : Task) (done : List Task) → IsIn t done → IsTrue (is_done t done)
  in_found t [] h = absurd h
  in_found t (u ∷ done) (inl e) = rw e (rw (eq-eqb u.node u.node refl, eq-eqb u.index u.index refl) refl)
  in_found t (u ∷ done) (inr h) = or_right (same t u) (is_done t done) (in_found t done h)

  each_in : (f : Task → Bool) (xs : List Task) (x : Task) → IsTrue (list_all f xs) → IsIn x xs → IsTrue (f x)
  each_in f [] x h i = absurd i
  each_in f (y ∷ xs) x h (inl e) = rw e (and_parts (f y) (list_all f xs) h).0
  each_in f (y ∷ xs) x h (inr i) = each_in f xs x (and_parts (f y) (list_all f xs) h).1 i

  -- size: all nodes are below it
  pub may_run_holds : (size : ℕ) (done : List Task) (t : Task) → length (nodes all) ≤ size → IsTrue (may_run size done t) → MayRun tr done t
  may_run_holds size done t le h = record {
    there = (and_parts _ _ (and_parts _ _ h).0).0;
    fresh = λ i. contradicted (is_done t done) (in_found t done i) (and_parts _ _ (and_parts _ _ h).0).1;
    after = λ s p. found_in s done (implied (tr.has s && tr.before s.node t.node) (is_done s done) (rw (p.0, p.1) refl)
        (each_in (λ s. not (tr.has s && tr.before s.node t.node) || is_done s done) (in_order size) s (and_parts _ _ h).1 (task_in size s p.0 (below_size s p.0))));
  }
    where
      below_size : (s : Task) → IsTrue (tr.has s) → s.node < size
      below_size s h = go (node_at all s.node) refl h
        where
          go : (o : Option Node) → node_at all s.node ≡ o → IsTrue (by_act false (λ a. nat_lt s.index (task_count all a)) o) → s.node < size
          go None e h = absurd cc
          go (Some n) e h = let f = node_of all s.node n e in let lt = number_below (nodes all) (numbered all) n f.0 in let at = f.1 in omega (arith, lt, at, le)

  pub allowed_holds : (size : ℕ) (done : List Task) → length (nodes all) ≤ size → IsTrue (is_allowed size done) → IsAllowed tr done
  allowed_holds size [] le h = tt
  allowed_holds size (t ∷ done) le h = (may_run_holds size done t le (and_parts _ _ h).0, allowed_holds size done le (and_parts _ _ h).1)

  -- ---- no run gets stuck

  module _ (done : List Task) where
    -- a task that comes before another, and isn't done
    holds_up : Task → Task → Bool
    holds_up u s = tr.has s && tr.before s.node u.node && not (is_done s done)

    none_holds : (u : Task) (xs : List Task) (s : Task) → list_any (holds_up u) xs ≡ false → IsIn s xs → holds_up u s ≡ false
    none_holds u [] s e i = absurd i
    none_holds u (x ∷ xs) s e (inl same) = ap (holds_up u) same ∙ (or_parts (holds_up u x) (list_any (holds_up u) xs) e).0
    none_holds u (x ∷ xs) s e (inr i) = none_holds u xs s (or_parts (holds_up u x) (list_any (holds_up u) xs) e).1 i

    pub some_next : (k : ℕ) (u : Task) → u.node < k → IsTrue (tr.has u) → (IsIn u done → ⊥) → (t : Task) × MayRun tr done t
    unfolding holds_up
    some_next zero u lt h n = absurd (omega (arith, lt))
    some_next (suc k) u lt h n = go (some_next k) (list_any (holds_up u) (in_order u.node)) refl
      where
        free : (s : Task) → Precedes tr s u → holds_up u s ≡ false → IsTrue (is_done s done)
        free s p e = go (is_done s done) refl
          where
            go : (b : Bool) → is_done s done ≡ b → IsTrue b
            go true f = refl
            go false f = let g : true ≡ false = rw (p.0, p.1, f) at e in absurd cc

        go : ((s : Task) → s.node < k → IsTrue (tr.has s) → (IsIn s done → ⊥) → (t : Task) × MayRun tr done t) → (b : Bool) → list_any (holds_up u) (in_order u.node) ≡ b → (t : Task) × MayRun tr done t
        go rest true e =
            let s = some_member (holds_up u) (in_order u.node) e in
            let g = and_parts _ _ s.2 in
            let p = and_parts _ _ g.0 in
            let earlier_node = earlier s.0 u p in
            rest s.0 (omega (arith, earlier_node, lt)) p.0 (λ i. contradicted (is_done s.0 done) (in_found s.0 done i) g.1)
        go rest false e = (u, record { there = h; fresh = n; after = λ s p. found_in s done (free s p (none_holds u (in_order u.node) s e (task_in u.node s p.0 (earlier s u p)))) })

-- ---- and where invalidations forget

module _ (all : Past) where
  pub may_too : (done : List Task) (t : Task) → MayRun (accesses_of all) done t → MayRun (with_discards all) done t
  may_too done t m = record { there = m.there; fresh = m.fresh; after = m.after }

  pub allowed_too : (done : List Task) → IsAllowed (accesses_of all) done → IsAllowed (with_discards all) done
  allowed_too [] ok = tt
  allowed_too (t ∷ done) ok = (may_too done t ok.0, allowed_too done ok.1)
