-- The premises of the law where invalidations forget what was not flushed.
use Rattle.std.proofs.Common.{◌≡◌, ◌⊎◌, inl, inr, ⊎_elim, ℕ, suc, ◌<◌, ◌≤◌, ◌∷◌, Bool, true, false, ◌&&◌, not, IsTrue, Option, Some, None, refl, ap, sym, ◌∙◌, subst, arith}
use Rattle.std.specs.Prelude.{Contains, ◌==◌, nat_lt}
use Rattle.std.proofs.lemmas.Bool.{eqb-true, and_parts}
use Rattle.vk_model.specs.declared.entry.Entry.{Entry}
use Rattle.vk_model.specs.declared.entry.Entry.TheVariants as entry
use Rattle.vk_model.specs.declared.command.Cmd.{Cmd}
use Rattle.vk_model.specs.Basics.{holds}
use Rattle.vk_model.specs.World.Bytes.{Byte, resource_at}
use Rattle.vk_model.specs.Trace.Objects.{is_cached}
use Rattle.vk_model.specs.Trace.Structure.{IsOrdered}
use Rattle.vk_model.specs.Trace.Point.{Past, Action}
use Rattle.vk_model.specs.World.Effect.{after_action, after_host, reaches, world}
use Rattle.vk_model.specs.Sync.Node.{Node, Act, Hosts, Waits, Signals, Runs, Depends, nodes}
use Rattle.vk_model.specs.Sync.Edge.{is_host}
use Rattle.vk_model.specs.Sync.Before.{before}
use Rattle.vk_model.specs.Sync.Seen.{Access, Read, Write, seen}
use Rattle.vk_model.specs.Sync.Access.{is_in, host_reads, reads, writes}
use Rattle.vk_model.specs.World.ByteWrites.{From}
use Rattle.vk_laws.specs.Machine.{Task, Put, Puts, Unknown, Writes, Reads, Precedes, Conflict, HazardFree, IsModel}
use Rattle.vk_laws.specs.Caches.{CacheFree, Seen, Available}
use Rattle.vk_laws.specs.Trace.{accesses}
use Rattle.vk_laws.specs.Tasks.{task_write, task_read, task_count, node_at, by_act, accesses_of}
use Rattle.vk_laws.specs.TraceBytes.{before_node, value_before}
use Rattle.vk_laws.specs.TraceCaches.{caching_of}
use Rattle.vk_laws.specs.Discards.{entry_forgets, forgets, or_unknown, with_discards}
use Rattle.vk_laws.proofs.Accesses.TaskNodes.{node_of, same_task, has_task}
use Rattle.vk_laws.proofs.Nodes.Steady.{new_ids, live_ids}
use Rattle.vk_laws.proofs.Nodes.Points.{AtPoint, at_point}
use Rattle.vk_laws.proofs.Accesses.TaskAccesses.{Accessor, writer, reader}
use Rattle.vk_laws.proofs.Nodes.Ordered.{judged_has, write_is_seen}
use Rattle.vk_laws.proofs.Accesses.HazardFree.{read_act, write_act, host_put, hazard_free}
use Rattle.vk_laws.proofs.Bytes.BeforeNodes.{settles}
use Rattle.vk_laws.proofs.Bytes.ModelBytes.{is_model}
use Rattle.vk_laws.proofs.Caching.TraceCaches.{node_at_self, seen_task, available_task, available_later}
use Rattle.vk_laws.proofs.Caching.CacheFree.{same_agent, same_cached, cached_then, cache_free}
use Rattle.vk_laws.proofs.Nodes.Submits.{submits_there}
use Rattle.vk_laws.proofs.Caching.Forgotten.{Given, forget, forgets_of, action, ends, w, w_all, w_earlier, w_writes, same_one, kept_then, there_then, seen_after, before_write, before_it}
use Rattle.vk_model.specs.declared.command.Length.{Length}
use Rattle.vk_model.proofs.World.BytePlaces.{is_in_of}

as_command : (a : Act) → IsTrue (accesses a) → IsTrue (is_host a) ⊎ ((c : Cmd) × (a ≡ Runs c))
as_command (Runs c) h = inr (c, refl)
as_command (Hosts x) h = inl refl
as_command (Waits s) h = absurd cc
as_command (Signals s) h = absurd cc
as_command (Depends r e) h = absurd cc

module _ (all : Past) where
  -- an invalidation that forgets a byte
  pub record Forgot (u : Task) (c : Byte) : Type 0 where
    pub node : Node
    pub at : node_at all u.node ≡ Some node
    pub present : Contains (nodes all) node
    pub number : node.number ≡ u.node
    pub only : u.index ≡ 0
    pub entry : Entry
    pub act : node.act ≡ Hosts entry
    pub lost : IsTrue (entry_forgets (before_node all node.number) entry c)

  forgot_of : (u : Task) (c : Byte) → IsTrue (u.index == 0 && by_act false (λ a. forgets all u.node a c) (node_at all u.node)) → Forgot u c
  forgot_of u c h = go (node_at all u.node) refl (eqb-true u.index 0 (and_parts _ _ h).0) (and_parts _ _ h).1
    where
      by_entry : (n : Node) → node_at all u.node ≡ Some n → u.index ≡ 0 → (a : Act) → n.act ≡ a → IsTrue (forgets all u.node a c) → Forgot u c
      by_entry n e only (Hosts x) f h =
          let k = node_of all u.node n e in
          record { node = n; at = e; present = k.0; number = k.1; only = only; entry = x; act = f; lost = subst (λ (m : ℕ). IsTrue (entry_forgets (before_node all m) x c)) (sym k.1) h }
      by_entry n e only _ f h = absurd cc

      go : (o : Option Node) → node_at all u.node ≡ o → u.index ≡ 0 → IsTrue (by_act false (λ a. forgets all u.node a c) o) → Forgot u c
      go None e only h = absurd cc
      go (Some n) e only h = by_entry n e only n.act refl h

  -- a write of the accesses with discards is one of these, or one of the trace's
  how : (u : Task) (c : Byte) (x : Put) → (with_discards all).write_of u c ≡ Some x → ((x ≡ Unknown) × Forgot u c) ⊎ ((accesses_of all).write_of u c ≡ Some x)
  how u c x h = go (u.index == 0 && by_act false (λ a. forgets all u.node a c) (node_at all u.node)) refl h
    where
      go : (b : Bool) → (u.index == 0 && by_act false (λ a. forgets all u.node a c) (node_at all u.node)) ≡ b → or_unknown b ((accesses_of all).write_of u c) ≡ Some x → ((x ≡ Unknown) × Forgot u c) ⊎ ((accesses_of all).write_of u c ≡ Some x)
      go true e h = inl (let same : Unknown ≡ x = cc in sym same, forgot_of u c e)
      go false e h = inr h

  pub write_kind : (u : Task) (c : Byte) → Writes (with_discards all) u c → Forgot u c ⊎ Writes (accesses_of all) u c
  write_kind u c w = ⊎_elim (λ f. inl f.1) (λ b. inr (w.0, b)) (how u c w.0 w.1)

  quiet_base : (u : Task) (c : Byte) → (with_discards all).write_of u c ≡ None → (accesses_of all).write_of u c ≡ None
  quiet_base u c h = go (u.index == 0 && by_act false (λ a. forgets all u.node a c) (node_at all u.node)) h
    where
      go : (b : Bool) → or_unknown b ((accesses_of all).write_of u c) ≡ None → (accesses_of all).write_of u c ≡ None
      go true h = absurd cc
      go false h = h

  pub forgot_has : (u : Task) (c : Byte) (f : Forgot u c) → IsTrue ((accesses_of all).has u)
  forgot_has u c f = rw f.at (rw f.act (rw f.only refl))

  by_nodes : (s u : Task) (m n : Node) → node_at all s.node ≡ Some m → node_at all u.node ≡ Some n → IsTrue ((accesses_of all).has s) → IsTrue (before (nodes all) m n) → Precedes (accesses_of all) s u
  by_nodes s u m n e f has b = (has, rw (e, f) b)

  -- an invalidation reads nothing, and writes nothing else
  forgot_reads : (s u : Task) (c : Byte) → Forgot s c → s.node ≡ u.node → Reads (accesses_of all) u c → ⊥
  forgot_reads s u c f same r =
      let a = read_act all u c r in
      let one : f.node ≡ a.0 = let e : Some f.node ≡ Some a.0 = sym f.at ∙ ap (node_at all) same ∙ a.1 in cc in
      let act : a.0.act ≡ Hosts f.entry = ap (λ (n : Node). n.act) (sym one) ∙ f.act in
      let l = forgets_of (before_node all f.node.number) f.entry c f.lost in
      let r' : IsTrue (task_read all (Hosts (entry.Invalidate l.buffer l.offset l.size)) u.index c) = subst (λ (b : Act). IsTrue (task_read all b u.index c)) (act ∙ ap Hosts l.is) a.2 in
      not_false (and_parts (u.index == 0) (is_in c (host_reads (entry.Invalidate l.buffer l.offset l.size))) r').1
    where
      not_false : IsTrue false → ⊥
      not_false h = cc

  forgot_writes : (s u : Task) (c : Byte) → Forgot s c → s.node ≡ u.node → Writes (accesses_of all) u c → ⊥
  forgot_writes s u c f same w =
      let a = write_act all u c w.0 w.1 in
      let one : f.node ≡ a.0 = let e : Some f.node ≡ Some a.0 = sym f.at ∙ ap (node_at all) same ∙ a.1 in cc in
      let act : a.0.act ≡ Hosts f.entry = ap (λ (n : Node). n.act) (sym one) ∙ f.act in
      let l = forgets_of (before_node all f.node.number) f.entry c f.lost in
      let p = host_put all (entry.Invalidate l.buffer l.offset l.size) u.index c w.0 (subst (λ (b : Act). task_write all b u.index c ≡ Some w.0) (act ∙ ap Hosts l.is) a.2) in
      let e : None ≡ Some p.value = p.is in cc

  -- the two traffics have the same order
  seen_too : (w t : Task) (c : Byte) → Seen (accesses_of all) (caching_of all) w t c → Seen (with_discards all) (caching_of all) w t c
  seen_too w t c s = record { p = s.p; q = s.q; available = s.available; order = s.order; visible = s.visible; before = s.before }

  available_too : (w t : Task) (c : Byte) → Available (accesses_of all) (caching_of all) w t c → Available (with_discards all) (caching_of all) w t c
  available_too w t c s = record { p = s.p; available = s.available; before = s.before }

module _ (all : Past) (given : Given all) where
  base_free : HazardFree (accesses_of all)
  base_free = hazard_free given.pieces_together given.apart all given.sound given.order given.none

  base_model : IsModel (accesses_of all) (value_before all)
  base_model = is_model given.pieces_together given.apart all given.sound

  base_caches : IsOrdered all → CacheFree (accesses_of all) (caching_of all)
  base_caches ordered = cache_free given.pieces_together given.paths given.joins given.stay given.hazards given.visibilities given.hosts given.keeps all ordered given.sound given.none

  -- what a node has of a byte
  abbrev Has : Access → Node → Byte → Type 0
  Has Read n c = Contains (reads all n) c
  Has Write n c = Contains (writes all n) c

  forgot_host : (u : Task) (c : Byte) (f : Forgot all u c) → IsTrue (is_host f.node.act)
  forgot_host u c f = ap is_host f.act

  lower : (s u : Task) (m n : Node) → m.number ≡ s.node → n.number ≡ u.node → s.node < u.node → m.number < n.number
  lower s u m n e f lt = omega (arith, e, f, lt)

  -- an access after an invalidation, and one before it
  forgot_first : (s u : Task) (c : Byte) (f : Forgot all s c) (n : Node) → node_at all u.node ≡ Some n → Contains (nodes all) n → n.number ≡ u.node → IsTrue (accesses n.act) → (k : Access) → Has k n c → s.node < u.node → Precedes (accesses_of all) s u
  forgot_first s u c f n at cn num ac k h lt =
      by_nodes all s u f.node n f.at at (forgot_has all s c f)
      (⊎_elim
      (λ host. given.hosts all f.node n f.present cn (forgot_host s c f) host (lower s u f.node n f.number num lt))
      (λ cmd. given.visibilities all _ f.node n k c f.present cn (lower s u f.node n f.number num lt) (seen_it k cmd.0 cmd.1 h))
      (as_command n.act ac))
    where
      seen_it : (k : Access) (cmd : Cmd) (is_n : n.act ≡ Runs cmd) → Has k n c → IsTrue (seen (λ b. is_cached ((at_point all n cn).at ∷ (at_point all n cn).past) (resource_at b)) (nodes all) f.node n k c)
      seen_it Read cmd is_n h = seen_after all given f.node f.present f.entry f.act c f.lost n cn cmd is_n Read h (lower s u f.node n f.number num lt)
      seen_it Write cmd is_n h = seen_after all given f.node f.present f.entry f.act c f.lost n cn cmd is_n Write h (lower s u f.node n f.number num lt)

  forgot_last : (s u : Task) (c : Byte) (f : Forgot all u c) (m : Node) → node_at all s.node ≡ Some m → Contains (nodes all) m → m.number ≡ s.node → IsTrue (nat_lt s.index (task_count all m.act)) → IsTrue (accesses m.act) → (k : Access) → Has k m c → s.node < u.node
      → Precedes (accesses_of all) s u
  forgot_last s u c f m at cm num there ac k h lt =
      by_nodes all s u m f.node at f.at (rw at there)
      (⊎_elim
      (λ host. given.hosts all m f.node cm f.present host (forgot_host u c f) (lower s u m f.node num f.number lt))
      (λ cmd. earlier k cmd.0 cmd.1 h)
      (as_command m.act ac))
    where
      earlier : (k : Access) (cmd : Cmd) (is_m : m.act ≡ Runs cmd) → Has k m c → IsTrue (before (nodes all) m f.node)
      earlier Read cmd is_m h = before_it all given f.node f.present f.entry f.act c f.lost m cm cmd is_m Read h (lower s u m f.node num f.number lt)
      earlier Write cmd is_m h = before_it all given f.node f.present f.entry f.act c f.lost m cm cmd is_m Write h (lower s u m f.node num f.number lt)

  ordered : (s u : Task) (c : Byte) → s.node < u.node → Conflict (with_discards all) s u c → Precedes (with_discards all) s u
  ordered s u c lt meet = ⊎_elim
      (λ wr. ⊎_elim
      (λ f. let y = reader given.pieces_together all u c wr.1 in forgot_first s u c f y.node y.at y.present y.number y.is_access Read y.accessed lt)
      (λ b. base_free.ordered s u c lt (inl (b, wr.1)))
      (write_kind all s c wr.0))
      (λ rest. ⊎_elim
      (λ rw'. ⊎_elim
      (λ f. let x = reader given.pieces_together all s c rw'.0 in forgot_last s u c f x.node x.at x.present x.number x.there x.is_access Read x.accessed lt)
      (λ b. base_free.ordered s u c lt (inr (inl (rw'.0, b))))
      (write_kind all u c rw'.1))
      (λ ww. two_writes (write_kind all s c ww.0) (write_kind all u c ww.1))
      rest)
      meet
    where
      two_writes : Forgot all s c ⊎ Writes (accesses_of all) s c → Forgot all u c ⊎ Writes (accesses_of all) u c → Precedes (accesses_of all) s u
      two_writes (inl f) (inl g) = by_nodes all s u f.node g.node f.at g.at (forgot_has all s c f) (given.hosts all f.node g.node f.present g.present (forgot_host s c f) (forgot_host u c g) (lower s u f.node g.node f.number g.number lt))
      two_writes (inl f) (inr b) = let y = writer given.pieces_together all u c b in forgot_first s u c f y.node y.at y.present y.number y.is_access Write y.accessed lt
      two_writes (inr a) (inl g) = let x = writer given.pieces_together all s c a in forgot_last s u c g x.node x.at x.present x.number x.there x.is_access Write x.accessed lt
      two_writes (inr a) (inr b) = base_free.ordered s u c lt (inr (inr (a, b)))

  pub discards_hazard_free : HazardFree (with_discards all)
  discards_hazard_free = record {
    ordered = ordered;
    apart = λ s u c same wr r. ⊎_elim (λ f. forgot_reads all s u c f same r) (λ b. base_free.apart s u c same b r) (write_kind all s c wr);
    single = λ s u c same a b. ⊎_elim
        (λ f. ⊎_elim (λ g. same_task s u same (f.only ∙ sym g.only)) (λ v. absurd (forgot_writes all s u c f same v)) (write_kind all u c b))
        (λ v. ⊎_elim (λ g. absurd (forgot_writes all u s c g (sym same) v)) (λ v'. base_free.single s u c same v v') (write_kind all u c b))
        (write_kind all s c a);
    source_read = λ s c d h. ⊎_elim (λ f. let e = f.0 in absurd cc) (λ b. base_free.source_read s c d b) (how all s c (Puts (From d)) h);
  }

  -- what is forgotten is undefined
  lost_value : (u : Task) (c : Byte) (v : ℕ) → Forgot all u c → value_before all (suc u.node) c ≡ Some v → ⊥
  lost_value u c v f h =
      let s : AtPoint all f.node = at_point all f.node f.present in
      let l = forget all given f.node f.present f.entry f.act c f.lost in
      let e = ends all given f.node f.present f.entry f.act c f.lost in
      let d = action all given f.node f.present f.entry f.act c f.lost in
      let here = subst (λ (k : ℕ). value_before all (suc k) c ≡ Some v) (sym f.number) h in
      let after = settles s.newer (s.at ∷ s.past) (suc f.node.number) c v e.1 (subst (λ (l : Past). value_before l (suc f.node.number) c ≡ Some v) s.whole here) in
      gone s.past l.buffer l.offset l.size l.kept_buffer l.reached l.dirty
      (subst (λ (x : Entry). (after_host s.past x (world s.past)).value c ≡ Some v) l.is (subst (λ (d : Action). (after_action s.past s.at.queue d (world s.past)).value c ≡ Some v) d after))
    where
      gone : (past : Past) (b o : ℕ) (n : Length) → is_cached past b ≡ true → IsTrue (reaches b o n c) → IsTrue ((world past).dirty c) → (after_host past (entry.Invalidate b o n) (world past)).value c ≡ Some v → ⊥
      gone past b o n cached r m h = let e : None ≡ Some v = rw (cached, r, m) at h in cc

  pub discards_model : IsModel (with_discards all) (value_before all)
  discards_model = record {
    undefined = base_model.undefined;
    written = λ u c x v h e. ⊎_elim (λ f. absurd (lost_value u c v f.1 e)) (λ b. base_model.written u c x v b e) (how all u c x h);
    kept = λ n c v quiet h. base_model.kept n c v (λ u e. quiet_base all u c (quiet u e)) h;
  }

  -- ---- the caches

  agents : (s u : Task) (m n : Node) → node_at all s.node ≡ Some m → node_at all u.node ≡ Some n → IsTrue (is_host m.act) → IsTrue (is_host n.act) → (caching_of all).agent s ≡ (caching_of all).agent u
  agents s u m n e f h g = same_agent given.paths given.joins all s u m n e f h g

  -- a read and a write after an invalidation
  forgot_read : IsOrdered all → (s u : Task) (c : Byte) (f : Forgot all s c) (y : Accessor given.pieces_together all u (λ n. Contains (reads all n) c)) → s.node < u.node → ((caching_of all).agent s ≡ (caching_of all).agent u) ⊎ Seen (accesses_of all) (caching_of all) s u c
  forgot_read ordered s u c f y lt = ⊎_elim
      (λ host. inl (agents s u f.node y.node f.at y.at (forgot_host s c f) host))
      (λ cmd.
      let low = lower s u f.node y.node f.number y.number lt in
      let earlier = w_earlier all given f.node f.present f.entry f.act c f.lost in
      inr (seen_task given.paths given.joins all s u f.node y.node f.at y.at (forgot_has all s c f) f.present y.present (rw f.act refl) y.is_access (λ b. is_cached ((at_point all y.node y.present).at ∷ (at_point all y.node y.present).past) (resource_at b)) c
      (λ n cn le. same_one all given f.node f.present f.entry f.act c f.lost y.node y.present cmd.0 cmd.1 (omega (arith, earlier, low)) ∙ sym (kept_then all given f.node f.present f.entry f.act c f.lost n cn (omega (arith, earlier, le))))
      (submits_there all ordered)
      (λ n cn le. there_then all given f.node f.present f.entry f.act c f.lost n cn (omega (arith, earlier, le)))
      (λ host. record {
        by = w all given f.node f.present f.entry f.act c f.lost;
        present = w_all all given f.node f.present f.entry f.act c f.lost;
        host = refl;
        wrote = is_in_of c _ (w_writes all given f.node f.present f.entry f.act c f.lost);
        order = inr (given.hosts all (w all given f.node f.present f.entry f.act c f.lost) f.node (w_all all given f.node f.present f.entry f.act c f.lost) f.present refl (forgot_host s c f) earlier);
      })
      (seen_after all given f.node f.present f.entry f.act c f.lost y.node y.present cmd.0 cmd.1 Read y.accessed low)))
      (as_command y.node.act y.is_access)

  forgot_write : (s u : Task) (c : Byte) (f : Forgot all s c) (y : Accessor given.pieces_together all u (λ n. Contains (writes all n) c)) → s.node < u.node → ((caching_of all).agent s ≡ (caching_of all).agent u) ⊎ Available (accesses_of all) (caching_of all) s u c
  forgot_write s u c f y lt = ⊎_elim
      (λ host. inl (agents s u f.node y.node f.at y.at (forgot_host s c f) host))
      (λ cmd.
      let low = lower s u f.node y.node f.number y.number lt in
      let earlier = w_earlier all given f.node f.present f.entry f.act c f.lost in
      inr (available_task given.paths given.joins all s u f.node y.node f.at y.at (forgot_has all s c f) f.present y.present (rw f.act refl) y.is_access (λ b. is_cached ((at_point all y.node y.present).at ∷ (at_point all y.node y.present).past) (resource_at b)) c
      (λ n cn le. same_one all given f.node f.present f.entry f.act c f.lost y.node y.present cmd.0 cmd.1 (omega (arith, earlier, low)) ∙ sym (kept_then all given f.node f.present f.entry f.act c f.lost n cn (omega (arith, earlier, le))))
      (seen_after all given f.node f.present f.entry f.act c f.lost y.node y.present cmd.0 cmd.1 Write y.accessed low)))
      (as_command y.node.act y.is_access)

  -- what comes before a node comes before what that is before
  precedes_on : (p u v : Task) (m n : Node) → node_at all u.node ≡ Some m → node_at all v.node ≡ Some n → Contains (nodes all) m → Contains (nodes all) n → IsTrue (before (nodes all) m n) → Precedes (accesses_of all) p u → Precedes (accesses_of all) p v
  precedes_on p u v m n e f cm cn b h = (h.0, go (node_at all p.node) refl h.1)
    where
      go : (o : Option Node) → node_at all p.node ≡ o → IsTrue (holds o (λ k. holds (node_at all u.node) (λ m. before (nodes all) k m))) → IsTrue (holds o (λ k. holds (node_at all v.node) (λ n. before (nodes all) k n)))
      go None g h = absurd cc
      go (Some k) g h = rw f (given.joins all k m n (node_of all p.node k g).0 cm cn (rw e at h) b)

  -- a command's write before an invalidation is available to the write that it forgets
  write_forgot : (s u : Task) (c : Byte) (f : Forgot all u c) (x : Accessor given.pieces_together all s (λ n. Contains (writes all n) c)) → s.node < u.node → ((caching_of all).agent s ≡ (caching_of all).agent u) ⊎ Available (accesses_of all) (caching_of all) s u c
  write_forgot s u c f x lt = ⊎_elim
      (λ host. inl (agents s u x.node f.node x.at f.at host (forgot_host u c f)))
      (λ cmd. inr (by_write cmd.0 cmd.1))
      (as_command x.node.act x.is_access)
    where
      by_write : (cmd : Cmd) → x.node.act ≡ Runs cmd → Available (accesses_of all) (caching_of all) s u c
      by_write cmd is_x =
          let k : Node = w all given f.node f.present f.entry f.act c f.lost in
          let ck = w_all all given f.node f.present f.entry f.act c f.lost in
          let wk = w_writes all given f.node f.present f.entry f.act c f.lost in
          let earlier = w_earlier all given f.node f.present f.entry f.act c f.lost in
          let first = before_write all given f.node f.present f.entry f.act c f.lost x.node x.present cmd is_x Write x.accessed (lower s u x.node f.node x.number f.number lt) in
          let sk : AtPoint all k = at_point all k ck in
          let apart_hosts : IsTrue (not (is_host x.node.act && is_host k.act)) = rw is_x refl in
          let is_seen = write_is_seen given.stay given.hazards given.visibilities given.hosts given.keeps all given.none x.node k x.present ck first.0 x.is_access refl c apart_hosts (is_in_of c (writes all x.node) x.accessed) wk in
          let has_x = judged_has given.stay given.hazards given.visibilities given.hosts given.keeps all given.none x.node k x.present ck first.0 x.is_access refl c apart_hosts in
          let same = same_cached all sk.newer (sk.at ∷ sk.past) sk.whole (new_ids all given.sound) (live_ids all given.sound) x.node has_x x.is_access c all x.accessed in
          let then_same = λ (n : Node) (cn : Contains (nodes all) n) (le : x.node.number ≤ n.number). same ∙ sym (cached_then all (new_ids all given.sound) (live_ids all given.sound) x.node x.present x.is_access c all x.accessed n cn le) in
          let at_k = node_at_self given.paths given.joins all k ck in
          let av = available_task given.paths given.joins all s (record { node = k.number; index = 0 }) x.node k x.at at_k (has_task all s x.node x.at x.there) x.present ck x.is_access refl (λ b. is_cached (sk.at ∷ sk.past) (resource_at b)) c then_same is_seen in
          record {
            p = av.p;
            available = av.available;
            before = precedes_on av.p (record { node = k.number; index = 0 }) u k f.node at_k f.at ck f.present (given.hosts all k f.node ck f.present refl (forgot_host u c f) earlier) av.before;
          }

  pub discards_cache_free : IsOrdered all → CacheFree (with_discards all) (caching_of all)
  discards_cache_free ordered = record {
    seen_read = λ s u c lt wr r. ⊎_elim
        (λ f. ⊎_elim (λ e. inl e) (λ v. inr (seen_too all s u c v)) (forgot_read ordered s u c f (reader given.pieces_together all u c r) lt))
        (λ b. ⊎_elim (λ e. inl e) (λ v. inr (seen_too all s u c v)) ((base_caches ordered).seen_read s u c lt b r))
        (write_kind all s c wr);
    seen_write = λ s u c lt a b. ⊎_elim (λ e. inl e) (λ v. inr (available_too all s u c v)) (two_writes s u c lt (write_kind all s c a) (write_kind all u c b));
    available_later = λ p u c h. available_later given.paths given.joins all p u c h;
  }
    where
      two_writes : (s u : Task) (c : Byte) → s.node < u.node → Forgot all s c ⊎ Writes (accesses_of all) s c → Forgot all u c ⊎ Writes (accesses_of all) u c → ((caching_of all).agent s ≡ (caching_of all).agent u) ⊎ Available (accesses_of all) (caching_of all) s u c
      two_writes s u c lt (inl f) (inl g) = inl (agents s u f.node g.node f.at g.at (forgot_host s c f) (forgot_host u c g))
      two_writes s u c lt (inl f) (inr b) = forgot_write s u c f (writer given.pieces_together all u c b) lt
      two_writes s u c lt (inr a) (inl g) = write_forgot s u c g (writer given.pieces_together all s c a) lt
      two_writes s u c lt (inr a) (inr b) = (base_caches ordered).seen_write s u c lt a b
