-- What a trace's tasks access, their nodes access.
use Rattle.std.proofs.Common.{◌≡◌, inl, inr, ⊎_elim, ℕ, ◌+◌, ◌-◌, ◌<◌, ◌≤◌, List, length, Bool, true, false, cond, ◌&&◌, IsTrue, Option, Some, None, refl, subst, arith, slice_get}
use Rattle.std.specs.Prelude.{Contains, nat_lt, nat_le, ◌==◌, option_map}
use Rattle.std.specs.List.{find, range_with_len}
use Rattle.std.proofs.lemmas.Bool.{eqb-true, leb-true, lt-ltb, and_parts}
use Rattle.std.proofs.lemmas.Option.{slice_get_within}
use Rattle.vk_model.specs.World.Bytes.{Byte, in_buffer, in_image, same_byte}
use Rattle.vk_model.specs.declared.entry.Entry.{Entry}
use Rattle.vk_model.specs.declared.entry.Entry.TheVariants as entry
use Rattle.vk_model.specs.declared.command.Cmd.{Cmd}
use Rattle.vk_model.specs.Trace.Point.{Past}
use Rattle.vk_model.specs.World.ByteWrites.{Value, ByteWrite, byte_writes}
use Rattle.vk_model.specs.Run.Pieces.{pieces}
use Rattle.vk_model.specs.Sync.Node.{Node, Act, Hosts, Waits, Signals, Runs, Depends, nodes}
use Rattle.vk_model.specs.Sync.Access.{origin, origins, targets, bytes_of, host_reads, host_writes, reads_of, writes_of, reads, writes}
use Rattle.vk_model.specs.Laws.{PiecesAreByteWrites}
use Rattle.vk_model.specs.Rules.Table.{fault}
use Rattle.vk_model.specs.Sync.Before.{before}
use Rattle.vk_laws.specs.EveryOrder.{IsSettled}
use Rattle.vk_laws.specs.Machine.{Task, Put, Puts, Writes, Reads, Precedes, Conflict, MayRun, IsAllowed}
use Rattle.vk_laws.specs.Trace.{accesses, AccessesInOrder}
use Rattle.vk_laws.specs.Tasks.{piece_writes, host_value, task_write, task_read, task_count, node_at, by_act, accesses_of}
use Rattle.vk_laws.proofs.Accesses.TaskNodes.{node_of}
use Rattle.vk_model.proofs.Lists.Members.{found, map_has, part_has, chosen_has, chosen_from, numbers_have, none_in}
use Rattle.vk_laws.proofs.EveryOrder.Fresh.{closed}
use Rattle.vk_model.proofs.World.BytePlaces.{byte_same, is_in_from, is_in_of}

-- ---- what tasks access

module _ (together : PiecesAreByteWrites) (all : Past) where
  pub piece_write : (x : Cmd) (k : ℕ) (m : ByteWrite) → Contains (piece_writes (slice_get (pieces all x) k)) m → Contains (byte_writes all x) m
  piece_write x k m c = go (slice_get (pieces all x) k) refl c
    where
      go : (o : Option (List ByteWrite)) → slice_get (pieces all x) k ≡ o → Contains (piece_writes o) m → Contains (byte_writes all x) m
      go None e c = absurd (none_in m c)
      go (Some ms) e c = subst (λ (l : List ByteWrite). Contains l m) (together all x) (part_has (pieces all x) k ms m e c)

  run_writes : (x : Cmd) (k : ℕ) (c : Byte) (w : Put) → task_write all (Runs x) k c ≡ Some w → Contains (targets (byte_writes all x)) c
  run_writes x k c w e = go (find (λ m. same_byte m.to c) (piece_writes (slice_get (pieces all x) k))) refl e
    where
      go : (o : Option ByteWrite) → find (λ m. same_byte m.to c) (piece_writes (slice_get (pieces all x) k)) ≡ o → option_map (λ m. Puts m.source) o ≡ Some w → Contains (targets (byte_writes all x)) c
      go None f e = absurd cc
      go (Some m) f e =
          let h = found (λ m. same_byte m.to c) (piece_writes (slice_get (pieces all x) k)) m f in
          subst (λ (b : Byte). Contains (targets (byte_writes all x)) b) (byte_same m.to c h.1) (map_has (λ m. m.to) (byte_writes all x) m (piece_write x k m h.0))

  host_bytes : (b o n j : ℕ) → o ≤ j → j - o < n → Contains (bytes_of b o n) (in_buffer b j)
  host_bytes b o n j le lt = subst (λ (i : ℕ). Contains (bytes_of b o n) (in_buffer b i)) (let e : o + (0 + (j - o)) ≡ j = omega arith in e) (map_has (λ k. in_buffer b (o + k)) (range_with_len 0 n) (0 + (j - o)) (numbers_have 0 n (j - o) lt))

  pub host_writes_it : (x : Entry) (c : Byte) (v : ℕ) → host_value x c ≡ Some v → Contains (host_writes x) c
  host_writes_it (entry.Write b o bytes) (in_buffer d j) v e = go (b == d) (nat_le o j) refl refl e
    where
      go : (f g : Bool) → (b == d) ≡ f → nat_le o j ≡ g → cond (f && g) (slice_get bytes (j - o)) None ≡ Some v → Contains (bytes_of b o (length bytes)) (in_buffer d j)
      go true true h k e = subst (λ (i : ℕ). Contains (bytes_of b o (length bytes)) (in_buffer i j)) (eqb-true b d h) (host_bytes b o (length bytes) j (leb-true o j k) (slice_get_within bytes (j - o) v e))
      go true false h k e = absurd cc
      go false g h k e = absurd cc
  host_writes_it (entry.Write b o bytes) (in_image i l m x y p) v e = absurd cc
  host_writes_it _ c v e = absurd cc

  writes_it : (a : Act) (q k : ℕ) (c : Byte) (w : Put) → task_write all a k c ≡ Some w → IsTrue (accesses a) × Contains (writes_of all q a) c
  writes_it (Runs x) q k c w e = (refl, run_writes x k c w e)
  writes_it (Hosts x) q k c w e = (refl, go (k == 0) (host_value x c) refl e)
    where
      go : (b : Bool) (o : Option ℕ) → host_value x c ≡ o → cond b (option_map (λ v. Puts (Value v)) o) None ≡ Some w → Contains (host_writes x) c
      go true None f e = absurd cc
      go true (Some v) f e = host_writes_it x c v f
      go false o f e = absurd cc
  writes_it (Waits s) q k c w e = absurd cc
  writes_it (Signals s) q k c w e = absurd cc
  writes_it (Depends r s) q k c w e = absurd cc

  reads_it : (a : Act) (q k : ℕ) (c : Byte) → IsTrue (task_read all a k c) → IsTrue (accesses a) × Contains (reads_of all q a) c
  reads_it (Runs x) q k c h =
      let there = is_in_from c (origins (piece_writes (slice_get (pieces all x) k))) h in
      let m = chosen_from (λ m. origin m.source) (piece_writes (slice_get (pieces all x) k)) c there in
      (refl, chosen_has (λ m. origin m.source) (byte_writes all x) m.0 c (piece_write x k m.0 m.1) m.2)
  reads_it (Hosts x) q k c h = (refl, is_in_from c (host_reads x) (and_parts (k == 0) _ h).1)
  reads_it (Waits s) q k c h = absurd cc
  reads_it (Signals s) q k c h = absurd cc
  reads_it (Depends r s) q k c h = absurd cc

  -- ---- and that there are such tasks

  piece_there : (x : Cmd) (k : ℕ) (m : ByteWrite) → Contains (piece_writes (slice_get (pieces all x) k)) m → IsTrue (nat_lt k (length (pieces all x)))
  piece_there x k m c = go (slice_get (pieces all x) k) refl c
    where
      go : (o : Option (List ByteWrite)) → slice_get (pieces all x) k ≡ o → Contains (piece_writes o) m → IsTrue (nat_lt k (length (pieces all x)))
      go None e c = absurd (none_in m c)
      go (Some ms) e c = lt-ltb k (length (pieces all x)) (slice_get_within (pieces all x) k ms e)

  only_part : (k : ℕ) → (k == 0) ≡ true → IsTrue (nat_lt k 1)
  only_part k h = let e = eqb-true k 0 h in lt-ltb k 1 (omega arith)

  writer_there : (a : Act) (k : ℕ) (c : Byte) (w : Put) → task_write all a k c ≡ Some w → IsTrue (nat_lt k (task_count all a))
  writer_there (Runs x) k c w e = go (find (λ m. same_byte m.to c) (piece_writes (slice_get (pieces all x) k))) refl e
    where
      go : (o : Option ByteWrite) → find (λ m. same_byte m.to c) (piece_writes (slice_get (pieces all x) k)) ≡ o → option_map (λ m. Puts m.source) o ≡ Some w → IsTrue (nat_lt k (length (pieces all x)))
      go None f e = absurd cc
      go (Some m) f e = piece_there x k m (found (λ m. same_byte m.to c) (piece_writes (slice_get (pieces all x) k)) m f).0
  writer_there (Hosts x) k c w e = go (k == 0) refl e
    where
      go : (b : Bool) → (k == 0) ≡ b → cond b (option_map (λ v. Puts (Value v)) (host_value x c)) None ≡ Some w → IsTrue (nat_lt k 1)
      go true f e = only_part k f
      go false f e = absurd cc
  writer_there (Waits s) k c w e = absurd cc
  writer_there (Signals s) k c w e = absurd cc
  writer_there (Depends r s) k c w e = absurd cc

  reader_there : (a : Act) (k : ℕ) (c : Byte) → IsTrue (task_read all a k c) → IsTrue (nat_lt k (task_count all a))
  reader_there (Runs x) k c h =
      let there = is_in_from c (origins (piece_writes (slice_get (pieces all x) k))) h in
      let m = chosen_from (λ m. origin m.source) (piece_writes (slice_get (pieces all x) k)) c there in
      piece_there x k m.0 m.1
  reader_there (Hosts x) k c h = only_part k (and_parts (k == 0) _ h).0
  reader_there (Waits s) k c h = absurd cc
  reader_there (Signals s) k c h = absurd cc
  reader_there (Depends r s) k c h = absurd cc

  -- ---- nodes of tasks

  -- the node of a task, with an access of it
  pub record Accessor (t : Task) (access : Node → Type 0) : Type 0 where
    pub node : Node
    pub at : node_at all t.node ≡ Some node
    pub present : Contains (nodes all) node
    pub number : node.number ≡ t.node
    pub there : IsTrue (nat_lt t.index (task_count all node.act))
    pub is_access : IsTrue (accesses node.act)
    pub accessed : access node

  pub writer : (t : Task) (c : Byte) → Writes (accesses_of all) t c → Accessor t (λ n. Contains (writes all n) c)
  writer t c w = go (node_at all t.node) refl w.1
    where
      go : (o : Option Node) → node_at all t.node ≡ o → by_act None (λ a. task_write all a t.index c) o ≡ Some w.0 → Accessor t (λ n. Contains (writes all n) c)
      go None e h = absurd cc
      go (Some n) e h =
          let f = node_of all t.node n e in
          let both = writes_it n.act n.point.queue t.index c w.0 h in
          record { node = n; at = e; present = f.0; number = f.1; there = writer_there n.act t.index c w.0 h; is_access = both.0; accessed = both.1 }

  pub reader : (t : Task) (c : Byte) → Reads (accesses_of all) t c → Accessor t (λ n. Contains (reads all n) c)
  reader t c r = go (node_at all t.node) refl r
    where
      go : (o : Option Node) → node_at all t.node ≡ o → IsTrue (by_act false (λ a. task_read all a t.index c) o) → Accessor t (λ n. Contains (reads all n) c)
      go None e h = absurd cc
      go (Some n) e h =
          let f = node_of all t.node n e in
          let both = reads_it n.act n.point.queue t.index c h in
          record { node = n; at = e; present = f.0; number = f.1; there = reader_there n.act t.index c h; is_access = both.0; accessed = both.1 }

-- ---- the law

module _ (together : PiecesAreByteWrites) (order : AccessesInOrder) (all : Past) (none : fault all ≡ None) where
  by_nodes : (s u : Task) (m n : Node) → node_at all s.node ≡ Some m → node_at all u.node ≡ Some n → IsTrue (nat_lt s.index (task_count all m.act)) → IsTrue (before (nodes all) m n) → Precedes (accesses_of all) s u
  by_nodes s u m n e f there b = (rw e there, rw (e, f) b)

  pub ordered : (s u : Task) (c : Byte) → s.node < u.node → Conflict (accesses_of all) s u c → Precedes (accesses_of all) s u
  ordered s u c lt meet = ⊎_elim
      (λ wr. let x = writer together all s c wr.0 in let y = reader together all u c wr.1 in
      by_nodes s u x.node y.node x.at y.at x.there (order all x.node y.node c none x.present y.present (let e = x.number in let f = y.number in omega arith) x.is_access y.is_access (inl (is_in_of c _ x.accessed, y.accessed))))
      (λ rest. ⊎_elim
      (λ rw'. let x = reader together all s c rw'.0 in let y = writer together all u c rw'.1 in
      by_nodes s u x.node y.node x.at y.at x.there (order all x.node y.node c none x.present y.present (let e = x.number in let f = y.number in omega arith) x.is_access y.is_access (inr (inl (x.accessed, is_in_of c _ y.accessed)))))
      (λ ww. let x = writer together all s c ww.0 in let y = writer together all u c ww.1 in
      by_nodes s u x.node y.node x.at y.at x.there (order all x.node y.node c none x.present y.present (let e = x.number in let f = y.number in omega arith) x.is_access y.is_access (inr (inr (is_in_of c _ x.accessed, y.accessed)))))
      rest)
      meet

  pub settled : (done : List Task) (next : Task) → IsAllowed (accesses_of all) done → MayRun (accesses_of all) done next → IsSettled (accesses_of all) done next
  settled done next ok may = record {
    earlier = λ s c lt meet. may.after s (ordered s next c lt meet);
    later = λ s c lt meet h. may.fresh (closed (accesses_of all) done ok s next h (ordered next s c lt meet));
  }
