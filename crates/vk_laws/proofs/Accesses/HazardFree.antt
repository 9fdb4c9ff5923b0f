-- A trace without a fault is free of hazards, as the machine asks it.
use Rattle.std.proofs.Common.{◌≡◌, ⊎_elim, ℕ, List, Bool, true, false, cond, ◌||◌, IsTrue, Option, Some, None, refl, ap, sym, ◌∙◌, subst, slice_get, eq-or-lt_of_le}
use Rattle.std.specs.Prelude.{Contains, ◌==◌, option_map}
use Rattle.std.specs.List.{find}
use Rattle.std.proofs.lemmas.Bool.{eqb-true, cases_lt, false_from_ne_true, and_parts}
use Rattle.vk_model.specs.declared.entry.Entry.{Entry}
use Rattle.vk_model.specs.declared.entry.Entry.TheVariants as entry
use Rattle.vk_model.specs.declared.command.Cmd.{Cmd}
use Rattle.vk_model.specs.declared.rule.Rule.TheVariants as rule
use Rattle.vk_model.specs.Basics.{holds, some_pair}
use Rattle.vk_model.specs.World.Bytes.{Byte, same_byte}
use Rattle.vk_model.specs.Trace.Point.{Past, Action, Run, host_of, command_of}
use Rattle.vk_model.specs.World.ByteWrites.{Value, From, ByteWrite, byte_writes}
use Rattle.vk_model.specs.Run.Pieces.{pieces}
use Rattle.vk_model.specs.Sync.Node.{Node, Act, Hosts, Waits, Signals, Runs, Depends, nodes, acts}
use Rattle.vk_model.specs.Sync.Access.{is_in, origin, origins, targets, host_reads}
use Rattle.vk_model.specs.Rules.Ranges.{command_overlaps, lists_twice}
use Rattle.vk_model.specs.Rules.Table.{breaks, fault}
use Rattle.vk_model.specs.Rules.Fault.{Comes, IsUnbroken}
use Rattle.vk_model.specs.Laws.{PiecesAreByteWrites, PiecesWriteApart, write_common}
use Rattle.vk_laws.specs.Machine.{Task, Put, Puts, Reads, HazardFree}
use Rattle.vk_laws.specs.Trace.{AccessesInOrder}
use Rattle.vk_laws.specs.Tasks.{piece_writes, host_value, task_write, task_read, node_at, by_act, accesses_of}
use Rattle.vk_laws.proofs.Accesses.TaskNodes.{node_of, same_task}
use Rattle.vk_model.proofs.Lists.Members.{member_passes, found, map_has, chosen_has, chosen_from}
use Rattle.vk_laws.proofs.Nodes.Steady.{kept_writes, kept_pieces, new_ids, live_ids}
use Rattle.vk_laws.proofs.Nodes.Points.{AtPoint, at_point, action_of, comes_at}
use Rattle.vk_laws.proofs.Accesses.TaskAccesses.{piece_write, ordered}
use Rattle.vk_laws.proofs.Accesses.Apart.{pair_of, no_overlap}
use Rattle.vk_model.proofs.World.BytePlaces.{byte_same, is_in_of, is_in_from}

-- ---- what a task does

module _ (all : Past) where
  -- the node of a task that writes, and of one that reads
  pub write_act : (t : Task) (c : Byte) (w : Put) → (accesses_of all).write_of t c ≡ Some w → (n : Node) × (node_at all t.node ≡ Some n) × (task_write all n.act t.index c ≡ Some w)
  write_act t c w h = go (node_at all t.node) refl h
    where
      go : (o : Option Node) → node_at all t.node ≡ o → by_act None (λ a. task_write all a t.index c) o ≡ Some w → (n : Node) × (node_at all t.node ≡ Some n) × (task_write all n.act t.index c ≡ Some w)
      go None e h = absurd cc
      go (Some n) e h = (n, e, h)

  pub read_act : (t : Task) (c : Byte) → Reads (accesses_of all) t c → (n : Node) × (node_at all t.node ≡ Some n) × IsTrue (task_read all n.act t.index c)
  read_act t c h = go (node_at all t.node) refl h
    where
      go : (o : Option Node) → node_at all t.node ≡ o → IsTrue (by_act false (λ a. task_read all a t.index c) o) → (n : Node) × (node_at all t.node ≡ Some n) × IsTrue (task_read all n.act t.index c)
      go None e h = absurd cc
      go (Some n) e h = (n, e, h)

  -- a byte write of a piece
  pub record Moved (x : Cmd) (k : ℕ) (c : Byte) (w : Put) : Type 0 where
    pub piece : List ByteWrite
    pub at : slice_get (pieces all x) k ≡ Some piece
    pub byte_writer : ByteWrite
    pub first : find (λ m. same_byte m.to c) piece ≡ Some byte_writer
    pub put : Puts byte_writer.source ≡ w

  pub value_after : (x : Cmd) (k : ℕ) (c : Byte) (w : Put) → task_write all (Runs x) k c ≡ Some w → Moved x k c w
  value_after x k c w h = go (slice_get (pieces all x) k) refl h
    where
      by_write : (ps : List ByteWrite) → slice_get (pieces all x) k ≡ Some ps → (o : Option ByteWrite) → find (λ m. same_byte m.to c) ps ≡ o → option_map (λ m. Puts m.source) o ≡ Some w → Moved x k c w
      by_write ps at None f h = absurd cc
      by_write ps at (Some m) f h = record { piece = ps; at = at; byte_writer = m; first = f; put = let e : Puts m.source ≡ w = cc in e }

      go : (o : Option (List ByteWrite)) → slice_get (pieces all x) k ≡ o → option_map (λ m. Puts m.source) (find (λ m. same_byte m.to c) (piece_writes o)) ≡ Some w → Moved x k c w
      go None at h = absurd cc
      go (Some ps) at h = by_write ps at (find (λ m. same_byte m.to c) ps) refl h

  pub written_to : (x : Cmd) (k : ℕ) (c : Byte) (w : Put) (m : Moved x k c w) → Contains m.piece m.byte_writer × (m.byte_writer.to ≡ c)
  written_to x k c w m = let f = found (λ m. same_byte m.to c) m.piece m.byte_writer m.first in (f.0, byte_same m.byte_writer.to c f.1)

  pub record HostPut (x : Entry) (k : ℕ) (c : Byte) (w : Put) : Type 0 where
    pub only : k ≡ 0
    pub value : ℕ
    pub is : host_value x c ≡ Some value
    pub put : Puts (Value value) ≡ w

  pub host_put : (x : Entry) (k : ℕ) (c : Byte) (w : Put) → task_write all (Hosts x) k c ≡ Some w → HostPut x k c w
  host_put x k c w h = go (k == 0) (host_value x c) refl refl h
    where
      go : (b : Bool) (o : Option ℕ) → (k == 0) ≡ b → host_value x c ≡ o → cond b (option_map (λ v. Puts (Value v)) o) None ≡ Some w → HostPut x k c w
      go true None e f h = absurd cc
      go true (Some v) e f h = record { only = eqb-true k 0 e; value = v; is = f; put = let g : Puts (Value v) ≡ w = cc in g }
      go false o e f h = absurd cc

-- no host entry reads and writes
host_apart : (x : Entry) (c : Byte) (v : ℕ) → host_value x c ≡ Some v → IsTrue (is_in c (host_reads x)) → ⊥
host_apart (entry.Write b o bytes) c v h r = cc
host_apart _ c v h r = cc

module _ (together : PiecesAreByteWrites) (apart : PiecesWriteApart) (all : Past) (sound : IsUnbroken all) where
  -- ---- a command of the trace

  module _ (n : Node) (cn : Contains (nodes all) n) (x : Cmd) (act : n.act ≡ Runs x) where
    abbrev pub place : AtPoint all n
    place = at_point all n cn

    pub action : place.at.action ≡ Run x
    action = action_of place.at.action x (subst (λ (a : Act). Contains (acts place.at.action) a) act place.acted)

    pub comes : Comes all place.past place.at
    comes = comes_at _ _ place

    pub same_byte_writes : byte_writes all x ≡ byte_writes place.past x
    same_byte_writes = kept_writes all place.newer place.past place.at x place.whole action (new_ids all sound) (live_ids all sound)

    same_pieces : pieces all x ≡ pieces place.past x
    same_pieces = kept_pieces all place.newer place.past place.at x place.whole action (new_ids all sound) (live_ids all sound)

    no_overlaps : IsTrue (command_overlaps place.past x) → ⊥
    unfolding breaks
    no_overlaps h = sound place.past place.at rule.Overlap (comes, subst (λ (d : Action). IsTrue (holds (host_of d) lists_twice || holds (command_of d) (command_overlaps place.past))) (sym action) h)

    pub written_once : some_pair write_common (pieces all x) ≡ false
    written_once =
        ap (some_pair write_common) same_pieces
        ∙ apart place.past place.at x action (false_from_ne_true _ (λ h. sound place.past place.at rule.Overlap (comes, h))) (false_from_ne_true _ (λ h. sound place.past place.at rule.Range (comes, h)))

    run_apart : (k l : ℕ) (c : Byte) (w : Put) → task_write all (Runs x) k c ≡ Some w → IsTrue (task_read all (Runs x) l c) → ⊥
    run_apart k l c w h r =
        let m = value_after all x k c w h in
        let to = written_to all x k c w m in
        let here = piece_write together all x k m.byte_writer (subst (λ (o : Option (List ByteWrite)). Contains (piece_writes o) m.byte_writer) (sym m.at) to.0) in
        let f = chosen_from (λ m. origin m.source) (piece_writes (slice_get (pieces all x) l)) c (is_in_from c (origins (piece_writes (slice_get (pieces all x) l))) r) in
        let there = piece_write together all x l f.0 f.1 in
        no_overlap place.past x c no_overlaps
        (m.byte_writer, subst (λ (ms : List ByteWrite). Contains ms m.byte_writer) same_byte_writes here, to.1)
        (f.0, subst (λ (ms : List ByteWrite). Contains ms f.0) same_byte_writes there, f.2)

    common : (p q : List ByteWrite) (c : Byte) → Contains (targets p) c → Contains (targets q) c → IsTrue (write_common p q)
    common p q c cp cq = member_passes (λ b. is_in b (targets q)) (targets p) c cp (is_in_of c (targets q) cq)

    pub run_once : (k l : ℕ) (c : Byte) (w u : Put) → task_write all (Runs x) k c ≡ Some w → task_write all (Runs x) l c ≡ Some u → k ≡ l
    run_once k l c w u h g =
        let m = value_after all x k c w h in
        let n = value_after all x l c u g in
        let to = written_to all x k c w m in
        let to' = written_to all x l c u n in
        let at = subst (λ (b : Byte). Contains (targets m.piece) b) to.1 (map_has (λ m. m.to) m.piece m.byte_writer to.0) in
        let at' = subst (λ (b : Byte). Contains (targets n.piece) b) to'.1 (map_has (λ m. m.to) n.piece n.byte_writer to'.0) in
        ⊎_elim
        (λ lt. absurd (clash (pair_of write_common (pieces all x) k l m.piece n.piece m.at n.at lt (common m.piece n.piece c at at'))))
        (λ le. ⊎_elim (λ e. sym e) (λ lt. absurd (clash (pair_of write_common (pieces all x) l k n.piece m.piece n.at m.at lt (common n.piece m.piece c at' at)))) (eq-or-lt_of_le le))
        (cases_lt k l)
      where
        clash : IsTrue (some_pair write_common (pieces all x)) → ⊥
        clash e = let f = written_once in cc

  -- ---- the tasks of any act

  index_apart : (n : Node) → Contains (nodes all) n → (k l : ℕ) (c : Byte) (w : Put) → task_write all n.act k c ≡ Some w → IsTrue (task_read all n.act l c) → ⊥
  index_apart n cn k l c w h r = go n.act refl h r
    where
      go : (a : Act) → n.act ≡ a → task_write all a k c ≡ Some w → IsTrue (task_read all a l c) → ⊥
      go (Runs x) e h r = run_apart n cn x e k l c w h r
      go (Hosts x) e h r = let p = host_put all x k c w h in host_apart x c p.value p.is (and_parts (l == 0) _ r).1
      go (Waits s) e h r = cc
      go (Signals s) e h r = cc
      go (Depends q s) e h r = cc

  pub index_once : (n : Node) → Contains (nodes all) n → (k l : ℕ) (c : Byte) (w u : Put) → task_write all n.act k c ≡ Some w → task_write all n.act l c ≡ Some u → k ≡ l
  index_once n cn k l c w u h g = go n.act refl h g
    where
      go : (a : Act) → n.act ≡ a → task_write all a k c ≡ Some w → task_write all a l c ≡ Some u → k ≡ l
      go (Runs x) e h g = run_once n cn x e k l c w u h g
      go (Hosts x) e h g = (host_put all x k c w h).only ∙ sym (host_put all x l c u g).only
      go (Waits s) e h g = absurd cc
      go (Signals s) e h g = absurd cc
      go (Depends q s) e h g = absurd cc

  task_source : (a : Act) (k : ℕ) (c d : Byte) → task_write all a k c ≡ Some (Puts (From d)) → IsTrue (task_read all a k d)
  task_source (Runs x) k c d h =
      let m = value_after all x k c (Puts (From d)) h in
      let to = written_to all x k c (Puts (From d)) m in
      let from : m.byte_writer.source ≡ From d = let e = m.put in cc in
      subst (λ (o : Option (List ByteWrite)). IsTrue (is_in d (origins (piece_writes o)))) (sym m.at)
      (is_in_of d (origins m.piece) (chosen_has (λ m. origin m.source) m.piece m.byte_writer d to.0 (ap origin from)))
  task_source (Hosts x) k c d h = let p = host_put all x k c (Puts (From d)) h in let e = p.put in absurd cc
  task_source (Waits s) k c d h = absurd cc
  task_source (Signals s) k c d h = absurd cc
  task_source (Depends q s) k c d h = absurd cc

  -- ---- the law's first premise

  same_node_act : (k l : ℕ) (m n : Node) → k ≡ l → node_at all k ≡ Some m → node_at all l ≡ Some n → m ≡ n
  same_node_act k l m n e f g = let h : node_at all k ≡ node_at all l = ap (node_at all) e in cc

  pub hazard_free : AccessesInOrder → fault all ≡ None → HazardFree (accesses_of all)
  hazard_free order none = record {
    ordered = ordered together order all none;
    apart = λ s u c same w r.
        let a = write_act all s c w.0 w.1 in
        let b = read_act all u c r in
        let one = same_node_act s.node u.node a.0 b.0 same a.1 b.1 in
        index_apart a.0 (node_of all s.node a.0 a.1).0 s.index u.index c w.0 a.2 (subst (λ (n : Node). IsTrue (task_read all n.act u.index c)) (sym one) b.2);
    single = λ s u c same w v.
        let a = write_act all s c w.0 w.1 in
        let b = write_act all u c v.0 v.1 in
        let one = same_node_act s.node u.node a.0 b.0 same a.1 b.1 in
        same_task s u same (index_once a.0 (node_of all s.node a.0 a.1).0 s.index u.index c w.0 v.0 a.2 (subst (λ (n : Node). task_write all n.act u.index c ≡ Some v.0) (sym one) b.2));
    source_read = λ s c d h.
        let a = write_act all s c (Puts (From d)) h in
        subst (λ (o : Option Node). IsTrue (by_act false (λ a. task_read all a s.index d) o)) (sym a.1) (task_source a.0.act s.index c d a.2);
  }
