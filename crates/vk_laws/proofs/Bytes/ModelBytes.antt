-- The world's bytes are a model of a trace's tasks.
use Rattle.std.proofs.Common.{◌≡◌, ⊎_elim, ℕ, zero, suc, ◌+◌, List, [], ◌∷◌, ◌++◌, length, Bool, true, false, cond, IsTrue, Option, Some, None, refl, ap, sym, ◌∙◌, subst, arith, slice_get}
use Rattle.std.specs.Prelude.{Contains, ◌==◌, is_none, option_map}
use Rattle.std.specs.List.{find, flat_map}
use Rattle.std.proofs.lemmas.Bool.{cases_lt, and_parts}
use Rattle.vk_model.specs.declared.entry.Entry.{Entry}
use Rattle.vk_model.specs.declared.entry.Entry.TheVariants as entry
use Rattle.vk_model.specs.declared.command.Cmd.{Cmd}
use Rattle.vk_model.specs.World.Bytes.{Byte, in_buffer, same_byte}
use Rattle.vk_model.specs.Trace.Point.{Past, Point, Action, Host, Wait, Run, Signal}
use Rattle.vk_model.specs.World.ByteWrites.{Source, Value, ByteWrite, byte_writes}
use Rattle.vk_model.specs.Run.Pieces.{pieces}
use Rattle.vk_model.specs.World.Effect.{source_value, world}
use Rattle.vk_model.specs.Sync.Node.{Node, Act, Hosts, Waits, Signals, Runs, Depends, nodes, acts, command_acts}
use Rattle.vk_model.specs.declared.rule.Rule.TheVariants as rule
use Rattle.vk_model.specs.Basics.{holds, below}
use Rattle.vk_model.specs.Sync.Edge.{is_host}
use Rattle.vk_model.specs.Sync.Access.{bytes_of, host_reads, is_in}
use Rattle.vk_model.specs.Rules.Hazards.{reads_undefined}
use Rattle.vk_model.specs.Rules.Table.{breaks}
use Rattle.vk_model.specs.Rules.Fault.{IsUnbroken}
use Rattle.vk_model.specs.Laws.{PiecesAreByteWrites, PiecesWriteApart}
use Rattle.vk_laws.specs.Machine.{Task, Reads, Put, Puts, put_value, IsModel}
use Rattle.vk_laws.specs.Tasks.{piece_writes, host_value, task_write, task_read, node_at, by_act, accesses_of}
use Rattle.vk_laws.specs.TraceBytes.{before_node, value_before}
use Rattle.vk_laws.proofs.Accesses.TaskNodes.{node_of}
use Rattle.vk_laws.proofs.EveryOrder.Fresh.{none_unless}
use Rattle.vk_model.proofs.Lists.Members.{member_passes, mapped_from, only_one}
use Rattle.vk_laws.proofs.Nodes.Points.{AtPoint, at_point, comes_at, at_point_below}
use Rattle.vk_laws.proofs.Accesses.HazardFree.{read_act, write_act, value_after, host_put, same_byte_writes, run_once, place, action}
use Rattle.vk_model.proofs.Sync.Numbers.{numbered}
use Rattle.vk_laws.proofs.Nodes.Counts.{count_acts, node_there}
use Rattle.vk_laws.proofs.Nodes.Actions.{runs_or_idle, host_action}
use Rattle.vk_laws.proofs.Bytes.PointSources.{source_at, from_source, point_source}
use Rattle.vk_laws.proofs.Bytes.BeforeNodes.{before_whole, before_inside, settles, undefined_first}
use Rattle.vk_model.proofs.World.BytePlaces.{is_in_from}

-- ---- a byte write among those of the pieces

find_here : {X : Type 0} (f : X → Bool) (xs ys : List X) (x : X) → find f xs ≡ Some x → find f (xs ++ ys) ≡ Some x
find_here f [] ys x e = absurd cc
find_here {X} f (z ∷ xs) ys x e = go (f z) (find_here f xs ys x) e
  where
    go : (b : Bool) → (find f xs ≡ Some x → find f (xs ++ ys) ≡ Some x) → cond b (Some z) (find f xs) ≡ Some x → cond b (Some z) (find f (xs ++ ys)) ≡ Some x
    go true rest e = e
    go false rest e = rest e

find_past : {X : Type 0} (f : X → Bool) (xs ys : List X) → find f xs ≡ None → find f (xs ++ ys) ≡ find f ys
find_past f [] ys e = refl
find_past {X} f (z ∷ xs) ys e = go (f z) (find_past f xs ys) e
  where
    go : (b : Bool) → (find f xs ≡ None → find f (xs ++ ys) ≡ find f ys) → cond b (Some z) (find f xs) ≡ None → cond b (Some z) (find f (xs ++ ys)) ≡ find f ys
    go true rest e = absurd cc
    go false rest e = rest e

find_index : {X : Type 0} (f : X → Bool) (parts : List (List X)) (k : ℕ) (index : List X) (x : X) → slice_get parts k ≡ Some index → find f index ≡ Some x
    → ((l : ℕ) (q : List X) (y : X) → slice_get parts l ≡ Some q → find f q ≡ Some y → l ≡ k) → find f (flat_map (λ p. p) parts) ≡ Some x
find_index f [] k index x at e only = absurd cc
find_index f (p ∷ parts) zero index x at e only = find_here f p (flat_map (λ p. p) parts) x (let same : p ≡ index = cc in ap (find f) same ∙ e)
find_index f (p ∷ parts) (suc k) index x at e only =
    let none = none_unless (find f p) (λ y g. let wrong = only 0 p y refl g in omega arith) in
    find_past f p (flat_map (λ p. p) parts) none ∙ find_index f parts k index x at e (λ l q y at' g. let same = only (suc l) q y at' g in omega arith)

find_nowhere : {X : Type 0} (f : X → Bool) (parts : List (List X)) → ((l : ℕ) (q : List X) → slice_get parts l ≡ Some q → find f q ≡ None) → find f (flat_map (λ p. p) parts) ≡ None
find_nowhere f [] none = refl
find_nowhere f (p ∷ parts) none = find_past f p (flat_map (λ p. p) parts) (none 0 p refl) ∙ find_nowhere f parts (λ l q at. none (suc l) q at)

-- ---- the model

module _ (together : PiecesAreByteWrites) (apart : PiecesWriteApart) (all : Past) (sound : IsUnbroken all) where
  -- a node's act is all that its point does, where it isn't an element
  pub alone : (n : Node) (s : AtPoint all n) → length (acts s.at.action) ≡ 1 → (length (nodes s.past) ≡ n.number) × (length (nodes (s.at ∷ s.past)) ≡ suc n.number)
  alone n s one =
      let low = s.new in
      let e = count_acts s.at (acts s.at.action) (nodes s.past) in
      let lt = at_point_below _ _ s in
      (omega (arith, e, one), omega (arith, e, one))

  pub at_node : (n : Node) (s : AtPoint all n) → before_node all n.number ≡ s.past
  at_node n s =
      let lt = at_point_below _ _ s in
      ap (λ (l : Past). before_node l n.number) s.whole ∙ before_inside s.newer s.past s.at n.number s.new lt

  -- a value after a point's last node is the point's
  after_point : (n : Node) (s : AtPoint all n) (c : Byte) (v : ℕ) → length (nodes (s.at ∷ s.past)) ≡ suc n.number → value_before all (suc n.number) c ≡ Some v → from_source (source_at s.past s.at.action c) (world s.past).value c ≡ Some v
  after_point n s c v end h =
      point_source s.past s.at c v (settles s.newer (s.at ∷ s.past) (suc n.number) c v end (subst (λ (l : Past). value_before l (suc n.number) c ≡ Some v) s.whole h))

  run_source : (n : Node) (cn : Contains (nodes all) n) (x : Cmd) (act : n.act ≡ Runs x) (k : ℕ) (c : Byte) (w : Put) → task_write all (Runs x) k c ≡ Some w → (s : Source) × (w ≡ Puts s) × (source_at (place together apart all sound n cn x act).past (Run x) c ≡ Some s)
  run_source n cn x act k c w h =
      let m = value_after all x k c w h in
      let f : ByteWrite → Bool = λ m. same_byte m.to c in
      let whole : find f (byte_writes all x) ≡ Some m.byte_writer =
      ap (find f) (sym (together all x)) ∙ find_index f (pieces all x) k m.piece m.byte_writer m.at m.first
      (λ l q y at' g. run_once together apart all sound n cn x act l k c (Puts y.source) w (task_puts l q y at' g) h) in
      (m.byte_writer.source, sym m.put, ap (option_map (λ (m : ByteWrite). m.source)) (ap (find f) (sym (same_byte_writes together apart all sound n cn x act)) ∙ whole))
    where
      task_puts : (l : ℕ) (q : List ByteWrite) (y : ByteWrite) → slice_get (pieces all x) l ≡ Some q → find (λ m. same_byte m.to c) q ≡ Some y → task_write all (Runs x) l c ≡ Some (Puts y.source)
      task_puts l q y at e = rw at (rw e refl)

  put_here : (n : Node) (s : AtPoint all n) (c : Byte) (v : ℕ) (w : Put) (source : Source) → w ≡ Puts source → source_at s.past s.at.action c ≡ Some source → length (acts s.at.action) ≡ 1 → value_before all (suc n.number) c ≡ Some v
      → put_value w (value_before all n.number) ≡ Some v
  put_here n s c v w source put is one h =
      let after = subst (λ (o : Option Source). from_source o (world s.past).value c ≡ Some v) is (after_point n s c v (alone n s one).1 h) in
      subst (λ (w : Put). put_value w (value_before all n.number) ≡ Some v) (sym put) (subst (λ (l : Past). source_value (world l).value source ≡ Some v) (sym (at_node n s)) after)

  written_by : (n : Node) (cn : Contains (nodes all) n) (k : ℕ) (c : Byte) (w : Put) (v : ℕ) → task_write all n.act k c ≡ Some w → value_before all (suc n.number) c ≡ Some v → put_value w (value_before all n.number) ≡ Some v
  written_by n cn k c w v h e = go n.act refl h
    where
      s : AtPoint all n
      s = at_point all n cn

      go : (a : Act) → n.act ≡ a → task_write all a k c ≡ Some w → put_value w (value_before all n.number) ≡ Some v
      go (Runs x) act h =
          let d : s.at.action ≡ Run x = action together apart all sound n cn x act in
          let r = run_source n cn x act k c w h in
          let here : Contains (command_acts x) (Runs x) = subst (λ (d : Action). Contains (acts d) (Runs x)) d (subst (λ (a : Act). Contains (acts s.at.action) a) act s.acted) in
          let one : length (command_acts x) ≡ 1 = ⊎_elim (λ o. o.1) (λ i. let e = i.2 in absurd cc) (runs_or_idle x (Runs x) here) in
          put_here n s c v w r.0 r.1 (ap (λ (d : Action). source_at s.past d c) d ∙ r.2) (ap (λ (d : Action). length (acts d)) d ∙ one) e
      go (Hosts x) act h =
          let d = host_action s.at.action x (subst (λ (a : Act). Contains (acts s.at.action) a) act s.acted) in
          let p = host_put all x k c w h in
          put_here n s c v w (Value p.value) (sym p.put) (ap (λ (d : Action). source_at s.past d c) d ∙ ap (option_map Value) p.is) (ap (λ (d : Action). length (acts d)) d) e
      go (Waits q) act h = absurd cc
      go (Signals q) act h = absurd cc
      go (Depends q r) act h = absurd cc

  -- where no task of a node writes a byte its point doesn't
  no_source : (n : Node) (cn : Contains (nodes all) n) (c : Byte) → ((k : ℕ) → task_write all n.act k c ≡ None) → source_at (at_point all n cn).past (at_point all n cn).at.action c ≡ None
  no_source n cn c none = go s.at.action refl
    where
      s : AtPoint all n
      s = at_point all n cn

      acted : (d : Action) → s.at.action ≡ d → Contains (acts d) n.act
      acted d e = subst (λ (d : Action). Contains (acts d) n.act) e s.acted

      unmapped : {A B : Type 0} (f : A → B) (o : Option A) → option_map f o ≡ None → o ≡ None
      unmapped f None h = refl
      unmapped f (Some x) h = absurd cc

      run : (x : Cmd) → n.act ≡ Runs x → source_at s.past (Run x) c ≡ None
      run x act =
          let f : ByteWrite → Bool = λ m. same_byte m.to c in
          let nowhere = find_nowhere f (pieces all x) (λ l q at. unmapped (λ (m : ByteWrite). Puts m.source) (find f q)
          (ap (λ (o : Option (List ByteWrite)). option_map (λ (m : ByteWrite). Puts m.source) (find f (piece_writes o))) (sym at) ∙ subst (λ (a : Act). task_write all a l c ≡ None) act (none l))) in
          ap (option_map (λ (m : ByteWrite). m.source)) (ap (find f) (sym (same_byte_writes together apart all sound n cn x act)) ∙ ap (find f) (sym (together all x)) ∙ nowhere)

      go : (d : Action) → s.at.action ≡ d → source_at s.past d c ≡ None
      go (Host x) e =
          let act = only_one (Hosts x) n.act (acted (Host x) e) in
          ap (option_map Value) (unmapped (λ v. Puts (Value v)) (host_value x c) (subst (λ (a : Act). task_write all a 0 c ≡ None) (sym act) (none 0)))
      go (Wait q) e = refl
      go (Signal q) e = refl
      go (Run x) e = ⊎_elim (λ r. run x r.0) (λ i. ap (λ (ms : List ByteWrite). option_map (λ (m : ByteWrite). m.source) (find (λ m. same_byte m.to c) ms)) (i.3 s.past)) (runs_or_idle x n.act (acted (Run x) e))

  kept_by : (n : Node) (cn : Contains (nodes all) n) (c : Byte) (v : ℕ) → ((k : ℕ) → task_write all n.act k c ≡ None) → value_before all (suc n.number) c ≡ Some v → value_before all n.number c ≡ Some v
  kept_by n cn c v none h =
      let s = at_point all n cn in
      let low = s.new in
      let lt = at_point_below _ _ s in
      subst (λ (l : Past). (world l).value c ≡ Some v) (sym (at_node n s))
      (⊎_elim
      (λ more. subst (λ (l : Past). (world l).value c ≡ Some v) (ap (λ (l : Past). before_node l (suc n.number)) s.whole ∙ before_inside s.newer s.past s.at (suc n.number) (omega arith) more) h)
      (λ end. subst (λ (o : Option Source). from_source o (world s.past).value c ≡ Some v) (no_source n cn c none) (after_point n s c v (omega arith) h))
      (cases_lt (suc n.number) (length (nodes (s.at ∷ s.past)))))

  pub is_model : IsModel (accesses_of all) (value_before all)
  is_model = record {
    undefined = λ c. undefined_first all c;
    written = λ u c w v h e.
        let a = write_act all u c w h in
        let n = node_of all u.node a.0 a.1 in
        subst (λ (k : ℕ). value_before all (suc k) c ≡ Some v → put_value w (value_before all k) ≡ Some v) n.1 (written_by a.0 n.0 u.index c w v a.2) e;
    kept = λ k c v none h. ⊎_elim
        (λ lt.
        let a = node_there (nodes all) k (numbered all) lt in
        let n = node_of all k a.0 a.1 in
        let quiet : (l : ℕ) → task_write all a.0.act l c ≡ None = λ l. subst (λ (o : Option Node). by_act None (λ x. task_write all x l c) o ≡ None) a.1 (none (record { node = k; index = l }) refl) in
        subst (λ (k : ℕ). value_before all (suc k) c ≡ Some v → value_before all k c ≡ Some v) n.1 (kept_by a.0 n.0 c v quiet) h)
        (λ le.
        let whole = before_whole all k le in
        let whole' = before_whole all (suc k) (omega arith) in
        subst (λ (l : Past). (world l).value c ≡ Some v) (whole' ∙ sym whole) h)
        (cases_lt k (length (nodes all)));
  }

  -- ---- what the host reads is defined

  undefined_read : (past : Past) (b o n : ℕ) (c : Byte) → Contains (bytes_of b o n) c → (world past).value c ≡ None → IsTrue (reads_undefined (world past) (entry.Read b o n))
  undefined_read past b o n c h e =
      let k = mapped_from (λ k. in_buffer b (o + k)) (below n) c h in
      member_passes (λ k. is_none ((world past).value (in_buffer b (o + k)))) (below n) k.0 k.1 (ap (λ (b : Byte). is_none ((world past).value b)) k.2 ∙ ap is_none e)

  breaks_read : (s : Past) (p : Point) (x : Entry) → p.action ≡ Host x → IsTrue (reads_undefined (world s) x) → IsTrue (breaks rule.ReadUndefined s p)
  unfolding breaks
  breaks_read s p x e h = rw e h

  pub read_defined : (u : Task) (c : Byte) → Reads (accesses_of all) u c → IsTrue (holds (node_at all u.node) (λ n. is_host n.act)) → (v : ℕ) × (value_before all u.node c ≡ Some v)
  read_defined u c r h =
      let a = read_act all u c r in
      let n = node_of all u.node a.0 a.1 in
      subst (λ (k : ℕ). (v : ℕ) × (value_before all k c ≡ Some v)) n.1 (by_node a.0 n.0 (subst (λ (o : Option Node). IsTrue (holds o (λ n. is_host n.act))) a.1 h) a.2)
    where
      by_entry : (n : Node) (cn : Contains (nodes all) n) (x : Entry) → n.act ≡ Hosts x → IsTrue (is_in c (host_reads x)) → (v : ℕ) × (value_before all n.number c ≡ Some v)
      by_entry n cn (entry.Read b o m) act h = go ((world s.past).value c) refl
        where
          s : AtPoint all n
          s = at_point all n cn

          go : (o : Option ℕ) → (world s.past).value c ≡ o → (v : ℕ) × (value_before all n.number c ≡ Some v)
          go None e = absurd (sound s.past s.at rule.ReadUndefined (
            comes_at _ _ s,
            breaks_read s.past s.at (entry.Read b o m) (host_action s.at.action (entry.Read b o m) (subst (λ (a : Act). Contains (acts s.at.action) a) act s.acted))
                (undefined_read s.past b o m c (is_in_from c (bytes_of b o m) h) e),
          ))
          go (Some v) e = (v, subst (λ (l : Past). (world l).value c ≡ Some v) (sym (at_node n s)) e)
      by_entry n cn _ act h = absurd cc

      by_node : (n : Node) → Contains (nodes all) n → IsTrue (is_host n.act) → IsTrue (task_read all n.act u.index c) → (v : ℕ) × (value_before all n.number c ≡ Some v)
      by_node n cn h r = go n.act refl h r
        where
          go : (a : Act) → n.act ≡ a → IsTrue (is_host a) → IsTrue (task_read all a u.index c) → (v : ℕ) × (value_before all n.number c ≡ Some v)
          go (Hosts x) act h r = by_entry n cn x act (and_parts (u.index == 0) _ r).1
          go (Runs x) act h r = absurd cc
          go (Waits q) act h r = absurd cc
          go (Signals q) act h r = absurd cc
          go (Depends q e) act h r = absurd cc
