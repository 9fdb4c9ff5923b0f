-- The piece that wrote a byte last, by the definitions and in the machine.
use Rattle.std.proofs.Common.{◌≡◌, ℕ, ◌<◌, List, [], ◌∷◌, length, Bool, true, false, cond, ◌&&◌, Option, Some, None, refl, ap, sym, ◌∙◌, subst, slice_get}
use Rattle.std.specs.Prelude.{Contains, ◌==◌, option_map, option_and_then}
use Rattle.std.specs.List.{find}
use Rattle.std.proofs.lemmas.Bool.{and_right}
use Rattle.vk_model.specs.declared.command.Cmd.{Cmd}
use Rattle.vk_model.specs.declared.entry.Entry.{Entry}
use Rattle.vk_model.specs.Basics.{holds}
use Rattle.vk_model.specs.World.Bytes.{Byte}
use Rattle.vk_model.specs.Trace.Point.{Past, Point}
use Rattle.vk_model.specs.Trace.Order.{order}
use Rattle.vk_model.specs.World.ByteWrites.{ByteWrite}
use Rattle.vk_model.specs.Run.Pieces.{pieces}
use Rattle.vk_model.specs.Run.Runs.{Name}
use Rattle.vk_model.specs.Run.CachedRuns.{numbered, piece_of, named_piece, write_to, last_writer}
use Rattle.vk_model.specs.Sync.Node.{Node, Act, Runs, nodes}
use Rattle.vk_laws.specs.Machine.{Task, Put, Puts, TraceAccesses, newest, latest}
use Rattle.vk_laws.specs.Tasks.{piece_writes, task_write, node_at, by_act}
use Rattle.vk_laws.specs.Discards.{forgets, or_unknown, with_discards}
use Rattle.vk_laws.specs.DefinedRuns.{piece_task}
use Rattle.vk_laws.proofs.Caching.TraceCaches.{node_at_self}
use Rattle.vk_laws.proofs.Nodes.Prefixes.{has_more}
use Rattle.vk_model.proofs.Lists.Members.{contains-tail, contains-head, found}
use Rattle.vk_model.proofs.Trace.Growing.{Grows}
use Rattle.vk_laws.proofs.Running.StageTasks.{Known, node_in_all, pieces_same}

-- a test that is the same on each item of a list finds the same one
find_same : {X : Type 0} (f g : X → Bool) (xs : List X) → ((x : X) → Contains xs x → f x ≡ g x) → find f xs ≡ find g xs
find_same f g [] same = refl
find_same {X} f g (x ∷ xs) same =
    ap (λ (b : Bool). cond b (Some x) (find f xs)) (same x (contains-head x xs)) ∙ ap (λ (o : Option X). cond (g x) (Some x) o) (find_same f g xs (λ y c. same y (contains-tail x xs y c)))

piece_list : (o : Option (List ByteWrite)) → elim o [ None ↦ [] | Some ms ↦ ms ] ≡ piece_writes o
piece_list None = refl
piece_list (Some ms) = refl

-- the byte writes of the piece of a node
pub piece_is : (past : Past) (y : Name) (n : Node) (x : Cmd) → node_at past y.0 ≡ Some n → n.act ≡ Runs x → named_piece past y ≡ piece_writes (slice_get (pieces past x) y.1)
piece_is past y n x at act =
    ap (λ (o : Option Node). elim (option_and_then (λ n. piece_of past n.act y.1) o) [ None ↦ [] | Some ms ↦ ms ]) at
    ∙ ap (λ (a : Act). elim (piece_of past a y.1) [ None ↦ [] | Some ms ↦ ms ]) act
    ∙ piece_list (slice_get (pieces past x) y.1)

module _ (all : Past) where
  abbrev tr : TraceAccesses
  tr = with_discards all

  -- a task of another act than a host entry's forgets nothing
  plain_write : (u : Task) (n : Node) (c : Byte) → node_at all u.node ≡ Some n → ((c : Byte) → forgets all u.node n.act c ≡ false) → tr.write_of u c ≡ task_write all n.act u.index c
  plain_write u n c at quiet =
      ap (λ (o : Option Node). or_unknown (u.index == 0 && by_act false (λ a. forgets all u.node a c) o) (by_act None (λ a. task_write all a u.index c) o)) at
      ∙ ap (λ (b : Bool). or_unknown b (task_write all n.act u.index c)) (and_right (u.index == 0) (forgets all u.node n.act c) (quiet c))

  run_quiet : (u : Task) (a : Act) (x : Cmd) → a ≡ Runs x → (c : Byte) → forgets all u.node a c ≡ false
  run_quiet u a x e c = rw e refl

  -- what a piece writes
  pub piece_write : (y : Name) (n : Node) (x : Cmd) (c : Byte) → node_at all y.0 ≡ Some n → n.act ≡ Runs x → tr.write_of (piece_task y) c ≡ option_map (λ m. Puts m.source) (write_to c (named_piece all y))
  piece_write y n x c at act =
      plain_write (piece_task y) n c at (run_quiet (piece_task y) n.act x act)
      ∙ ap (λ (a : Act). task_write all a y.1 c) act
      ∙ ap (λ (ms : List ByteWrite). option_map (λ m. Puts m.source) (write_to c ms)) (sym (piece_is all y n x at act))

  abbrev pub writes_to : Byte → Name → Bool
  writes_to c y = holds (write_to c (named_piece all y)) (λ m. true)

  -- where a piece wrote the byte last, it's the newest of those that have run and write it
  abbrev pub Last : List Name → List Task → Type 0
  Last names done = (c : Byte) (w : Task) (n : Node) (x : Cmd) → latest tr c done ≡ Some w → node_at all w.node ≡ Some n → n.act ≡ Runs x → find (writes_to c) names ≡ Some (w.node, w.index)

  pub last_start : Last [] []
  last_start c w n x e at act = absurd cc

  -- a host entry or an event comes
  pub last_other : (names : List Name) (done : List Task) (u : Task) (k : Node) → Last names done → node_at all u.node ≡ Some k → ((x : Cmd) → k.act ≡ Runs x → ⊥) → Last names (u ∷ done)
  last_other names done u k last at_u other c w n x e at act = go (tr.write_of u c) e
    where
      go : (o : Option Put) → newest o u (latest tr c done) ≡ Some w → find (writes_to c) names ≡ Some (w.node, w.index)
      go None e = last c w n x e at act
      go (Some p) e =
          let same : u ≡ w = cc in
          let one : Some k ≡ Some n = sym at_u ∙ ap (λ (v : Task). node_at all v.node) same ∙ at in
          let node : k ≡ n = cc in absurd (other x (ap (λ (m : Node). m.act) node ∙ act))

  -- a piece runs
  pub last_piece : (names : List Name) (done : List Task) (y : Name) (k : Node) (z : Cmd) → Last names done → node_at all y.0 ≡ Some k → k.act ≡ Runs z → Last (y ∷ names) (piece_task y ∷ done)
  last_piece names done y k z last at_y act_y c w n x e at act =
      go (write_to c (named_piece all y)) (subst (λ (o : Option Put). newest o (piece_task y) (latest tr c done) ≡ Some w) (piece_write y k z c at_y act_y) e)
    where
      go : (o : Option ByteWrite) → newest (option_map (λ m. Puts m.source) o) (piece_task y) (latest tr c done) ≡ Some w → cond (holds o (λ m. true)) (Some y) (find (writes_to c) names) ≡ Some (w.node, w.index)
      go None e = last c w n x e at act
      go (Some m) e = let same : piece_task y ≡ w = cc in ap (λ (v : Task). Some (v.node, v.index)) same

-- ---- among those of a stage

module _ {t : List Entry} (known : Known t) where
  abbrev whole : Past
  whole = order t

  -- a piece of a command of a past
  pub record IsNamed (past : Past) (y : Name) : Type 0 where
    pub node : Node
    pub command : Cmd
    pub present : Contains (nodes past) node
    pub number : node.number ≡ y.0
    pub act : node.act ≡ Runs command
    pub within : y.1 < length (pieces whole command)

  module _ (P : Point → Type 0) (past : Past) (g : Grows P past whole) (y : Name) (i : IsNamed past y) where
    pub named_at : node_at whole y.0 ≡ Some i.node
    named_at = subst (λ (k : ℕ). node_at whole k ≡ Some i.node) i.number (node_at_self known.paths known.joins whole i.node (node_in_all known P past g i.node i.present))

    pub named_at_past : node_at past y.0 ≡ Some i.node
    named_at_past = subst (λ (k : ℕ). node_at past k ≡ Some i.node) i.number (node_at_self known.paths known.joins past i.node i.present)

    pub named_same : named_piece past y ≡ named_piece whole y
    named_same =
        piece_is past y i.node i.command named_at_past i.act
        ∙ ap (λ (ps : List (List ByteWrite)). piece_writes (slice_get ps y.1)) (sym (pieces_same known P past g i.node i.command i.present i.act))
        ∙ sym (piece_is whole y i.node i.command named_at i.act)

  pub named_later : (P : Point → Type 0) (past newer : Past) → Grows P past newer → (y : Name) → IsNamed past y → IsNamed newer y
  named_later P past newer g y i = record {
    node = i.node;
    command = i.command;
    present = subst (λ (l : Past). Contains (nodes l) i.node) (sym g.whole) (has_more known.keeps g.newer past i.node i.present);
    number = i.number;
    act = i.act;
    within = i.within;
  }

  -- so the definitions' last writer is the machine's
  pub writer_found : (P : Point → Type 0) (past : Past) → Grows P past whole → (names : List Name) (done : List Task) → ((y : Name) → Contains names y → IsNamed past y) → Last whole names done
      → (c : Byte) (w : Task) (n : Node) (x : Cmd) → latest (with_discards whole) c done ≡ Some w → node_at whole w.node ≡ Some n → n.act ≡ Runs x → (last_writer past names c ≡ Some n) × Contains (nodes past) n
  writer_found P past g names done each last c w n x e at act =
      let is = last c w n x e at act in
      let there = (found (writes_to whole c) names (w.node, w.index) is).0 in
      let i = each (w.node, w.index) there in
      let one : Some i.node ≡ Some n = sym (named_at P past g (w.node, w.index) i) ∙ at in
      let node : i.node ≡ n = cc in
      let same = find_same (λ y. holds (write_to c (named_piece past y)) (λ m. true)) (writes_to whole c) names (λ y h. ap (λ (ms : List ByteWrite). holds (write_to c ms) (λ m. true)) (named_same P past g y (each y h))) in (
        ap (λ (o : Option Name). option_and_then (λ y. numbered past y.0) o) (same ∙ is) ∙ named_at_past P past g (w.node, w.index) i ∙ ap Some node,
        subst (λ (k : Node). Contains (nodes past) k) node i.present,
      )
