-- The tasks of a trace that the definitions run, and which have happened at a stage.
use Rattle.std.proofs.Common.{◌≡◌, ◌⊎◌, inl, inr, ℕ, ◌+◌, ◌<◌, List, [], length, Bool, true, false, ◌&&◌, ◌||◌, not, IsTrue, Option, Some, None, refl, ap, sym, ◌∙◌, subst, arith}
use Rattle.std.specs.Prelude.{Contains, nat_lt, ◌==◌}
use Rattle.std.specs.List.{list_all}
use Rattle.std.proofs.lemmas.Bool.{eqb-true, eq-eqb, ltb-true, and_parts, or_cases}
use Rattle.vk_model.specs.declared.command.Cmd.{Cmd}
use Rattle.vk_model.specs.declared.entry.Entry.{Entry}
use Rattle.vk_model.specs.declared.entry.Entry.TheVariants as entry
use Rattle.vk_model.specs.Basics.{holds, below}
use Rattle.vk_model.specs.Trace.Point.{Past, Point}
use Rattle.vk_model.specs.Trace.Order.{order}
use Rattle.vk_model.specs.World.ByteWrites.{ByteWrite}
use Rattle.vk_model.specs.Run.Pieces.{pieces}
use Rattle.vk_model.specs.Sync.Node.{Node, Act, Hosts, Waits, Signals, Runs, Depends, Barrier, SetOf, AwaitOf, nodes}
use Rattle.vk_model.specs.Sync.Edge.{edge, is_host, is_submit, same_queue, by_semaphore, pairs, signaled_by, waited_by, host_waits, earlier}
use Rattle.vk_model.specs.Sync.Before.{before}
use Rattle.vk_model.specs.Rules.Fault.{IsSound}
use Rattle.vk_model.specs.Rules.Table.{first_fault}
use Rattle.vk_model.specs.Laws.{BeforeIsPath, BeforeIsTransitive, BeforeLeadsOn, GrowthKeeps, NoFaultIsSound}
use Rattle.vk_model.specs.Run.Runs.{Name, same_name, is_done, node_pieces, is_free, Stage, is_host_wait}
use Rattle.vk_laws.specs.Machine.{Task}
use Rattle.vk_laws.specs.Trace.{accesses}
use Rattle.vk_laws.specs.Tasks.{task_count, node_at, by_act, accesses_of}
use Rattle.vk_laws.specs.DefinedRuns.{is_event, act_happened, has_happened}
use Rattle.vk_laws.proofs.Nodes.Steady.{new_ids, live_ids}
use Rattle.vk_model.proofs.Lists.Members.{map_has, numbers_have, all_passes}
use Rattle.vk_model.proofs.Lists.Truths.{implied}
use Rattle.vk_laws.proofs.Caching.TraceCaches.{never_holds}
use Rattle.vk_model.proofs.Sync.HostActs.{submit_host}
use Rattle.vk_model.proofs.Trace.Growing.{Grows}
use Rattle.vk_laws.proofs.Nodes.Prefixes.{is_old, old_has, same_before, same_pieces}
use Rattle.vk_model.proofs.Sync.Numbers.{number_below, numbered}
use Rattle.vk_model.proofs.Sync.EdgeKinds.{by_kind}

-- ---- names

pub names_same : (x y : Name) → IsTrue (same_name x y) → x ≡ y
names_same x y h = join (eqb-true x.0 y.0 (and_parts _ _ h).0) (eqb-true x.1 y.1 (and_parts _ _ h).1)
  where
    join : x.0 ≡ y.0 → x.1 ≡ y.1 → x ≡ y
    join e f = λ i. (e i, f i)

pub name_itself : (x : Name) → IsTrue (same_name x x)
name_itself x = rw (eq-eqb x.0 x.0 refl, eq-eqb x.1 x.1 refl) refl

-- ---- what leads to a host entry that is no wait

no_pair_host : (a : Act) (x : Entry) → IsTrue (pairs a (Hosts x)) → ⊥
no_pair_host (Runs c) x h = cc
no_pair_host (Hosts y) x h = cc
no_pair_host (Waits s) x h = cc
no_pair_host (Signals s) x h = cc
no_pair_host (Depends Barrier e) x h = cc
no_pair_host (Depends (SetOf v k) e) x h = cc
no_pair_host (Depends (AwaitOf v k) e) x h = cc

waits_none : (x : Entry) → is_host_wait x ≡ false → host_waits x ≡ []
waits_none (entry.Wait ws) e = absurd cc
waits_none _ e = refl

pub edge_to_entry : (ns : List Node) (m n : Node) (x : Entry) → n.act ≡ Hosts x → is_host_wait x ≡ false → IsTrue (edge ns m n) → IsTrue (is_host m.act)
edge_to_entry ns m n x act plain h =
    by_kind ns m n (record {
      host = λ g. from_host (or_cases _ _ g);
      stages = λ g. absurd (no_queue (and_parts _ _ (and_parts _ _ (and_parts _ _ g).0).0).0);
      signal = λ g. absurd (no_queue (and_parts _ _ (and_parts _ _ g).0).0);
      all_commands = λ g. absurd (no_queue (and_parts _ _ g).0);
      pair = λ g. absurd (no_pair_host m.act x (subst (λ (a : Act). IsTrue (pairs m.act a)) act g));
      semaphore = λ g. absurd (no_semaphore g);
    }) h
  where
    from_host : IsTrue (is_host m.act && is_host n.act) ⊎ IsTrue (is_submit m.act && m.point.entry == n.point.entry) → IsTrue (is_host m.act)
    from_host (inl g) = (and_parts _ _ g).0
    from_host (inr g) = submit_host m.act (and_parts _ _ g).0

    no_queue : IsTrue (same_queue m n) → ⊥
    no_queue g =
        let hosts = and_parts (not (is_host m.act) && not (is_host n.act)) (m.point.queue == n.point.queue) g in
        let off : IsTrue (not (is_host n.act)) = (and_parts (not (is_host m.act)) (not (is_host n.act)) hosts.0).1 in
        let on : is_host n.act ≡ true = ap is_host act in
        cc

    no_semaphore : IsTrue (by_semaphore (earlier n ns) m n) → ⊥
    no_semaphore g =
        let none : waited_by n.act ≡ [] = ap waited_by act ∙ waits_none x plain in
        never_holds (signaled_by m.act) (rw none at g)

-- ---- pieces and host entries

pub turned : {a b : Bool} → a ≡ b → IsTrue a → IsTrue b
turned {a = a} {b = b} e h = sym e ∙ h

module _ (all : Past) where
  -- a piece or a host entry
  pub data Kind (v : Task) : Type 0 where
    piece : (n : Node) (c : Cmd) → node_at all v.node ≡ Some n → n.act ≡ Runs c → v.index < length (pieces all c) → Kind v
    hosts : (n : Node) (x : Entry) → node_at all v.node ≡ Some n → n.act ≡ Hosts x → v.index ≡ 0 → Kind v

  pub kind : (v : Task) → IsTrue ((accesses_of all).has v) → is_event all v ≡ false → Kind v
  kind v there plain = go (node_at all v.node) refl there plain
    where
      by_kind : (n : Node) → node_at all v.node ≡ Some n → (a : Act) → n.act ≡ a → IsTrue (nat_lt v.index (task_count all a)) → not (accesses a) ≡ false → Kind v
      by_kind n at (Runs c) e there plain = piece n c at e (ltb-true v.index (length (pieces all c)) there)
      by_kind n at (Hosts x) e there plain = hosts n x at e (let lt = ltb-true v.index 1 there in omega (arith, lt))
      by_kind n at (Waits s) e there plain = absurd cc
      by_kind n at (Signals s) e there plain = absurd cc
      by_kind n at (Depends r d) e there plain = absurd cc

      go : (o : Option Node) → node_at all v.node ≡ o → IsTrue (by_act false (λ a. nat_lt v.index (task_count all a)) o) → holds o (λ n. not (accesses n.act)) ≡ false → Kind v
      go None at there plain = absurd cc
      go (Some n) at there plain = by_kind n at n.act refl there plain

  pub plain_is : (v : Task) (n : Node) → node_at all v.node ≡ Some n → (a : Act) → n.act ≡ a → not (accesses a) ≡ false → is_event all v ≡ false
  plain_is v n at a act e = ap (λ (o : Option Node). holds o (λ n. not (accesses n.act))) at ∙ ap (λ (a : Act). not (accesses a)) act ∙ e

  pub happened_is : (s : Stage) (v : Task) (n : Node) → node_at all v.node ≡ Some n → (a : Act) → n.act ≡ a → has_happened all s v ≡ act_happened s v n a
  happened_is s v n at a act = ap (λ (o : Option Node). holds o (λ n. act_happened s v n n.act)) at ∙ ap (act_happened s v n) act

  pub before_is : (u v : Task) (m n : Node) → node_at all u.node ≡ Some m → node_at all v.node ≡ Some n → (accesses_of all).before u.node v.node ≡ before (nodes all) m n
  before_is u v m n e f =
      ap (λ (o : Option Node). holds o (λ m. holds (node_at all v.node) (λ n. before (nodes all) m n))) e
      ∙ ap (λ (o : Option Node). holds o (λ n. before (nodes all) m n)) f

-- ---- what is known of a trace

-- the laws of the definitions, and that the trace has no fault
pub record Known (t : List Entry) : Type 0 where
  pub paths : BeforeIsPath
  pub joins : BeforeIsTransitive
  pub leads : BeforeLeadsOn
  pub keeps : GrowthKeeps
  pub sound : IsSound t

pub known_of : BeforeIsPath → BeforeIsTransitive → BeforeLeadsOn → GrowthKeeps → NoFaultIsSound → (t : List Entry) → first_fault t ≡ None → Known t
known_of paths joins leads keeps sound t none = record { paths = paths; joins = joins; leads = leads; keeps = keeps; sound = (sound t).0 none }

module _ {t : List Entry} (known : Known t) where
  abbrev all : Past
  all = order t

  pub old_node : (P : Point → Type 0) (past : Past) → Grows P past all → (n : Node) → Contains (nodes all) n → n.number < length (nodes past) → Contains (nodes past) n
  old_node P past g n c lt = is_old known.keeps all g.newer past g.whole n c lt

  pub node_in_all : (P : Point → Type 0) (past : Past) → Grows P past all → (n : Node) → Contains (nodes past) n → Contains (nodes all) n
  node_in_all P past g n c = old_has known.keeps all g.newer past g.whole n c

  pub pieces_same : (P : Point → Type 0) (past : Past) → Grows P past all → (n : Node) (c : Cmd) → Contains (nodes past) n → n.act ≡ Runs c → pieces all c ≡ pieces past c
  pieces_same P past g n c cn act = same_pieces all g.newer past g.whole (new_ids all known.sound) (live_ids all known.sound) n c cn act

  pub before_same : (P : Point → Type 0) (past : Past) → Grows P past all → (m n : Node) → Contains (nodes past) n → before (nodes all) m n ≡ before (nodes past) m n
  before_same P past g m n cn = same_before known.keeps all g.newer past g.whole m n cn

  -- where a node is free in a past, the pieces before it have run
  pub free_done : (P : Point → Type 0) (past : Past) → Grows P past all → (done : List Name) (n : Node) → Contains (nodes past) n → IsTrue (is_free past done n)
      → (m : Node) (c : Cmd) (j : ℕ) → Contains (nodes all) m → m.act ≡ Runs c → j < length (pieces all c) → IsTrue (before (nodes all) m n) → IsTrue (is_done done (m.number, j))
  free_done P past g done n cn free m c j cm act lt b =
      let less = known.leads (nodes all) m n b in
      let size = number_below (nodes past) (numbered past) n cn in
      let old = old_node P past g m cm (omega (arith, less, size)) in
      let runs = all_passes (λ m. not (before (nodes past) m n) || list_all (is_done done) (node_pieces past m m.act)) (nodes past) m free old in
      let all_run = implied (before (nodes past) m n) (list_all (is_done done) (node_pieces past m m.act)) (turned (before_same P past g m n cn) b) runs in
      let runs_each = subst (λ (a : Act). IsTrue (list_all (is_done done) (node_pieces past m a))) act all_run in
      let count : length (pieces all c) ≡ length (pieces past c) = ap (λ (ps : List (List ByteWrite)). length ps) (pieces_same P past g m c old act) in
      let here : Contains (node_pieces past m (Runs c)) (m.number, 0 + j) = map_has (λ k. (m.number, k)) (below (length (pieces past c))) (0 + j) (numbers_have 0 (length (pieces past c)) j (omega (arith, lt, count))) in
      subst (λ (k : ℕ). IsTrue (is_done done (m.number, k))) (let same : 0 + j ≡ j = omega arith in same)
      (all_passes (is_done done) (node_pieces past m (Runs c)) (m.number, 0 + j) runs_each here)
