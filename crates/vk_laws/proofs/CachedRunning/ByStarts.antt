-- What a node writes back is what the commands that have started tell.
use Rattle.std.proofs.Common.{◌≡◌, ⊎_elim, ℕ, suc, ◌<◌, ◌≤◌, List, [], ◌∷◌, length, Bool, true, false, cond, ◌&&◌, ◌||◌, not, IsTrue, Option, Some, None, refl, ap, sym, ◌∙◌, subst, arith, eq-or-lt_of_le, slice_get}
use Rattle.std.specs.Prelude.{Contains, nat_lt, option_map, if◌then◌else◌}
use Rattle.std.specs.List.{find}
use Rattle.std.proofs.lemmas.Bool.{eq-eqb, ltb-true, lt-ltb, and_parts, and_from, cases_lt, false_from_ne_true}
use Rattle.vk_model.specs.declared.command.Cmd.{Cmd}
use Rattle.vk_model.specs.declared.entry.Entry.{Entry}
use Rattle.vk_model.specs.Basics.{holds}
use Rattle.vk_model.specs.World.Bytes.{Byte, same_byte}
use Rattle.vk_model.specs.World.ByteWrites.{ByteWrite, byte_writes}
use Rattle.vk_model.specs.Trace.Point.{Past, Point}
use Rattle.vk_model.specs.Trace.Order.{order}
use Rattle.vk_model.specs.Run.Pieces.{pieces}
use Rattle.vk_model.specs.Run.Caches.{Held, Clean, Dirty, Cell, queue_agent, written_back_if, written_back, dropped}
use Rattle.vk_model.specs.Run.Runs.{Name, same_name, Stage}
use Rattle.vk_model.specs.Run.CachedRuns.{Cells, numbered, named_piece, write_to, last_writer, is_synchronization, makes_last_available, makes_byte_visible, after_node}
use Rattle.vk_model.specs.Sync.Node.{Node, Act, Hosts, Waits, Signals, Runs, Depends, nodes}
use Rattle.vk_model.specs.Sync.Edge.{edge, is_host}
use Rattle.vk_model.specs.Sync.Seen.{makes_writes_available, available_by}
use Rattle.vk_model.specs.Laws.{PiecesAreByteWrites}
use Rattle.vk_laws.specs.Machine.{Task, Puts, IsIn, Writes, latest}
use Rattle.vk_laws.specs.Caches.{Reached}
use Rattle.vk_laws.specs.Tasks.{node_at, accesses_of, piece_writes, by_act, task_count, task_write}
use Rattle.vk_laws.specs.Discards.{with_discards}
use Rattle.vk_laws.specs.TraceCaches.{caching_of}
use Rattle.vk_laws.specs.DefinedRuns.{piece_task}
use Rattle.vk_laws.specs.WriteBacks.{follows_commands, frees_byte, act_writes, is_overtaken, after_node_by_starts}
use Rattle.vk_model.proofs.Lists.Members.{none_in, contains-cons, flat_from, member_passes, some_member, found}
use Rattle.vk_model.proofs.Lists.Truths.{clash}
use Rattle.vk_model.proofs.Sync.Numbers.{unique}
use Rattle.vk_model.proofs.Sync.Numbers.{numbered as nodes_numbered}
use Rattle.vk_model.proofs.Trace.Growing.{Grows}
use Rattle.vk_laws.proofs.Running.Stages.{From, Placed, later}
use Rattle.vk_laws.proofs.Running.StageTasks.{turned, plain_is, happened_is, name_itself, Known, pieces_same}
use Rattle.vk_laws.proofs.CachedRunning.LastWriters.{piece_is, writes_to, Last, IsNamed, named_at, named_at_past, named_same, writer_found}
use Rattle.vk_laws.proofs.CachedRunning.NodesHappened.{Plain}
use Rattle.vk_laws.proofs.Caching.LatestWrites.{OnQueue, on_queue, same_write}
use Rattle.vk_laws.proofs.Caching.TraceCaches.{agent_is}
use Rattle.vk_laws.proofs.Accesses.TaskNodes.{node_of, has_task}
use Rattle.vk_laws.proofs.Accesses.TaskAccesses.{piece_write}
use Rattle.vk_laws.proofs.EveryOrder.Fresh.{latest_in}

-- ---- lists

-- where a member is
place_of : {X : Type 0} (xs : List X) (x : X) → Contains xs x → (k : ℕ) × (slice_get xs k ≡ Some x)
place_of [] x c = absurd (none_in x c)
place_of (y ∷ ys) x c = ⊎_elim (λ same. (0, ap Some same)) (λ more. let p = place_of ys x more in (suc p.0, p.1)) (contains-cons y ys x c)

-- where a member passes a test, one is found
find_some : {X : Type 0} (f : X → Bool) (xs : List X) (x : X) → Contains xs x → IsTrue (f x) → (y : X) × (find f xs ≡ Some y)
find_some f [] x c passes = absurd (none_in x c)
find_some {X} f (y ∷ ys) x c passes = go (f y) refl (λ more. find_some f ys x more passes)
  where
    go : (b : Bool) → f y ≡ b → (Contains ys x → (z : X) × (find f ys ≡ Some z)) → (z : X) × (cond b (Some y) (find f ys) ≡ Some z)
    go true e rest = (y, refl)
    go false e rest = ⊎_elim (λ same. absurd (clash {b = f y} (subst (λ (z : X). IsTrue (f z)) (sym same) passes) e)) rest (contains-cons y ys x c)

-- ---- an edge from a command

only : (b : Bool) → (false || b || false || false || false || false) ≡ b
only true = refl
only false = refl

-- a command comes before a dependency, wait or signal behind it whose first scope has commands of its queue
edge_to : (ns : List Node) (i j : ℕ) (p q : Point) (x : Cmd) (a : Act) → is_synchronization a ≡ true → p.queue ≡ q.queue
    → edge ns (record { number = i; point = p; act = Runs x }) (record { number = j; point = q; act = a }) ≡ (nat_lt i j && follows_commands a)
unfolding edge
edge_to ns i j p q x (Waits s) kind same = let e = eq-eqb p.queue q.queue same in rw e refl
edge_to ns i j p q x (Signals s) kind same = let e = eq-eqb p.queue q.queue same in rw e (ap (λ (b : Bool). nat_lt i j && b) (only (follows_commands (Signals s))))
edge_to ns i j p q x (Depends r d) kind same = let e = eq-eqb p.queue q.queue same in rw e (ap (λ (b : Bool). nat_lt i j && b) (only (follows_commands (Depends r d))))
edge_to ns i j p q x (Runs c) kind same = absurd cc
edge_to ns i j p q x (Hosts z) kind same = absurd cc

-- ---- which bytes are written back

-- from k's place among commands, whether n is behind it
by_place : (l f m o : Bool) → l ≡ not o → ((l && f) && m) ≡ ((f && m) && not o)
by_place true f m true e = absurd cc
by_place true true m false e = same m
  where
    same : (m : Bool) → m ≡ (m && true)
    same true = refl
    same false = refl
by_place true false m false e = refl
by_place false true m true e = same m
  where
    same : (m : Bool) → false ≡ (m && false)
    same true = refl
    same false = refl
by_place false false m true e = refl
by_place false f m false e = absurd cc

module _ {t : List Entry} (known : Known t) where
  abbrev all : Past
  all = order t

  -- what a queue's cache holds dirty was written by the latest that has started
  abbrev pub OfTheLatest : Type 0
  OfTheLatest =
      (done : List Task) (cells : Cells) → Reached (with_discards all) (caching_of all) done cells → (c : Byte) (q u : ℕ) → (cells c).held (suc q) ≡ Some (Dirty u)
      → (w : Task) × (latest (with_discards all) c done ≡ Some w) × ((caching_of all).agent w ≡ suc q) × ((x y : Task) → IsIn x done → y.node ≡ x.node → Writes (accesses_of all) y c → y.node ≤ w.node)

  -- a command's task that writes a byte
  record Written (w : Task) (c : Byte) : Type 0 where
    node : Node
    command : Cmd
    at : node_at all w.node ≡ Some node
    act : node.act ≡ Runs command
    agent : (caching_of all).agent w ≡ queue_agent node.point.queue

  written_by : (w : Task) (c : Byte) (q : ℕ) (done : List Task) → latest (with_discards all) c done ≡ Some w → (caching_of all).agent w ≡ suc q → Written w c
  written_by w c q done is agent = go o.node.act refl (ap (λ (n : Option Node). by_act None (λ a. task_write all a w.index c) n) (sym o.at) ∙ sym (same_write all w c o) ∙ wrote.1)
    where
      o : OnQueue all w
      o = on_queue all w q agent

      wrote : Writes (with_discards all) w c
      wrote = (latest_in (with_discards all) done c w is).1

      go : (a : Act) → o.node.act ≡ a → task_write all o.node.act w.index c ≡ Some wrote.0 → Written w c
      go (Runs x) act e = record {
        node = o.node;
        command = x;
        at = o.at;
        act = act;
        agent = agent_is known.paths known.joins all w o.node o.at ∙ ap (λ (b : Bool). if b then 0 else queue_agent o.node.point.queue) o.plain;
      }
      go (Hosts x) act e = absurd (let no : is_host o.node.act ≡ true = ap is_host act in clash no o.plain)
      go (Waits s) act e = absurd (let no : task_write all (Waits s) w.index c ≡ Some wrote.0 = subst (λ (a : Act). task_write all a w.index c ≡ Some wrote.0) act e in cc)
      go (Signals s) act e = absurd (let no : task_write all (Signals s) w.index c ≡ Some wrote.0 = subst (λ (a : Act). task_write all a w.index c ≡ Some wrote.0) act e in cc)
      go (Depends r d) act e = absurd (let no : task_write all (Depends r d) w.index c ≡ Some wrote.0 = subst (λ (a : Act). task_write all a w.index c ≡ Some wrote.0) act e in cc)

  module _ (together : PiecesAreByteWrites) (e : Stage) (p : Placed known.keeps t e) (named : (y : Name) → Contains e.done y → IsNamed known e.front.past y) where
    abbrev past : Past
    past = e.front.past

    g : Grows (From e.count) past all
    g = later known.keeps t e p

    -- a piece of a command that writes a byte
    piece_there : (i : Node) (x : Cmd) (c : Byte) → Contains (nodes past) i → i.act ≡ Runs x → node_at all i.number ≡ Some i → IsTrue (holds (write_to c (byte_writes past x)) (λ m. true)) → (k : ℕ) × Writes (accesses_of all) (piece_task (i.number, k)) c
    piece_there i x c present act at h = go (write_to c (byte_writes past x)) refl h
      where
        go : (o : Option ByteWrite) → write_to c (byte_writes past x) ≡ o → IsTrue (holds o (λ m. true)) → (k : ℕ) × Writes (accesses_of all) (piece_task (i.number, k)) c
        go None f h = absurd cc
        go (Some m) f h =
            let is = found (λ m. same_byte m.to c) (byte_writes past x) m f in
            let part = flat_from (λ ms. ms) (pieces past x) m (subst (λ (l : List ByteWrite). Contains l m) (sym (together past x)) is.0) in
            let place = place_of (pieces past x) part.0 part.1 in
            let there : slice_get (pieces all x) place.0 ≡ Some part.0 = ap (λ (ps : List (List ByteWrite)). slice_get ps place.0) (pieces_same known _ past g i x present act) ∙ place.1 in
            let one = find_some (λ m. same_byte m.to c) part.0 m part.2 is.1 in (
              place.0,
              (
                Puts one.0.source,
                ap (λ (n : Option Node). by_act None (λ a. task_write all a place.0 c) n) at
                    ∙ ap (λ (a : Act). task_write all a place.0 c) act
                    ∙ ap (λ (ms : Option (List ByteWrite)). option_map (λ m. Puts m.source) (find (λ m. same_byte m.to c) (piece_writes ms))) there
                    ∙ ap (λ (m : Option ByteWrite). option_map (λ m. Puts m.source) m) one.1,
              ),
            )

    module _ (n : Node) (cn : Contains (nodes past) n) (kind : is_synchronization n.act ≡ true) (done : List Task) (cells : Cells) (plain : Plain known e done) (last : Last all e.done done) (reached : Reached (with_discards all) (caching_of all) done cells) (dirty : OfTheLatest) where
      abbrev a : ℕ
      a = queue_agent n.point.queue

      -- a piece that has run is among the tasks
      has_run : (y : Name) → Contains e.done y → IsIn (piece_task y) done
      has_run y cy =
          let i = named y cy in
          let at = named_at known _ past g y i in
          let there : IsTrue ((accesses_of all).has (piece_task y)) = has_task all (piece_task y) i.node at (subst (λ (a : Act). IsTrue (nat_lt y.1 (task_count all a))) (sym i.act) (lt-ltb y.1 (length (pieces all i.command)) i.within)) in
          (plain (piece_task y) there (plain_is all (piece_task y) i.node at (Runs i.command) i.act refl)).1
          (turned (sym (happened_is all e (piece_task y) i.node at (Runs i.command) i.act)) (member_passes (same_name y) e.done y cy (name_itself y)))

      module _ (c : Byte) (u : ℕ) (held : (cells c).held a ≡ Some (Dirty u)) where
        d : (w : Task) × (latest (with_discards all) c done ≡ Some w) × ((caching_of all).agent w ≡ a) × ((x y : Task) → IsIn x done → y.node ≡ x.node → Writes (accesses_of all) y c → y.node ≤ w.node)
        d = dirty done cells reached c n.point.queue u held

        abbrev w : Task
        w = d.0

        k : Written w c
        k = written_by w c n.point.queue done d.1 d.2

        its : (last_writer past e.done c ≡ Some k.node) × Contains (nodes past) k.node
        its = writer_found known _ past g e.done done named last c w k.node k.command d.1 k.at k.act

        number : k.node.number ≡ w.node
        number = (node_of all w.node k.node k.at).1

        queue : k.node.point.queue ≡ n.point.queue
        queue = let s : suc k.node.point.queue ≡ suc n.point.queue = sym k.agent ∙ d.2 in cc

        abbrev test : Name → Bool
        test y = nat_lt n.number y.0 && holds (numbered past y.0) (λ m. act_writes past c m.act)

        -- nothing behind the node has overtaken it where the writer is earlier
        not_overtaken : k.node.number < n.number → IsTrue (is_overtaken past e.done n c) → ⊥
        not_overtaken lt h =
            let y = some_member test e.done h in
            let parts = and_parts _ _ y.2 in
            let i = named y.0 y.1 in
            let at = named_at_past known _ past g y.0 i in
            let here : IsTrue (act_writes past c (Runs i.command)) = subst (λ (b : Act). IsTrue (act_writes past c b)) i.act (subst (λ (o : Option Node). IsTrue (holds o (λ m. act_writes past c m.act))) at parts.1) in
            let same : i.node.number ≡ y.0.0 = i.number in
            let at_all : node_at all i.node.number ≡ Some i.node = subst (λ (j : ℕ). node_at all j ≡ Some i.node) (sym same) (named_at known _ past g y.0 i) in
            let writes = piece_there i.node i.command c i.present i.act at_all here in
            let le = d.3 (piece_task y.0) (piece_task (i.node.number, writes.0)) (has_run y.0 y.1) same writes.1 in
            let behind = ltb-true n.number y.0.0 parts.0 in
            let e = number in omega (arith, lt, le, behind, same, e)

        -- and the writer has, where it is later
        overtaken : n.number < k.node.number → IsTrue (is_overtaken past e.done n c)
        overtaken lt =
            let is = last c w k.node k.command d.1 k.at k.act in
            let there = found (writes_to all c) e.done (w.node, w.index) is in
            let i = named (w.node, w.index) there.0 in
            let e' = number in
            member_passes test e.done (w.node, w.index) there.0
            (and_from _ _ (lt-ltb n.number w.node (omega (arith, lt, e')))
            (ap (λ (o : Option Node). holds o (λ m. act_writes past c m.act)) (named_at_past known _ past g (w.node, w.index) i)
            ∙ ap (λ (b : Act). act_writes past c b) i.act
            ∙ all_writes i (subst (λ (ms : List ByteWrite). IsTrue (holds (write_to c ms) (λ m. true))) (sym (named_same known _ past g (w.node, w.index) i)) there.1)))
          where
            all_writes : (i : IsNamed known past (w.node, w.index)) → IsTrue (holds (write_to c (named_piece past (w.node, w.index))) (λ m. true)) → IsTrue (act_writes past c (Runs i.command))
            all_writes i h = go (write_to c (named_piece past (w.node, w.index))) refl h
              where
                go : (o : Option ByteWrite) → write_to c (named_piece past (w.node, w.index)) ≡ o → IsTrue (holds o (λ m. true)) → IsTrue (act_writes past c (Runs i.command))
                go None f h = absurd cc
                go (Some m) f h =
                    let is = found (λ m. same_byte m.to c) (named_piece past (w.node, w.index)) m f in
                    let part = subst (λ (ms : List ByteWrite). Contains ms m) (piece_is past (w.node, w.index) i.node i.command (named_at_past known _ past g (w.node, w.index) i) i.act) is.0 in
                    let one = find_some (λ m. same_byte m.to c) (byte_writes past i.command) m (piece_write together past i.command w.index m part) is.1 in
                    ap (λ (o : Option ByteWrite). holds o (λ m. true)) one.1

        earlier_or_not : nat_lt k.node.number n.number ≡ not (is_overtaken past e.done n c)
        earlier_or_not = ⊎_elim
            (λ lt. lt-ltb k.node.number n.number lt ∙ sym (ap not (false_from_ne_true (is_overtaken past e.done n c) (not_overtaken lt))))
            (λ le. ⊎_elim
            (λ same. absurd (apart (sym same)))
            (λ lt. not_less lt ∙ sym (ap not (overtaken lt))) (eq-or-lt_of_le le))
            (cases_lt k.node.number n.number)
          where
            apart : k.node.number ≡ n.number → ⊥
            apart same =
                let one = unique (nodes past) (nodes_numbered past) k.node n its.1 cn same in
                let no : is_synchronization n.act ≡ false = ap (λ (m : Node). is_synchronization m.act) (sym one) ∙ ap is_synchronization k.act in
                clash kind no

            not_less : n.number < k.node.number → nat_lt k.node.number n.number ≡ false
            not_less lt = false_from_ne_true (nat_lt k.node.number n.number) (λ h. let less = ltb-true k.node.number n.number h in omega (arith, less, lt))

        same_test : makes_last_available past e.done n c ≡ (frees_byte past n c && not (is_overtaken past e.done n c))
        same_test =
            ap (λ (o : Option Node). holds o (λ w. available_by (λ b. false) (nodes past) w w.act c n)) its.0
            ∙ ap (λ (b : Act). available_by (λ b. false) (nodes past) k.node b c n) k.act
            ∙ ap (λ (b : Bool). b && makes_writes_available (λ b. false) (nodes past) n c n.act) (ap (λ (m : Node). edge (nodes past) m n) whole ∙ edge_to (nodes past) k.node.number n.number k.node.point n.point k.command n.act kind queue)
            ∙ by_place (nat_lt k.node.number n.number) (follows_commands n.act) (makes_writes_available (λ b. false) (nodes past) n c n.act) (is_overtaken past e.done n c) earlier_or_not
          where
            whole : k.node ≡ record { number = k.node.number; point = k.node.point; act = Runs k.command }
            whole = λ i. record { number = k.node.number; point = k.node.point; act = k.act i }

      abbrev back : Byte → Bool → Cell
      back c b = if b then written_back a (cells c) else cells c

      still : (c : Byte) → written_back a (cells c) ≡ cells c → (b d : Bool) → back c b ≡ back c d
      still c same true true = refl
      still c same true false = same
      still c same false true = sym same
      still c same false false = refl

      -- what isn't dirty is changed by neither
      back_same : (c : Byte) (h : Option Held) → (cells c).held a ≡ h → back c (makes_last_available past e.done n c) ≡ back c (frees_byte past n c && not (is_overtaken past e.done n c))
      back_same c None f = still c (ap (λ (h : Option Held). written_back_if a h (cells c)) f) (makes_last_available past e.done n c) (frees_byte past n c && not (is_overtaken past e.done n c))
      back_same c (Some (Clean u)) f = still c (ap (λ (h : Option Held). written_back_if a h (cells c)) f) (makes_last_available past e.done n c) (frees_byte past n c && not (is_overtaken past e.done n c))
      back_same c (Some (Dirty u)) f = ap (back c) (same_test c u f)

      pub node_by_starts : after_node past e.done n cells ≡ after_node_by_starts past e.done n cells
      node_by_starts = λ i c. ap (λ (cell : Cell). if makes_byte_visible past n c then dropped a cell else cell) (back_same c ((cells c).held a) refl) i
