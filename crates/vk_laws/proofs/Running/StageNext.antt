-- What may come next in the machine may come next at the stage.
use Rattle.std.proofs.Common.{◌≡◌, ⊎_elim, ℕ, ◌<◌, List, [], ◌∷◌, length, Bool, true, false, ◌||◌, not, IsTrue, Option, Some, refl, ap, sym, ◌∙◌, subst, arith}
use Rattle.std.specs.Prelude.{Contains, nat_lt, ◌==◌}
use Rattle.std.specs.List.{list_all}
use Rattle.std.proofs.lemmas.Bool.{eqb-true, or_cases, ltb-true, lt-ltb, or_left, or_right, false_from_ne_true, cases_lt}
use Rattle.vk_model.specs.declared.command.Cmd.{Cmd}
use Rattle.vk_model.specs.declared.entry.Entry.{Entry}
use Rattle.vk_model.specs.Basics.{below, holds}
use Rattle.vk_model.specs.Trace.Point.{Past, Point}
use Rattle.vk_model.specs.Trace.Order.{order}
use Rattle.vk_model.specs.World.ByteWrites.{ByteWrite}
use Rattle.vk_model.specs.Run.Pieces.{pieces}
use Rattle.vk_model.specs.Sync.Node.{Node, Act, Hosts, Waits, Signals, Runs, Depends, nodes}
use Rattle.vk_model.specs.Sync.Edge.{is_host}
use Rattle.vk_model.specs.Sync.Before.{before}
use Rattle.vk_model.specs.Run.Runs.{Name, is_done, node_pieces, is_free, Stage, is_host_wait, past_with, may_go}
use Rattle.vk_laws.specs.Machine.{IsIn, Task, TraceAccesses, MayRun}
use Rattle.vk_laws.specs.Tasks.{task_count, node_at, accesses_of}
use Rattle.vk_laws.specs.DefinedRuns.{is_event, piece_task, entry_task, has_come, MayCome, Offers, Enters}
use Rattle.vk_laws.proofs.Accesses.TaskNodes.{node_of, same_task, has_task}
use Rattle.vk_model.proofs.Lists.Members.{mapped_from, range_from, each_of}
use Rattle.vk_laws.proofs.Nodes.NoHazard.{host_in_order}
use Rattle.vk_laws.proofs.Caching.TraceCaches.{node_at_self}
use Rattle.vk_model.proofs.Trace.Growing.{Grows}
use Rattle.vk_laws.proofs.Running.Stages.{whole_past}
use Rattle.vk_model.proofs.Sync.Numbers.{numbered, unique}
use Rattle.vk_laws.proofs.Running.OfferedPieces.{is_offered}
use Rattle.vk_laws.proofs.Running.StageTasks.{turned, Kind, piece, hosts, kind, plain_is, happened_is, before_is, Known, old_node, node_in_all, pieces_same, before_same}
use Rattle.vk_laws.proofs.Running.AtStage.{AtPoint, grows, piece_in, entry_in, here, after_grows, here_present, only_here, here_in_all, here_at, here_there}

module _ {t : List Entry} (known : Known t) where
  abbrev all : Past
  all = order t

  abbrev tr : TraceAccesses
  tr = accesses_of all

  module _ (s : Stage) (did : List Task) (i : AtPoint known s did) where
    -- pieces before a task that may come next have run
    free_before : (P : Point → Type 0) (past : Past) → Grows P past all → (u : Task) (n : Node) → node_at all u.node ≡ Some n → Contains (nodes past) n → MayRun tr i.tasks u → IsTrue (is_free past s.done n)
    free_before P past g u n at_u cn may = each_of (λ m. not (before (nodes past) m n) || list_all (is_done s.done) (node_pieces past m m.act)) (nodes past) (λ m cm. go m cm (before (nodes past) m n) refl)
      where
        pieces_run : (m : Node) → Contains (nodes past) m → before (nodes past) m n ≡ true → (a : Act) → m.act ≡ a → IsTrue (list_all (is_done s.done) (node_pieces past m a))
        pieces_run m cm b (Runs c) act = each_of (is_done s.done) (node_pieces past m (Runs c)) (λ y h.
            let j = mapped_from (λ j. (m.number, j)) (below (length (pieces past c))) y h in
            let within = (range_from 0 (length (pieces past c)) j.0 j.1).1 in
            let v : Task = piece_task (m.number, j.0) in
            let at = node_at_self known.paths known.joins all m (node_in_all known P past g m cm) in
            let count : length (pieces all c) ≡ length (pieces past c) = ap (λ (ps : List (List ByteWrite)). length ps) (pieces_same known P past g m c cm act) in
            let there : IsTrue (tr.has v) = has_task all v m at (subst (λ (a : Act). IsTrue (nat_lt j.0 (task_count all a))) (sym act) (lt-ltb j.0 (length (pieces all c)) (omega (arith, within, count)))) in
            let present = may.after v (there, turned (sym (before_is all v u m n at at_u)) (turned (sym (before_same known P past g m n cn)) b)) in
            let ran : IsTrue (is_done s.done (m.number, j.0)) = turned (happened_is all s v m at (Runs c) act) ((i.happened v there (plain_is all v m at (Runs c) act refl)).0 present) in
            subst (λ (z : Name). IsTrue (is_done s.done z)) j.2 ran)
        pieces_run m cm b (Hosts x) act = refl
        pieces_run m cm b (Waits x) act = refl
        pieces_run m cm b (Signals x) act = refl
        pieces_run m cm b (Depends r d) act = refl

        go : (m : Node) → Contains (nodes past) m → (b : Bool) → before (nodes past) m n ≡ b → IsTrue (not b || list_all (is_done s.done) (node_pieces past m m.act))
        go m cm false e = refl
        go m cm true e = pieces_run m cm e m.act refl

    host_was : (u : Task) (n : Node) (x : Entry) → IsTrue (tr.has u) → node_at all u.node ≡ Some n → n.act ≡ Hosts x → IsIn u i.tasks → n.point.entry < s.count
    host_was u n x there at act h = ltb-true n.point.entry s.count (turned (happened_is all s u n at (Hosts x) act) ((i.happened u there (plain_is all u n at (Hosts x) act refl)).0 h))

    piece_comes : (u : Task) (n : Node) (c : Cmd) → node_at all u.node ≡ Some n → n.act ≡ Runs c → u.index < length (pieces all c) → IsTrue (has_come all s u) → MayRun tr i.tasks u → MayCome s u
    piece_comes u n c at act lt come may =
        let found = node_of all u.node n at in
        let count : length (pieces all c) ≡ length (pieces s.front.past c) = ap (λ (ps : List (List ByteWrite)). length ps) (pieces_same known _ s.front.past (grows known s did i) n c old act) in
        let free = free_before _ s.front.past (grows known s did i) u n at old may in
        let itself : u ≡ piece_task (n.number, u.index) = same_task u (piece_task (n.number, u.index)) (sym found.1) refl in
        subst (λ (v : Task). MayCome s v) (sym itself)
        (Offers (n.number, u.index) (is_offered s.front.past s.done n c u.index old act (omega (arith, lt, count)) free (false_from_ne_true (is_done s.done (n.number, u.index)) (λ h. may.fresh (piece_in known s did i u n c may.there at act (subst (λ (k : ℕ). IsTrue (is_done s.done (k, u.index))) found.1 h))))))
      where
        no_entry : IsTrue (holds (node_at all u.node) (λ n. is_host n.act)) → ⊥
        no_entry h =
            let is : holds (node_at all u.node) (λ n. is_host n.act) ≡ is_host n.act = ap (λ (o : Option Node). holds o (λ n. is_host n.act)) at in
            let run : is_host n.act ≡ false = ap is_host act in
            cc

        old : Contains (nodes s.front.past) n
        old =
            let found = node_of all u.node n at in
            let same = found.1 in
            ⊎_elim
            (λ low. let lt = ltb-true u.node (length (nodes s.front.past)) low in old_node known _ s.front.past (grows known s did i) n found.0 (omega (arith, lt, same)))
            (λ entry. absurd (no_entry entry)) (or_cases _ _ come)

    entry_comes : (u : Task) (n : Node) (x : Entry) → node_at all u.node ≡ Some n → n.act ≡ Hosts x → u.index ≡ 0 → MayRun tr i.tasks u → MayCome s u
    entry_comes u n x at act index may = go s.left refl
      where
        found : Contains (nodes all) n × (n.number ≡ u.node)
        found = node_of all u.node n at

        not_old : Contains (nodes s.front.past) n → ⊥
        not_old old = may.fresh (entry_in known s did i u n x may.there at act old)

        -- the next entry comes before all later ones
        its_own : (y : Entry) (ys : List Entry) (left : s.left ≡ y ∷ ys) → n ≡ here known s did i y ys left
        its_own y ys left = ⊎_elim
            (λ lt. absurd (not_old (old_node known _ s.front.past (grows known s did i) n found.0 lt)))
            (λ le. ⊎_elim
            (λ lt.
            let v : Task = entry_task s in
            let there = here_there known s did i y ys left in
            let b = host_in_order known.paths all (here known s did i y ys left) n (here_in_all known s did i y ys left) found.0 refl (ap is_host act) lt in
            let was = host_was v (here known s did i y ys left) y there (here_at known s did i y ys left) refl (may.after v (there, turned (sym (before_is all v u (here known s did i y ys left) n (here_at known s did i y ys left) at)) b)) in
            absurd (omega (arith, was)))
            (λ ge. unique (nodes all) (numbered all) n (here known s did i y ys left) found.0 (here_in_all known s did i y ys left) (omega (arith, le, ge)))
            (cases_lt (length (nodes s.front.past)) n.number))
            (cases_lt n.number (length (nodes s.front.past)))

        goes : (y : Entry) (ys : List Entry) (left : s.left ≡ y ∷ ys) → (b : Bool) → is_host_wait y ≡ b → IsTrue (may_go s y)
        goes y ys left false e = or_left (not (is_host_wait y)) _ (ap not e)
        goes y ys left true e = or_right (not (is_host_wait y)) _ (each_of (λ m. not (m.point.entry == s.count) || is_free (past_with s y) s.done m) (nodes (past_with s y)) (λ m cm. one m cm (m.point.entry == s.count) refl))
          where
            one : (m : Node) → Contains (nodes (past_with s y)) m → (b : Bool) → (m.point.entry == s.count) ≡ b → IsTrue (not b || is_free (past_with s y) s.done m)
            one m cm false is = refl
            one m cm true is = subst (λ (k : Node). IsTrue (is_free (past_with s y) s.done k)) (only_here known s did i y ys left e m cm (eqb-true m.point.entry s.count is))
                (free_before _ (past_with s y) (after_grows known s did i y ys left) u (here known s did i y ys left) (subst (λ (k : Node). node_at all u.node ≡ Some k) (its_own y ys left) at) (here_present known s did i y ys left) may)

        go : (left : List Entry) → s.left ≡ left → MayCome s u
        go [] e = absurd (not_old (subst (λ (l : Past). Contains (nodes l) n) (sym (whole_past known.keeps t s i.placed e)) found.0))
        go (y ∷ ys) e =
            let number : n.number ≡ length (nodes s.front.past) = ap (λ (k : Node). k.number) (its_own y ys e) in
            let itself : u ≡ entry_task s = same_task u (entry_task s) (sym found.1 ∙ number) index in
            subst (λ (v : Task). MayCome s v) (sym itself) (Enters y ys e (goes y ys e (is_host_wait y) refl))

    pub only_next : (u : Task) → is_event all u ≡ false → IsTrue (has_come all s u) → MayRun tr i.tasks u → MayCome s u
    only_next u plain come may = go (kind all u may.there plain)
      where
        go : Kind all u → MayCome s u
        go (piece n c at act lt) = piece_comes u n c at act lt come may
        go (hosts n x at act first) = entry_comes u n x at act first may
