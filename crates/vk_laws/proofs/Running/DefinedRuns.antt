-- The allowed runs of the definitions are runs of the machine, and those that are over have run each task.
use Rattle.std.proofs.Common.{◌≡◌, ℕ, ◌<◌, List, [], ◌∷◌, length, Bool, true, false, ◌||◌, not, IsTrue, Some, refl, ap, sym, ◌∙◌, subst, arith, suc, zero}
use Rattle.std.specs.Prelude.{Contains, ◌==◌}
use Rattle.std.specs.List.{filter, list_all}
use Rattle.std.proofs.lemmas.Bool.{eqb-true, lt-ltb, or_left, or_right}
use Rattle.vk_model.specs.declared.command.Cmd.{Cmd}
use Rattle.vk_model.specs.declared.entry.Entry.{Entry}
use Rattle.vk_model.specs.Trace.Point.{Past}
use Rattle.vk_model.specs.Trace.Order.{order}
use Rattle.vk_model.specs.World.ByteWrites.{ByteWrite}
use Rattle.vk_model.specs.Run.Pieces.{pieces}
use Rattle.vk_model.specs.Sync.Node.{Node, Hosts, Runs, nodes}
use Rattle.vk_model.specs.Sync.Before.{before}
use Rattle.vk_model.specs.Run.Runs.{is_done, node_pieces, is_free, Step, Stage, start, is_host_wait, past_with, may_go, Allowed}
use Rattle.vk_laws.specs.Machine.{Task, TraceAccesses}
use Rattle.vk_laws.specs.Tasks.{node_at, accesses_of}
use Rattle.vk_laws.specs.DefinedRuns.{is_event, piece_task, entry_task, done_by, has_happened, Offers, Enters, Matches, IsOver, HaveRun}
use Rattle.vk_laws.proofs.Accesses.TaskNodes.{node_of}
use Rattle.vk_model.proofs.Lists.Members.{each_of}
use Rattle.vk_laws.proofs.Running.Stages.{low, whole_past}
use Rattle.vk_model.proofs.Sync.Numbers.{number_below, numbered}
use Rattle.vk_laws.proofs.Running.StageTasks.{turned, Kind, piece, hosts, kind, happened_is, Known, old_node, node_in_all, pieces_same}
use Rattle.vk_laws.proofs.Running.AtStage.{AtPoint, begins, grows, here, after_grows, there_before, only_here}
use Rattle.vk_laws.proofs.Running.StageSteps.{comes_next, all_steps}
use Rattle.vk_laws.proofs.Running.OfferedPieces.{is_offered, node_ran, free_next}
use Rattle.vk_laws.proofs.Running.StageNext.{only_next}

module _ {t : List Entry} (known : Known t) where
  abbrev all : Past
  all = order t

  abbrev tr : TraceAccesses
  tr = accesses_of all

  pub allowed_too : (steps : List Step) (e : Stage) (run : Allowed (start t) steps e)
      → (done : List Task) × Matches all e done × (filter (λ u. not (is_event all u)) done ≡ done_by (start t) steps e run [])
  allowed_too steps e run =
      let did : List Task = done_by (start t) steps e run [] in
      let i : AtPoint known e did = all_steps known steps (start t) [] (begins known) e run in (
        i.tasks,
        record {
          allowed = i.allowed;
          happened = i.happened;
          eager = i.eager;
          next = λ u may. comes_next known e did i u may;
          only = λ u plain come may. only_next known e did i u plain come may;
        },
        i.order,
      )

  -- ---- where nothing may come next

  module _ (s : Stage) (did : List Task) (i : AtPoint known s did) (over : IsOver s) where
    abbrev past : Past
    past = s.front.past

    all_ran : (k : ℕ) → HaveRun past s.done k
    all_ran zero = λ n c j cn lt act less. absurd (omega (arith, lt))
    all_ran (suc k) = λ n c j cn lt act less. go (all_ran k) n c j cn lt act less (is_done s.done (n.number, j)) refl
      where
        go : HaveRun past s.done k → (n : Node) (c : Cmd) (j : ℕ) → Contains (nodes past) n → n.number < suc k → n.act ≡ Runs c → j < length (pieces past c) → (b : Bool) → is_done s.done (n.number, j) ≡ b → IsTrue (is_done s.done (n.number, j))
        go ran n c j cn lt act less true e = e
        go ran n c j cn lt act less false e = absurd (over (piece_task (n.number, j)) (Offers (n.number, j) (is_offered past s.done n c j cn act less (free_next past s.done known.leads k ran n (omega (arith, lt))) e)))

    -- then the next entry may be entered, so there is none
    entry_goes : (x : Entry) (xs : List Entry) → s.left ≡ x ∷ xs → (b : Bool) → is_host_wait x ≡ b → IsTrue (may_go s x)
    entry_goes x xs left false e = or_left (not (is_host_wait x)) _ (ap not e)
    entry_goes x xs left true e = or_right (not (is_host_wait x)) _ (each_of (λ n. not (n.point.entry == s.count) || is_free (past_with s x) s.done n) (nodes (past_with s x)) (λ n cn. one n cn (n.point.entry == s.count) refl))
      where
        own : Node
        own = here known s did i x xs left

        ran_there : (m : Node) → Contains (nodes past) m → IsTrue (list_all (is_done s.done) (node_pieces (past_with s x) m m.act))
        ran_there m old = node_ran past s.done (past_with s x) (length (nodes past)) (all_ran (length (nodes past))) m old (number_below (nodes past) (numbered past) m old)
            (λ c act. ap (λ (ps : List (List ByteWrite)). length ps)
            (sym (pieces_same known _ (past_with s x) (after_grows known s did i x xs left) m c (there_before known s did i x xs left m old) act)
            ∙ pieces_same known _ past (grows known s did i) m c old act))

        before_own : (m : Node) → Contains (nodes (past_with s x)) m → (b : Bool) → before (nodes (past_with s x)) m own ≡ b → IsTrue (not b || list_all (is_done s.done) (node_pieces (past_with s x) m m.act))
        before_own m cm false e = refl
        before_own m cm true e =
            let lt = known.leads (nodes (past_with s x)) m own e in
            ran_there m (old_node known _ past (grows known s did i) m (node_in_all known _ (past_with s x) (after_grows known s did i x xs left) m cm) lt)

        free : IsTrue (is_free (past_with s x) s.done own)
        free = each_of (λ m. not (before (nodes (past_with s x)) m own) || list_all (is_done s.done) (node_pieces (past_with s x) m m.act)) (nodes (past_with s x)) (λ m cm. before_own m cm (before (nodes (past_with s x)) m own) refl)

        one : (n : Node) → Contains (nodes (past_with s x)) n → (b : Bool) → (n.point.entry == s.count) ≡ b → IsTrue (not b || is_free (past_with s x) s.done n)
        one n cn false is = refl
        one n cn true is = subst (λ (k : Node). IsTrue (is_free (past_with s x) s.done k)) (only_here known s did i x xs left e n cn (eqb-true n.point.entry s.count is)) free

    none_left : s.left ≡ []
    none_left = go s.left refl
      where
        go : (left : List Entry) → s.left ≡ left → left ≡ []
        go [] e = refl
        go (x ∷ xs) e = absurd (over (entry_task s) (Enters x xs e (entry_goes x xs e (is_host_wait x) refl)))

    all_happened : (u : Task) → IsTrue (tr.has u) → is_event all u ≡ false → IsTrue (has_happened all s u)
    all_happened u there plain = go (kind all u there plain)
      where
        whole : past ≡ all
        whole = whole_past known.keeps t s i.placed none_left

        in_past : (n : Node) → node_at all u.node ≡ Some n → Contains (nodes past) n
        in_past n at = subst (λ (l : Past). Contains (nodes l) n) (sym whole) (node_of all u.node n at).0

        go : Kind all u → IsTrue (has_happened all s u)
        go (piece n c at act lt) =
            let cn = in_past n at in
            let count : length (pieces past c) ≡ length (pieces all c) = ap (λ (l : Past). length (pieces l c)) whole in
            let ran = all_ran (length (nodes past)) n c u.index cn (number_below (nodes past) (numbered past) n cn) act (omega (arith, lt, count)) in
            turned (sym (happened_is all s u n at (Runs c) act)) (subst (λ (k : ℕ). IsTrue (is_done s.done (k, u.index))) (node_of all u.node n at).1 ran)
        go (hosts n x at act first) = turned (sym (happened_is all s u n at (Hosts x) act)) (lt-ltb n.point.entry s.count (low known.keeps t s i.placed n (in_past n at)))

  pub ended : (steps : List Step) (e : Stage) → Allowed (start t) steps e → IsOver e → (e.left ≡ []) × ((u : Task) → IsTrue (tr.has u) → is_event all u ≡ false → IsTrue (has_happened all e u))
  ended steps e run over =
      let did : List Task = done_by (start t) steps e run [] in
      let i : AtPoint known e did = all_steps known steps (start t) [] (begins known) e run in
      (none_left e did i over, all_happened e did i over)
