-- Each step of the definitions keeps tasks that match the stage.
use Rattle.std.proofs.Common.{◌≡◌, ◌⊎◌, inl, inr, ⊎_elim, ℕ, ◌+◌, List, [], ◌∷◌, false, IsTrue, Some, refl, ap, sym, ◌∙◌, subst, arith}
use Rattle.std.specs.Prelude.{◌↔◌}
use Rattle.std.proofs.lemmas.Bool.{ltb-true, lt-ltb, or_cases, or_left, or_right}
use Rattle.vk_model.specs.declared.entry.Entry.{Entry}
use Rattle.vk_model.specs.declared.entry.Entry.TheVariants as entry
use Rattle.vk_model.specs.Trace.Point.{Past}
use Rattle.vk_model.specs.Trace.Order.{order}
use Rattle.vk_model.specs.Sync.Node.{Node, Hosts, Runs}
use Rattle.vk_model.specs.Run.Runs.{Name, same_name, is_done, Step, Apply, RunPiece, CopyPart, Stage, may_go, entered, with_parts, Applies, Next, Allowed}
use Rattle.vk_laws.specs.Machine.{IsIn, Task, TraceAccesses, MayRun}
use Rattle.vk_laws.specs.Tasks.{node_at, accesses_of}
use Rattle.vk_laws.specs.DefinedRuns.{is_event, piece_task, entry_task, with_step, done_by, has_happened, MayCome, Offers, Enters}
use Rattle.vk_laws.proofs.Accesses.TaskNodes.{node_of, same_task}
use Rattle.vk_laws.proofs.Running.Stages.{low, next_placed, entries_then}
use Rattle.vk_laws.proofs.Running.StageTasks.{names_same, name_itself, turned, Kind, piece, hosts, kind, plain_is, happened_is, Known}
use Rattle.vk_laws.proofs.Running.OfferedPieces.{Offered, offered_of}
use Rattle.vk_laws.proofs.Running.AtStage.{AtPoint, settle, offered_at, piece_may, here, here_at, entry_may}

module _ {t : List Entry} (known : Known t) where
  abbrev all : Past
  all = order t

  abbrev tr : TraceAccesses
  tr = accesses_of all

  -- what has happened before a step, and its own task
  pub with_task : (s e : Stage) (v : Task) (tasks : List Task) → ((u : Task) → IsTrue (tr.has u) → is_event all u ≡ false → IsIn u tasks ↔ IsTrue (has_happened all s u))
      → ((u : Task) → IsTrue (tr.has u) → is_event all u ≡ false → IsTrue (has_happened all e u) ↔ ((u ≡ v) ⊎ IsTrue (has_happened all s u)))
      → (u : Task) → IsTrue (tr.has u) → is_event all u ≡ false → IsIn u (v ∷ tasks) ↔ IsTrue (has_happened all e u)
  with_task s e v tasks old step u there plain = (
    λ h. (step u there plain).1 (⊎_elim (λ same. inl same) (λ g. inr ((old u there plain).0 g)) h),
    λ h. ⊎_elim (λ same. inl same) (λ g. inr ((old u there plain).1 g)) ((step u there plain).0 h),
  )

  module _ (s : Stage) (did : List Task) (i : AtPoint known s did) (x : Entry) (xs : List Entry) (left : s.left ≡ x ∷ xs) where
    entry_at : node_at all (entry_task s).node ≡ Some (here known s did i x xs left)
    entry_at = here_at known s did i x xs left

    pub entry_plain : is_event all (entry_task s) ≡ false
    entry_plain = plain_is all (entry_task s) (here known s did i x xs left) entry_at (Hosts x) refl refl

    pub entered_happened : (u : Task) → IsTrue (tr.has u) → is_event all u ≡ false → IsTrue (has_happened all (entered s x xs) u) ↔ ((u ≡ entry_task s) ⊎ IsTrue (has_happened all s u))
    entered_happened u there plain = (backward, forward)
      where
        forward : (u ≡ entry_task s) ⊎ IsTrue (has_happened all s u) → IsTrue (has_happened all (entered s x xs) u)
        forward (inl e) =
            subst (λ (v : Task). IsTrue (has_happened all (entered s x xs) v)) (sym e) (turned (sym (happened_is all (entered s x xs) (entry_task s) (here known s did i x xs left) entry_at (Hosts x) refl)) (lt-ltb s.count (s.count + 1) (omega arith)))
        forward (inr h) = go (kind all u there plain) h
          where
            go : Kind all u → IsTrue (has_happened all s u) → IsTrue (has_happened all (entered s x xs) u)
            go (piece n c at act lt) h = turned (sym (happened_is all (entered s x xs) u n at (Runs c) act)) (turned (happened_is all s u n at (Runs c) act) h)
            go (hosts n y at act first) h =
                let lt = ltb-true n.point.entry s.count (turned (happened_is all s u n at (Hosts y) act) h) in
                turned (sym (happened_is all (entered s x xs) u n at (Hosts y) act)) (lt-ltb n.point.entry (s.count + 1) (omega (arith, lt)))

        backward : IsTrue (has_happened all (entered s x xs) u) → (u ≡ entry_task s) ⊎ IsTrue (has_happened all s u)
        backward h = go (kind all u there plain)
          where
            go : Kind all u → (u ≡ entry_task s) ⊎ IsTrue (has_happened all s u)
            go (piece n c at act lt) = inr (turned (sym (happened_is all s u n at (Runs c) act)) (turned (happened_is all (entered s x xs) u n at (Runs c) act) h))
            go (hosts n y at act first) =
                let found = node_of all u.node n at in
                ⊎_elim
                (λ same. inl (same_task u (entry_task s) (sym found.1 ∙ sym (ap (λ (m : Node). m.number) same)) first))
                (λ old. inr (turned (sym (happened_is all s u n at (Hosts y) act)) (lt-ltb n.point.entry s.count (low known.keeps t s i.placed n old))))
                (entries_then known.keeps t s i.placed x xs left n y found.0 act (ltb-true n.point.entry (s.count + 1) (turned (happened_is all (entered s x xs) u n at (Hosts y) act) h)))

    apply_step : IsTrue (may_go s x) → AtPoint known (entered s x xs) (entry_task s ∷ did)
    apply_step may = settle known (entered s x xs) (entry_task s ∷ did) (next_placed known.keeps t s i.placed x xs left) (entry_task s ∷ i.tasks) (entry_may known s did i x xs left may, i.allowed)
        (with_task s (entered s x xs) (entry_task s) i.tasks i.happened entered_happened) (rw entry_plain (ap (λ (us : List Task). entry_task s ∷ us) i.order))

  abbrev pub ran : Stage → Name → Stage
  ran s x = record s { done = x ∷ s.done }

  module _ (s : Stage) (did : List Task) (i : AtPoint known s did) (x : Name) (o : Offered s.front.past s.done x) where
    piece_at : node_at all (piece_task x).node ≡ Some o.node
    piece_at = offered_at known s did i x o

    pub piece_plain : is_event all (piece_task x) ≡ false
    piece_plain = plain_is all (piece_task x) o.node piece_at (Runs o.command) o.act refl

    pub ran_happened : (u : Task) → IsTrue (tr.has u) → is_event all u ≡ false → IsTrue (has_happened all (ran s x) u) ↔ ((u ≡ piece_task x) ⊎ IsTrue (has_happened all s u))
    ran_happened u there plain = (backward, forward)
      where
        forward : (u ≡ piece_task x) ⊎ IsTrue (has_happened all s u) → IsTrue (has_happened all (ran s x) u)
        forward (inl e) =
            subst (λ (v : Task). IsTrue (has_happened all (ran s x) v)) (sym e) (turned (sym (happened_is all (ran s x) (piece_task x) o.node piece_at (Runs o.command) o.act)) (or_left (same_name x x) (is_done s.done x) (name_itself x)))
        forward (inr h) = go (kind all u there plain) h
          where
            go : Kind all u → IsTrue (has_happened all s u) → IsTrue (has_happened all (ran s x) u)
            go (piece n c at act lt) h = turned (sym (happened_is all (ran s x) u n at (Runs c) act)) (or_right (same_name (u.node, u.index) x) (is_done s.done (u.node, u.index)) (turned (happened_is all s u n at (Runs c) act) h))
            go (hosts n y at act first) h = turned (sym (happened_is all (ran s x) u n at (Hosts y) act)) (turned (happened_is all s u n at (Hosts y) act) h)

        backward : IsTrue (has_happened all (ran s x) u) → (u ≡ piece_task x) ⊎ IsTrue (has_happened all s u)
        backward h = go (kind all u there plain)
          where
            go : Kind all u → (u ≡ piece_task x) ⊎ IsTrue (has_happened all s u)
            go (piece n c at act lt) =
                ⊎_elim
                (λ same. let e = names_same (u.node, u.index) x same in inl (same_task u (piece_task x) (ap (λ (z : Name). z.0) e) (ap (λ (z : Name). z.1) e)))
                (λ ran. inr (turned (sym (happened_is all s u n at (Runs c) act)) ran))
                (or_cases (same_name (u.node, u.index) x) (is_done s.done (u.node, u.index)) (turned (happened_is all (ran s x) u n at (Runs c) act) h))
            go (hosts n y at act first) = inr (turned (sym (happened_is all s u n at (Hosts y) act)) (turned (happened_is all (ran s x) u n at (Hosts y) act) h))

    run_step : AtPoint known (ran s x) (piece_task x ∷ did)
    run_step = settle known (ran s x) (piece_task x ∷ did) (record { gone = i.placed.gone; split = i.placed.split; count = i.placed.count; front = i.placed.front })
        (piece_task x ∷ i.tasks) (piece_may known s did i x o, i.allowed)
        (with_task s (ran s x) (piece_task x) i.tasks i.happened ran_happened) (rw piece_plain (ap (λ (us : List Task). piece_task x ∷ us) i.order))

  parts_step : (s : Stage) (did : List Task) (parts : ℕ) (copied : List ℕ) → AtPoint known s did → AtPoint known (record s { parts = parts; copied = copied }) did
  parts_step s did parts copied i = record {
    placed = record { gone = i.placed.gone; split = i.placed.split; count = i.placed.count; front = i.placed.front };
    tasks = i.tasks;
    allowed = i.allowed;
    happened = i.happened;
    eager = i.eager;
    order = i.order;
  }

  entry_parts : (s : Stage) (did : List Task) (parts : ℕ) (x : Entry) → AtPoint known s did → AtPoint known (with_parts parts x s) did
  entry_parts s did parts (entry.Pass d) i = parts_step s did parts [] i
  entry_parts s did parts (entry.EndPass d kept lost) i = parts_step s did 0 [] i
  entry_parts s did parts _ i = i

  pub comes_next : (s : Stage) (did : List Task) (i : AtPoint known s did) (u : Task) → MayCome s u → MayRun tr i.tasks u
  comes_next s did i _ (Offers x h) = piece_may known s did i x (offered_of s.front.past s.done x h)
  comes_next s did i _ (Enters x xs left may) = entry_may known s did i x xs left may

  one_step : (s : Stage) (did : List Task) → AtPoint known s did → (step : Step) (e : Stage) → Next s step e → AtPoint known e (with_step s step did)
  one_step s did i (Apply atoms parts) e next = go s.left refl next
    where
      go : (left : List Entry) → s.left ≡ left → Applies s atoms parts left e → AtPoint known e (entry_task s ∷ did)
      go [] left next = absurd next
      go (x ∷ xs) left next = subst (λ (m : Stage). AtPoint known m (entry_task s ∷ did)) (sym next.2) (entry_parts (entered s x xs) (entry_task s ∷ did) parts x (apply_step s did i x xs left next.0))
  one_step s did i (RunPiece x) e next = subst (λ (m : Stage). AtPoint known m (piece_task x ∷ did)) (sym next.1) (run_step s did i x (offered_of s.front.past s.done x next.0))
  one_step s did i (CopyPart k) e next = subst (λ (m : Stage). AtPoint known m did) (sym next.1) (parts_step s did s.parts (k ∷ s.copied) i)

  pub all_steps : (steps : List Step) (s : Stage) (did : List Task) → AtPoint known s did → (e : Stage) (run : Allowed s steps e) → AtPoint known e (done_by s steps e run did)
  all_steps [] s did i e run = subst (λ (m : Stage). AtPoint known m did) (sym run) i
  all_steps (step ∷ steps) s did i e run = all_steps steps run.0 (with_step s step did) (one_step s did i step run.0 run.1) e run.2
