-- Each step of a run through caches keeps tasks with which the machine has reached the bytes.
use Rattle.std.proofs.Common.{◌≡◌, inl, inr, ⊎_elim, ℕ, ◌≤◌, List, [], ◌∷◌, length, Bool, true, false, not, IsTrue, Option, refl, ap, sym, ◌∙◌, subst, arith}
use Rattle.std.specs.Prelude.{⊤, if◌then◌else◌}
use Rattle.std.specs.List.{filter}
use Rattle.std.proofs.lemmas.Bool.{ltb-true, and_parts, or_right}
use Rattle.vk_model.specs.declared.entry.Entry.{Entry}
use Rattle.vk_model.specs.declared.entry.Entry.TheVariants as entry
use Rattle.vk_model.specs.World.Bytes.{Byte}
use Rattle.vk_model.specs.World.Effect.{world}
use Rattle.vk_model.specs.Trace.Order.{host, order}
use Rattle.vk_model.specs.Trace.Point.{Past}
use Rattle.vk_model.specs.Run.Caches.{Cell, queue_agent}
use Rattle.vk_model.specs.Run.Runs.{Name, same_name, is_done, Step, Apply, RunPiece, CopyPart, Stage, start, may_go, are_atoms, offered, entered, with_parts, past_with, Applies, Next, Allowed}
use Rattle.vk_model.specs.Run.CachedRuns.{Cells, node_happened, happening, after_atoms, after_host, after_next, after_step, after_nodes, Touch, WriteBack, Drop, Load, touched, CachedStep, Does, Touches, CachedStage, CachedNext, CachedAllowed, cached_start}
use Rattle.vk_model.specs.Sync.Node.{Node, Hosts, Runs, nodes}
use Rattle.vk_model.specs.Sync.Edge.{is_host}
use Rattle.vk_model.specs.Basics.{holds}
use Rattle.vk_model.specs.Laws.{PiecesAreByteWrites}
use Rattle.vk_laws.specs.Machine.{IsIn, Task, TraceAccesses, HazardFree, MayRun}
use Rattle.vk_laws.specs.Caches.{Caching, Reached, Start}
use Rattle.vk_laws.specs.Tasks.{node_at, accesses_of}
use Rattle.vk_laws.specs.Discards.{with_discards}
use Rattle.vk_laws.specs.TraceCaches.{caching_of}
use Rattle.vk_laws.specs.DefinedRuns.{is_event, piece_task, entry_task, with_step, has_happened, MayCome, Offers, Enters}
use Rattle.vk_laws.specs.WriteBacks.{after_nodes_by_starts}
use Rattle.vk_laws.specs.CachedRuns.{steps_of, done_through, HasReached}
use Rattle.vk_model.proofs.Lists.Members.{none_in, contains-cons}
use Rattle.vk_model.proofs.Lists.Truths.{clash}
use Rattle.vk_model.proofs.Sync.Numbers.{number_below, numbered}
use Rattle.vk_model.proofs.Trace.Growing.{Grows, Quiet, entry_grows, one_more, grows_on, grows_too}
use Rattle.vk_laws.proofs.EveryOrder.Coherence.{allowed}
use Rattle.vk_laws.proofs.Nodes.Counts.{more_nodes}
use Rattle.vk_laws.proofs.Running.Runs.{may_too}
use Rattle.vk_laws.proofs.Running.StageTasks.{Kind, piece, hosts, kind, happened_is, turned, Known}
use Rattle.vk_laws.proofs.Running.OfferedPieces.{Offered, offered_of}
use Rattle.vk_laws.proofs.Running.AtStage.{AtPoint, begins, grows, offered_at, here, here_at}
use Rattle.vk_laws.proofs.Running.StageSteps.{with_task, entry_plain, entered_happened, ran, piece_plain, ran_happened, comes_next, all_steps}
use Rattle.vk_laws.proofs.CachedRunning.Touches.{any_touches, Within, within_same, back_within, drop_within, load_elsewhere}
use Rattle.vk_laws.proofs.CachedRunning.NodesHappened.{event_task, event_is, Plain, Events, may_come}
use Rattle.vk_laws.proofs.CachedRunning.LastWriters.{Last, last_start, last_other, last_piece, IsNamed, named_later}
use Rattle.vk_laws.proofs.CachedRunning.HostCaches.{HostByte, HostOk, byte_within, host_batches, atoms_ok, entry_ok}
use Rattle.vk_laws.proofs.CachedRunning.EntryCells.{where_touched, atoms_reached}
use Rattle.vk_laws.proofs.CachedRunning.HostEntries.{stays, entry_done}
use Rattle.vk_laws.proofs.CachedRunning.CachedPieces.{offered_named, piece_done, piece_host}
use Rattle.vk_laws.proofs.CachedRunning.ByStarts.{OfTheLatest}
use Rattle.vk_laws.proofs.CachedRunning.EventsInTurn.{Named, Whole, all_happen}

module _ {t : List Entry} (known : Known t) (together : PiecesAreByteWrites) (free : HazardFree (with_discards (order t))) where
  abbrev all : Past
  all = order t

  abbrev tr : TraceAccesses
  tr = with_discards all

  abbrev ca : Caching
  ca = caching_of all

  -- tasks with which the machine has reached the bytes of a stage
  pub record AtCached (s : Stage) (did : List Task) (cells : Cells) : Type 0 where
    pub at : AtPoint known s did
    pub done : List Task
    pub reached : Reached tr ca done cells
    pub plain : Plain known s done
    pub order : filter (λ u. not (is_event all u)) done ≡ did
    pub events : Events known s done
    pub named : Named known s
    pub last : Last all s.done done
    pub host : HostOk known s.front.past cells

  -- what a step from one stage to another leads to, from the bytes before what happens then
  record Stepped (s e : Stage) (did : List Task) (cells : Cells) : Type 0 where
    there : AtCached e did (after_nodes s e cells)
    by_starts : OfTheLatest known → after_nodes s e cells ≡ after_nodes_by_starts s e cells

  finish : (s e : Stage) (did : List Task) (at : AtPoint known e did) (named : Named known e) (cells : Cells) → Whole known e at.placed named did (happening s e) cells → Stepped s e did cells
  finish s e did at named cells whole = record {
    there = record {
      at = at;
      done = whole.done;
      reached = whole.part.reached;
      plain = whole.part.plain;
      order = whole.part.order;
      events = λ m cm kind. (λ h. ((whole.part.events m cm kind).0 h).0, λ h. (whole.part.events m cm kind).1 (h, λ c. none_in m c));
      named = named;
      last = whole.part.last;
      host = whole.part.host;
    };
    by_starts = whole.by_starts together;
  }

  cached_begins : (region : Byte → ℕ) → AtCached (start t) [] (cached_start t region).cells
  cached_begins region = record {
    at = begins known;
    done = [];
    reached = Start _ (λ c a. refl);
    plain = λ u there own. (λ h. absurd h, λ h. nothing u h (kind all u there own));
    order = refl;
    events = λ n cn kind. (λ h. absurd h, λ h. let lt = ltb-true n.number 0 (and_parts _ _ h).0 in omega (arith, lt));
    named = λ y c. absurd (none_in y c);
    last = last_start all;
    host = λ c. record { cached = λ h e. absurd cc; dirty = λ u e. absurd cc };
  }
    where
      nothing : (u : Task) → IsTrue (has_happened all (start t) u) → Kind all u → ⊥
      nothing u h (piece n c at act lt) = let no = turned (happened_is all (start t) u n at (Runs c) act) h in cc
      nothing u h (hosts n x at act first) = let lt = ltb-true n.point.entry 0 (turned (happened_is all (start t) u n at (Hosts x) act) h) in omega (arith, lt)

  module _ (s : Stage) (did : List Task) (cells : Cells) (i : AtCached s did cells) where
    -- what may come next at the stage may come next in the machine
    next_may : (u : Task) → MayCome s u → MayRun (accesses_of all) i.done u
    next_may u may = by_kind u may (comes_next known s did i.at u may)
      where
        by_kind : (u : Task) → MayCome s u → MayRun (accesses_of all) i.at.tasks u → MayRun (accesses_of all) i.done u
        by_kind _ (Offers y h) run =
            let o = offered_of s.front.past s.done y h in
            let small = number_below (nodes s.front.past) (numbered s.front.past) o.node o.present in
            let number = o.number in
            may_come known s did i.at i.done i.plain i.events (piece_task y) o.node (offered_at known s did i.at y o) (piece_plain known s did i.at y o) (omega (arith, small, number)) run
        by_kind _ (Enters x xs left go) run =
            may_come known s did i.at i.done i.plain i.events (entry_task s) (here known s did i.at x xs left) (here_at known s did i.at x xs left) (entry_plain known s did i.at x xs left) (omega arith) run

    pub has_reached : HasReached all (record { stage = s; cells = cells }) i.done
    has_reached = record { reached = i.reached; happened = i.plain; next = λ u may. may_too all i.done u (next_may u may) }

    -- events are as they were when a task of another kind comes
    events_keep : (u : Task) → is_event all u ≡ false → Events known s (u ∷ i.done)
    events_keep u own n cn kind = (older, λ h. inr ((i.events n cn kind).1 h))
      where
        older : IsIn (event_task n) (u ∷ i.done) → IsTrue (node_happened s n)
        older (inl same) = absurd (clash {b = is_event all u} (subst (λ (v : Task). is_event all v ≡ true) same (event_is known n cn kind)) own)
        older (inr h) = (i.events n cn kind).0 h

    -- ---- an entry is applied

    module _ (x : Entry) (xs : List Entry) (left : s.left ≡ x ∷ xs) (parts : ℕ) (copied : List ℕ) where
      abbrev then_stage : Stage
      then_stage = record (entered s x xs) { parts = parts; copied = copied }

      batches : Grows Quiet (host s.count x ∷ s.front.past) (past_with s x)
      batches = entry_grows s.count x s.front

      grown : Grows (λ p. ⊤) s.front.past (past_with s x)
      grown = grows_on _ s.front.past (host s.count x ∷ s.front.past) (past_with s x) (one_more _ s.front.past (host s.count x) tt) (grows_too Quiet _ (λ p q. tt) (host s.count x ∷ s.front.past) (past_with s x) batches)

      further : length (nodes s.front.past) ≤ length (nodes (past_with s x))
      further = subst (λ (l : Past). length (nodes s.front.past) ≤ length (nodes l)) (sym grown.whole) (more_nodes grown.newer s.front.past)

      at_entered : (atoms : List ℕ) → IsTrue (may_go s x) → IsTrue (are_atoms s.front.past x atoms) → (moved : List ℕ) → AtPoint known then_stage (entry_task s ∷ did)
          → Stepped s then_stage (entry_task s ∷ did) (λ c. after_host s.front.past moved x c (after_atoms x atoms cells c))
      at_entered atoms may are moved at' = finish s then_stage (entry_task s ∷ did) at' named' _
          (all_happen known then_stage at'.placed named' (entry_task s ∷ did) s i.at.placed further (λ y h. h) (entry_task s ∷ i.done) (λ c. after_host s.front.past moved x c (after_atoms x atoms cells c))
          (entry_done known together s did i.at x xs left free i.done i.plain (allowed tr ca i.done cells i.reached) moved (after_atoms x atoms cells) turned_ok (atoms_reached tr ca i.done cells i.reached x atoms) (next_may (entry_task s) (Enters x xs left may)))
          (with_task known s then_stage (entry_task s) i.done i.plain (entered_happened known s did i.at x xs left))
          (rw (entry_plain known s did i.at x xs left) (ap (λ (us : List Task). entry_task s ∷ us) i.order))
          (events_keep (entry_task s) (entry_plain known s did i.at x xs left))
          (last_other all s.done i.done (entry_task s) (here known s did i.at x xs left) i.last (here_at known s did i.at x xs left) (λ y e. cc))
          (host_batches known (host s.count x ∷ s.front.past) (past_with s x) _ batches
          (λ c. entry_ok known s.front.past moved c (after_atoms x atoms cells c) (turned_ok c) s.count x (λ b o bytes v is w. stays known together s did i.at x xs left c b o bytes v is w))))
        where
          turned_ok : HostOk known s.front.past (after_atoms x atoms cells)
          turned_ok = atoms_ok known _ s.front.past (grows known s did i.at) x atoms are cells i.host

          named' : Named known then_stage
          named' y c = named_later known _ s.front.past (past_with s x) grown y (i.named y c)

    -- ---- a piece runs

    at_ran : (y : Name) → IsTrue (is_done (offered s.front.past s.done) y) → (moved : List ℕ) → AtPoint known (ran known s y) (piece_task y ∷ did)
        → Stepped s (ran known s y) (piece_task y ∷ did) (after_step s (RunPiece y) moved cells)
    at_ran y h moved at' = finish s (ran known s y) (piece_task y ∷ did) at' named' _
        (all_happen known (ran known s y) at'.placed named' (piece_task y ∷ did) s i.at.placed (omega arith) (λ z g. or_right (same_name z y) (is_done s.done z) g) (piece_task y ∷ i.done) (after_step s (RunPiece y) moved cells)
        (piece_done known s did i.at y o i.done cells i.reached (next_may (piece_task y) (Offers y h)))
        (with_task known s (ran known s y) (piece_task y) i.done i.plain (ran_happened known s did i.at y o))
        (rw (piece_plain known s did i.at y o) (ap (λ (us : List Task). piece_task y ∷ us) i.order))
        (events_keep (piece_task y) (piece_plain known s did i.at y o))
        (last_piece all s.done i.done y o.node o.command i.last (offered_at known s did i.at y o) o.act)
        (piece_host known s did i.at y o cells i.host))
      where
        o : Offered s.front.past s.done y
        o = offered_of s.front.past s.done y h

        named' : Named known (ran known s y)
        named' z c = ⊎_elim (λ same. subst (λ (w : Name). IsNamed known s.front.past w) same (offered_named known s did i.at y o)) (λ old. i.named z old) (contains-cons y s.done z c)

    -- ---- a part of a pass is copied

    at_part : (copied : List ℕ) → AtPoint known (record s { copied = copied }) did → Stepped s (record s { copied = copied }) did cells
    at_part copied at' = finish s (record s { copied = copied }) did at' i.named _
        (all_happen known (record s { copied = copied }) at'.placed i.named did s i.at.placed (omega arith) (λ y h. h) i.done cells i.reached i.plain i.order i.events i.last i.host)

    -- ---- a queue's cache touches bytes

    at_touched : (touch : Touch) (queue : ℕ) (test : Byte → Bool) → AtCached s did (λ c. if test c then touched touch (queue_agent queue) (cells c) else cells c)
    at_touched touch queue test = record {
      at = i.at;
      done = i.done;
      reached = where_touched tr ca i.done cells i.reached test (touched touch (queue_agent queue)) (any_touches touch (queue_agent queue));
      plain = i.plain;
      order = i.order;
      events = i.events;
      named = i.named;
      last = i.last;
      host = λ c. kept c (test c);
    }
      where
        within : (touch : Touch) (cell : Cell) → Within (cell.held 0) ((touched touch (queue_agent queue) cell).held 0)
        within WriteBack cell = back_within (queue_agent queue) cell 0
        within Drop cell = drop_within (queue_agent queue) cell 0
        within Load cell = within_same _ _ (load_elsewhere (queue_agent queue) cell 0 (λ e. omega (arith, e)))

        kept : (c : Byte) (b : Bool) → HostByte known c ((world s.front.past).dirty c) (if b then touched touch (queue_agent queue) (cells c) else cells c)
        kept c true = byte_within known c _ (cells c) _ (within touch (cells c)) (i.host c)
        kept c false = i.host c

    -- ---- any step

    applied_at : (x : Entry) (xs : List Entry) → s.left ≡ x ∷ xs → (atoms : List ℕ) (parts : ℕ) → IsTrue (may_go s x) → IsTrue (are_atoms s.front.past x atoms) → (moved : List ℕ) → AtPoint known (with_parts parts x (entered s x xs)) (entry_task s ∷ did)
        → Stepped s (with_parts parts x (entered s x xs)) (entry_task s ∷ did) (λ c. after_host s.front.past moved x c (after_atoms x atoms cells c))
    applied_at (entry.Pass d) xs left atoms parts may are moved at' = at_entered (entry.Pass d) xs left parts [] atoms may are moved at'
    applied_at (entry.EndPass d kept lost) xs left atoms parts may are moved at' = at_entered (entry.EndPass d kept lost) xs left 0 [] atoms may are moved at'
    applied_at x xs left atoms parts may are moved at' = at_entered x xs left s.parts s.copied atoms may are moved at'

    does : (step : Step) (moved : List ℕ) (e : Stage) → Next s step e → Stepped s e (with_step s step did) (after_step s step moved cells)
    does (Apply atoms parts) moved e next = go s.left refl next
      where
        go : (left : List Entry) → s.left ≡ left → Applies s atoms parts left e → Stepped s e (entry_task s ∷ did) (after_next s atoms moved left cells)
        go [] left next = absurd next
        go (x ∷ xs) left next =
            let e' : Stage = with_parts parts x (entered s x xs) in
            let goes : Next s (Apply atoms parts) e' = subst (λ (l : List Entry). Applies s atoms parts l e') (sym left) (next.0, next.1, refl) in
            subst (λ (m : Stage). Stepped s m (entry_task s ∷ did) (λ c. after_host s.front.past moved x c (after_atoms x atoms cells c))) (sym next.2)
            (applied_at x xs left atoms parts next.0 next.1 moved (all_steps known (Apply atoms parts ∷ []) s did i.at e' (e', goes, refl)))
    does (RunPiece y) moved e next =
        let e' : Stage = ran known s y in
        subst (λ (m : Stage). Stepped s m (piece_task y ∷ did) (after_step s (RunPiece y) moved cells)) (sym next.1)
        (at_ran y next.0 moved (all_steps known (RunPiece y ∷ []) s did i.at e' (e', (next.0, refl), refl)))
    does (CopyPart k) moved e next =
        let e' : Stage = record s { copied = k ∷ s.copied } in
        subst (λ (m : Stage). Stepped s m did cells) (sym next.1)
        (at_part (k ∷ s.copied) (all_steps known (CopyPart k ∷ []) s did i.at e' (e', (next.0, refl), refl)))

  cached_steps : (steps : List CachedStep) (s : CachedStage) (did : List Task) → AtCached s.stage did s.cells → (e : CachedStage) (run : CachedAllowed s steps e) → AtCached e.stage (done_through s steps e run did) e.cells
  cached_steps [] s did i e run = subst (λ (m : CachedStage). AtCached m.stage did m.cells) (sym run) i
  cached_steps (Does step moved ∷ steps) s did i e run = cached_steps steps run.0 (with_step s.stage step did)
      (subst (λ (cs : Cells). AtCached run.0.stage (with_step s.stage step did) cs) (sym run.1.1) (does s.stage did s.cells i step moved run.0.stage run.1.0).there) e run.2
  cached_steps (Touches touch queue test ∷ steps) s did i e run = cached_steps steps run.0 did
      (subst (λ (cs : Cells). AtCached run.0.stage did cs) (sym run.1.1)
      (subst (λ (m : Stage). AtCached m did (λ c. if test c then touched touch (queue_agent queue) (s.cells c) else s.cells c)) (sym run.1.0) (at_touched s.stage did s.cells i touch queue test))) e run.2

  -- and the commands that have started tell what a step writes back
  pub steps_by_starts : (region : Byte → ℕ) (steps : List CachedStep) (s e : CachedStage) (step : Step) (moved : List ℕ) → CachedAllowed (cached_start t region) steps s → CachedNext s (Does step moved) e → OfTheLatest known
      → e.cells ≡ after_nodes_by_starts s.stage e.stage (after_step s.stage step moved s.cells)
  steps_by_starts region steps s e step moved run next dirty =
      let i = cached_steps steps (cached_start t region) [] (cached_begins region) s run in
      next.1 ∙ (does s.stage _ s.cells i step moved e.stage next.0).by_starts dirty

  -- so each run through caches has reached its bytes, by its tasks in their order
  pub runs_reached : (region : Byte → ℕ) (steps : List CachedStep) (e : CachedStage) (run : CachedAllowed (cached_start t region) steps e)
      → (done : List Task) × HasReached all e done × (filter (λ u. not (is_event all u)) done ≡ done_through (cached_start t region) steps e run [])
  runs_reached region steps e run =
      let did : List Task = done_through (cached_start t region) steps e run [] in
      let i : AtCached e.stage did e.cells = cached_steps steps (cached_start t region) [] (cached_begins region) e run in
      (i.done, has_reached e.stage did e.cells i, i.order)

-- ---- the run without its caches

pub plain_run : (steps : List CachedStep) (s e : CachedStage) → CachedAllowed s steps e → Allowed s.stage (steps_of steps) e.stage
plain_run [] s e run = ap (λ (m : CachedStage). m.stage) run
plain_run (Does step moved ∷ steps) s e run = (run.0.stage, run.1.0, plain_run steps run.0 e run.2)
plain_run (Touches touch queue test ∷ steps) s e run = subst (λ (m : Stage). Allowed m (steps_of steps) e.stage) run.1.0 (plain_run steps run.0 e run.2)

-- the entry that comes next is the host's
pub next_is_host : {t : List Entry} (known : Known t) (region : Byte → ℕ) (steps : List CachedStep) (e : CachedStage) → CachedAllowed (cached_start t region) steps e → (x : Entry) (xs : List Entry) → e.stage.left ≡ x ∷ xs
    → IsTrue (holds (node_at (order t) (entry_task e.stage).node) (λ n. is_host n.act))
next_is_host {t} known region steps e run x xs left =
    let i = all_steps known (steps_of steps) (start t) [] (begins known) e.stage (plain_run steps (cached_start t region) e run) in
    ap (λ (o : Option Node). holds o (λ n. is_host n.act)) (here_at known e.stage _ i x xs left)
