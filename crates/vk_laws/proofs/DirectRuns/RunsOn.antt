-- Runs on memory directly begin and go on.
use Rattle.vk_laws.proofs.CachedRunning.Touches.{held_elsewhere}
use Rattle.vk_model.specs.Trace.Objects.{is_cached}
use Rattle.vk_model.specs.World.Effect.{written, reaches}
use Rattle.std.proofs.Common.{◌≡◌, ℕ, zero, suc, List, [], ◌∷◌, ◌++◌, Bool, true, false, IsTrue, Option, Some, None, refl, ap, sym, ◌∙◌, subst, arith}
use Rattle.std.specs.Prelude.{◌&&◌, ◌==◌, ◌/◌, if◌then◌else◌, unwrap_or}
use Rattle.std.proofs.lemmas.Bool.{and_right}
use Rattle.vk_model.specs.declared.entry.Entry.{Entry}
use Rattle.vk_model.specs.declared.entry.Entry.TheVariants as entry
use Rattle.vk_model.specs.Basics.{among}
use Rattle.vk_model.specs.World.Bytes.{Byte, in_buffer, in_image}
use Rattle.vk_model.specs.Trace.Point.{Past}
use Rattle.vk_model.specs.Sync.Node.{Node}
use Rattle.vk_model.specs.Run.Caches.{Cell, queue_agent, written_back, forgotten}
use Rattle.vk_model.specs.Run.Runs.{Name, is_done, offered, Step, Apply, RunPiece, CopyPart, Stage, start, may_go, touched_by, are_atoms, entered, with_parts, applied, Applies, Next, parts_left}
use Rattle.vk_model.specs.Run.CachedRuns.{Cells, numbered, named_piece, in_atoms, turned_over, after_atoms, after_piece, after_host, after_next, after_step, after_nodes, WriteBack, Drop, CachedStep, Does, Touches, CachedStage, CachedAllowed, cached_start, after_host_write}
use Rattle.vk_laws.specs.CachedRuns.{steps_of, done_through}
use Rattle.vk_laws.specs.Machine.{Task}
use Rattle.vk_laws.specs.DefinedRuns.{with_step}
use Rattle.vk_laws.specs.DirectRuns.{HostMemory, held_by_host, cells_of, DirectRun, memory_after_piece, memory_after_entry, reaches_memory, memory_after_atoms, bare_memory, writes_cache, byte_after_entry}
use Rattle.vk_laws.proofs.DirectRuns.Unheld.{Unheld, same_cells, same_memory, as_memory, atoms_unheld, host_unheld, nodes_still}
use Rattle.vk_laws.proofs.DirectRuns.Passing.{AllPassing, piece_passing, nodes_passing, all_home}

-- ---- one run after another

-- the whole run has done the tasks of the second after those of the first
pub record Joined (xs ys : List CachedStep) (s mid e : CachedStage) (first : CachedAllowed s xs mid) (second : CachedAllowed mid ys e) (done : List Task) : Type 0 where
  pub run : CachedAllowed s (xs ++ ys) e
  pub tasks : done_through s (xs ++ ys) e run done ≡ done_through mid ys e second (done_through s xs mid first done)

-- where the first run has no step
nothing_first : (ys : List CachedStep) (s mid e : CachedStage) → mid ≡ s → (second : CachedAllowed mid ys e) (done : List Task) → (run : CachedAllowed s ys e) × (done_through s ys e run done ≡ done_through mid ys e second done)
nothing_first ys s mid e same second done = subst (λ (m : CachedStage). (run : CachedAllowed m ys e) × (done_through m ys e run done ≡ done_through mid ys e second done)) same (second, refl)

pub joined : (xs ys : List CachedStep) (s mid e : CachedStage) (first : CachedAllowed s xs mid) (second : CachedAllowed mid ys e) (done : List Task) → Joined xs ys s mid e first second done
joined [] ys s mid e first second done = let r = nothing_first ys s mid e first second done in record { run = r.0; tasks = r.1 }
joined (Does step moved ∷ xs) ys s mid e first second done =
    let r = joined xs ys first.0 mid e first.2 second (with_step s.stage step done) in record { run = (first.0, first.1, r.run); tasks = r.tasks }
joined (Touches touch queue test ∷ xs) ys s mid e first second done =
    let r = joined xs ys first.0 mid e first.2 second done in record { run = (first.0, first.1, r.run); tasks = r.tasks }

pub steps_joined : (xs ys : List CachedStep) → steps_of (xs ++ ys) ≡ steps_of xs ++ steps_of ys
steps_joined [] ys = refl
steps_joined (Does step moved ∷ xs) ys = ap (λ (l : List Step). step ∷ l) (steps_joined xs ys)
steps_joined (Touches touch queue test ∷ xs) ys = steps_joined xs ys

abbrev pub direct : Stage → HostMemory → CachedStage
direct s m = record { stage = s; cells = cells_of m }

pub begun : (t : List Entry) (first : Byte → ℕ) → DirectRun t [] (start t) (bare_memory first)
begun t first = record {
  first = first;
  cached_steps = [];
  run = ap (λ (cells : Cells). record { stage = start t; cells = cells }) (same_cells (cells_of (bare_memory first)) (cached_start t first).cells (λ c. refl) each);
  same_steps = refl;
}
  where
    each : (c : Byte) (a : ℕ) → held_by_host None a ≡ None
    each c zero = refl
    each c (suc q) = refl

-- ---- more steps

module _ {t : List Entry} {steps : List Step} {s : Stage} {m : HostMemory} (r : DirectRun t steps s m) where
  pub further : (ys : List CachedStep) (e : Stage) (n : HostMemory) → CachedAllowed (direct s m) ys (direct e n) → DirectRun t (steps ++ steps_of ys) e n
  further ys e n more = record {
    first = r.first;
    cached_steps = r.cached_steps ++ ys;
    run = (joined r.cached_steps ys (cached_start t r.first) (direct s m) (direct e n) r.run more []).run;
    same_steps = steps_joined r.cached_steps ys ∙ ap (λ (l : List Step). l ++ steps_of ys) r.same_steps;
  }

  one_step : (step : Step) (moved : List ℕ) (e : Stage) (n : HostMemory) → Next s step e → cells_of n ≡ after_nodes s e (after_step s step moved (cells_of m)) → DirectRun t (steps ++ step ∷ []) e n
  one_step step moved e n next cells = further (Does step moved ∷ []) e n (direct e n, (next, cells), refl)

  pub entry_goes_on : (x : Entry) (xs : List Entry) (atoms : List ℕ) (parts : ℕ) (moved : List ℕ) → s.left ≡ x ∷ xs → IsTrue (may_go s x) → IsTrue (are_atoms s.front.past x atoms)
      → DirectRun t (steps ++ Apply atoms parts ∷ []) (applied s parts x xs) (memory_after_entry s.front.past atoms moved x m)
  entry_goes_on x xs atoms parts moved left may are =
      one_step (Apply atoms parts) moved e n (subst (λ (l : List Entry). Applies s atoms parts l e) (sym left) (may, are, refl))
      (sym (ap (after_nodes s e) (ap (λ (l : List Entry). after_next s atoms moved l (cells_of m)) left ∙ as_memory raw unheld) ∙ nodes_still s e n))
    where
      e : Stage
      e = applied s parts x xs

      n : HostMemory
      n = memory_after_entry s.front.past atoms moved x m

      raw : Cells
      raw c = after_host s.front.past moved x c (after_atoms x atoms (cells_of m) c)

      unheld : (c : Byte) → Unheld (raw c)
      unheld c = host_unheld s.front.past moved x c (after_atoms x atoms (cells_of m) c) (atoms_unheld x atoms (cells_of m) c (λ q. refl))

  pub part_goes_on : (k : ℕ) → IsTrue (among k (parts_left s)) → DirectRun t (steps ++ CopyPart k ∷ []) (record s { copied = k ∷ s.copied }) m
  part_goes_on k h = one_step (CopyPart k) [] e m (h, refl) (sym (nodes_still s e m))
    where
      e : Stage
      e = record s { copied = k ∷ s.copied }

-- ---- an entry that doesn't reach memory

pub no_atoms : (o : Option ℕ) (c : Byte) → in_atoms o [] c ≡ false
no_atoms None c = refl
no_atoms (Some b) (in_buffer i k) = and_right (b == i) (among (k / 64) []) refl
no_atoms (Some b) (in_image i l a x y p) = refl

pub untouched : (x : Entry) (m : HostMemory) (c : Byte) → after_atoms x [] (cells_of m) c ≡ cells_of m c
untouched x m c = ap (λ (b : Bool). if b then turned_over (cells_of m c) else cells_of m c) (no_atoms (touched_by x) c)

pub atoms_stay : (x : Entry) (m : HostMemory) → memory_after_atoms x [] m ≡ m
atoms_stay x m = same_memory (memory_after_atoms x [] m) m (λ c. ap (λ (cell : Cell). cell.region) (untouched x m c)) (λ c. ap (λ (cell : Cell). cell.held 0) (untouched x m c))

cell_stays : (past : Past) (m : HostMemory) (x : Entry) (c : Byte) → reaches_memory x ≡ false → after_host past [] x c (cells_of m c) ≡ cells_of m c
cell_stays past m (entry.Write b o bytes) c e = absurd cc
cell_stays past m (entry.Flush b o n) c e = absurd cc
cell_stays past m (entry.Invalidate b o n) c e = absurd cc
cell_stays past m (entry.Pass d) c e = absurd cc
cell_stays past m (entry.EndPass d kept lost) c e = absurd cc
cell_stays past m x c e = refl

pub entry_stays : (past : Past) (m : HostMemory) (x : Entry) → reaches_memory x ≡ false → memory_after_entry past [] [] x m ≡ m
entry_stays past m x e = same_memory (memory_after_entry past [] [] x m) m (λ c. ap (λ (cell : Cell). cell.region) (each c)) (λ c. ap (λ (cell : Cell). cell.held 0) (each c))
  where
    each : (c : Byte) → after_host past [] x c (after_atoms x [] (cells_of m) c) ≡ cells_of m c
    each c = ap (after_host past [] x c) (untouched x m c) ∙ cell_stays past m x c e

-- ---- an entry, where the host's cache holds nothing

bare_cell : (past : Past) (region : Byte → ℕ) (x : Entry) (c : Byte) → writes_cache past x ≡ false → after_host past [] x c (cells_of (bare_memory region) c) ≡ cells_of (bare_memory (byte_after_entry x region)) c
bare_cell past region (entry.Write b o bytes) c e = ap (λ (k : Bool). after_host_write k (written b o bytes c) (cells_of (bare_memory region) c)) e ∙ go (written b o bytes c)
  where
    go : (v : Option ℕ) → after_host_write false v (cells_of (bare_memory region) c) ≡ record { region = unwrap_or v (region c); held = held_by_host None }
    go None = refl
    go (Some v) = refl
bare_cell past region (entry.Flush b o n) c e = go (is_cached past b && reaches b o n c)
  where
    go : (k : Bool) → (if k then written_back 0 (cells_of (bare_memory region) c) else cells_of (bare_memory region) c) ≡ cells_of (bare_memory region) c
    go true = refl
    go false = refl
bare_cell past region (entry.Invalidate b o n) c e = go (is_cached past b && reaches b o n c)
  where
    nothing : (a : ℕ) → (forgotten 0 (cells_of (bare_memory region) c)).held a ≡ held_by_host None a
    nothing zero = refl
    nothing (suc q) = held_elsewhere 0 None (cells_of (bare_memory region) c) (suc q) (λ f. omega (arith, f))

    go : (k : Bool) → (if k then forgotten 0 (cells_of (bare_memory region) c) else cells_of (bare_memory region) c) ≡ cells_of (bare_memory region) c
    go true = λ i. record { region = region c; held = λ a. nothing a i }
    go false = refl
bare_cell past region x c e = refl

pub bare_after : (past : Past) (region : Byte → ℕ) (x : Entry) → writes_cache past x ≡ false → memory_after_entry past [] [] x (bare_memory region) ≡ bare_memory (byte_after_entry x region)
bare_after past region x e = same_memory (memory_after_entry past [] [] x (bare_memory region)) (bare_memory (byte_after_entry x region)) (λ c. ap (λ (cell : Cell). cell.region) (each c)) (λ c. ap (λ (cell : Cell). cell.held 0) (each c))
  where
    each : (c : Byte) → after_host past [] x c (after_atoms x [] (cells_of (bare_memory region)) c) ≡ cells_of (bare_memory (byte_after_entry x region)) c
    each c = ap (after_host past [] x c) (untouched x (bare_memory region) c) ∙ bare_cell past region x c e

-- ---- a piece that is offered

-- its queue's cache writes all back and drops it
abbrev pub piece_steps : Name → ℕ → List CachedStep
piece_steps x q = Does (RunPiece x) [] ∷ Touches WriteBack q (λ c. true) ∷ Touches Drop q (λ c. true) ∷ []

pub piece_run : (s : Stage) (m : HostMemory) (x : Name) → IsTrue (is_done (offered s.front.past s.done) x) → (n : Node) → numbered s.front.past x.0 ≡ Some n
    → CachedAllowed (direct s m) (piece_steps x n.point.queue) (direct (record s { done = x ∷ s.done }) (memory_after_piece (named_piece s.front.past x) m))
piece_run s m x h n there = (ran, ((h, refl), refl), (back, (refl, refl), (direct e after, (refl, all_home n.point.queue after.region m.host ran.cells passing), refl)))
  where
    e : Stage
    e = record s { done = x ∷ s.done }

    after : HostMemory
    after = memory_after_piece (named_piece s.front.past x) m

    ran : CachedStage
    ran = record { stage = e; cells = after_nodes s e (after_step s (RunPiece x) [] (cells_of m)) }

    back : CachedStage
    back = record { stage = e; cells = λ c. written_back (queue_agent n.point.queue) (ran.cells c) }

    agent : elim (numbered s.front.past x.0) [ None ↦ 0 | Some n ↦ queue_agent n.point.queue ] ≡ queue_agent n.point.queue
    agent = ap (λ (o : Option Node). elim o [ None ↦ 0 | Some n ↦ queue_agent n.point.queue ]) there

    passing : AllPassing n.point.queue after.region m.host ran.cells
    passing = nodes_passing n.point.queue after.region m.host s e _
        (subst (λ (a : ℕ). AllPassing n.point.queue after.region m.host (after_piece a (named_piece s.front.past x) (cells_of m))) (sym agent) (piece_passing n.point.queue m (named_piece s.front.past x)))

-- ---- a longer trace

module _ (more : List Entry) where
  abbrev longer : Stage → Stage
  longer s = record s { left = s.left ++ more }

  abbrev longer_run : CachedStage → CachedStage
  longer_run s = record s { stage = longer s.stage }

  longer_parts : (parts : ℕ) (x : Entry) (s : Stage) → longer (with_parts parts x s) ≡ with_parts parts x (longer s)
  longer_parts parts (entry.Pass d) s = refl
  longer_parts parts (entry.EndPass d kept lost) s = refl
  longer_parts parts x s = refl

  longer_next : (s e : Stage) (step : Step) → Next s step e → Next (longer s) step (longer e)
  longer_next s e (Apply atoms parts) next = go s.left next
    where
      go : (left : List Entry) → Applies s atoms parts left e → Applies (longer s) atoms parts (left ++ more) (longer e)
      go [] next = absurd next
      go (x ∷ xs) next = (next.0, next.1, ap longer next.2 ∙ longer_parts parts x (entered s x xs))
  longer_next s e (RunPiece x) next = (next.0, ap longer next.1)
  longer_next s e (CopyPart k) next = (next.0, ap longer next.1)

  longer_cells : (s e : Stage) (step : Step) (moved : List ℕ) (cells : Cells) → Next s step e → after_step s step moved cells ≡ after_step (longer s) step moved cells
  longer_cells s e (Apply atoms parts) moved cells next = go s.left next
    where
      go : (left : List Entry) → Applies s atoms parts left e → after_next s atoms moved left cells ≡ after_next (longer s) atoms moved (left ++ more) cells
      go [] next = absurd next
      go (x ∷ xs) next = refl
  longer_cells s e (RunPiece x) moved cells next = refl
  longer_cells s e (CopyPart k) moved cells next = refl

  pub longer_allowed : (steps : List CachedStep) (s e : CachedStage) → CachedAllowed s steps e → CachedAllowed (longer_run s) steps (longer_run e)
  longer_allowed [] s e run = ap longer_run run
  longer_allowed (Does step moved ∷ steps) s e run = (
    longer_run run.0,
    (longer_next s.stage run.0.stage step run.1.0, run.1.1 ∙ ap (after_nodes s.stage run.0.stage) (longer_cells s.stage run.0.stage step moved s.cells run.1.0)),
    longer_allowed steps run.0 e run.2,
  )
  longer_allowed (Touches touch queue test ∷ steps) s e run = (longer_run run.0, (ap longer run.1.0, run.1.1), longer_allowed steps run.0 e run.2)
