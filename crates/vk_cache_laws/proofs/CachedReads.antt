-- What the host reads through caches, step by step.
use Rattle.std.proofs.Common.{◌≡◌, ◌⊎◌, inl, inr, ℕ, List, [], ◌∷◌, ◌++◌, length, take, refl, ap, sym, ◌∙◌, subst, append-nil, append_assoc, None, IsTrue}
use Rattle.vk_model.specs.declared.entry.Entry.{Entry}
use Rattle.vk_model.specs.declared.entry.Entry.TheVariants as entry
use Rattle.vk_model.specs.Trace.Order.{Front, after_entry, order}
use Rattle.vk_model.specs.World.Bytes.{Byte}
use Rattle.vk_model.specs.World.Effect.{world}
use Rattle.vk_model.specs.World.Meaning.{Reads, reads, read_in, meaning}
use Rattle.vk_model.specs.Rules.Table.{first_fault}
use Rattle.vk_model.specs.Run.Runs.{Name, is_done, offered, are_atoms, Step, Apply, RunPiece, CopyPart, Stage, may_go, applied, Applies, Next}
use Rattle.vk_model.specs.Run.CachedRuns.{after_step, after_nodes, CachedStep, Does, Touches, CachedStage, CachedNext, CachedAllowed, cached_start}
use Rattle.vk_laws.specs.CachedRuns.{CachedRunOf, CachedRunsAreRuns, steps_of}
use Rattle.vk_laws.specs.CacheRuns.{CachedRunsReadTheTrace}
use Rattle.vk_laws.specs.DefinedRuns.{FollowsTrace, DefinedRunsFollow}
use Rattle.vk_laws.proofs.DirectRuns.RunsOn.{joined}
use Rattle.vk_cache_laws.specs.ThroughCaches.{entry_reads, step_reads, reads_through}
use Rattle.vk_cache_laws.proofs.NextReads.{reads_next}

-- the entries that were applied
take_gone : (gone left : List Entry) → take (length gone) (gone ++ left) ≡ gone
take_gone [] left = refl
take_gone (x ∷ gone) left = ap (λ (xs : List Entry). x ∷ xs) (take_gone gone left)

-- what a stage has read by the meaning
meant : (t : List Entry) (s : Stage) → FollowsTrace t s → meaning t s.count ≡ reads s.front.past
unfolding meaning
meant t s f =
    let taken : take s.count t ≡ f.gone = ap (λ (n : ℕ). take n t) f.counted ∙ ap (λ (xs : List Entry). take (length f.gone) xs) f.whole ∙ take_gone f.gone s.left in
    ap (λ (xs : List Entry). reads (order xs)) taken ∙ ap (λ (g : Front). reads g.past) (sym f.front)

-- an entry leads to the front after it, whatever it does to passes
front_after : (s : Stage) (parts : ℕ) (x : Entry) (xs : List Entry) → (applied s parts x xs).front ≡ after_entry s.count x s.front
front_after s parts (entry.Pass d) xs = refl
front_after s parts (entry.EndPass d kept lost) xs = refl
front_after s parts x xs = refl

module _ (t : List Entry) (first : Byte → ℕ) (none : first_fault t ≡ None) (reads_trace : CachedRunsReadTheTrace) (runs : CachedRunsAreRuns) (follow : DefinedRunsFollow) where
  follows : (steps : List CachedStep) (s : CachedStage) → CachedRunOf t first steps s → FollowsTrace t s.stage
  follows steps s run = follow t (steps_of steps) s.stage (runs t first steps s run)

  -- an entry reads what it means
  entry_means : (steps : List CachedStep) (s : CachedStage) → CachedRunOf t first steps s → (atoms : List ℕ) (x : Entry) (xs : List Entry) → s.stage.left ≡ x ∷ xs
      → entry_reads s.stage.count atoms s.cells (x ∷ xs) ≡ read_in (world s.stage.front.past) s.stage.count x
  entry_means steps s run atoms (entry.Read b o n) xs left = sym (reads_trace t (steps_of steps) s.stage s.cells b o n xs atoms none (record { first = first; cached_steps = steps; run = run; same_steps = refl }) left)
  entry_means steps s run atoms x xs left = refl

  -- a step adds what it reads
  step_means : (before : List CachedStep) (s : CachedStage) → CachedRunOf t first before s → (step : CachedStep) (mid : CachedStage) → CachedNext s step mid → FollowsTrace t mid.stage
      → meaning t s.stage.count ++ step_reads s step ≡ meaning t mid.stage.count
  step_means before s run (Does (Apply atoms parts) moved) mid next f = go s.stage.left refl next.0
    where
      go : (left : List Entry) → s.stage.left ≡ left → Applies s.stage atoms parts left mid.stage → meaning t s.stage.count ++ entry_reads s.stage.count atoms s.cells left ≡ meaning t mid.stage.count
      go [] left next = absurd next
      go (x ∷ xs) left next =
          let front : mid.stage.front ≡ after_entry s.stage.count x s.stage.front = ap (λ (m : Stage). m.front) next.2 ∙ front_after s.stage parts x xs in
          ap (λ (rs : Reads). rs ++ entry_reads s.stage.count atoms s.cells (x ∷ xs)) (meant t s.stage (follows before s run))
          ∙ ap (λ (rs : Reads). reads s.stage.front.past ++ rs) (entry_means before s run atoms x xs left)
          ∙ sym (reads_next s.stage.count x s.stage.front)
          ∙ ap (λ (g : Front). reads g.past) (sym front)
          ∙ sym (meant t mid.stage f)
  step_means before s run (Does (RunPiece x) moved) mid next f = append-nil (meaning t s.stage.count) ∙ ap (λ (m : Stage). meaning t m.count) (sym next.0.1)
  step_means before s run (Does (CopyPart k) moved) mid next f = append-nil (meaning t s.stage.count) ∙ ap (λ (m : Stage). meaning t m.count) (sym next.0.1)
  step_means before s run (Touches touch q test) mid next f = append-nil (meaning t s.stage.count) ∙ ap (λ (m : Stage). meaning t m.count) (sym next.0)

  -- one step more is a run
  more : (before : List CachedStep) (s : CachedStage) → CachedRunOf t first before s → (step : CachedStep) (mid : CachedStage) → CachedNext s step mid → CachedRunOf t first (before ++ step ∷ []) mid
  more before s run step mid next = (joined before (step ∷ []) (cached_start t first) s mid run (mid, next, refl) []).run

  steps_mean : (before : List CachedStep) (s : CachedStage) → CachedRunOf t first before s → (steps : List CachedStep) (e : CachedStage) (run : CachedAllowed s steps e)
      → meaning t s.stage.count ++ reads_through s steps e run ≡ meaning t e.stage.count
  steps_mean before s so_far [] e run = append-nil (meaning t s.stage.count) ∙ ap (λ (m : CachedStage). meaning t m.stage.count) (sym run)
  steps_mean before s so_far (step ∷ steps) e run =
      let further = more before s so_far step run.0 run.1 in
      sym (append_assoc (meaning t s.stage.count) (step_reads s step) (reads_through run.0 steps e run.2))
      ∙ ap (λ (rs : Reads). rs ++ reads_through run.0 steps e run.2) (step_means before s so_far step run.0 run.1 (follows (before ++ step ∷ []) run.0 further))
      ∙ steps_mean (before ++ step ∷ []) run.0 further steps e run.2

  nothing_meant : meaning t 0 ≡ []
  unfolding meaning
  nothing_meant = refl

  pub run_means : (steps : List CachedStep) (e : CachedStage) (run : CachedRunOf t first steps e) → reads_through (cached_start t first) steps e run ≡ meaning t e.stage.count
  run_means steps e run = ap (λ (rs : Reads). rs ++ reads_through (cached_start t first) steps e run) (sym nothing_meant) ∙ steps_mean [] (cached_start t first) refl steps e run

  -- where none is left all entries were applied
  all_applied : (steps : List CachedStep) (e : CachedStage) → CachedRunOf t first steps e → e.stage.left ≡ [] → e.stage.count ≡ length t
  all_applied steps e run none_left =
      let f = follows steps e run in
      f.counted ∙ ap (λ (xs : List Entry). length xs) (sym (f.whole ∙ ap (λ (xs : List Entry). f.gone ++ xs) none_left ∙ append-nil f.gone))

  pub run_means_all : (steps : List CachedStep) (e : CachedStage) (run : CachedRunOf t first steps e) → e.stage.left ≡ [] → reads_through (cached_start t first) steps e run ≡ meaning t (length t)
  run_means_all steps e run none_left = run_means steps e run ∙ ap (λ (n : ℕ). meaning t n) (all_applied steps e run none_left)

-- ---- that it goes on

-- a step leads somewhere
led_by : (s : CachedStage) (step : Step) (e : Stage) → Next s.stage step e → (mid : CachedStage) × CachedNext s (Does step []) mid
led_by s step e next = (record { stage = e; cells = after_nodes s.stage e (after_step s.stage step [] s.cells) }, (next, refl))

-- no atom is one of the buffer
no_atoms : (s : CachedStage) (x : Entry) → IsTrue (are_atoms s.stage.front.past x [])
no_atoms s x = refl

pub goes_on : (s : CachedStage) (x : Entry) (xs : List Entry) → s.stage.left ≡ x ∷ xs → IsTrue (may_go s.stage x) ⊎ (y : Name) × IsTrue (is_done (offered s.stage.front.past s.stage.done) y)
    → (step : Step) × (moved : List ℕ) × (e : CachedStage) × CachedNext s (Does step moved) e
goes_on s x xs left (inl may) =
    let next : Next s.stage (Apply [] 0) (applied s.stage 0 x xs) = subst (λ (l : List Entry). Applies s.stage [] 0 l (applied s.stage 0 x xs)) (sym left) (may, no_atoms s x, refl) in
    let l = led_by s (Apply [] 0) (applied s.stage 0 x xs) next in (Apply [] 0, [], l.0, l.1)
goes_on s x xs left (inr o) = let l = led_by s (RunPiece o.0) (record s.stage { done = o.0 ∷ s.stage.done }) (o.1, refl) in (RunPiece o.0, [], l.0, l.1)
