-- What is picked through caches are the picks, with what the caches do between them.
use Rattle.std.proofs.Common.{◌≡◌, ℕ, zero, suc, ◌+◌, ◌%◌, List, [], ◌∷◌, ◌++◌, map, length, Bool, true, false, Option, Some, None, refl, ap, ◌∙◌, subst, slice_get}
use Rattle.std.specs.Prelude.{◌==◌, if◌then◌else◌}
use Rattle.vk_model.specs.declared.entry.Entry.{Entry}
use Rattle.vk_model.specs.Basics.{holds}
use Rattle.vk_model.specs.Trace.Point.{Past}
use Rattle.vk_model.specs.World.Bytes.{resource_at}
use Rattle.vk_model.specs.Run.Runs.{Step, Apply, RunPiece, CopyPart, Stage, atom_count, applied}
use Rattle.vk_model.specs.Run.Picks.{Choice, Take, Go, Picked, stepped, options, pick_of, held_after, held_after_step, picks, most_picks, atom_picks, before_entry, entry_picks, trace_picks}
use Rattle.vk_model.specs.Run.CachedRuns.{Touch, Does, Touches}
use Rattle.vk_laws.specs.CachedRuns.{steps_of}
use Rattle.vk_laws.proofs.DirectRuns.RunsOn.{steps_joined}
use Rattle.vk_cache_laws.specs.CachedPicks.{touch_of, resources_of, touches_by, CachedPicked, cache_picks, touches_after, picks_through, before_entry_through, entry_picks_through, trace_picks_through, ArePicks}

-- ---- what caches do is no step of a run

no_touch : (touch : Touch) (q : ℕ) (rs : List ℕ) → steps_of (map (λ r. Touches touch q (λ c. resource_at c == r)) rs) ≡ []
no_touch touch q [] = refl
no_touch touch q (r ∷ rs) = no_touch touch q rs

no_touches : (o : Option Touch) (q : ℕ) (rs : List ℕ) → steps_of (touches_by o q rs) ≡ []
no_touches None q rs = refl
no_touches (Some touch) q rs = no_touch touch q rs

module _ (answer : List ℕ → ℕ → ℕ) (next : List ℕ → ℕ → List ℕ) where
  by_caches : (n q : ℕ) (rs held : List ℕ) → steps_of (cache_picks answer next n q rs held).0 ≡ []
  by_caches zero q rs held = refl
  by_caches (suc n) q rs held =
      let first = touches_by (touch_of (answer held 4 % 4)) q rs in
      let more = (cache_picks answer next n (q + 1) rs (next held 4)).0 in
      steps_joined first more ∙ ap (λ (l : List Step). l ++ steps_of more) (no_touches (touch_of (answer held 4 % 4)) q rs) ∙ by_caches n (q + 1) rs (next held 4)

  after_none : (past : Past) (step : Step) (held : List ℕ) → steps_of (touches_after answer next past step held).0 ≡ []
  after_none past (RunPiece x) held = by_caches 4 0 (resources_of past x) held
  after_none past (Apply atoms parts) held = refl
  after_none past (CopyPart k) held = refl

  after_held : (past : Past) (step : Step) (held : List ℕ) → (touches_after answer next past step held).1 ≡ held_after_step answer next step held
  after_held past (RunPiece x) held = refl
  after_held past (Apply atoms parts) held = refl
  after_held past (CopyPart k) held = refl

  -- ---- before an entry

  same_picks : (fuel : ℕ) (s : Stage) (held : List ℕ) (x : Entry) → ArePicks (picks_through answer next fuel s held x) (picks answer next fuel s held x)
  same_picks zero s held x = record { steps = refl; stage = refl; held = refl }
  same_picks (suc fuel) s held x = by_option (λ e h. same_picks fuel e h x) (slice_get (options answer next s x) (pick_of answer next held n))
    where
      n : ℕ
      n = length (options answer next s x)

      Again : Type 0
      Again = (e : Stage) (h : List ℕ) → ArePicks (picks_through answer next fuel e h x) (picks answer next fuel e h x)

      by_step : Again → (step : Step) → ArePicks (let after = touches_after answer next s.front.past step (held_after answer next held n) in let more = picks_through answer next fuel (stepped step s) after.1 x in record more { steps = Does step [] ∷ (after.0 ++ more.steps) })
          (let more = picks answer next fuel (stepped step s) (held_after_step answer next step (held_after answer next held n)) x in record more { steps = step ∷ more.steps })
      by_step again step =
          let after = touches_after answer next s.front.past step (held_after answer next held n) in
          let more = picks_through answer next fuel (stepped step s) after.1 x in
          let same = subst (λ (h : List ℕ). ArePicks more (picks answer next fuel (stepped step s) h x)) (after_held s.front.past step (held_after answer next held n)) (again (stepped step s) after.1) in
          record {
            steps = ap (λ (l : List Step). step ∷ l) (steps_joined after.0 more.steps ∙ ap (λ (l : List Step). l ++ steps_of more.steps) (after_none s.front.past step (held_after answer next held n)) ∙ same.steps);
            stage = same.stage;
            held = same.held;
          }

      by_option : Again → (o : Option Choice) → ArePicks (elim o [
        | None ↦ record { steps = []; stage = s; held = held }
        | Some c ↦ elim c [
          | Go ↦ record { steps = []; stage = s; held = held_after answer next held n }
          | Take step ↦ (let after = touches_after answer next s.front.past step (held_after answer next held n) in let more = picks_through answer next fuel (stepped step s) after.1 x in record more { steps = Does step [] ∷ (after.0 ++ more.steps) })
        ]
      ]) (elim o [
        | None ↦ record { steps = []; stage = s; held = held }
        | Some c ↦ elim c [
          | Go ↦ record { steps = []; stage = s; held = held_after answer next held n }
          | Take step ↦ (let more = picks answer next fuel (stepped step s) (held_after_step answer next step (held_after answer next held n)) x in record more { steps = step ∷ more.steps })
        ]
      ])
      by_option again None = record { steps = refl; stage = refl; held = refl }
      by_option again (Some Go) = record { steps = refl; stage = refl; held = refl }
      by_option again (Some (Take step)) = by_step again step

  -- ---- with an entry, and for a trace

  with_entry : (parts : ℕ) (moved : List ℕ) (x : Entry) (xs : List Entry) (p : CachedPicked) (q : Picked) → ArePicks p q
      → ArePicks (let atoms = atom_picks answer next (atom_count p.stage.front.past x) 0 p.held in record { steps = p.steps ++ Does (Apply atoms.0 parts) moved ∷ []; stage = applied p.stage parts x xs; held = atoms.1 })
      (let atoms = atom_picks answer next (atom_count q.stage.front.past x) 0 q.held in record { steps = q.steps ++ Apply atoms.0 parts ∷ []; stage = applied q.stage parts x xs; held = atoms.1 })
  with_entry parts moved x xs p q is = record {
    steps =
        steps_joined p.steps (Does (Apply (atom_picks answer next (atom_count p.stage.front.past x) 0 p.held).0 parts) moved ∷ [])
        ∙ ap (λ (l : List Step). l ++ Apply (atom_picks answer next (atom_count p.stage.front.past x) 0 p.held).0 parts ∷ []) is.steps
        ∙ ap (λ (e : Stage). q.steps ++ Apply (atom_picks answer next (atom_count e.front.past x) 0 p.held).0 parts ∷ []) is.stage
        ∙ ap (λ (h : List ℕ). q.steps ++ Apply (atom_picks answer next (atom_count q.stage.front.past x) 0 h).0 parts ∷ []) is.held;
    stage = ap (λ (e : Stage). applied e parts x xs) is.stage;
    held = ap (λ (e : Stage). (atom_picks answer next (atom_count e.front.past x) 0 p.held).1) is.stage ∙ ap (λ (h : List ℕ). (atom_picks answer next (atom_count q.stage.front.past x) 0 h).1) is.held;
  }

  entry_same : (parts : ℕ) (moved : List ℕ) (s : Stage) (held : List ℕ) (x : Entry) (xs : List Entry) → ArePicks (entry_picks_through answer next parts moved s held x xs) (entry_picks answer next parts s held x xs)
  entry_same parts moved s held x xs = with_entry parts moved x xs (before_entry_through answer next s held x) (before_entry answer next s held x) (same_picks (most_picks answer next s) s held x)

  then_same : (one : CachedPicked) (first : Picked) → ArePicks one first → (rest : CachedPicked) (after : Picked) → ArePicks rest after → ArePicks (record rest { steps = one.steps ++ rest.steps }) (record after { steps = first.steps ++ after.steps })
  then_same one first is rest after goes = record {
    steps = steps_joined one.steps rest.steps ∙ ap (λ (l : List Step). l ++ steps_of rest.steps) is.steps ∙ ap (λ (l : List Step). first.steps ++ l) goes.steps;
    stage = goes.stage;
    held = goes.held;
  }

  pub same_for_trace : (parts : ℕ → ℕ) (moved : ℕ → List ℕ) (stop : Option ℕ) (s : Stage) (held : List ℕ) (xs : List Entry) → ArePicks (trace_picks_through answer next parts moved stop s held xs) (trace_picks answer next parts stop s held xs)
  same_for_trace parts moved stop s held [] = record { steps = refl; stage = refl; held = refl }
  same_for_trace parts moved stop s held (x ∷ xs) = go (λ e h. same_for_trace parts moved stop e h xs) (holds stop (λ n. n == s.count))
    where
      one : CachedPicked
      one = entry_picks_through answer next (parts s.count) (moved s.count) s held x xs

      first : Picked
      first = entry_picks answer next (parts s.count) s held x xs

      is : ArePicks one first
      is = entry_same (parts s.count) (moved s.count) s held x xs

      rest : CachedPicked
      rest = trace_picks_through answer next parts moved stop one.stage one.held xs

      Again : Type 0
      Again = (e : Stage) (h : List ℕ) → ArePicks (trace_picks_through answer next parts moved stop e h xs) (trace_picks answer next parts stop e h xs)

      on : Again → (e : Stage) (h : List ℕ) → one.stage ≡ e → one.held ≡ h → ArePicks rest (trace_picks answer next parts stop e h xs)
      on again e h stage holds_it =
          subst (λ (z : Stage). ArePicks rest (trace_picks answer next parts stop z h xs)) stage
          (subst (λ (z : List ℕ). ArePicks rest (trace_picks answer next parts stop one.stage z xs)) holds_it (again one.stage one.held))

      go : Again → (b : Bool) → ArePicks (if b then before_entry_through answer next s held x else record rest { steps = one.steps ++ rest.steps })
          (if b then before_entry answer next s held x else (let more = trace_picks answer next parts stop first.stage first.held xs in record more { steps = first.steps ++ more.steps }))
      go again true = same_picks (most_picks answer next s) s held x
      go again false = then_same one first is rest (trace_picks answer next parts stop first.stage first.held xs) (on again first.stage first.held is.stage is.held)
