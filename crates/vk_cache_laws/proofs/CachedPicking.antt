-- What a scheduler picks through caches is an allowed run, and doesn't end before the entry may be applied.
use Rattle.std.proofs.Common.{◌≡◌, ◌⊎◌, ℕ, zero, suc, ◌+◌, ◌<◌, ◌≤◌, ◌%◌, List, [], ◌∷◌, ◌++◌, map, length, Bool, true, false, IsTrue, Option, Some, None, refl, ap, sym, ◌∙◌, subst, arith, slice_get}
use Rattle.std.specs.Prelude.{◌==◌, nat_lt, nat_le, if◌then◌else◌}
use Rattle.std.specs.List.{list_all}
use Rattle.std.proofs.lemmas.Bool.{lt-ltb, leb-true, and_from}
use Rattle.std.proofs.lemmas.Option.{slice_get-get_or}
use Rattle.vk_model.specs.declared.entry.Entry.{Entry}
use Rattle.vk_model.specs.declared.entry.Entry.TheVariants as entry
use Rattle.vk_model.specs.Basics.{holds}
use Rattle.vk_model.specs.Trace.Point.{Past}
use Rattle.vk_model.specs.World.Bytes.{Byte, resource_at}
use Rattle.vk_model.specs.Run.Caches.{queue_agent}
use Rattle.vk_model.specs.Run.Runs.{Name, is_done, offered, Step, Apply, RunPiece, CopyPart, Stage, start, may_go, atom_count, entered, with_parts, applied, Applies, Next}
use Rattle.vk_model.specs.Run.Picks.{Choice, Take, Go, stepped, options, pick_of, held_after, most_picks, atom_picks}
use Rattle.vk_model.specs.Run.CachedRuns.{Cells, after_step, after_nodes, Touch, touched, CachedStep, Does, Touches, CachedStage, CachedAllowed, cached_start}
use Rattle.vk_model.proofs.Lists.Members.{place_has}
use Rattle.vk_laws.specs.DefinedRuns.{RunOf}
use Rattle.vk_laws.specs.CachedRuns.{CachedRunOf, CachedRunsAreRuns, steps_of}
use Rattle.vk_laws.proofs.DirectRuns.RunsOn.{joined}
use Rattle.vk_laws.proofs.GoingOn.{at}
use Rattle.vk_laws.proofs.Running.PickedSteps.{Fits, Takes, Goes, to_do, to_do_below, option_fits, some_option}
use Rattle.vk_cache_laws.specs.CachedPicks.{touch_of, resources_of, touches_by, CachedPicked, cache_picks, touches_after, picks_through, before_entry_through, entry_picks_through, trace_picks_through, IsRunThrough}

-- ---- runs through caches, one after another

-- steps lead through caches from a stage to another, to some bytes
pub record Leads (s : CachedStage) (steps : List CachedStep) (e : Stage) : Type 0 where
  cells : Cells
  run : CachedAllowed s steps (at e cells)

then_leads : (xs ys : List CachedStep) (s : CachedStage) (mid e : Stage) (first : Leads s xs mid) → Leads (at mid first.cells) ys e → Leads s (xs ++ ys) e
then_leads xs ys s mid e first second = record { cells = second.cells; run = (joined xs ys s (at mid first.cells) (at e second.cells) first.run second.run []).run }

stays_put : (s : CachedStage) → Leads s [] s.stage
stays_put s = record { cells = s.cells; run = refl }

-- a step that is no touch
does : (s : CachedStage) (step : Step) (moved : List ℕ) (e : Stage) → Next s.stage step e → Leads s (Does step moved ∷ []) e
does s step moved e next = let after = after_nodes s.stage e (after_step s.stage step moved s.cells) in record { cells = after; run = (at e after, (next, refl), refl) }

-- ---- touches

touch_leads : (touch : Touch) (q : ℕ) (rs : List ℕ) (s : CachedStage) → Leads s (map (λ r. Touches touch q (λ c. resource_at c == r)) rs) s.stage
touch_leads touch q [] s = stays_put s
touch_leads touch q (r ∷ rs) s =
    let after : Cells = λ c. if resource_at c == r then touched touch (queue_agent q) (s.cells c) else s.cells c in
    let rest = touch_leads touch q rs (at s.stage after) in
    record { cells = rest.cells; run = (at s.stage after, (refl, refl), rest.run) }

touches_lead : (o : Option Touch) (q : ℕ) (rs : List ℕ) (s : CachedStage) → Leads s (touches_by o q rs) s.stage
touches_lead None q rs s = stays_put s
touches_lead (Some touch) q rs s = touch_leads touch q rs s

-- ---- the stage after a step

front_stays : (step : Step) (s : Stage) → (stepped step s).front ≡ s.front
front_stays (Apply atoms parts) s = refl
front_stays (RunPiece y) s = refl
front_stays (CopyPart k) s = refl

left_stays : (step : Step) (s : Stage) → (stepped step s).left ≡ s.left
left_stays (Apply atoms parts) s = refl
left_stays (RunPiece y) s = refl
left_stays (CopyPart k) s = refl

left_after : (parts : ℕ) (x : Entry) (s : Stage) → (with_parts parts x s).left ≡ s.left
left_after parts (entry.Pass d) s = refl
left_after parts (entry.EndPass d kept lost) s = refl
left_after parts x s = refl

module _ (answer : List ℕ → ℕ → ℕ) (next : List ℕ → ℕ → List ℕ) where
  pick_below : (held : List ℕ) (n : ℕ) → 0 < n → pick_of answer next held n < n
  pick_below held n lt = go (nat_le 2 n) refl
    where
      go : (b : Bool) → nat_le 2 n ≡ b → (if b then answer held n % n else 0) < n
      go true e = let le = leb-true 2 n e in omega (arith, lt, le)
      go false e = lt

  atoms_below : (n k m : ℕ) (held : List ℕ) → k + n ≤ m → IsTrue (list_all (λ j. nat_lt j m) (atom_picks answer next n k held).0)
  atoms_below zero k m held le = refl
  atoms_below (suc n) k m held le = go (answer held 2 % 2 == 1) (atoms_below n (k + 1) m (next held 2) (omega (arith, le)))
    where
      go : (b : Bool) → IsTrue (list_all (λ j. nat_lt j m) (atom_picks answer next n (k + 1) (next held 2)).0)
          → IsTrue (list_all (λ j. nat_lt j m) (if b then k ∷ (atom_picks answer next n (k + 1) (next held 2)).0 else (atom_picks answer next n (k + 1) (next held 2)).0))
      go true rest = and_from _ _ (lt-ltb k m (omega (arith, le))) rest
      go false rest = rest

  caches_lead : (n q : ℕ) (rs held : List ℕ) (s : CachedStage) → Leads s (cache_picks answer next n q rs held).0 s.stage
  caches_lead zero q rs held s = stays_put s
  caches_lead (suc n) q rs held s =
      let first = touches_lead (touch_of (answer held 4 % 4)) q rs s in
      then_leads (touches_by (touch_of (answer held 4 % 4)) q rs) (cache_picks answer next n (q + 1) rs (next held 4)).0 s s.stage s.stage first (caches_lead n (q + 1) rs (next held 4) (at s.stage first.cells))

  after_leads : (past : Past) (step : Step) (held : List ℕ) (s : CachedStage) → Leads s (touches_after answer next past step held).0 s.stage
  after_leads past (RunPiece x) held s = caches_lead 4 0 (resources_of past x) held s
  after_leads past (Apply atoms parts) held s = stays_put s
  after_leads past (CopyPart k) held s = stays_put s

  module _ (t : List Entry) (first : Byte → ℕ) (runs : CachedRunsAreRuns) (goes_on : (steps : List Step) (s : Stage) (x : Entry) (xs : List Entry) → RunOf t steps s → s.left ≡ x ∷ xs → IsTrue (may_go s x) ⊎ (y : Name) × IsTrue (is_done (offered s.front.past s.done) y)) where
    -- a run of the trace so far
    record Came (s : CachedStage) : Type 0 where
      steps : List CachedStep
      run : CachedRunOf t first steps s

    further : (s : CachedStage) → Came s → (ys : List CachedStep) (e : Stage) (more : Leads s ys e) → Came (at e more.cells)
    further s c ys e more = record { steps = c.steps ++ ys; run = (joined c.steps ys (cached_start t first) s (at e more.cells) c.run more.run []).run }

    -- what was picked leads to the entry
    record To (s : CachedStage) (x : Entry) (p : CachedPicked) : Type 0 where
      leads : Leads s p.steps p.stage
      left : p.stage.left ≡ s.stage.left
      may : IsTrue (may_go p.stage x)

    abbrev AllTo : ℕ → Entry → List Entry → Type 0
    AllTo fuel x xs = (s : CachedStage) (held : List ℕ) → Came s → s.stage.left ≡ x ∷ xs → to_do s.stage < fuel → To s x (picks_through answer next fuel s.stage held x)

    one_more : (fuel : ℕ) (x : Entry) (xs : List Entry) → AllTo fuel x xs → AllTo (suc fuel) x xs
    one_more fuel x xs again s held c left lt = go (slice_get (options answer next s.stage x) (pick_of answer next held n)) refl
      where
        n : ℕ
        n = length (options answer next s.stage x)

        some : 0 < n
        some = some_option s.stage x answer next (goes_on (steps_of c.steps) s.stage x xs (runs t first c.steps s c.run) left)

        by_choice : (o : Choice) → Fits s.stage x o → To s x (elim o [
          | Go ↦ record { steps = []; stage = s.stage; held = held_after answer next held n }
          | Take step ↦ (let after = touches_after answer next s.stage.front.past step (held_after answer next held n) in let more = picks_through answer next fuel (stepped step s.stage) after.1 x in record more { steps = Does step [] ∷ (after.0 ++ more.steps) })
        ])
        by_choice _ (Goes may) = record { leads = stays_put s; left = refl; may = may }
        by_choice _ (Takes step allowed less) =
            let after = touches_after answer next s.stage.front.past step (held_after answer next held n) in
            let one = does s step [] (stepped step s.stage) allowed in
            let two = after_leads s.stage.front.past step (held_after answer next held n) (at (stepped step s.stage) one.cells) in
            let both = then_leads (Does step [] ∷ []) after.0 s (stepped step s.stage) (stepped step s.stage) one two in
            let rest = again (at (stepped step s.stage) both.cells) after.1 (further s c (Does step [] ∷ after.0) (stepped step s.stage) both) (left_stays step s.stage ∙ left) (omega (arith, less, lt)) in
            record {
              leads = then_leads (Does step [] ∷ after.0) (picks_through answer next fuel (stepped step s.stage) after.1 x).steps s (stepped step s.stage) (picks_through answer next fuel (stepped step s.stage) after.1 x).stage both rest.leads;
              left = rest.left ∙ left_stays step s.stage;
              may = rest.may;
            }

        go : (o : Option Choice) → slice_get (options answer next s.stage x) (pick_of answer next held n) ≡ o → To s x (elim o [
          | None ↦ record { steps = []; stage = s.stage; held = held }
          | Some c ↦ elim c [
            | Go ↦ record { steps = []; stage = s.stage; held = held_after answer next held n }
            | Take step ↦ (let after = touches_after answer next s.stage.front.past step (held_after answer next held n) in let more = picks_through answer next fuel (stepped step s.stage) after.1 x in record more { steps = Does step [] ∷ (after.0 ++ more.steps) })
          ]
        ])
        go None e = absurd (let is = slice_get-get_or (options answer next s.stage x) (pick_of answer next held n) Go (pick_below held n some) in cc)
        go (Some o) e = by_choice o (option_fits s.stage x answer next o (place_has (options answer next s.stage x) (pick_of answer next held n) o e))

    all_to : (fuel : ℕ) (x : Entry) (xs : List Entry) → AllTo fuel x xs
    all_to zero x xs = λ s held c left lt. absurd (omega (arith, lt))
    all_to (suc fuel) x xs = one_more fuel x xs (all_to fuel x xs)

    before_to : (s : CachedStage) (held : List ℕ) (x : Entry) (xs : List Entry) → Came s → s.stage.left ≡ x ∷ xs → To s x (before_entry_through answer next s.stage held x)
    before_to s held x xs c left = all_to (most_picks answer next s.stage) x xs s held c left (to_do_below answer next s.stage)

    -- ---- a trace

    record Through (s : CachedStage) (stop : Option ℕ) (p : CachedPicked) : Type 0 where
      leads : Leads s p.steps p.stage
      whole : stop ≡ None → p.stage.left ≡ []

    entry_leads : (parts : ℕ) (moved : List ℕ) (s : CachedStage) (held : List ℕ) (x : Entry) (xs : List Entry) → Came s → s.stage.left ≡ x ∷ xs
        → Leads s (entry_picks_through answer next parts moved s.stage held x xs).steps (entry_picks_through answer next parts moved s.stage held x xs).stage
    entry_leads parts moved s held x xs c left = then_leads before.steps (Does (Apply atoms parts) moved ∷ []) s before.stage after to.leads (does (at before.stage to.leads.cells) (Apply atoms parts) moved after goes)
      where
        before : CachedPicked
        before = before_entry_through answer next s.stage held x

        to : To s x before
        to = before_to s held x xs c left

        atoms : List ℕ
        atoms = (atom_picks answer next (atom_count before.stage.front.past x) 0 before.held).0

        after : Stage
        after = applied before.stage parts x xs

        goes : Next before.stage (Apply atoms parts) after
        goes = subst (λ (l : List Entry). Applies before.stage atoms parts l after) (sym (to.left ∙ left)) (to.may, atoms_below (atom_count before.stage.front.past x) 0 (atom_count before.stage.front.past x) before.held (omega arith), refl)

    trace_through : (xs : List Entry) (parts : ℕ → ℕ) (moved : ℕ → List ℕ) (stop : Option ℕ) (s : CachedStage) (held : List ℕ) → Came s → s.stage.left ≡ xs → Through s stop (trace_picks_through answer next parts moved stop s.stage held xs)
    trace_through [] parts moved stop s held c left = record { leads = stays_put s; whole = λ none. left }
    trace_through (x ∷ xs) parts moved stop s held c left =
        go (holds stop (λ n. n == s.stage.count)) refl (trace_through xs parts moved stop (at one.stage came.cells) one.held (further s c one.steps one.stage came) left_then)
      where
        one : CachedPicked
        one = entry_picks_through answer next (parts s.stage.count) (moved s.stage.count) s.stage held x xs

        came : Leads s one.steps one.stage
        came = entry_leads (parts s.stage.count) (moved s.stage.count) s held x xs c left

        left_then : one.stage.left ≡ xs
        left_then = left_after (parts s.stage.count) x (entered (before_entry_through answer next s.stage held x).stage x xs)

        rest : CachedPicked
        rest = trace_picks_through answer next parts moved stop one.stage one.held xs

        go : (b : Bool) → holds stop (λ n. n == s.stage.count) ≡ b → Through (at one.stage came.cells) stop rest → Through s stop (if b then before_entry_through answer next s.stage held x else record rest { steps = one.steps ++ rest.steps })
        go true e more = record { leads = (before_to s held x xs c left).leads; whole = λ none. absurd (let no : holds stop (λ n. n == s.stage.count) ≡ false = ap (λ (o : Option ℕ). holds o (λ n. n == s.stage.count)) none in cc) }
        go false e more = record { leads = then_leads one.steps rest.steps s one.stage rest.stage came more.leads; whole = more.whole }

    pub picked_through : (parts : ℕ → ℕ) (moved : ℕ → List ℕ) (stop : Option ℕ) (held : List ℕ) → IsRunThrough t first stop (trace_picks_through answer next parts moved stop (start t) held t)
    picked_through parts moved stop held =
        let p = trace_through t parts moved stop (cached_start t first) held (record { steps = []; run = refl }) refl in record {
          cells = p.leads.cells;
          run = p.leads.run;
          plain = runs t first (trace_picks_through answer next parts moved stop (start t) held t).steps (at (trace_picks_through answer next parts moved stop (start t) held t).stage p.leads.cells) p.leads.run;
          whole = p.whole;
        }
