-- What a scheduler picks is an allowed run, and doesn't end before the entry may be applied.
use Rattle.std.proofs.Common.{◌≡◌, ◌⊎◌, ℕ, zero, suc, ◌+◌, ◌<◌, ◌≤◌, ◌%◌, List, [], ◌∷◌, ◌++◌, length, Bool, true, false, IsTrue, Option, Some, None, refl, ap, sym, ◌∙◌, subst, arith, slice_get}
use Rattle.std.specs.Prelude.{◌==◌, nat_lt, nat_le, if◌then◌else◌}
use Rattle.std.specs.List.{list_all}
use Rattle.std.proofs.lemmas.Bool.{lt-ltb, leb-true, and_from}
use Rattle.std.proofs.lemmas.Option.{slice_get-get_or}
use Rattle.vk_model.specs.declared.entry.Entry.{Entry}
use Rattle.vk_model.specs.declared.entry.Entry.TheVariants as entry
use Rattle.vk_model.specs.Basics.{holds}
use Rattle.vk_model.specs.Run.Runs.{Name, is_done, offered, Step, Apply, RunPiece, CopyPart, Stage, start, may_go, atom_count, entered, with_parts, applied, Applies, Next, Allowed}
use Rattle.vk_model.specs.Run.Picks.{Choice, Take, Go, Picked, stepped, options, pick_of, held_after, held_after_step, picks, most_picks, atom_picks, before_entry, entry_picks, trace_picks}
use Rattle.vk_laws.specs.DefinedRuns.{RunOf}
use Rattle.vk_laws.specs.PickedRuns.{LeadsTo, IsRun}
use Rattle.vk_model.proofs.Lists.Members.{place_has}
use Rattle.vk_laws.proofs.Running.PickedSteps.{Fits, Takes, Goes, to_do, to_do_below, option_fits, some_option}

-- ---- one run after another

allowed_joined : (xs ys : List Step) (s mid e : Stage) → Allowed s xs mid → Allowed mid ys e → Allowed s (xs ++ ys) e
allowed_joined [] ys s mid e first second = subst (λ (m : Stage). Allowed m ys e) first second
allowed_joined (x ∷ xs) ys s mid e first second = (first.0, first.1, allowed_joined xs ys first.0 mid e first.2 second)

-- ---- the stage after a step

front_stays : (step : Step) (s : Stage) → (stepped step s).front ≡ s.front
front_stays (Apply atoms parts) s = refl
front_stays (RunPiece y) s = refl
front_stays (CopyPart k) s = refl

left_stays : (step : Step) (s : Stage) → (stepped step s).left ≡ s.left
left_stays (Apply atoms parts) s = refl
left_stays (RunPiece y) s = refl
left_stays (CopyPart k) s = refl

count_stays : (step : Step) (s : Stage) → (stepped step s).count ≡ s.count
count_stays (Apply atoms parts) s = refl
count_stays (RunPiece y) s = refl
count_stays (CopyPart k) s = refl

left_after : (parts : ℕ) (x : Entry) (s : Stage) → (with_parts parts x s).left ≡ s.left
left_after parts (entry.Pass d) s = refl
left_after parts (entry.EndPass d kept lost) s = refl
left_after parts x s = refl

module _ (answer : List ℕ → ℕ → ℕ) (next : List ℕ → ℕ → List ℕ) where
  pick_below : (held : List ℕ) (n : ℕ) → 0 < n → pick_of answer next held n < n
  pick_below held n lt = go (nat_le 2 n) refl
    where
      go : (b : Bool) → nat_le 2 n ≡ b → (if b then answer held n % n else 0) < n
      go true e = let le = leb-true 2 n e in omega (arith, lt, le)
      go false e = lt

  atoms_below : (n k m : ℕ) (held : List ℕ) → k + n ≤ m → IsTrue (list_all (λ j. nat_lt j m) (atom_picks answer next n k held).0)
  atoms_below zero k m held le = refl
  atoms_below (suc n) k m held le = go (answer held 2 % 2 == 1) (atoms_below n (k + 1) m (next held 2) (omega (arith, le)))
    where
      go : (b : Bool) → IsTrue (list_all (λ j. nat_lt j m) (atom_picks answer next n (k + 1) (next held 2)).0)
          → IsTrue (list_all (λ j. nat_lt j m) (if b then k ∷ (atom_picks answer next n (k + 1) (next held 2)).0 else (atom_picks answer next n (k + 1) (next held 2)).0))
      go true rest = and_from _ _ (lt-ltb k m (omega (arith, le))) rest
      go false rest = rest

  module _ (t : List Entry) (goes_on : (steps : List Step) (s : Stage) (x : Entry) (xs : List Entry) → RunOf t steps s → s.left ≡ x ∷ xs → IsTrue (may_go s x) ⊎ (y : Name) × IsTrue (is_done (offered s.front.past s.done) y)) where
    -- ---- up to an entry

    -- what is picked with so much fuel leads to the entry
    abbrev Leads : ℕ → Entry → List Entry → Type 0
    Leads fuel x xs = (steps : List Step) (s : Stage) (held : List ℕ) → RunOf t steps s → s.left ≡ x ∷ xs → to_do s < fuel → LeadsTo s x (picks answer next fuel s held x)

    one_more : (fuel : ℕ) (x : Entry) (xs : List Entry) → Leads fuel x xs → Leads (suc fuel) x xs
    one_more fuel x xs again steps s held run left lt = go (slice_get (options answer next s x) (pick_of answer next held n)) refl
      where
        n : ℕ
        n = length (options answer next s x)

        some : 0 < n
        some = some_option s x answer next (goes_on steps s x xs run left)

        by_choice : (c : Choice) → Fits s x c → LeadsTo s x (elim c [
          | Go ↦ record { steps = []; stage = s; held = held_after answer next held n }
          | Take step ↦ (let more = picks answer next fuel (stepped step s) (held_after_step answer next step (held_after answer next held n)) x in record more { steps = step ∷ more.steps })
        ])
        by_choice _ (Goes may) = record { run = refl; front = refl; left = refl; count = refl; may = may }
        by_choice _ (Takes step allowed less) =
            let rest = again (steps ++ step ∷ []) (stepped step s) (held_after_step answer next step (held_after answer next held n)) (allowed_joined steps (step ∷ []) (start t) s (stepped step s) run (stepped step s, allowed, refl)) (left_stays step s ∙ left) (omega (arith, less, lt)) in
            record { run = (stepped step s, allowed, rest.run); front = rest.front ∙ front_stays step s; left = rest.left ∙ left_stays step s; count = rest.count ∙ count_stays step s; may = rest.may }

        go : (o : Option Choice) → slice_get (options answer next s x) (pick_of answer next held n) ≡ o → LeadsTo s x (elim o [
          | None ↦ record { steps = []; stage = s; held = held }
          | Some c ↦ elim c [
            | Go ↦ record { steps = []; stage = s; held = held_after answer next held n }
            | Take step ↦ (let more = picks answer next fuel (stepped step s) (held_after_step answer next step (held_after answer next held n)) x in record more { steps = step ∷ more.steps })
          ]
        ])
        go None e = absurd (let is = slice_get-get_or (options answer next s x) (pick_of answer next held n) Go (pick_below held n some) in cc)
        go (Some c) e = by_choice c (option_fits s x answer next c (place_has (options answer next s x) (pick_of answer next held n) c e))

    leads : (fuel : ℕ) (x : Entry) (xs : List Entry) → Leads fuel x xs
    leads zero x xs = λ steps s held run left lt. absurd (omega (arith, lt))
    leads (suc fuel) x xs = one_more fuel x xs (leads fuel x xs)

    pub picked_lead : (steps : List Step) (s : Stage) (held : List ℕ) (x : Entry) (xs : List Entry) → RunOf t steps s → s.left ≡ x ∷ xs → LeadsTo s x (before_entry answer next s held x)
    picked_lead steps s held x xs run left = leads (most_picks answer next s) x xs steps s held run left (to_do_below answer next s)

    -- ---- a trace

    record IsOn (s : Stage) (stop : Option ℕ) (p : Picked) : Type 0 where
      run : Allowed s p.steps p.stage
      whole : stop ≡ None → p.stage.left ≡ []

    -- with an entry
    entry_run : (parts : ℕ) (steps : List Step) (s : Stage) (held : List ℕ) (x : Entry) (xs : List Entry) → RunOf t steps s → s.left ≡ x ∷ xs
        → Allowed s (entry_picks answer next parts s held x xs).steps (entry_picks answer next parts s held x xs).stage
    entry_run parts steps s held x xs run left = allowed_joined before.steps (Apply atoms parts ∷ []) s before.stage after to.run (after, goes, refl)
      where
        before : Picked
        before = before_entry answer next s held x

        to : LeadsTo s x before
        to = picked_lead steps s held x xs run left

        atoms : List ℕ
        atoms = (atom_picks answer next (atom_count before.stage.front.past x) 0 before.held).0

        after : Stage
        after = applied before.stage parts x xs

        goes : Next before.stage (Apply atoms parts) after
        goes = subst (λ (l : List Entry). Applies before.stage atoms parts l after) (sym (to.left ∙ left)) (to.may, atoms_below (atom_count before.stage.front.past x) 0 (atom_count before.stage.front.past x) before.held (omega arith), refl)

    trace_run : (xs : List Entry) (parts : ℕ → ℕ) (stop : Option ℕ) (steps : List Step) (s : Stage) (held : List ℕ) → RunOf t steps s → s.left ≡ xs → IsOn s stop (trace_picks answer next parts stop s held xs)
    trace_run [] parts stop steps s held run left = record { run = refl; whole = λ none. left }
    trace_run (x ∷ xs) parts stop steps s held run left = go (holds stop (λ n. n == s.count)) refl (trace_run xs parts stop (steps ++ first.steps) first.stage first.held (allowed_joined steps first.steps (start t) s first.stage run entered_run) left_then)
      where
        first : Picked
        first = entry_picks answer next (parts s.count) s held x xs

        entered_run : Allowed s first.steps first.stage
        entered_run = entry_run (parts s.count) steps s held x xs run left

        left_then : first.stage.left ≡ xs
        left_then = left_after (parts s.count) x (entered (before_entry answer next s held x).stage x xs)

        rest : Picked
        rest = trace_picks answer next parts stop first.stage first.held xs

        go : (b : Bool) → holds stop (λ n. n == s.count) ≡ b → IsOn first.stage stop rest → IsOn s stop (if b then before_entry answer next s held x else record rest { steps = first.steps ++ rest.steps })
        go true e more = record { run = (picked_lead steps s held x xs run left).run; whole = λ none. absurd (let no : holds stop (λ n. n == s.count) ≡ false = ap (λ (o : Option ℕ). holds o (λ n. n == s.count)) none in cc) }
        go false e more = record { run = allowed_joined first.steps rest.steps s first.stage rest.stage entered_run more.run; whole = more.whole }

    pub picked_run : (parts : ℕ → ℕ) (stop : Option ℕ) (held : List ℕ) → IsRun t stop (trace_picks answer next parts stop (start t) held t)
    picked_run parts stop held = let p = trace_run t parts stop [] (start t) held refl refl in record { run = p.run; whole = p.whole }
