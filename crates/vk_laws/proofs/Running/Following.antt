-- Where the stage of an allowed run is in its trace, and that the run may go on.
use Rattle.std.proofs.Common.{◌≡◌, ◌⊎◌, inl, inr, ℕ, List, [], ◌∷◌, ◌++◌, Bool, true, false, ◌||◌, not, IsTrue, refl, sym, ◌∙◌, subst, arith}
use Rattle.std.specs.List.{list_any, filter}
use Rattle.std.proofs.lemmas.Bool.{or_left}
use Rattle.std.proofs.lemmas.List.Folds.{list_any-append}
use Rattle.vk_model.specs.declared.entry.Entry.{Entry}
use Rattle.vk_model.specs.declared.entry.Entry.TheVariants as entry
use Rattle.vk_model.specs.Basics.{below, among}
use Rattle.vk_model.specs.Laws.{GrowthKeeps}
use Rattle.vk_model.specs.Run.Runs.{Name, same_name, is_done, offered, Step, Apply, RunPiece, CopyPart, Stage, start, may_go, entered, with_parts, Applies, Next, Allowed, parts_left}
use Rattle.vk_laws.specs.DefinedRuns.{Offers, Enters, IsOver, begins_pass, FollowsTrace}
use Rattle.vk_model.proofs.Lists.Truths.{clash}
use Rattle.vk_laws.proofs.Running.Stages.{Placed, start_placed, next_placed}
use Rattle.vk_laws.proofs.Running.StageTasks.{name_itself}

-- ---- where it is

module _ (keeps : GrowthKeeps) (t : List Entry) where
  abbrev Closed : Stage → Type 0
  Closed s = (s.parts ≡ 0) × (s.copied ≡ [])

  record Follows (s : Stage) : Type 0 where
    placed : Placed keeps t s
    closed : list_any begins_pass placed.gone ≡ false → Closed s

  abbrev same_place : (s : Stage) → Placed keeps t s → (done : List Name) (parts : ℕ) (copied : List ℕ) → Placed keeps t (record s { done = done; parts = parts; copied = copied })
  same_place s p done parts copied = record { gone = p.gone; split = p.split; count = p.count; front = p.front }

  -- where no part is left none is copied
  no_part : (s : Stage) (k : ℕ) → s.parts ≡ 0 → IsTrue (among k (parts_left s)) → ⊥
  no_part s k none h = let no : IsTrue (among k (filter (λ k. not (among k s.copied)) (below 0))) = subst (λ (n : ℕ). IsTrue (among k (filter (λ k. not (among k s.copied)) (below n)))) none h in cc

  module _ (s : Stage) (i : Follows s) (x : Entry) (xs : List Entry) (left : s.left ≡ x ∷ xs) where
    unfoldable after : Placed keeps t (entered s x xs)
    unfolding next_placed
    after = next_placed keeps t s i.placed x xs left

    both : list_any begins_pass (i.placed.gone ++ x ∷ []) ≡ false → (list_any begins_pass i.placed.gone || (begins_pass x || false)) ≡ false
    both none = sym (list_any-append begins_pass i.placed.gone (x ∷ [])) ∙ none

    before : list_any begins_pass (i.placed.gone ++ x ∷ []) ≡ false → list_any begins_pass i.placed.gone ≡ false
    before none = go (list_any begins_pass i.placed.gone) refl (both none)
      where
        go : (b : Bool) → list_any begins_pass i.placed.gone ≡ b → (b || (begins_pass x || false)) ≡ false → list_any begins_pass i.placed.gone ≡ false
        go true e f = absurd cc
        go false e f = e

    itself : list_any begins_pass (i.placed.gone ++ x ∷ []) ≡ false → begins_pass x ≡ true → ⊥
    itself none e = go (list_any begins_pass i.placed.gone) (subst (λ (b : Bool). (list_any begins_pass i.placed.gone || (b || false)) ≡ false) e (both none))
      where
        go : (b : Bool) → (b || (true || false)) ≡ false → ⊥
        go true f = cc
        go false f = cc

  entry_follows : (s : Stage) → Follows s → (x : Entry) (xs : List Entry) → s.left ≡ x ∷ xs → (parts : ℕ) → Follows (with_parts parts x (entered s x xs))
  unfolding after
  entry_follows s i (entry.Pass d) xs left parts = record { placed = same_place _ (after s i (entry.Pass d) xs left) s.done parts []; closed = λ none. absurd (itself s i (entry.Pass d) xs left none refl) }
  entry_follows s i (entry.EndPass d kept lost) xs left parts = record { placed = same_place _ (after s i (entry.EndPass d kept lost) xs left) s.done 0 []; closed = λ none. (refl, refl) }
  entry_follows s i x xs left parts = record { placed = after s i x xs left; closed = λ none. i.closed (before s i x xs left none) }

  next_follows : (s : Stage) → Follows s → (step : Step) (e : Stage) → Next s step e → Follows e
  next_follows s i (Apply atoms parts) e next = go s.left refl next
    where
      go : (left : List Entry) → s.left ≡ left → Applies s atoms parts left e → Follows e
      go [] left next = absurd next
      go (x ∷ xs) left next = subst (λ (m : Stage). Follows m) (sym next.2) (entry_follows s i x xs left parts)
  next_follows s i (RunPiece x) e next = subst (λ (m : Stage). Follows m) (sym next.1) (record { placed = same_place s i.placed (x ∷ s.done) s.parts s.copied; closed = i.closed })
  next_follows s i (CopyPart k) e next = subst (λ (m : Stage). Follows m) (sym next.1)
      (record { placed = same_place s i.placed s.done s.parts (k ∷ s.copied); closed = λ none. absurd (no_part s k (i.closed none).0 next.0) })

  all_follow : (steps : List Step) (s : Stage) → Follows s → (e : Stage) → Allowed s steps e → Follows e
  all_follow [] s i e run = subst (λ (m : Stage). Follows m) (sym run) i
  all_follow (step ∷ steps) s i e run = all_follow steps run.0 (next_follows s i step run.0 run.1) e run.2

  pub run_follows : (steps : List Step) (e : Stage) → Allowed (start t) steps e → FollowsTrace t e
  run_follows steps e run =
      let i = all_follow steps (start t) (record { placed = start_placed keeps t; closed = λ none. (refl, refl) }) e run in
      record { gone = i.placed.gone; whole = i.placed.split; counted = (let same = i.placed.count in omega (arith, same)); front = i.placed.front; no_pass = i.closed }

-- ---- that it goes on

pub run_goes_on : (s : Stage) (x : Entry) (xs : List Entry) → s.left ≡ x ∷ xs → (IsOver s → s.left ≡ []) → IsTrue (may_go s x) ⊎ (y : Name) × IsTrue (is_done (offered s.front.past s.done) y)
run_goes_on s x xs left ends = go (may_go s x) refl (offered s.front.past s.done) refl
  where
    go : (b : Bool) → may_go s x ≡ b → (ys : List Name) → offered s.front.past s.done ≡ ys → IsTrue (may_go s x) ⊎ (y : Name) × IsTrue (is_done (offered s.front.past s.done) y)
    go true may ys is = inl may
    go false may (y ∷ ys) is = inr (y, subst (λ (zs : List Name). IsTrue (is_done zs y)) (sym is) (or_left (same_name y y) (is_done ys y) (name_itself y)))
    go false may [] is = absurd (let none = ends over in cc)
      where
        over : IsOver s
        over _ (Offers y h) = let no : IsTrue (is_done [] y) = subst (λ (zs : List Name). IsTrue (is_done zs y)) is h in cc
        over _ (Enters z zs other goes) = let same : x ≡ z = cc in clash {b = may_go s z} goes (subst (λ (w : Entry). may_go s w ≡ false) same may)
