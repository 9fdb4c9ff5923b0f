-- What may happen to one byte keeps it right.
use Rattle.std.proofs.Common.{◌≡◌, ◌⊎◌, inl, inr, ⊎_elim, ℕ, Option, Some, None, refl, sym, ap, ◌∙◌, subst, arith, eq-or-lt_of_le}
use Rattle.std.specs.Prelude.{⊤}
use Rattle.std.proofs.lemmas.Bool.{cases_lt}
use Rattle.vk_model.specs.Run.Caches.{Held, Clean, Dirty, Cell, value_through, view}
use Rattle.vk_laws.specs.Caches.{Others, Touched, Dropped, WrittenBack, Loaded, Wrote}
use Rattle.vk_laws.proofs.EveryOrder.Coherent.{CellOk}

same_or_not : (a b : ℕ) → (b ≡ a) ⊎ (b ≡ a → ⊥)
same_or_not a b =
    ⊎_elim (λ lt. inr (λ e. omega arith)) (λ le. ⊎_elim (λ e. inl (sym e)) (λ lt. inr (λ e. omega arith)) (eq-or-lt_of_le le)) (cases_lt b a)

module _ (x : ℕ) (cell : Cell) (owner : Option ℕ) (made_available : Type 0) (made_visible : ℕ → Type 0) (ok : CellOk x cell owner made_available made_visible) where
  region_ok : (a : ℕ) → made_visible a → cell.held a ≡ None → cell.region ≡ x
  region_ok a s e =
      ⊎_elim (λ r. r)
      (λ d. absurd (⊎_elim (λ own. let same : a ≡ d.0 = let h = d.1 in cc in let h = subst (λ (b : ℕ). cell.held b ≡ None) same e in let g = d.2 in cc) (λ f. (ok.dirty d.0 x d.2).2 f) (ok.is_visible a s)))
      ok.home

  -- it is visible to an agent that it was made visible to
  pub view_ok : (a : ℕ) → made_visible a → view a cell ≡ x
  view_ok a s = go (cell.held a) refl
    where
      go : (h : Option Held) → cell.held a ≡ h → value_through h cell.region ≡ x
      go None e = region_ok a s e
      go (Some (Clean u)) e = ok.clean a u s e
      go (Some (Dirty u)) e = (ok.dirty a u e).0

  -- bytes that aren't dirty are dropped
  dropped_ok : (new : Cell) → new.region ≡ cell.region → ((b : ℕ) → (new.held b ≡ cell.held b) ⊎ (new.held b ≡ None) × ((u : ℕ) → cell.held b ≡ Some (Dirty u) → ⊥)) → CellOk x new owner made_available made_visible
  dropped_ok new region each = record {
    dirty = λ b u e. ⊎_elim (λ same. ok.dirty b u (sym same ∙ e)) (λ d. let n = d.0 in absurd cc) (each b);
    home = ⊎_elim (λ r. inl (region ∙ r)) (λ d. ⊎_elim (λ same. inr (d.0, d.1, same ∙ d.2)) (λ none. absurd (none.1 x d.2)) (each d.0)) ok.home;
    clean = λ b u s e. ⊎_elim (λ same. ok.clean b u s (sym same ∙ e)) (λ d. let n = d.0 in absurd cc) (each b);
    is_visible = ok.is_visible;
  }

  -- a byte that isn't held is loaded
  loaded_ok : (a : ℕ) (new : Cell) → Others a cell new → cell.held a ≡ None → new.held a ≡ Some (Clean cell.region) → new.region ≡ cell.region → CellOk x new owner made_available made_visible
  loaded_ok a new others was is region = record {
    dirty = λ b u e. ⊎_elim (λ h. let g = subst (λ (i : ℕ). new.held i ≡ Some (Dirty u)) h e in absurd cc) (λ h. ok.dirty b u (sym (others b h) ∙ e)) (same_or_not a b);
    home = ⊎_elim (λ r. inl (region ∙ r))
        (λ d. ⊎_elim (λ h. let g = subst (λ (b : ℕ). cell.held b ≡ Some (Dirty x)) h d.2 in absurd cc) (λ h. inr (d.0, d.1, others d.0 h ∙ d.2)) (same_or_not a d.0))
        ok.home;
    clean = λ b u s e. ⊎_elim (λ h. let r = region_ok a (subst made_visible h s) was in let g = subst (λ (i : ℕ). new.held i ≡ Some (Clean u)) h e in cc) (λ h. ok.clean b u s (sym (others b h) ∙ e)) (same_or_not a b);
    is_visible = ok.is_visible;
  }

  written_back_ok : (a v : ℕ) (new : Cell) → Others a cell new → new.held a ≡ Some (Clean v) → new.region ≡ v → v ≡ x → CellOk x new owner made_available made_visible
  written_back_ok a v new others mine region is = record {
    dirty = λ b u e. ⊎_elim (λ h. let g = subst (λ (i : ℕ). new.held i ≡ Some (Dirty u)) h e in absurd cc) (λ h. ok.dirty b u (sym (others b h) ∙ e)) (same_or_not a b);
    home = inl (region ∙ is);
    clean = λ b u s e. ⊎_elim (λ h. let g = subst (λ (i : ℕ). new.held i ≡ Some (Clean u)) h e in cc) (λ h. ok.clean b u s (sym (others b h) ∙ e)) (same_or_not a b);
    is_visible = ok.is_visible;
  }

  pub left_ok : (new : Cell) → new.region ≡ cell.region → ((b : ℕ) → new.held b ≡ cell.held b) → CellOk x new owner made_available made_visible
  left_ok new region all = dropped_ok new region (λ b. inl (all b))

  -- the scheduler's touches keep it
  pub touched_ok : (new : Cell) → Touched cell new → CellOk x new owner made_available made_visible
  touched_ok new (Dropped region each) = dropped_ok new region each
  touched_ok new (WrittenBack a v others was is region) = written_back_ok a v new others is region (ok.dirty a v was).0
  touched_ok new (Loaded a others was is region) = loaded_ok a new others was is region

  -- a write, once the one before it was made available, or is by the same agent
  pub written_ok : (a y : ℕ) (new : Cell) (available' : Type 0) (visible' : ℕ → Type 0) → (owner ≡ Some a) ⊎ made_available → (available' → ⊥) → ((b : ℕ) → visible' b → a ≡ b) → Wrote a y cell new → CellOk y new (Some a) available' visible'
  written_ok a y new available' visible' before not_available to_self w = record {
    dirty = λ b u e. ⊎_elim
        (λ h. let at = subst (λ (i : ℕ). new.held i ≡ Some (Dirty u)) h e in let own : Some a ≡ Some b = ap Some (sym h) in
        ⊎_elim (λ d. (cc, own, not_available)) (λ r. absurd (⊎_elim (λ n. cc) (λ n. cc) r.1)) w.mine)
        (λ h. let was = ok.dirty b u (sym (w.others b h) ∙ e) in absurd (⊎_elim (λ own. let o = was.1 in h cc) (λ f. was.2 f) before))
        (same_or_not a b);
    home = ⊎_elim (λ d. inr (a, refl, d)) (λ r. inl r.0) w.mine;
    clean = λ b u s e.
        let at = subst (λ (i : ℕ). new.held i ≡ Some (Clean u)) (sym (to_self b s)) e in
        ⊎_elim (λ d. absurd cc) (λ r. ⊎_elim (λ n. absurd cc) (λ n. cc) r.1) w.mine;
    is_visible = λ b s. inl (ap Some (to_self b s));
  }

  -- a barrier, signal, wait or submit
  pub event_ok : (available' : Type 0) (visible' : ℕ → Type 0) → (available' → made_available ⊎ ((a u : ℕ) → owner ≡ Some a → cell.held a ≡ Some (Dirty u) → ⊥)) → ((a : ℕ) → visible' a → made_visible a ⊎ ((u : ℕ) → cell.held a ≡ Some (Clean u) → ⊥))
      → ((a : ℕ) → visible' a → (owner ≡ Some a) ⊎ available') → CellOk x cell owner available' visible'
  event_ok available' visible' by_free by_show is_visible' = record {
    dirty = λ a u e. let d = ok.dirty a u e in (d.0, d.1, λ f. ⊎_elim (λ old. d.2 old) (λ none. none a u d.1 e) (by_free f));
    home = ok.home;
    clean = λ a u s e. ⊎_elim (λ old. ok.clean a u old e) (λ none. absurd (none u e)) (by_show a s);
    is_visible = is_visible';
  }

pub first_ok : (cell : Cell) → ((a : ℕ) → cell.held a ≡ None) → CellOk cell.region cell None ⊤ (λ a. ⊤)
first_ok cell none = record {
  dirty = λ a u e. let n = none a in absurd cc;
  home = inl refl;
  clean = λ a u s e. let n = none a in absurd cc;
  is_visible = λ a s. inr tt;
}
