-- What the definitions do with a byte's caches are touches of the machine.
use Rattle.std.proofs.Common.{◌≡◌, ◌⊎◌, inl, inr, ℕ, Bool, true, false, Option, Some, None, refl, ap, sym, ◌∙◌, subst}
use Rattle.std.specs.Prelude.{◌==◌, if◌then◌else◌}
use Rattle.std.proofs.lemmas.Bool.{eqb-true, eq-eqb}
use Rattle.vk_model.specs.Run.Caches.{Held, Clean, Dirty, Cell, with_held, written_back_if, written_back, dropped_if, dropped, loaded_if, loaded, forgotten, with_write}
use Rattle.vk_model.specs.Run.CachedRuns.{turned_over, Touch, WriteBack, Drop, Load, touched}
use Rattle.vk_laws.specs.Caches.{Others, Touched, Dropped, WrittenBack, Loaded, Wrote}

pub unchanged : (cell : Cell) → Touched cell cell
unchanged cell = Dropped refl (λ b. inl refl)

-- ---- one agent holds something else

pub held_there : (a : ℕ) (h : Option Held) (cell : Cell) → (with_held a h cell).held a ≡ h
held_there a h cell = rw (eq-eqb a a refl) refl

pub held_elsewhere : (a : ℕ) (h : Option Held) (cell : Cell) → Others a cell (with_held a h cell)
held_elsewhere a h cell b other = go (b == a) refl
  where
    go : (k : Bool) → (b == a) ≡ k → (if k then h else cell.held b) ≡ cell.held b
    go true e = absurd (other (eqb-true b a e))
    go false e = refl

-- ---- touches

back_if : (a : ℕ) (cell : Cell) (h : Option Held) → cell.held a ≡ h → Touched cell (written_back_if a h cell)
back_if a cell None e = unchanged cell
back_if a cell (Some (Clean v)) e = unchanged cell
back_if a cell (Some (Dirty v)) e = WrittenBack a v (held_elsewhere a (Some (Clean v)) cell) e (held_there a (Some (Clean v)) cell) refl

pub back_touches : (a : ℕ) (cell : Cell) → Touched cell (written_back a cell)
back_touches a cell = back_if a cell (cell.held a) refl

drop_if : (a : ℕ) (cell : Cell) (h : Option Held) → cell.held a ≡ h → Touched cell (dropped_if a h cell)
drop_if a cell None e = unchanged cell
drop_if a cell (Some (Dirty v)) e = unchanged cell
drop_if a cell (Some (Clean v)) e = Dropped refl (λ b. each b (b == a) refl)
  where
    each : (b : ℕ) (k : Bool) → (b == a) ≡ k → ((if k then None else cell.held b) ≡ cell.held b) ⊎ ((if k then None else cell.held b) ≡ None) × ((u : ℕ) → cell.held b ≡ Some (Dirty u) → ⊥)
    each b true same = inr (refl, λ u held. let mine : cell.held b ≡ Some (Clean v) = ap cell.held (eqb-true b a same) ∙ e in cc)
    each b false same = inl refl

pub drop_touches : (a : ℕ) (cell : Cell) → Touched cell (dropped a cell)
drop_touches a cell = drop_if a cell (cell.held a) refl

load_if : (a : ℕ) (cell : Cell) (h : Option Held) → cell.held a ≡ h → Touched cell (loaded_if a h cell)
load_if a cell None e = Loaded a (held_elsewhere a (Some (Clean cell.region)) cell) e (held_there a (Some (Clean cell.region)) cell) refl
load_if a cell (Some h) e = unchanged cell

load_touches : (a : ℕ) (cell : Cell) → Touched cell (loaded a cell)
load_touches a cell = load_if a cell (cell.held a) refl

pub any_touches : (t : Touch) (a : ℕ) (cell : Cell) → Touched cell (touched t a cell)
any_touches WriteBack a cell = back_touches a cell
any_touches Drop a cell = drop_touches a cell
any_touches Load a cell = load_touches a cell

-- a byte of an atom is written back first, and then dropped or loaded
pub turn_touches : (cell : Cell) → Touched (written_back 0 cell) (turned_over cell)
turn_touches cell = go (cell.held 0) refl
  where
    go : (h : Option Held) → cell.held 0 ≡ h → Touched (written_back_if 0 h cell) (elim h [ None ↦ loaded 0 cell | Some g ↦ dropped 0 (written_back 0 cell) ])
    go None e = load_touches 0 cell
    go (Some g) e = subst (λ (h : Option Held). Touched (written_back_if 0 h cell) (dropped 0 (written_back 0 cell))) e (drop_touches 0 (written_back 0 cell))

-- ---- what is held afterwards

-- where something is held now it was before, and where it is dirty it was so
pub record Within (old new : Option Held) : Type 0 where
  pub some : (h : Held) → new ≡ Some h → (g : Held) × (old ≡ Some g)
  pub dirty : (u : ℕ) → new ≡ Some (Dirty u) → (v : ℕ) × (old ≡ Some (Dirty v))

pub within_same : (old new : Option Held) → new ≡ old → Within old new
within_same old new e = record { some = λ h f. (h, sym e ∙ f); dirty = λ u f. (u, sym e ∙ f) }

pub within_joins : (a b c : Option Held) → Within a b → Within b c → Within a c
within_joins a b c first second = record {
  some = λ h f. let g = second.some h f in first.some g.0 g.1;
  dirty = λ u f. let g = second.dirty u f in first.dirty g.0 g.1;
}

within_clean : (old new : Option Held) (h : Held) (v : ℕ) → old ≡ Some h → new ≡ Some (Clean v) → Within old new
within_clean old new h v e f = record { some = λ g is. (h, e); dirty = λ u is. absurd cc }

within_none : (old new : Option Held) → new ≡ None → Within old new
within_none old new e = record { some = λ h is. absurd cc; dirty = λ u is. absurd cc }

-- what one agent gives up is within what it held
at_agent : (a : ℕ) (g : Option Held) (cell : Cell) (b : ℕ) → Within (cell.held a) g → Within (cell.held b) ((with_held a g cell).held b)
at_agent a g cell b mine = go (b == a) refl
  where
    go : (k : Bool) → (b == a) ≡ k → Within (cell.held b) (if k then g else cell.held b)
    go true e = subst (λ (i : ℕ). Within (cell.held i) g) (sym (eqb-true b a e)) mine
    go false e = within_same (cell.held b) (cell.held b) refl

pub back_within : (a : ℕ) (cell : Cell) (b : ℕ) → Within (cell.held b) ((written_back a cell).held b)
back_within a cell b = go (cell.held a) refl
  where
    go : (h : Option Held) → cell.held a ≡ h → Within (cell.held b) ((written_back_if a h cell).held b)
    go None e = within_same _ _ refl
    go (Some (Clean v)) e = within_same _ _ refl
    go (Some (Dirty v)) e = at_agent a (Some (Clean v)) cell b (within_clean (cell.held a) (Some (Clean v)) (Dirty v) v e refl)

pub drop_within : (a : ℕ) (cell : Cell) (b : ℕ) → Within (cell.held b) ((dropped a cell).held b)
drop_within a cell b = go (cell.held a)
  where
    go : (h : Option Held) → Within (cell.held b) ((dropped_if a h cell).held b)
    go None = within_same _ _ refl
    go (Some (Dirty v)) = within_same _ _ refl
    go (Some (Clean v)) = at_agent a None cell b (within_none (cell.held a) None refl)

pub forget_within : (a : ℕ) (cell : Cell) (b : ℕ) → Within (cell.held b) ((forgotten a cell).held b)
forget_within a cell b = at_agent a None cell b (within_none (cell.held a) None refl)

-- another agent holds what it held
pub load_elsewhere : (a : ℕ) (cell : Cell) → Others a cell (loaded a cell)
load_elsewhere a cell b other = go (cell.held a)
  where
    go : (h : Option Held) → (loaded_if a h cell).held b ≡ cell.held b
    go None = held_elsewhere a (Some (Clean cell.region)) cell b other
    go (Some h) = refl

pub drop_elsewhere : (a : ℕ) (cell : Cell) → Others a cell (dropped a cell)
drop_elsewhere a cell b other = go (cell.held a)
  where
    go : (h : Option Held) → (dropped_if a h cell).held b ≡ cell.held b
    go None = refl
    go (Some (Dirty v)) = refl
    go (Some (Clean v)) = held_elsewhere a None cell b other

pub drop_region : (a : ℕ) (cell : Cell) → (dropped a cell).region ≡ cell.region
drop_region a cell = go (cell.held a)
  where
    go : (h : Option Held) → (dropped_if a h cell).region ≡ cell.region
    go None = refl
    go (Some (Dirty v)) = refl
    go (Some (Clean v)) = refl

-- to forget what isn't dirty is to drop it
pub forgets_clean : (a : ℕ) (cell : Cell) → ((u : ℕ) → cell.held a ≡ Some (Dirty u) → ⊥) → (b : ℕ) → (forgotten a cell).held b ≡ (dropped a cell).held b
forgets_clean a cell never b = go (cell.held a) refl
  where
    at : (k : Bool) → (b == a) ≡ k → cell.held a ≡ None → (if k then None else cell.held b) ≡ cell.held b
    at true same e = sym (ap cell.held (eqb-true b a same) ∙ e)
    at false same e = refl

    go : (h : Option Held) → cell.held a ≡ h → (forgotten a cell).held b ≡ (dropped_if a h cell).held b
    go None e = at (b == a) refl e
    go (Some (Clean v)) e = refl
    go (Some (Dirty v)) e = absurd (never v e)

-- what is written back isn't dirty
pub back_clean : (a : ℕ) (cell : Cell) (u : ℕ) → (written_back a cell).held a ≡ Some (Dirty u) → ⊥
back_clean a cell u = go (cell.held a) refl
  where
    go : (h : Option Held) → cell.held a ≡ h → (written_back_if a h cell).held a ≡ Some (Dirty u) → ⊥
    go None e f = absurd cc
    go (Some (Clean v)) e f = absurd cc
    go (Some (Dirty v)) e f = let is = held_there a (Some (Clean v)) cell in absurd cc

-- and no copy is left of what is dropped
pub drop_gone : (a : ℕ) (cell : Cell) (u : ℕ) → (dropped a cell).held a ≡ Some (Clean u) → ⊥
drop_gone a cell u = go (cell.held a) refl
  where
    go : (h : Option Held) → cell.held a ≡ h → (dropped_if a h cell).held a ≡ Some (Clean u) → ⊥
    go None e f = absurd cc
    go (Some (Dirty v)) e f = absurd cc
    go (Some (Clean v)) e f = let is = held_there a None cell in absurd cc

-- ---- a write that the cache keeps

pub keeps_write : (a v : ℕ) (cell : Cell) → Wrote a v cell (with_write a v cell)
keeps_write a v cell = record { others = held_elsewhere a (Some (Dirty v)) cell; mine = inl (held_there a (Some (Dirty v)) cell) }
