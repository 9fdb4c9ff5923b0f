-- Lemmas on bytes that are turned in a queue's cache.
use Rattle.std.proofs.Common.{◌≡◌, inl, inr, ℕ, ◌<◌, ◌≤◌, List, length, get_or, refl, ap, sym, ◌∙◌, subst, Option, Some, None, Bool, true, false, if◌then◌else◌}
use Rattle.std.proofs.lemmas.Bool.{eq-eqb}
use Rattle.vk_model.specs.Run.Caches.{Held, Clean, Dirty, Cell, value_through, with_held, written_back_if, dropped_if, loaded_if}
use Rattle.vk_map_cache.specs.declared.mark.Mark.{Mark}
use Rattle.vk_map_cache.specs.declared.mark.Mark.TheVariants.{Absent}
use Rattle.vk_map_cache.specs.declared.mark.Mark.TheVariants as mark
use Rattle.vk_map_cache.specs.declared.marks.Turn.{Turn}
use Rattle.vk_map_cache.specs.declared.marks.Turn.TheVariants as turn
use Rattle.vk_map_cache.specs.Holdings.{IsCellOf, held_in, is_between, overwritten, mark_of}
use Rattle.vk_map_cache.specs.Inner.Marks.{holding_of, holdings_of, mark_at, turned, mark_after, value_back, value_loaded, Leaves}
use Rattle.vk_map_cache.proofs.CellLemmas.{same_cell, same_marked, changed_if, kept_unless}
use Rattle.vk_map_cache.proofs.HoldingLemmas.{held_of, held_in-holdings_of, in_range_or}

-- ---- one byte

-- what is held from now on
pub held_anew : (a : ℕ) (h : Option Held) (cell : Cell) → (with_held a h cell).held a ≡ h
held_anew a h cell = ap (λ (t : Bool). if t then h else cell.held a) (eq-eqb a a refl)

-- a change by what is held
by_held : (a : ℕ) (f : Option Held → Cell) (cell : Cell) (h h' : Option Held) (r : ℕ) → cell.held a ≡ h → IsCellOf a h' r (f h) → IsCellOf a h' r (f (cell.held a))
by_held a f cell h h' r is now = let P : Option Held → Type 0 = λ x. IsCellOf a h' r (f x) in subst P (sym is) now

pub byte_back : (a : ℕ) (m : Mark) (v r : ℕ) (cell : Cell) → IsCellOf a (holding_of m v) r cell → IsCellOf a (holding_of (mark_after turn.WriteBack m) v) (value_back m v r) (turned turn.WriteBack a cell)
byte_back a mark.Absent v r cell was = by_held a (λ h. written_back_if a h cell) cell None None r was.held was
byte_back a mark.Clean v r cell was = by_held a (λ h. written_back_if a h cell) cell (Some (Clean v)) (Some (Clean v)) r was.held was
byte_back a mark.Dirty v r cell was = by_held a (λ h. written_back_if a h cell) cell (Some (Dirty v)) (Some (Clean v)) v was.held (record { held = held_anew a (Some (Clean v)) cell; region = refl })

pub byte_loaded : (a : ℕ) (m : Mark) (v r : ℕ) (cell : Cell) → IsCellOf a (holding_of m v) r cell → IsCellOf a (holding_of (mark_after turn.Load m) (value_loaded m v r)) r (turned turn.Load a cell)
byte_loaded a mark.Absent v r cell was =
    by_held a (λ h. loaded_if a h cell) cell None (Some (Clean r)) r was.held
    (record { held = held_anew a (Some (Clean cell.region)) cell ∙ ap (λ (x : ℕ). Some (Clean x)) was.region; region = was.region })
byte_loaded a mark.Clean v r cell was = by_held a (λ h. loaded_if a h cell) cell (Some (Clean v)) (Some (Clean v)) r was.held was
byte_loaded a mark.Dirty v r cell was = by_held a (λ h. loaded_if a h cell) cell (Some (Dirty v)) (Some (Dirty v)) r was.held was

byte_dropped : (a : ℕ) (m : Mark) (v r : ℕ) (cell : Cell) → IsCellOf a (holding_of m v) r cell → IsCellOf a (holding_of (mark_after turn.Drop m) v) r (turned turn.Drop a cell)
byte_dropped a mark.Absent v r cell was = by_held a (λ h. dropped_if a h cell) cell None None r was.held was
byte_dropped a mark.Clean v r cell was = by_held a (λ h. dropped_if a h cell) cell (Some (Clean v)) None r was.held (record { held = held_anew a None cell; region = was.region })
byte_dropped a mark.Dirty v r cell was = by_held a (λ h. dropped_if a h cell) cell (Some (Dirty v)) (Some (Dirty v)) r was.held was

pub byte_left : (a : ℕ) (t : Turn) → Leaves t → (m : Mark) (v r : ℕ) (cell : Cell) → IsCellOf a (holding_of m v) r cell → IsCellOf a (holding_of (mark_after t m) v) r (turned t a cell)
byte_left a turn.WriteBack leaves m v r cell was = absurd leaves
byte_left a turn.Load leaves m v r cell was = absurd leaves
byte_left a turn.Drop leaves m v r cell was = byte_dropped a m v r cell was
byte_left a turn.Forget leaves m v r cell was = record { held = held_anew a None cell; region = was.region }

-- a byte that is held is read as its value
pub through_held : (m : Mark) (v r : ℕ) → (m ≡ mark.Absent → ⊥) → value_through (holding_of m v) r ≡ v
through_held mark.Absent v r held = absurd (held refl)
through_held mark.Clean v r held = refl
through_held mark.Dirty v r held = refl

-- a mark is that of what it says is held
pub mark_of-holding_of : (m : Mark) (v : ℕ) → mark_of (holding_of m v) ≡ m
mark_of-holding_of mark.Absent v = refl
mark_of-holding_of mark.Clean v = refl
mark_of-holding_of mark.Dirty v = refl

-- a byte that an agent writes is dirty, with its value
pub byte_written : (a v : ℕ) (h : Option Held) (value : ℕ) (given_it : Option ℕ) (cell : Cell) → given_it ≡ Some v → h ≡ Some (Dirty v) → cell.region ≡ value → IsCellOf a h value (overwritten a given_it cell)
byte_written a v h value given_it cell gives is region =
    let P : Option ℕ → Type 0 = λ g. IsCellOf a h value (overwritten a g cell) in
    subst P (sym gives) (record { held = held_anew a (Some (Dirty v)) cell ∙ sym is; region = region })

-- any other is kept
pub byte_unwritten : (a : ℕ) (h : Option Held) (value : ℕ) (given_it : Option ℕ) (cell : Cell) → given_it ≡ None → IsCellOf a h value cell → IsCellOf a h value (overwritten a given_it cell)
byte_unwritten a h value given_it cell gives was = let P : Option ℕ → Type 0 = λ g. IsCellOf a h value (overwritten a g cell) in subst P (sym gives) was

-- ---- a run of bytes that are held alike

module _ (t : Turn) (marks marks' : List Mark) (values values' : List ℕ) (held : List (Option Held)) (view : holdings_of marks values ≡ held)
    (same : length marks ≤ length values) (same' : length marks' ≤ length values') (low end : ℕ) (m : Mark)
    (alike : (k : ℕ) → low ≤ k → k < end → mark_at marks k ≡ m)
    (marked : (k : ℕ) → mark_at marks' k ≡ (if is_between low end k then mark_after t m else mark_at marks k))
    (kept : (k : ℕ) → is_between low end k ≡ false → get_or values' k 0 ≡ get_or values k 0)
  where
    pub run_turned : (a k r r' : ℕ) (cell : Cell) → (is_between low end k ≡ false → r' ≡ r)
        → (is_between low end k ≡ true → IsCellOf a (holding_of m (get_or values k 0)) r cell → IsCellOf a (holding_of (mark_after t m) (get_or values' k 0)) r' (turned t a cell))
        → IsCellOf a (held_in held k) r cell → IsCellOf a (held_in (holdings_of marks' values') k) r' (if is_between low end k then turned t a cell else cell)
    run_turned a k r r' cell region byte was = elim (in_range_or low end k) [
      | inl (is, ge, lt) ↦
          changed_if (turned t a) cell (is_between low end k) is
          (same_cell (ap (λ (x : Mark). holding_of x (get_or values' k 0)) (sym (marked k ∙ ap (λ (b : Bool). if b then mark_after t m else mark_at marks k) is)) ∙ sym now) refl
          (byte is (same_cell (then_is ∙ ap (λ (x : Mark). holding_of x (get_or values k 0)) (alike k ge lt)) refl was)))
      | inr (is, out) ↦
          kept_unless (turned t a) cell (is_between low end k) is
          (same_cell (sym now) (sym (region is))
          (same_marked (sym (marked k ∙ ap (λ (b : Bool). if b then mark_after t m else mark_at marks k) is)) (sym (kept k is)) refl (same_cell then_is refl was)))
    ]
      where
        now : held_in (holdings_of marks' values') k ≡ holding_of (mark_at marks' k) (get_or values' k 0)
        now = held_in-holdings_of marks' values' k same'

        then_is : held_in held k ≡ holding_of (mark_at marks k) (get_or values k 0)
        then_is = held_of marks values held view same k
