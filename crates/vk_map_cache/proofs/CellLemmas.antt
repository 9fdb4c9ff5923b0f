-- Lemmas on cells, and on what marks and values say is held.
use Rattle.std.proofs.Common.{◌≡◌, ◌≢◌, ◌<◌, ◌≤◌, ℕ, ◌+◌, List, length, get_or, set, arith, inl, inr, sym, ap, subst, ◌∙◌, ◌-◌, ◌⊎◌, Option, Some, None, Bool, true, false, if◌then◌else◌, slice_get, get_or-set_other}
use Rattle.std.proofs.lemmas.Bool.{cases_lt, le-leb, lt-leb}
use Rattle.std.proofs.lemmas.Option.{slice_get-get_or, slice_get_past}
use Rattle.std.proofs.lemmas.Grind.{get_or-set_at}
use Rattle.vk_model.specs.Run.Caches.{Held, Dirty, Cell}
use Rattle.vk_model.specs.Run.CachedRuns.{after_host_write}
use Rattle.vk_map_cache.specs.declared.mark.Mark.{Mark}
use Rattle.vk_map_cache.specs.declared.mark.Mark.TheVariants.{Absent}
use Rattle.vk_map_cache.specs.declared.mark.HeldByte.{HeldByte}
use Rattle.vk_map_cache.specs.Holdings.{IsCellOf, IsCell, given}
use Rattle.vk_map_cache.specs.Inner.Marks.{holding_of, mark_at, IsMarked}

-- the same is held, and the region has the same value
pub same_cell : {a : ℕ} {h h' : Option Held} {v v' : ℕ} {cell : Cell} → h ≡ h' → v ≡ v' → IsCellOf a h v cell → IsCellOf a h' v' cell
same_cell held region was = record { held = was.held ∙ held; region = was.region ∙ region }

-- the same mark and values
pub same_marked : {a : ℕ} {m m' : Mark} {v v' r r' : ℕ} {cell : Cell} → m ≡ m' → v ≡ v' → r ≡ r' → IsCellOf a (holding_of m v) r cell → IsCellOf a (holding_of m' v') r' cell
same_marked {m' = m'} {v = v} mark value region was =
    same_cell (ap (λ (m : Mark). holding_of m v) mark ∙ ap (λ (x : ℕ). holding_of m' x) value) region was

-- ---- one byte more that is changed

module _ (f : Cell → Cell) (marks marks' : List Mark) (values values' region region' : List ℕ) (i : ℕ) (byte : HeldByte)
    (in_marks : i < length marks') (in_values : i < length values') (in_region : i < length region')
    (kept_marks : (k : ℕ) → i ≤ k → mark_at marks' k ≡ mark_at marks k)
    (kept_values : (k : ℕ) → i ≤ k → get_or values' k 0 ≡ get_or values k 0)
    (kept_region : (k : ℕ) → i ≤ k → get_or region' k 0 ≡ get_or region k 0)
  where
    pub before_more : ((k : ℕ) (cell : Cell) → k < i → IsMarked marks values region k cell → IsMarked marks' values' region' k (f cell))
        → ((cell : Cell) → IsMarked marks' values' region' i cell → IsCell (holding_of byte.mark byte.value) byte.region (f cell))
        → (k : ℕ) (cell : Cell) → k < i + 1 → IsMarked marks values region k cell → IsMarked (set marks' i byte.mark) (set values' i byte.value) (set region' i byte.region) k (f cell)
    before_more before here k cell lt was = elim (cases_lt k i) [
      | inl h ↦
          let other : k ≢ i = omega (arith, h) in
          same_marked (sym (get_or-set_other marks' i k byte.mark Absent other)) (sym (get_or-set_other values' i k byte.value 0 other)) (sym (get_or-set_other region' i k byte.region 0 other)) (before k cell h was)
      | inr h ↦
          let at : k ≡ i = omega (arith, h, lt) in
          same_marked (sym (get_or-set_at marks' i k byte.mark Absent at in_marks)) (sym (get_or-set_at values' i k byte.value 0 at in_values)) (sym (get_or-set_at region' i k byte.region 0 at in_region))
          (here cell (same_marked
          (sym (kept_marks k h) ∙ ap (λ (n : ℕ). mark_at marks' n) at)
          (sym (kept_values k h) ∙ ap (λ (n : ℕ). get_or values' n 0) at)
          (sym (kept_region k h) ∙ ap (λ (n : ℕ). get_or region' n 0) at)
          was))
    ]

    pub marks_kept : (m : Mark) (k : ℕ) → i + 1 ≤ k → mark_at (set marks' i m) k ≡ mark_at marks k
    marks_kept m k lt = let other : k ≢ i = omega (arith, lt) in let le : i ≤ k = omega (arith, lt) in get_or-set_other marks' i k m Absent other ∙ kept_marks k le

pub kept_after : (xs xs' : List ℕ) (i v : ℕ) → ((k : ℕ) → i ≤ k → get_or xs' k 0 ≡ get_or xs k 0) → (k : ℕ) → i + 1 ≤ k → get_or (set xs' i v) k 0 ≡ get_or xs k 0
kept_after xs xs' i v kept k lt = let other : k ≢ i = omega (arith, lt) in let le : i ≤ k = omega (arith, lt) in get_or-set_other xs' i k v 0 other ∙ kept k le

-- ---- by a test

-- a cell that is changed where a test holds
pub changed_if : {a : ℕ} {h : Option Held} {v : ℕ} (f : Cell → Cell) (cell : Cell) (test : Bool) → test ≡ true → IsCellOf a h v (f cell) → IsCellOf a h v (if test then f cell else cell)
changed_if f cell true is now = now
changed_if f cell false is now = absurd cc

-- one that is kept where it doesn't
pub kept_unless : {a : ℕ} {h : Option Held} {v : ℕ} (f : Cell → Cell) (cell : Cell) (test : Bool) → test ≡ false → IsCellOf a h v cell → IsCellOf a h v (if test then f cell else cell)
kept_unless f cell true is was = absurd cc
kept_unless f cell false is was = was

-- ---- what a write gives a byte

pub given-inside : (at : ℕ) (bytes : List ℕ) (k : ℕ) → at ≤ k → k < at + length bytes → given at bytes k ≡ Some (get_or bytes (k - at) 0)
given-inside at bytes k low high = ap (λ (t : Bool). if t then slice_get bytes (k - at) else None) (le-leb at k low) ∙ slice_get-get_or bytes (k - at) 0 (omega (arith, low, high))

pub given-outside : (at : ℕ) (bytes : List ℕ) (k : ℕ) → (k < at) ⊎ (at + length bytes ≤ k) → given at bytes k ≡ None
given-outside at bytes k (inl lt) = ap (λ (t : Bool). if t then slice_get bytes (k - at) else None) (lt-leb at k lt)
given-outside at bytes k (inr le) = ap (λ (t : Bool). if t then slice_get bytes (k - at) else None) (le-leb at k (omega (arith, le))) ∙ slice_get_past bytes (k - at) (omega (arith, le))

-- a byte that is written is dirty, with its value
pub written : (h : Option Held) (value k : ℕ) (cell : Cell) (at : ℕ) (bytes : List ℕ) → given at bytes k ≡ Some (get_or bytes (k - at) 0) → h ≡ Some (Dirty (get_or bytes (k - at) 0)) → cell.region ≡ value → IsCell h value (after_host_write true (given at bytes k) cell)
written h value k cell at bytes gives is region = let P : Option ℕ → Type 0 = λ g. IsCell h value (after_host_write true g cell) in subst P (sym gives) (record { held = sym is; region = region })

-- any other is kept
pub unwritten : (h : Option Held) (value k : ℕ) (cell : Cell) (at : ℕ) (bytes : List ℕ) → given at bytes k ≡ None → IsCell h value cell → IsCell h value (after_host_write true (given at bytes k) cell)
unwritten h value k cell at bytes gives was = let P : Option ℕ → Type 0 = λ g. IsCell h value (after_host_write true g cell) in subst P (sym gives) was
