-- What moves is in memory as the host has written it, whatever comes meanwhile.
use Rattle.std.proofs.Common.{◌≡◌, ℕ, suc, List, [], ◌∷◌, Bool, true, false, ◌==◌, refl, ap, sym, ◌∙◌, subst, Option, Some, None}
use Rattle.std.specs.Prelude.{IsSome, ◌&&◌, if◌then◌else◌}
use Rattle.vk_map_cache.specs.Holdings.{Holdings}
use Rattle.vk_model.specs.declared.entry.Entry.{Entry}
use Rattle.vk_model.specs.declared.entry.Entry.TheVariants as entry
use Rattle.vk_model.specs.declared.resource.ImageInfo.{ImageInfo}
use Rattle.vk_model.specs.Trace.Point.{Past}
use Rattle.vk_model.specs.Trace.Objects.{is_cached}
use Rattle.vk_model.specs.Trace.Order.{host}
use Rattle.vk_model.specs.World.Bytes.{Byte, in_buffer, in_image, resource_at}
use Rattle.vk_model.specs.World.Effect.{written, reaches}
use Rattle.vk_model.specs.Run.Caches as caches
use Rattle.vk_model.specs.Run.Caches.{Cell, Clean, Dirty, queue_agent, written_back, written_back_if, dropped, dropped_if, loaded}
use Rattle.vk_model.specs.Run.CachedRuns.{after_host, after_host_write, in_atoms, turned_over}
use Rattle.vk_model.specs.Run.Runs.{touched_by}
use Rattle.vk_model.proofs.Lists.Truths.{clash}
use Rattle.vk_backing.specs.Passing.{Passing, ArePassing}
use Rattle.vk_resources.specs.declared.resources.Placed.{Placed}
use Rattle.vk_resources.specs.Held.{Held, IsConsistent, IsThere, placed_in, placed, shape_in, shape_of, host_at, holding_in, is_dirty, byte_at, place_in}
use Rattle.vk_resources.specs.Done.{HoldsNoneNew, LeavesCells, TurnsOver}
use Rattle.vk_resources.specs.Matches.{Stands}
use Rattle.vk_resources.specs.PassSteps.{AreClean}
use Rattle.vk_device.specs.Inner.Clean.{IsClean}
use Rattle.vk_device.specs.Inner.Fits.{is_of_passes}
use Rattle.vk_device.specs.Passes.{MatchesPasses}
use Rattle.vk_device.proofs.Unbroken.{BreaksNone, breaks_none}
use Rattle.vk_device.proofs.PassBytes.{of_moving, write_away}

-- ---- the host's cache

-- nothing that it holds of a byte hasn't reached memory
abbrev IsUnsoiled : Cell → Type 0
IsUnsoiled cell = is_dirty (cell.held 0) ≡ false

-- a cell of which the host's cache holds what it holds of a byte
abbrev cell_at : Held → Byte → Cell
cell_at s c = record { region = byte_at s c; held = λ a. host_at s c }

drops_unsoiled : (q : ℕ) (cell : Cell) → IsUnsoiled cell → IsUnsoiled (dropped (queue_agent q) cell)
drops_unsoiled q cell is = go (cell.held (suc q))
  where
    by : (t : Bool) → is_dirty (let o : Option caches.Held = if t then None else cell.held 0 in o) ≡ false
    by true = refl
    by false = is

    go : (h : Option caches.Held) → IsUnsoiled (dropped_if (suc q) h cell)
    go None = is
    go (Some (Clean v)) = by (0 == suc q)
    go (Some (Dirty v)) = is

back_unsoiled : (cell : Cell) → IsUnsoiled (written_back 0 cell)
back_unsoiled cell = go (cell.held 0) refl
  where
    go : (h : Option caches.Held) → cell.held 0 ≡ h → IsUnsoiled (written_back_if 0 h cell)
    go None is = ap is_dirty is
    go (Some (Clean v)) is = ap is_dirty is
    go (Some (Dirty v)) is = refl

turned_unsoiled : (cell : Cell) → IsUnsoiled (turned_over cell)
turned_unsoiled cell = go (cell.held 0) refl
  where
    dropping : (k : Cell) → IsUnsoiled k → IsUnsoiled (dropped 0 k)
    dropping k is = by (k.held 0) refl
      where
        by : (h : Option caches.Held) → k.held 0 ≡ h → IsUnsoiled (dropped_if 0 h k)
        by None e = is
        by (Some (Clean v)) e = refl
        by (Some (Dirty v)) e = is

    loading : cell.held 0 ≡ None → IsUnsoiled (loaded 0 cell)
    loading is = rw is refl

    go : (h : Option caches.Held) → cell.held 0 ≡ h → IsUnsoiled (elim h [ None ↦ loaded 0 cell | Some g ↦ dropped 0 (written_back 0 cell) ])
    go None is = loading is
    go (Some g) is = dropping (written_back 0 cell) (back_unsoiled cell)

-- ---- what moves

-- an entry of no pass makes none of it dirty
entry_unsoiled : (past : Past) (e : ℕ) (x : Entry) → is_of_passes x ≡ false → BreaksNone past (host e x) → (moved : List ℕ) (c : Byte) → ((b o : ℕ) (bytes : List ℕ) (v : ℕ) → x ≡ entry.Write b o bytes → written b o bytes c ≡ Some v → ⊥) → (cell : Cell) → IsUnsoiled cell → IsUnsoiled (after_host past moved x c cell)
entry_unsoiled past e x of none moved c away cell is = go x refl of
  where
    go : (y : Entry) → x ≡ y → is_of_passes y ≡ false → IsUnsoiled (after_host past moved y c cell)
    go (entry.Defrag i q n m) same of = absurd cc
    go (entry.Pass d) same of = absurd cc
    go (entry.EndPass d kept lost) same of = absurd cc
    go (entry.EndDefrag d) same of = absurd cc
    go (entry.Write b o bytes) same of = by (written b o bytes c) refl
      where
        by : (v : Option ℕ) → written b o bytes c ≡ v → IsUnsoiled (after_host_write (is_cached past b) v cell)
        by None f = is
        by (Some v) f = absurd (away b o bytes v same f)
    go (entry.Flush b o n) same of = by (is_cached past b && reaches b o n c)
      where
        by : (t : Bool) → IsUnsoiled (if t then written_back 0 cell else cell)
        by true = back_unsoiled cell
        by false = is
    go (entry.Invalidate b o n) same of = by (is_cached past b && reaches b o n c)
      where
        by : (t : Bool) → IsUnsoiled (if t then caches.forgotten 0 cell else cell)
        by true = refl
        by false = is
    go (entry.Submit q bs) same of = drops_unsoiled q cell is
    go _ same of = is

pub entry_clean : (e : ℕ) (x : Entry) (past : Past) (s t : Held) (p : Passing) → is_of_passes x ≡ false → IsClean (host e x ∷ past) → Stands past s → IsConsistent s → ArePassing p s.backed → MatchesPasses past p s.backed → LeavesCells past x s t → HoldsNoneNew s t → AreClean p.moving s → AreClean p.moving t
entry_clean e x past s t p of clean stands consistent are m leaves fresh all c there moves = go (place_in (shape_of s (resource_at c)) (placed s (resource_at c)) c) refl
  where
    none : BreaksNone past (host e x)
    none = breaks_none past (host e x) clean

    away : (b o : ℕ) (bytes : List ℕ) (v : ℕ) → x ≡ entry.Write b o bytes → written b o bytes c ≡ Some v → ⊥
    away b o bytes v same is = clash (of_moving past s p stands consistent are m c moves) (write_away past e b o bytes (subst (λ (y : Entry). BreaksNone past (host e y)) same none) c v is)

    old : IsThere s c → is_dirty (host_at t c) ≡ false
    old was =
        let after = leaves c (cell_at s c) was there (record { held = refl; region = refl }) in
        ap is_dirty (sym after.held) ∙ entry_unsoiled past e x of none [] c away (cell_at s c) (all c was moves)

    go : (o : Option ℕ) → place_in (shape_of s (resource_at c)) (placed s (resource_at c)) c ≡ o → is_dirty (host_at t c) ≡ false
    go None e = ap is_dirty (fresh c there (λ was. let no : false ≡ true = subst (λ (o : Option ℕ). IsSome o) e was in absurd cc))
    go (Some k) e = old (rw e refl)

-- ---- where resources lie where they lay

there_too : (s s' : Held) → s'.resources ≡ s.resources → s'.shapes ≡ s.shapes → (c : Byte) → IsThere s' c → IsThere s c
there_too s s' resources shapes c there =
    subst (λ (l : List (ℕ × ImageInfo)). IsSome (place_in (shape_in l (resource_at c)) (placed s (resource_at c)) c)) shapes
    (subst (λ (l : List (ℕ × Placed)). IsSome (place_in (shape_of s' (resource_at c)) (placed_in l (resource_at c)) c)) resources there)

-- an atom that the host's cache takes up or gives back is clean
pub atom_clean : (x : Entry) (k : ℕ) (s s' : Held) (ids : List ℕ) → TurnsOver x k s s' → s'.resources ≡ s.resources → s'.shapes ≡ s.shapes → AreClean ids s → AreClean ids s'
atom_clean x k s s' ids turns resources shapes clean c there moves =
    let was = there_too s s' resources shapes c there in
    let after = turns c (cell_at s c) was (record { held = refl; region = refl }) in
    ap is_dirty (sym after.held) ∙ by (in_atoms (touched_by x) (k ∷ []) c) was
  where
    by : (t : Bool) → IsThere s c → IsUnsoiled (if t then turned_over (cell_at s c) else cell_at s c)
    by true was = turned_unsoiled (cell_at s c)
    by false was = clean c was moves

-- and where the cache stays as well
pub same_clean : (s s' : Held) (ids : List ℕ) → s'.resources ≡ s.resources → s'.shapes ≡ s.shapes → s'.cache ≡ s.cache → AreClean ids s → AreClean ids s'
same_clean s s' ids resources shapes cache clean c there moves = ap is_dirty (same c) ∙ clean c (there_too s s' resources shapes c there) moves
  where
    same : (c : Byte) → host_at s' c ≡ host_at s c
    same (in_image i l a x y z) = refl
    same (in_buffer b k) = ap (λ (h : Holdings). holding_in h (placed s' b) k) cache ∙ ap (λ (l : List (ℕ × Placed)). holding_in s.cache (placed_in l b) k) resources
