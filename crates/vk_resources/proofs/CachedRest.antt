-- What stays of memory where the host's cache is changed, and memory with it.
use Rattle.std.proofs.Common.{◌≡◌, ◌⊎◌, inl, inr, ℕ, ◌+◌, ◌-◌, List, length, Bool, true, false, eqb, refl, ap, sym, ◌∙◌, subst, arith, slice_index, Option, Some, None, if◌then◌else◌}
use Rattle.std.proofs.lemmas.Bool.{eqb-true, eqb-false}
use Rattle.vk_map_cache.specs.Holdings.{Holdings, held_at, IsByte, Changes, only_where}
use Rattle.vk_memory.specs.MemoryState.{MemoryState, region_of, type_of}
use Rattle.vk_model.specs.Run.Caches as caches
use Rattle.vk_model.specs.Run.Caches.{Cell, written_back, written_back_if, dropped, dropped_if, loaded_if, forgotten}
use Rattle.vk_model.specs.Run.CachedRuns.{turned_over}
use Rattle.vk_model.specs.World.Bytes.{in_buffer}
use Rattle.vk_resources.specs.declared.resources.Placed.{Placed}
use Rattle.vk_resources.specs.Held.{Held, IsCachedByte, IsInAtoms, IsWithin, IsConsistent, is_cached_in, is_dirty, placed, shape_of}
use Rattle.vk_resources.specs.Rest.{LiesNone, KeepsRest}
use Rattle.vk_resources.specs.Inner.Steps.{is_of}
use Rattle.vk_resources.proofs.Keeping.{own_byte, buffer_placed}
use Rattle.vk_resources.proofs.CachedBytes.{in_atoms_or, clear}

-- ---- changes of a byte

-- a change after which nothing is dirty, and by which memory gets only what was
pub record Settles (f : Cell → Cell) : Type 0 where
  pub clean : (cell : Cell) → is_dirty ((f cell).held 0) ≡ false
  pub still : (cell : Cell) → is_dirty (cell.held 0) ≡ false → (f cell).region ≡ cell.region

pub written_back_settles : Settles (written_back 0)
written_back_settles = record { clean = λ cell. leaves cell (cell.held 0) refl; still = λ cell e. stays cell (cell.held 0) e }
  where
    leaves : (cell : Cell) (h : Option caches.Held) → cell.held 0 ≡ h → is_dirty ((written_back_if 0 h cell).held 0) ≡ false
    leaves cell None e = ap is_dirty e
    leaves cell (Some (caches.Clean v)) e = ap is_dirty e
    leaves cell (Some (caches.Dirty v)) e = refl

    stays : (cell : Cell) (h : Option caches.Held) → is_dirty h ≡ false → (written_back_if 0 h cell).region ≡ cell.region
    stays cell None none = refl
    stays cell (Some (caches.Clean v)) none = refl
    stays cell (Some (caches.Dirty v)) none = absurd cc

pub forgotten_settles : Settles (forgotten 0)
forgotten_settles = record { clean = λ cell. refl; still = λ cell e. refl }

-- a byte that is taken up or given back, by what is held of it
abbrev turned_by : Option caches.Held → Option caches.Held → Cell → Cell
turned_by h g cell = elim h [ None ↦ loaded_if 0 g cell | Some x ↦ dropped 0 (written_back_if 0 g cell) ]

pub turned_over_settles : Settles turned_over
turned_over_settles = record { clean = λ cell. leaves cell (cell.held 0) refl; still = λ cell e. stays cell (cell.held 0) refl e }
  where
    leaves : (cell : Cell) (h : Option caches.Held) → cell.held 0 ≡ h → is_dirty ((turned_over cell).held 0) ≡ false
    leaves cell None e = ap (λ (z : Option caches.Held). is_dirty ((turned_by z z cell).held 0)) e
    leaves cell (Some (caches.Clean v)) e = ap (λ (z : Option caches.Held). is_dirty ((turned_by z z cell).held 0)) e ∙ ap (λ (z : Option caches.Held). is_dirty ((dropped_if 0 z cell).held 0)) e
    leaves cell (Some (caches.Dirty v)) e = ap (λ (z : Option caches.Held). is_dirty ((turned_by z z cell).held 0)) e

    stays : (cell : Cell) (h : Option caches.Held) → cell.held 0 ≡ h → is_dirty h ≡ false → (turned_over cell).region ≡ cell.region
    stays cell None e none = ap (λ (z : Option caches.Held). (turned_by z z cell).region) e
    stays cell (Some (caches.Clean v)) e none = ap (λ (z : Option caches.Held). (turned_by z z cell).region) e ∙ ap (λ (z : Option caches.Held). (dropped_if 0 z cell).region) e
    stays cell (Some (caches.Dirty v)) e none = absurd cc

module _ (test : ℕ → Bool) (f : Cell → Cell) (settles : Settles f) where
  pub settled_makes : (p : Placed) (k : ℕ) (cell : Cell) → is_dirty ((only_where test f k cell).held 0) ≡ true → (is_dirty (cell.held 0) ≡ true) ⊎ IsWithin p k
  settled_makes p k cell dirty = go (test k) dirty
    where
      go : (t : Bool) → is_dirty ((if t then f cell else cell).held 0) ≡ true → (is_dirty (cell.held 0) ≡ true) ⊎ IsWithin p k
      go true h = let clean = settles.clean cell in absurd cc
      go false h = inl h

  pub settled_still : (k : ℕ) (cell : Cell) → is_dirty (cell.held 0) ≡ false → (only_where test f k cell).region ≡ cell.region
  settled_still k cell e = go (test k)
    where
      go : (t : Bool) → (if t then f cell else cell).region ≡ cell.region
      go true = settles.still cell e
      go false = refl

-- ---- memory

module _ (s : Held) (consistent : IsConsistent s) (b : ℕ) (p : Placed) (here : placed s b ≡ Some p) (cached : is_cached_in s.memory p ≡ true) (memory : MemoryState) (cache : Holdings)
    (types : (q : ℕ) → type_of memory q ≡ type_of s.memory q) (elsewhere : (q : ℕ) → (q ≡ p.object → ⊥) → region_of memory q ≡ region_of s.memory q)
    (f : ℕ → Cell → Cell) (done : Changes f p.object s.cache cache (region_of s.memory p.object) (region_of memory p.object)) (outside : (k : ℕ) (cell : Cell) → (IsInAtoms p k → ⊥) → f k cell ≡ cell)
  where
    -- bytes of the memory object that aren't of the buffer
    pub changed_rest : shape_of s b ≡ None → ((k : ℕ) (cell : Cell) → is_dirty (cell.held 0) ≡ false → (f k cell).region ≡ cell.region) → KeepsRest s (record s { memory = memory; cache = cache }) (is_of b)
    changed_rest flat_is still = record {
      types = λ number was is. types number;
      sizes = λ number was is. size number (eqb number p.object) refl;
      bytes = λ number k was is none. go number k none (eqb number p.object) refl;
    }
      where
        size : (number : ℕ) (t : Bool) → eqb number p.object ≡ t → length (region_of memory number) ≡ length (region_of s.memory number)
        size number false e = ap (λ (r : List ℕ). length r) (elsewhere number (eqb-false number p.object e))
        size number true e = subst (λ (n : ℕ). length (region_of memory n) ≡ length (region_of s.memory n)) (sym (eqb-true number p.object e)) done.size

        -- no byte that hasn't reached memory lies beside the buffer
        beside : (k : ℕ) (cell : Cell) → LiesNone s (is_of b) p.object k → is_dirty (held_at s.cache p.object k) ≡ true → (f k cell).region ≡ cell.region
        beside k cell none dirty = go (eqb b w.0.id) refl
          where
            w : (w : IsCachedByte s.memory s.resources p.object k) × IsWithin w.place k
            w = consistent.1.dirty p.object k dirty

            go : (t : Bool) → eqb b w.0.id ≡ t → (f k cell).region ≡ cell.region
            go true e =
                let both : Some w.0.place ≡ Some p = sym w.0.here ∙ ap (λ (i : ℕ). placed s i) (sym (eqb-true b w.0.id e)) ∙ here in
                let same : w.0.place ≡ p = cc in
                let within : IsWithin p k = subst (λ (q : Placed). IsWithin q k) same w.1 in
                absurd (none (in_buffer b (k - p.offset)) (own_byte b (k - p.offset)) (buffer_placed s b p here flat_is k within))
            go false e = elim (in_atoms_or p k) [
              | inr out ↦ ap (λ (c : Cell). c.region) (outside k cell out)
              | inl at ↦
                  let low = w.1.0 in
                  let high = w.1.1 in
                  let place : w.0.place.offset + (k - w.0.place.offset) ≡ k = omega (arith, low) in
                  absurd (clear s consistent b p here cached memory cache types elsewhere f done outside w.0.id w.0.place w.0.here (eqb-false b w.0.id e) (k - w.0.place.offset) (omega (arith, low, high)) w.0.object (subst (λ (j : ℕ). IsInAtoms p j) (sym place) at))
            ]

        here_kept : (k : ℕ) → LiesNone s (is_of b) p.object k → slice_index (region_of memory p.object) k ≡ slice_index (region_of s.memory p.object) k
        here_kept k none = sym now.region ∙ by_dirty (is_dirty (held_at s.cache p.object k)) refl
          where
            cell : Cell
            cell = record { region = slice_index (region_of s.memory p.object) k; held = λ a. held_at s.cache p.object k }

            now : IsByte cache p.object (region_of memory p.object) k (f k cell)
            now = done.bytes k cell (record { held = refl; region = refl })

            by_dirty : (t : Bool) → is_dirty (held_at s.cache p.object k) ≡ t → (f k cell).region ≡ slice_index (region_of s.memory p.object) k
            by_dirty false e = still k cell e
            by_dirty true e = beside k cell none e

        go : (number k : ℕ) → LiesNone s (is_of b) number k → (t : Bool) → eqb number p.object ≡ t → slice_index (region_of memory number) k ≡ slice_index (region_of s.memory number) k
        go number k none false e = ap (λ (r : List ℕ). slice_index r k) (elsewhere number (eqb-false number p.object e))
        go number k none true e =
            let same = eqb-true number p.object e in
            subst (λ (n : ℕ). slice_index (region_of memory n) k ≡ slice_index (region_of s.memory n) k) (sym same) (here_kept k (subst (λ (n : ℕ). LiesNone s (is_of b) n k) same none))
