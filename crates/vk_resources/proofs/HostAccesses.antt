-- What a host access, a flush or an invalidation does to what is held, and what it is answered.
use Rattle.std.proofs.Common.{◌≡◌, ℕ, ◌+◌, ◌-◌, ◌/◌, ◌<◌, ◌≤◌, ◌==◌, List, [], ◌∷◌, map, length, Bool, true, false, ◌&&◌, ◌||◌, nat_le, refl, ap, sym, ◌∙◌, subst, arith, slice_get, slice_index, Option, Some, None, if◌then◌else◌}
use Rattle.std.specs.Prelude.{not, is_some, option_and_then}
use Rattle.std.specs.List.{range_with_len}
use Rattle.std.proofs.lemmas.List.{ext_get_or}
use Rattle.std.proofs.lemmas.List.FromFn.{get_or-map-range_with_len, length-map-range_with_len}
use Rattle.vk_map_cache.specs.Holdings.{held_at, given, only_where}
use Rattle.vk_memory.specs.MemoryState.{region_of}
use Rattle.vk_model.specs.declared.command.Length.{Length}
use Rattle.vk_model.specs.declared.command.Length.TheVariants as length_of
use Rattle.vk_model.specs.declared.entry.Entry.{Entry}
use Rattle.vk_model.specs.declared.entry.Entry.TheVariants as entry
use Rattle.vk_model.specs.declared.resource.BufferInfo.{BufferInfo}
use Rattle.vk_model.specs.Basics.{below}
use Rattle.vk_model.specs.Trace.Point.{Past}
use Rattle.vk_model.specs.Trace.Order.{host}
use Rattle.vk_model.specs.Trace.Objects.{live, buffer_in, is_cached}
use Rattle.vk_model.specs.World.Bytes.{Byte, in_buffer, in_image, resource_at}
use Rattle.vk_model.specs.declared.resource.ImageInfo.{ImageInfo}
use Rattle.vk_model.specs.World.Effect as effect
use Rattle.vk_model.specs.World.Effect.{written, reaches}
use Rattle.vk_model.specs.Run.Caches as caches
use Rattle.vk_model.specs.Run.Caches.{Cell, value_through, written_back, forgotten}
use Rattle.vk_model.specs.Run.CachedRuns.{in_atoms, turned_over, after_host, after_host_write}
use Rattle.vk_model.specs.Run.Runs.{touched_by, atom_count}
use Rattle.vk_resources.specs.declared.applied.Applied.TheVariants as applied
use Rattle.vk_resources.specs.declared.resources.Placed.{Placed}
use Rattle.vk_resources.specs.Held.{Held, placed, placed_in, shape_of, shape_in, flat, is_cached_in, is_dirty, IsThere, HasCell, byte_at, seen_at, host_at}
use Rattle.vk_resources.specs.Rest.{KeepsRest, is_dirty_at, is_changed_by, is_given_back}
use Rattle.vk_resources.specs.Matches.{MatchesLive, Stands}
use Rattle.vk_resources.specs.Fits.{FitsEntry, FitsRange, FitsLength}
use Rattle.vk_resources.specs.Done.{LeavesCells, DoneBy, TurnsOver}
use Rattle.vk_resources.specs.Inner.Steps.{HasChanged, MayReach, MayReachTo, HasAtom, cached_at, is_of, changed_of}
use Rattle.vk_resources.proofs.Matching.{placed_of_live, flat_parts, flat_from, matches_same, keeps_matches, stands_on}
use Rattle.vk_resources.proofs.Living.{live_same}
use Rattle.vk_resources.proofs.Fitting.{same_size}
use Rattle.vk_resources.proofs.Binding.{same_cached}
use Rattle.vk_resources.proofs.Lying.{there_stays}
use Rattle.vk_resources.proofs.Keeping.{narrowed}
use Rattle.vk_resources.proofs.CachedBytes.{cached_here, host_of, byte_of}
use Rattle.vk_resources.proofs.CachedRest.{written_back_settles, turned_over_settles}
use Rattle.vk_resources.proofs.Applying.{none_new}

-- ---- the buffer that an entry accesses

-- a range in a live buffer is one of a buffer that is held
module _ (past : Past) (s : Held) (m : MatchesLive past s) (b : ℕ) where
  pub range_there : (o n : ℕ) → FitsRange (option_and_then buffer_in (live past b)) o n → (p : Placed) × (flat s b ≡ Some p) × (o + n ≤ p.size)
  range_there o n fits = go (option_and_then buffer_in (live past b)) refl fits
    where
      go : (x : Option BufferInfo) → option_and_then buffer_in (live past b) ≡ x → FitsRange x o n → (p : Placed) × (flat s b ≡ Some p) × (o + n ≤ p.size)
      go None is fits = absurd fits
      go (Some info) is fits = let p = placed_of_live (live past) s b info m is in let size = p.2 in (p.0, p.1, omega (arith, fits, size))

  pub range_may : (o n : ℕ) → FitsRange (option_and_then buffer_in (live past b)) o n → MayReach (flat s b) o n
  range_may o n fits = let p = range_there o n fits in subst (λ (x : Option Placed). MayReach x o n) (sym p.1) p.2

  pub length_may : (o : ℕ) (n : Length) → FitsLength (option_and_then buffer_in (live past b)) o n → MayReachTo (flat s b) o n
  length_may o (length_of.Bytes n) fits = range_may o n fits
  length_may o length_of.Whole fits = go (option_and_then buffer_in (live past b)) refl fits
    where
      go : (x : Option BufferInfo) → option_and_then buffer_in (live past b) ≡ x → FitsLength x o length_of.Whole → MayReachTo (flat s b) o length_of.Whole
      go None is fits = absurd fits
      go (Some info) is fits =
          let p = placed_of_live (live past) s b info m is in
          let size = p.2 in
          subst (λ (x : Option Placed). MayReachTo x o length_of.Whole) (sym p.1) (omega (arith, fits, size))

  there_of : (n : Length) (o : ℕ) → FitsLength (option_and_then buffer_in (live past b)) o n → (p : Placed) × (flat s b ≡ Some p)
  there_of (length_of.Bytes n) o fits = let p = range_there o n fits in (p.0, p.1)
  there_of length_of.Whole o fits = go (flat s b) refl (length_may o length_of.Whole fits)
    where
      go : (x : Option Placed) → flat s b ≡ x → MayReachTo x o length_of.Whole → (p : Placed) × (flat s b ≡ Some p)
      go None is may = absurd may
      go (Some p) is may = (p, is)

  -- whether it is cached
  pub cached_is : (p : Placed) → flat s b ≡ Some p → is_some (cached_at s b) ≡ is_cached past b
  cached_is p flat_here = let here = (flat_parts (shape_of s b) (placed s b) p flat_here).1 in rw here (by_type (is_cached_in s.memory p)) ∙ sym (same_cached past s m b p here)
    where
      by_type : (t : Bool) → is_some (if t then Some p else None) ≡ t
      by_type true = refl
      by_type false = refl

one_buffer : (b c : ℕ) → ◌≡◌ {A = Option ℕ} (Some b) (Some c) → b ≡ c
one_buffer b c is = cc

touched_there : (past : Past) (s : Held) (m : MatchesLive past s) (x : Entry) (b : ℕ) → touched_by x ≡ Some b → FitsEntry past x → (p : Placed) × (flat s b ≡ Some p)
touched_there past s m (entry.Write c o bytes) b is fits = let p = range_there past s m c o (length bytes) fits in (p.0, ap (λ (i : ℕ). flat s i) (sym (one_buffer c b is)) ∙ p.1)
touched_there past s m (entry.Read c o n) b is fits = let p = range_there past s m c o n fits in (p.0, ap (λ (i : ℕ). flat s i) (sym (one_buffer c b is)) ∙ p.1)
touched_there past s m (entry.Flush c o n) b is fits = let p = there_of past s m c n o fits in (p.0, ap (λ (i : ℕ). flat s i) (sym (one_buffer c b is)) ∙ p.1)
touched_there past s m (entry.Invalidate c o n) b is fits = let p = there_of past s m c n o fits in (p.0, ap (λ (i : ℕ). flat s i) (sym (one_buffer c b is)) ∙ p.1)
touched_there past s m _ b is fits = absurd cc

-- ---- its atoms

pub no_atoms : (past : Past) (x : Entry) → touched_by x ≡ None → 0 ≡ atom_count past x
no_atoms past x is = rw (atom_count, is) refl

module _ (past : Past) (s : Held) (m : MatchesLive past s) (x : Entry) (b : ℕ) (is : touched_by x ≡ Some b) (fits : FitsEntry past x) where
  -- it is a buffer
  pub is_flat : shape_of s b ≡ None
  is_flat = let p = touched_there past s m x b is fits in (flat_parts (shape_of s b) (placed s b) p.0 p.1).0

  pub counted : (p : Placed) → cached_at s b ≡ Some p → atom_count past x ≡ (p.size + 63) / 64
  counted p at =
      let here = cached_here s b p at in
      let yes : is_cached past b ≡ true = same_cached past s m b p here.0 ∙ here.1 in
      rw (atom_count, is, yes) (ap (λ (n : ℕ). (n + 63) / 64) (same_size past s m b p (flat_from (shape_of s b) (placed s b) p is_flat here.0)))

  pub uncounted : cached_at s b ≡ None → 0 ≡ atom_count past x
  uncounted none =
      let p = touched_there past s m x b is fits in
      let no : is_cached past b ≡ false = sym (cached_is past s m b p.0 p.1) ∙ ap is_some none in
      rw (atom_count, is, no) refl

  pub has_atom : (k : ℕ) → k < atom_count past x → HasAtom (cached_at s b) k
  has_atom k below = go (cached_at s b) refl
    where
      go : (o : Option Placed) → cached_at s b ≡ o → HasAtom o k
      go None at = let none = uncounted at in absurd (omega (arith, below, none))
      go (Some p) at = let many = counted p at in omega (arith, below, many)

  pub turns_over : (k : ℕ) (n : Held) → k < atom_count past x → HasChanged s n b (only_where (λ j. is_some (cached_at s b) && j / 64 == k) turned_over) → TurnsOver x k s n
  turns_over k n below changed c cell there has = subst (λ (y : Cell). HasCell n c y) (same c) (changed.1 c cell there has)
    where
      cached : is_some (cached_at s b) ≡ true
      cached = go (cached_at s b) refl (has_atom k below)
        where
          go : (o : Option Placed) → cached_at s b ≡ o → HasAtom o k → is_some (cached_at s b) ≡ true
          go None at h = absurd h
          go (Some p) at h = rw at refl

      one_of : (t u : Bool) → (if t then (if u then turned_over cell else cell) else cell) ≡ (if t && (u || false) then turned_over cell else cell)
      one_of true true = refl
      one_of true false = refl
      one_of false true = refl
      one_of false false = refl

      same : (c : Byte) → changed_of b (only_where (λ j. is_some (cached_at s b) && j / 64 == k) turned_over) c cell ≡ (if in_atoms (touched_by x) (k ∷ []) c then turned_over cell else cell)
      same (in_image i l a u v z) = rw is refl
      same (in_buffer c j) = rw (is, cached) (one_of (b == c) (j / 64 == k))

-- ---- a host write

pub write_done : (old new : Held) (y : Entry) (b o : ℕ) (bytes : List ℕ) → y ≡ entry.Write b o bytes → HasChanged old new b (λ k. after_host_write (is_some (cached_at old b)) (given o bytes k)) → (e : ℕ) (past : Past) → Stands past old → FitsEntry past y → DoneBy applied.Done e y past old new
write_done old new y b o bytes is wrote e past m fit = subst (λ (x : Entry). DoneBy applied.Done e x past old new) (sym is)
    ((stands_on past e (entry.Write b o bytes) old new m (matches_same (live past) (live (host e (entry.Write b o bytes) ∷ past)) new (live_same past e (entry.Write b o bytes) refl refl) (keeps_matches (live past) old new wrote.0 m.live)), leaves, none_new old new wrote.0.resources wrote.0.shapes), λ b o n h. absurd cc)
  where
    there : (p : Placed) × (flat old b ≡ Some p)
    there = let p = range_there past old m.live b o (length bytes) (subst (λ (x : Entry). FitsEntry past x) is fit) in (p.0, p.1)

    leaves : LeavesCells past (entry.Write b o bytes) old new
    leaves c cell at after has = subst (λ (y : Cell). HasCell new c y) (same c) (wrote.1 c cell at has)
      where
        unwritten : (t : Bool) → cell ≡ after_host_write t None cell
        unwritten true = refl
        unwritten false = refl

        by_buffer : (t u : Bool) (k : ℕ) → (if u then after_host_write t (given o bytes k) cell else cell) ≡ after_host_write t (if u && nat_le o k then slice_get bytes (k - o) else None) cell
        by_buffer t true k = refl
        by_buffer t false k = unwritten t

        same : (c : Byte) → changed_of b (λ k. after_host_write (is_some (cached_at old b)) (given o bytes k)) c cell ≡ after_host_write (is_cached past b) (written b o bytes c) cell
        same (in_image i l a u v z) = unwritten (is_cached past b)
        same (in_buffer c k) = rw (cached_is past old m.live b there.0 there.1) (by_buffer (is_cached past b) (b == c) k)

-- ---- a flush and an invalidation

module _ (old new : Held) (b o : ℕ) (n : Length) (f : Cell → Cell) (changed : HasChanged old new b (only_where (λ k. is_some (cached_at old b) && effect.in_atoms o n k) f)) (past : Past) (m : MatchesLive past old) (fits : FitsLength (option_and_then buffer_in (live past b)) o n) where
  reached : (c : Byte) (cell : Cell) → IsThere old c → HasCell old c cell → HasCell new c (if is_cached past b && reaches b o n c then f cell else cell)
  reached c cell there has = subst (λ (y : Cell). HasCell new c y) (same c) (changed.1 c cell there has)
    where
      at : (p : Placed) × (flat old b ≡ Some p)
      at = there_of past old m b n o fits

      by_buffer : (t u v : Bool) → (if u then (if t && v then f cell else cell) else cell) ≡ (if t && (u && v) then f cell else cell)
      by_buffer t true v = refl
      by_buffer true false v = refl
      by_buffer false false v = refl

      by_image : (t : Bool) → cell ≡ (if t && false then f cell else cell)
      by_image true = refl
      by_image false = refl

      same : (c : Byte) → changed_of b (only_where (λ k. is_some (cached_at old b) && effect.in_atoms o n k) f) c cell ≡ (if is_cached past b && reaches b o n c then f cell else cell)
      same (in_image i l a u v z) = by_image (is_cached past b)
      same (in_buffer c k) = rw (cached_is past old m b at.0 at.1) (by_buffer (is_cached past b) (b == c) (effect.in_atoms o n k))

pub flush_done : (old new : Held) (y : Entry) (b o : ℕ) (n : Length) → y ≡ entry.Flush b o n → HasChanged old new b (only_where (λ k. is_some (cached_at old b) && effect.in_atoms o n k) (written_back 0)) → (e : ℕ) (past : Past) → Stands past old → FitsEntry past y → DoneBy applied.Done e y past old new
flush_done old new y b o n is changed e past m fit =
    let fits : FitsLength (option_and_then buffer_in (live past b)) o n = subst (λ (x : Entry). FitsEntry past x) is fit in
    subst (λ (x : Entry). DoneBy applied.Done e x past old new) (sym is) (
      (
        stands_on past e (entry.Flush b o n) old new m (matches_same (live past) (live (host e (entry.Flush b o n) ∷ past)) new (live_same past e (entry.Flush b o n) refl refl) (keeps_matches (live past) old new changed.0 m.live)),
        λ c cell there after has. reached old new b o n (written_back 0) changed past m.live fits c cell there has,
        none_new old new changed.0.resources changed.0.shapes,
      ),
      λ b o n h. absurd cc,
    )

pub invalidate_done : (old new : Held) (y : Entry) (b o : ℕ) (n : Length) → y ≡ entry.Invalidate b o n → HasChanged old new b (only_where (λ k. is_some (cached_at old b) && effect.in_atoms o n k) (forgotten 0)) → (e : ℕ) (past : Past) → Stands past old → FitsEntry past y → DoneBy applied.Done e y past old new
invalidate_done old new y b o n is changed e past m fit =
    let fits : FitsLength (option_and_then buffer_in (live past b)) o n = subst (λ (x : Entry). FitsEntry past x) is fit in
    subst (λ (x : Entry). DoneBy applied.Done e x past old new) (sym is) (
      (
        stands_on past e (entry.Invalidate b o n) old new m (matches_same (live past) (live (host e (entry.Invalidate b o n) ∷ past)) new (live_same past e (entry.Invalidate b o n) refl refl) (keeps_matches (live past) old new changed.0 m.live)),
        λ c cell there after has. reached old new b o n (forgotten 0) changed past m.live fits c cell there has,
        none_new old new changed.0.resources changed.0.shapes,
      ),
      λ b o n h. absurd cc,
    )

-- ---- what stays of memory

-- what a turned atom leaves
pub turned_rest : (old new : Held) (x : Entry) (b k : ℕ) (change : ℕ → Cell → Cell) → HasChanged old new b change → TurnsOver x k old new → KeepsRest old new (is_given_back old x k)
turned_rest old new x b k change changed turns = narrowed old new (is_of b) (is_given_back old x k) changed.0 changed.2 (λ c there among none. same c there none)
  where
    unturned : (c : Byte) (cell : Cell) → cell.held 0 ≡ host_at old c → (t : Bool) → (t && is_dirty_at old c) ≡ false → (if t then turned_over cell else cell).region ≡ cell.region
    unturned c cell held false e = refl
    unturned c cell held true e = turned_over_settles.still cell (ap is_dirty held ∙ e)

    same : (c : Byte) → IsThere old c → is_given_back old x k c ≡ false → byte_at new c ≡ byte_at old c
    same c there none =
        let cell : Cell = record { region = byte_at old c; held = λ a. host_at old c } in
        sym (turns c cell there (record { held = refl; region = refl })).region ∙ unturned c cell refl (in_atoms (touched_by x) (k ∷ []) c) none

module _ (old new : Held) (b : ℕ) (change : ℕ → Cell → Cell) (changed : HasChanged old new b change) (past : Past) (x : Entry) (leaves : LeavesCells past x old new) where
  -- an entry after which a byte of memory is another only where it is changed
  left_rest : ((c : Byte) (cell : Cell) → cell.held 0 ≡ host_at old c → is_changed_by old past x c ≡ false → (after_host past [] x c cell).region ≡ cell.region) → KeepsRest old new (is_changed_by old past x)
  left_rest unchanged = narrowed old new (is_of b) (is_changed_by old past x) changed.0 changed.2 (λ c there among none. same c there none)
    where
      same : (c : Byte) → IsThere old c → is_changed_by old past x c ≡ false → byte_at new c ≡ byte_at old c
      same c there none =
          let cell : Cell = record { region = byte_at old c; held = λ a. host_at old c } in
          let place = ap (λ (l : List (ℕ × Placed)). placed_in l (resource_at c)) changed.0.resources in
          let shape = ap (λ (l : List (ℕ × ImageInfo)). shape_in l (resource_at c)) changed.0.shapes in
          sym (leaves c cell there (there_stays old new c place shape there) (record { held = refl; region = refl })).region ∙ unchanged c cell refl none

pub write_rest : (old new : Held) (y : Entry) (b o : ℕ) (bytes : List ℕ) → y ≡ entry.Write b o bytes → HasChanged old new b (λ k. after_host_write (is_some (cached_at old b)) (given o bytes k)) → (past : Past) → Stands past old → FitsEntry past y → KeepsRest old new (is_changed_by old past y)
write_rest old new y b o bytes is wrote past m fit =
    let x : Entry = entry.Write b o bytes in
    let fits : FitsEntry past x = subst (λ (z : Entry). FitsEntry past z) is fit in
    subst (λ (z : Entry). KeepsRest old new (is_changed_by old past z)) (sym is)
    (left_rest old new b (λ k. after_host_write (is_some (cached_at old b)) (given o bytes k)) wrote past x (write_done old new x b o bytes refl wrote 0 past m fits).0.1
    (λ c cell held none. unwritten cell (is_cached past b) (written b o bytes c) none))
  where
    unwritten : (cell : Cell) (t : Bool) (v : Option ℕ) → (not t && is_some v) ≡ false → (after_host_write t v cell).region ≡ cell.region
    unwritten cell t None e = refl
    unwritten cell true (Some v) e = refl
    unwritten cell false (Some v) e = absurd cc

pub flush_rest : (old new : Held) (y : Entry) (b o : ℕ) (n : Length) → y ≡ entry.Flush b o n → HasChanged old new b (only_where (λ k. is_some (cached_at old b) && effect.in_atoms o n k) (written_back 0)) → (past : Past) → Stands past old → FitsEntry past y → KeepsRest old new (is_changed_by old past y)
flush_rest old new y b o n is changed past m fit =
    let x : Entry = entry.Flush b o n in
    let fits : FitsEntry past x = subst (λ (z : Entry). FitsEntry past z) is fit in
    subst (λ (z : Entry). KeepsRest old new (is_changed_by old past z)) (sym is)
    (left_rest old new b (only_where (λ k. is_some (cached_at old b) && effect.in_atoms o n k) (written_back 0)) changed past x (flush_done old new x b o n refl changed 0 past m fits).0.1
    (λ c cell held none. unflushed c cell held (is_cached past b && reaches b o n c) none))
  where
    unflushed : (c : Byte) (cell : Cell) → cell.held 0 ≡ host_at old c → (t : Bool) → (t && is_dirty_at old c) ≡ false → (if t then written_back 0 cell else cell).region ≡ cell.region
    unflushed c cell held false e = refl
    unflushed c cell held true e = written_back_settles.still cell (ap is_dirty held ∙ e)

pub invalidate_rest : (old new : Held) (y : Entry) (b o : ℕ) (n : Length) → y ≡ entry.Invalidate b o n → HasChanged old new b (only_where (λ k. is_some (cached_at old b) && effect.in_atoms o n k) (forgotten 0)) → (past : Past) → Stands past old → FitsEntry past y → KeepsRest old new (is_changed_by old past y)
invalidate_rest old new y b o n is changed past m fit =
    let x : Entry = entry.Invalidate b o n in
    let fits : FitsEntry past x = subst (λ (z : Entry). FitsEntry past z) is fit in
    subst (λ (z : Entry). KeepsRest old new (is_changed_by old past z)) (sym is)
    (left_rest old new b (only_where (λ k. is_some (cached_at old b) && effect.in_atoms o n k) (forgotten 0)) changed past x (invalidate_done old new x b o n refl changed 0 past m fits).0.1
    (λ c cell held none. unforgotten cell (is_cached past b && reaches b o n c)))
  where
    unforgotten : (cell : Cell) (t : Bool) → (if t then forgotten 0 cell else cell).region ≡ cell.region
    unforgotten cell true = refl
    unforgotten cell false = refl

-- ---- a read

pub read_done : (s : Held) (y : Entry) (b o n : ℕ) (bytes : List ℕ) → y ≡ entry.Read b o n → bytes ≡ map (λ k. seen_at s (in_buffer b (o + k))) (below n) → (e : ℕ) (past : Past) → Stands past s → FitsEntry past y → DoneBy (applied.Bytes bytes) e y past s s
read_done s y b o n bytes is got e past m fit =
    subst (λ (x : Entry). DoneBy (applied.Bytes bytes) e x past s s) (sym is)
    ((stands_on past e (entry.Read b o n) s s m (matches_same (live past) (live (host e (entry.Read b o n) ∷ past)) s (live_same past e (entry.Read b o n) refl refl) m.live), λ c cell there after has. has, none_new s s refl refl), got)

-- the bytes that were copied are those that the host sees
pub seen_bytes : (s : Held) (b o : ℕ) (p : Placed) (out : List ℕ) (n : ℕ) → flat s b ≡ Some p → o + n ≤ p.size → length out ≡ n
    → ((k : ℕ) → k < n → slice_index out k ≡ value_through (held_at s.cache p.object (p.offset + o + k)) (slice_index (region_of s.memory p.object) (p.offset + o + k))) → out ≡ map (λ k. seen_at s (in_buffer b (o + k))) (below n)
seen_bytes s b o p out n flat_here fits long each =
    let f : ℕ → ℕ = λ k. seen_at s (in_buffer b (o + k)) in
    let size : length (map f (range_with_len 0 n)) ≡ n = length-map-range_with_len f 0 n in
    ext_get_or 0 out (map f (range_with_len 0 n)) (long ∙ sym size)
    (λ i lt. let lt' : i < n = omega (arith, lt, long) in byte i lt' ∙ sym (get_or-map-range_with_len f 0 n i i 0 lt' (omega arith)))
  where
    flat_is : shape_of s b ≡ None
    flat_is = (flat_parts (shape_of s b) (placed s b) p flat_here).0

    here : placed s b ≡ Some p
    here = (flat_parts (shape_of s b) (placed s b) p flat_here).1

    byte : (i : ℕ) → i < n → slice_index out i ≡ seen_at s (in_buffer b (o + i))
    byte i lt =
        let within : o + i < p.size = omega (arith, fits, lt) in
        let place : p.offset + o + i ≡ p.offset + (o + i) = omega arith in
        each i lt ∙ ap (λ (k : ℕ). value_through (held_at s.cache p.object k) (slice_index (region_of s.memory p.object) k)) place
        ∙ sym (ap (λ (v : ℕ). value_through (host_at s (in_buffer b (o + i))) v) (byte_of s b p here flat_is (o + i) within) ∙ ap (λ (h : Option caches.Held). value_through h (slice_index (region_of s.memory p.object) (p.offset + (o + i)))) (host_of s b p here (o + i) within))
