-- What the host's cache does to the bytes of all buffers, where a call changes those of one in cached memory.
use Rattle.std.proofs.Common.{◌≡◌, ◌⊎◌, inl, inr, ℕ, zero, suc, ◌+◌, ◌-◌, ◌/◌, ◌%◌, ◌<◌, ◌≤◌, ◌==◌, List, length, Bool, true, false, ◌&&◌, eqb, nat_lt, nat_le, refl, ap, sym, ◌∙◌, subst, arith, slice_index, Option, Some, None, if◌then◌else◌}
use Rattle.std.proofs.lemmas.Bool.{eqb-true, eqb-false, lt-ltb, le-leb, lt-leb, cases_lt, and_parts, and_right, leb-true, ltb-true, false_from_ne_true}
use Rattle.std.proofs.lemmas.Bool.Decides.{nat_tests}
use Rattle.std.specs.Prelude.{IsSome, is_some, option_and_then}
use Rattle.vk_map_cache.specs.Holdings.{Holdings, held_at, IsByte, Changes, given, is_reached, is_in_atom}
use Rattle.vk_map_cache.proofs.CellLemmas.{same_cell, given-outside}
use Rattle.vk_memory.specs.MemoryState.{MemoryState, region_of, type_of}
use Rattle.vk_model.specs.declared.resource.ImageInfo.{ImageInfo}
use Rattle.vk_model.specs.declared.command.Length.{Length}
use Rattle.vk_model.specs.declared.command.Length.TheVariants as length_of
use Rattle.vk_model.specs.Run.Caches as caches
use Rattle.vk_model.specs.Run.Caches.{Cell}
use Rattle.vk_model.specs.Run.CachedRuns.{after_host_write}
use Rattle.vk_model.specs.World.Bytes.{Byte, in_buffer, in_image}
use Rattle.vk_model.specs.World.Effect.{in_atoms}
use Rattle.vk_transfer.specs.Ran.{AreApart}
use Rattle.vk_resources.specs.declared.resources.Placed.{Placed}
use Rattle.vk_resources.specs.Held.{Held, IsInside, IsCaching, IsCachedByte, IsInAtoms, IsWithin, IsConsistent, is_cached_in, is_dirty, placed, placed_in, shape_of, flat, flat_in, host_at, byte_at, IsThere, HasCell}
use Rattle.vk_resources.specs.Inner.Steps.{MayReach, MayReachTo, cached_at, changed_of, length_to}
use Rattle.vk_resources.proofs.Placing.{inside_of}
use Rattle.vk_resources.proofs.Lying.{byte_lies, buffer_lies, where_lies, where_is, where_image, lies_within, byte_stays}
use Rattle.std.proofs.Math.Bool.{and-true}

-- ---- the bytes of a buffer

pub host_of : (s : Held) (b : ℕ) (p : Placed) (here : placed s b ≡ Some p) (k : ℕ) (lt : k < p.size) → host_at s (in_buffer b k) ≡ held_at s.cache p.object (p.offset + k)
host_of s b p here k lt = rw (here, lt-ltb k p.size lt) refl

module _ (s : Held) (b : ℕ) (p : Placed) (here : placed s b ≡ Some p) (flat_is : shape_of s b ≡ None) (k : ℕ) (lt : k < p.size) where
  pub byte_of : byte_at s (in_buffer b k) ≡ slice_index (region_of s.memory p.object) (p.offset + k)
  byte_of = byte_lies s (in_buffer b k) (buffer_lies s b p here flat_is k lt)

  pub as_byte : (cell : Cell) → HasCell s (in_buffer b k) cell → IsByte s.cache p.object (region_of s.memory p.object) (p.offset + k) cell
  as_byte cell has = same_cell (host_of s b p here k lt) byte_of has

  pub from_byte : (cell : Cell) → IsByte s.cache p.object (region_of s.memory p.object) (p.offset + k) cell → HasCell s (in_buffer b k) cell
  from_byte cell is = same_cell (sym (host_of s b p here k lt)) (sym byte_of) is

-- a buffer that is held in cached memory
pub cached_here : (s : Held) (b : ℕ) (p : Placed) → cached_at s b ≡ Some p → (placed s b ≡ Some p) × (is_cached_in s.memory p ≡ true)
cached_here s b p is = go (placed s b) refl is
  where
    by_type : (q : Placed) (t : Bool) → is_cached_in s.memory q ≡ t → (if t then Some q else None) ≡ Some p → (q ≡ p) × (is_cached_in s.memory p ≡ true)
    by_type q true e is = let same : q ≡ p = cc in (same, subst (λ (r : Placed). is_cached_in s.memory r ≡ true) same e)
    by_type q false e is = absurd cc

    go : (o : Option Placed) → placed s b ≡ o → option_and_then (λ (p : Placed). if is_cached_in s.memory p then Some p else None) o ≡ Some p → (placed s b ≡ Some p) × (is_cached_in s.memory p ≡ true)
    go None at is = absurd cc
    go (Some q) at is = let parts = by_type q (is_cached_in s.memory q) refl is in (at ∙ ap (λ (r : Placed). Some r) parts.0, parts.1)

pub here_cached : (s : Held) (b : ℕ) (p : Placed) → placed s b ≡ Some p → is_cached_in s.memory p ≡ true → cached_at s b ≡ Some p
here_cached s b p here cached = rw (here, cached) refl

-- ---- atoms

pub in_atoms_or : (p : Placed) (k : ℕ) → IsInAtoms p k ⊎ (IsInAtoms p k → ⊥)
in_atoms_or p k = elim (cases_lt (k / 64) (p.offset / 64)) [
  | inl lt ↦ inr (λ at. let low = at.0 in omega (arith, lt, low))
  | inr ge ↦ elim (cases_lt ((p.offset + p.size - 1) / 64) (k / 64)) [
    | inl lt ↦ inr (λ at. let high = at.1 in omega (arith, lt, high))
    | inr le ↦ inl (ge, le)
  ]
]

-- two ranges that begin with an atom and share no byte share no atom
pub clear_atoms : (p q : Placed) (k : ℕ) → p.offset % 64 ≡ 0 → q.offset % 64 ≡ 0 → 0 < p.size → AreApart p.offset p.size q.offset q.size → k < q.size → IsInAtoms p (q.offset + k) → ⊥
clear_atoms p q k aligned also some (inl le) lt at = let high = at.1 in omega (arith, le, high, also)
clear_atoms p q k aligned also some (inr le) lt at = let low = at.0 in omega (arith, le, low, aligned, lt)

-- bytes of a buffer lie in its atoms
pub within_atoms : (p : Placed) (k : ℕ) → p.offset ≤ k → k < p.offset + p.size → IsInAtoms p k
within_atoms p k low high = (omega (arith, low), omega (arith, high))

-- ---- one buffer is changed

-- types stay, so what is cached does
abbrev typed_byte : (memory memory' : MemoryState) (resources : List (ℕ × Placed)) → ((b : ℕ) (p : Placed) → placed_in resources b ≡ Some p → type_of memory' p.object ≡ type_of memory p.object) → (number k : ℕ) → IsCachedByte memory resources number k → IsCachedByte memory' resources number k
typed_byte memory memory' resources types number k w = record { id = w.id; place = w.place; here = w.here; object = w.object; cached = ap (λ (t : ℕ). t == 2) (types w.id w.place w.here) ∙ w.cached; atom = w.atom }

pub caching_typed : (memory memory' : MemoryState) (resources : List (ℕ × Placed)) (cache : Holdings) → ((b : ℕ) (p : Placed) → placed_in resources b ≡ Some p → type_of memory' p.object ≡ type_of memory p.object) → IsCaching memory resources cache → IsCaching memory' resources cache
caching_typed memory memory' resources cache types c = record {
  aligned = λ b p here is. c.aligned b p here (ap (λ (t : ℕ). t == 2) (sym (types b p here)) ∙ is);
  only = λ number k held. typed_byte memory memory' resources types number k (c.only number k held);
  dirty = λ number k held. let w = c.dirty number k held in (typed_byte memory memory' resources types number k w.0, w.1);
}

-- a buffer more
pub caching_put : (memory : MemoryState) (old new : List (ℕ × Placed)) (cache : Holdings) (id : ℕ) (p : Placed) → placed_in old id ≡ None → placed_in new id ≡ Some p → ((q : ℕ) → (q ≡ id → ⊥) → placed_in new q ≡ placed_in old q)
    → (is_cached_in memory p ≡ true → p.offset % 64 ≡ 0) → IsCaching memory old cache → IsCaching memory new cache
caching_put memory old new cache id p absent here others begins c = record {
  aligned = λ b q at is. aligned b q at is (eqb b id) refl;
  only = λ number k held. (kept number k (c.only number k held)).0;
  dirty = λ number k held. let w = c.dirty number k held in let v = kept number k w.0 in (v.0, subst (λ (q : Placed). IsWithin q k) v.1 w.1);
}
  where
    aligned : (b : ℕ) (q : Placed) → placed_in new b ≡ Some q → is_cached_in memory q ≡ true → (t : Bool) → eqb b id ≡ t → q.offset % 64 ≡ 0
    aligned b q at is false e = c.aligned b q (sym (others b (eqb-false b id e)) ∙ at) is
    aligned b q at is true e =
        let both : Some p ≡ Some q = sym here ∙ ap (λ (i : ℕ). placed_in new i) (sym (eqb-true b id e)) ∙ at in
        let same : p ≡ q = cc in
        subst (λ (r : Placed). r.offset % 64 ≡ 0) same (begins (subst (λ (r : Placed). is_cached_in memory r ≡ true) (sym same) is))

    kept : (number k : ℕ) (w : IsCachedByte memory old number k) → (v : IsCachedByte memory new number k) × (w.place ≡ v.place)
    kept number k w = (record { id = w.id; place = w.place; here = others w.id other ∙ w.here; object = w.object; cached = w.cached; atom = w.atom }, refl)
      where
        other : w.id ≡ id → ⊥
        other is = let both : Some w.place ≡ None = sym w.here ∙ ap (λ (i : ℕ). placed_in old i) is ∙ absent in cc

module _ (s : Held) (consistent : IsConsistent s) (b : ℕ) (p : Placed) (here : placed s b ≡ Some p) (cached : is_cached_in s.memory p ≡ true) (memory : MemoryState) (cache : Holdings)
    (types : (q : ℕ) → type_of memory q ≡ type_of s.memory q) (elsewhere : (q : ℕ) → (q ≡ p.object → ⊥) → region_of memory q ≡ region_of s.memory q)
    (f : ℕ → Cell → Cell) (done : Changes f p.object s.cache cache (region_of s.memory p.object) (region_of memory p.object)) (outside : (k : ℕ) (cell : Cell) → (IsInAtoms p k → ⊥) → f k cell ≡ cell)
  where
    abbrev pub changed : Held
    changed = record s { memory = memory; cache = cache }

    inside : IsInside s.memory p
    inside = inside_of s.memory s.backed s.resources consistent.0 b p here

    -- what is held outside of its atoms stays
    held_outside : (k : ℕ) → (IsInAtoms p k → ⊥) → held_at cache p.object k ≡ held_at s.cache p.object k
    held_outside k out =
        let cell : Cell = record { region = slice_index (region_of s.memory p.object) k; held = λ a. held_at s.cache p.object k } in
        let now = done.bytes k cell (record { held = refl; region = refl }) in
        sym now.held ∙ ap (λ (c : Cell). c.held 0) (outside k cell out)

    pub changed_caching : ((k : ℕ) (cell : Cell) → is_dirty ((f k cell).held 0) ≡ true → (is_dirty (cell.held 0) ≡ true) ⊎ IsWithin p k) → IsCaching memory s.resources cache
    changed_caching makes = record { aligned = typed.aligned; only = λ number k held. only number k held (eqb number p.object) refl; dirty = λ number k held. dirty number k held (eqb number p.object) refl }
      where
        typed : IsCaching memory s.resources s.cache
        typed = caching_typed s.memory memory s.resources s.cache (λ c q at. types q.object) consistent.1

        dirty : (number k : ℕ) → is_dirty (held_at cache number k) ≡ true → (t : Bool) → eqb number p.object ≡ t → (w : IsCachedByte memory s.resources number k) × IsWithin w.place k
        dirty number k held false e = typed.dirty number k (subst (λ (h : Option caches.Held). is_dirty h ≡ true) (done.others number k (eqb-false number p.object e)) held)
        dirty number k held true e =
            let same = eqb-true number p.object e in
            let cell : Cell = record { region = slice_index (region_of s.memory p.object) k; held = λ a. held_at s.cache p.object k } in
            let now = done.bytes k cell (record { held = refl; region = refl }) in
            subst (λ (n : ℕ). (w : IsCachedByte memory s.resources n k) × IsWithin w.place k) (sym same) (elim (makes k cell (ap is_dirty now.held ∙ subst (λ (n : ℕ). is_dirty (held_at cache n k) ≡ true) same held)) [
              | inl was ↦ typed.dirty p.object k was
              | inr within ↦ (record { id = b; place = p; here = here; object = refl; cached = ap (λ (t : ℕ). t == 2) (types p.object) ∙ cached; atom = within_atoms p k within.0 within.1 }, within)
            ])

        only : (number k : ℕ) → IsSome (held_at cache number k) → (t : Bool) → eqb number p.object ≡ t → IsCachedByte memory s.resources number k
        only number k held false e = typed.only number k (subst (λ (h : Option caches.Held). IsSome h) (done.others number k (eqb-false number p.object e)) held)
        only number k held true e =
            let same = eqb-true number p.object e in
            elim (in_atoms_or p k) [
              | inl at ↦ record { id = b; place = p; here = here; object = sym same; cached = ap (λ (t : ℕ). t == 2) (types p.object) ∙ cached; atom = at }
              | inr out ↦ subst (λ (n : ℕ). IsCachedByte memory s.resources n k) (sym same)
                  (typed.only p.object k (subst (λ (h : Option caches.Held). IsSome h) (held_outside k out) (subst (λ (n : ℕ). IsSome (held_at cache n k)) same held)))
            ]

    -- other buffers
    module _ (c : ℕ) (q : Placed) (at : placed s c ≡ Some q) (other : b ≡ c → ⊥) (k : ℕ) (lt : k < q.size) where
      pub clear : q.object ≡ p.object → IsInAtoms p (q.offset + k) → ⊥
      clear same in_it =
          let also : is_cached_in s.memory q ≡ true = ap (λ (o : ℕ). type_of s.memory o == 2) same ∙ cached in
          let some = inside.some in
          clear_atoms p q k (consistent.1.aligned b p here cached) (consistent.1.aligned c q at also) some (consistent.0.apart b c p q other here at (sym same)) lt in_it

      -- what is held of its byte, and what memory has there
      pub byte_kept : (cell : Cell) → IsByte s.cache q.object (region_of s.memory q.object) (q.offset + k) cell → IsByte cache q.object (region_of memory q.object) (q.offset + k) cell
      byte_kept cell was = go (eqb q.object p.object) refl
        where
          go : (t : Bool) → eqb q.object p.object ≡ t → IsByte cache q.object (region_of memory q.object) (q.offset + k) cell
          go false e =
              let ne = eqb-false q.object p.object e in
              same_cell (sym (done.others q.object (q.offset + k) ne)) (ap (λ (r : List ℕ). slice_index r (q.offset + k)) (sym (elsewhere q.object ne))) was
          go true e =
              let same = eqb-true q.object p.object e in
              let moved = subst (λ (o : ℕ). IsByte s.cache o (region_of s.memory o) (q.offset + k) cell) same was in
              let now = done.bytes (q.offset + k) cell moved in
              subst (λ (o : ℕ). IsByte cache o (region_of memory o) (q.offset + k) cell) (sym same)
              (subst (λ (x : Cell). IsByte cache p.object (region_of memory p.object) (q.offset + k) x) (outside (q.offset + k) cell (clear same)) now)

      abbrev any_cell : Cell
      any_cell = record { region = slice_index (region_of s.memory q.object) (q.offset + k); held = λ a. held_at s.cache q.object (q.offset + k) }

      pub held_kept : held_at cache q.object (q.offset + k) ≡ held_at s.cache q.object (q.offset + k)
      held_kept = sym (byte_kept any_cell (record { held = refl; region = refl })).held

      pub value_kept : slice_index (region_of memory q.object) (q.offset + k) ≡ slice_index (region_of s.memory q.object) (q.offset + k)
      value_kept = sym (byte_kept any_cell (record { held = refl; region = refl })).region

    pub other_stays : (c k : ℕ) → (b ≡ c → ⊥) → IsThere s (in_buffer c k) → (cell : Cell) → HasCell s (in_buffer c k) cell → HasCell changed (in_buffer c k) cell
    other_stays c k other there cell has =
        let w = where_is s c k there in
        from_byte changed c w.0 w.1 w.3 k w.2 cell (byte_kept c w.0 w.1 other k w.2 cell (as_byte s c w.0 w.1 w.3 k w.2 cell has))

    -- a byte of an image, which is another resource
    pub image_stays : shape_of s b ≡ None → (i l a x y z : ℕ) → IsThere s (in_image i l a x y z) → (cell : Cell) → HasCell s (in_image i l a x y z) cell → HasCell changed (in_image i l a x y z) cell
    image_stays flat_is i l a x y z there cell has =
        let w = where_lies s (in_image i l a x y z) there in
        let m = where_image s i l a x y z w in
        let other : b ≡ i → ⊥ = λ (same : b ≡ i). clash_shape m.0 (sym flat_is ∙ ap (λ (j : ℕ). shape_of s j) same ∙ m.1) in
        record {
          held = has.held;
          region = has.region ∙ sym (byte_stays s changed (in_image i l a x y z) refl refl (λ v. value_kept i v.place v.here other v.at (lies_within s consistent.2 (in_image i l a x y z) v)));
        }
      where
        clash_shape : (m : ImageInfo) → ◌≡◌ {A = Option ImageInfo} None (Some m) → ⊥
        clash_shape m e = cc

    -- the bytes of all buffers
    pub changed_cells : shape_of s b ≡ None → (g : ℕ → Cell → Cell) → ((k : ℕ) (cell : Cell) → k < p.size → f (p.offset + k) cell ≡ g k cell) → (c : Byte) (cell : Cell) → IsThere s c → HasCell s c cell → HasCell changed c (changed_of b g c cell)
    changed_cells flat_is g same (in_image i l a x y z) cell there has = image_stays flat_is i l a x y z there cell has
    changed_cells flat_is g same (in_buffer c k) cell there has = go (eqb b c) refl
      where
        at : (q : Placed) × (placed s c ≡ Some q) × (k < q.size) × (shape_of s c ≡ None)
        at = where_is s c k there

        go : (t : Bool) → eqb b c ≡ t → HasCell changed (in_buffer c k) (if t then g k cell else cell)
        go false e = other_stays c k (eqb-false b c e) there cell has
        go true e =
            let one = eqb-true b c e in
            let both : Some at.0 ≡ Some p = sym at.1 ∙ ap (λ (i : ℕ). placed s i) (sym one) ∙ here in
            let is : at.0 ≡ p = cc in
            let lt : k < p.size = subst (λ (q : Placed). k < q.size) is at.2 in
            let was = as_byte s b p here flat_is k lt cell (subst (λ (i : ℕ). HasCell s (in_buffer i k) cell) (sym one) has) in
            subst (λ (i : ℕ). HasCell changed (in_buffer i k) (g k cell)) one
            (from_byte changed b p here flat_is k lt (g k cell) (subst (λ (x : Cell). IsByte cache p.object (region_of memory p.object) (p.offset + k) x) (same k cell lt) (done.bytes (p.offset + k) cell was)))

-- where nothing is changed
pub unchanged_cells : (s : Held) (b : ℕ) (g : ℕ → Cell → Cell) → ((k : ℕ) (cell : Cell) → g k cell ≡ cell) → (c : Byte) (cell : Cell) → IsThere s c → HasCell s c cell → HasCell s c (changed_of b g c cell)
unchanged_cells s b g same (in_image i l a x y z) cell there has = has
unchanged_cells s b g same (in_buffer c k) cell there has = go (eqb b c)
  where
    go : (t : Bool) → HasCell s (in_buffer c k) (if t then g k cell else cell)
    go true = subst (λ (x : Cell). HasCell s (in_buffer c k) x) (sym (same k cell)) has
    go false = has

-- ---- a host write

given_moved : (x o : ℕ) (bytes : List ℕ) (k : ℕ) → given (x + o) bytes (x + k) ≡ given o bytes k
given_moved x o bytes k = elim (cases_lt k o) [
  | inl lt ↦ rw (lt-leb o k lt, lt-leb (x + o) (x + k) (omega (arith, lt))) refl
  | inr ge ↦ let place : x + k - (x + o) ≡ k - o = omega (arith, ge) in rw (le-leb o k ge, le-leb (x + o) (x + k) (omega (arith, ge)), place) refl
]

module _ (p : Placed) (o : ℕ) (bytes : List ℕ) (fits : o + length bytes ≤ p.size) where
  pub write_outside : (k : ℕ) (cell : Cell) → (IsInAtoms p k → ⊥) → after_host_write true (given (p.offset + o) bytes k) cell ≡ cell
  write_outside k cell out = ap (λ (g : Option ℕ). after_host_write true g cell) (given-outside (p.offset + o) bytes k beyond)
    where
      beyond : (k < p.offset + o) ⊎ (p.offset + o + length bytes ≤ k)
      beyond = elim (cases_lt k (p.offset + o)) [
        | inl lt ↦ inl lt
        | inr ge ↦ elim (cases_lt k (p.offset + o + length bytes)) [
          | inl lt ↦ absurd (out (within_atoms p k (omega (arith, ge)) (omega (arith, lt, fits))))
          | inr le ↦ inr le
        ]
      ]

  -- what it makes dirty is the buffer's
  pub write_makes : (k : ℕ) (cell : Cell) → is_dirty ((after_host_write true (given (p.offset + o) bytes k) cell).held 0) ≡ true → (is_dirty (cell.held 0) ≡ true) ⊎ IsWithin p k
  write_makes k cell dirty = elim (cases_lt k (p.offset + o)) [
    | inl lt ↦ inl (unwritten (inl lt))
    | inr ge ↦ elim (cases_lt k (p.offset + o + length bytes)) [
      | inl lt ↦ inr (omega (arith, ge), omega (arith, lt, fits))
      | inr le ↦ inl (unwritten (inr le))
    ]
  ]
    where
      unwritten : (k < p.offset + o) ⊎ (p.offset + o + length bytes ≤ k) → is_dirty (cell.held 0) ≡ true
      unwritten beyond = subst (λ (g : Option ℕ). is_dirty ((after_host_write true g cell).held 0) ≡ true) (given-outside (p.offset + o) bytes k beyond) dirty

  pub write_inside : (k : ℕ) (cell : Cell) → k < p.size → after_host_write true (given (p.offset + o) bytes (p.offset + k)) cell ≡ after_host_write true (given o bytes k) cell
  write_inside k cell lt = ap (λ (g : Option ℕ). after_host_write true g cell) (given_moved p.offset o bytes k)

-- ---- atoms that a range reaches

leb_moved : (a u v u' v' : ℕ) → u' ≡ a + u → v' ≡ a + v → nat_le u' v' ≡ nat_le u v
leb_moved a u v u' v' left right = elim (cases_lt v u) [
  | inl lt ↦ lt-leb u' v' (omega (arith, lt, left, right)) ∙ sym (lt-leb u v lt)
  | inr le ↦ le-leb u' v' (omega (arith, le, left, right)) ∙ sym (le-leb u v le)
]

div_moved : (x k : ℕ) → x % 64 ≡ 0 → (x + k) / 64 ≡ x / 64 + k / 64
div_moved x k aligned = omega (arith, aligned)

reached_moved : (x o n k : ℕ) → x % 64 ≡ 0 → in_atoms (x + o) (length_of.Bytes n) (x + k) ≡ in_atoms o (length_of.Bytes n) k
reached_moved x o zero k aligned = refl
reached_moved x o (suc n) k aligned =
    let end : (x + o + suc n - 1) / 64 ≡ x / 64 + (o + suc n - 1) / 64 = omega (arith, aligned) in
    let low = leb_moved (x / 64) (o / 64) (k / 64) ((x + o) / 64) ((x + k) / 64) (div_moved x o aligned) (div_moved x k aligned) in
    let high = leb_moved (x / 64) (k / 64) ((o + suc n - 1) / 64) ((x + k) / 64) ((x + o + suc n - 1) / 64) (div_moved x k aligned) end in
    both (nat_lt 0 (suc n)) low high
  where
    both : (t : Bool) {a b c d : Bool} → a ≡ b → c ≡ d → ((t && a) && c) ≡ ((t && b) && d)
    both t {b = b} {c = c} first second = ap (λ (a : Bool). (t && a) && c) first ∙ ap (λ (c : Bool). (t && b) && c) second

-- a range lies in so many bytes
abbrev pub FitsIn : ℕ → ℕ → Length → Type 0
FitsIn size o (length_of.Bytes n) = o + n ≤ size
FitsIn size o length_of.Whole = o < size

pub may_reach : (x : Option Placed) (p : Placed) (o : ℕ) (n : Length) → x ≡ Some p → MayReachTo x o n → FitsIn p.size o n
may_reach x p o n is may = go n (subst (λ (y : Option Placed). MayReachTo y o n) is may)
  where
    go : (n : Length) → MayReachTo (Some p) o n → FitsIn p.size o n
    go (length_of.Bytes n) may = may
    go length_of.Whole may = may

pub ends_in : (size o : ℕ) (n : Length) → FitsIn size o n → o + length_to size o n ≤ size
ends_in size o (length_of.Bytes n) fits = fits
ends_in size o length_of.Whole fits = omega (arith, fits)

-- a range to the end
pub reached_to : (size o k : ℕ) (n : Length) → FitsIn size o n → k < size → in_atoms o (length_of.Bytes (length_to size o n)) k ≡ in_atoms o n k
reached_to size o k (length_of.Bytes n) fits lt = refl
reached_to size o k length_of.Whole fits lt =
    rw (lt-ltb 0 (size - o) (omega (arith, fits)), le-leb (k / 64) ((o + (size - o) - 1) / 64) (omega (arith, fits, lt))) (and-true (nat_le (o / 64) (k / 64)))

module _ (p : Placed) (aligned : p.offset % 64 ≡ 0) (o m : ℕ) (fits : o + m ≤ p.size) where
  -- a range of a buffer reaches no atom but its own
  pub reached_outside : (k : ℕ) → (IsInAtoms p k → ⊥) → in_atoms (p.offset + o) (length_of.Bytes m) k ≡ false
  reached_outside k out = false_from_ne_true (in_atoms (p.offset + o) (length_of.Bytes m) k) (λ h.
      let outer = and_parts (nat_lt 0 m && nat_le ((p.offset + o) / 64) (k / 64)) (nat_le (k / 64) ((p.offset + o + m - 1) / 64)) h in
      let inner = and_parts (nat_lt 0 m) (nat_le ((p.offset + o) / 64) (k / 64)) outer.0 in
      let some : 0 < m = ltb-true 0 m inner.0 in
      let low : (p.offset + o) / 64 ≤ k / 64 = leb-true ((p.offset + o) / 64) (k / 64) inner.1 in
      let high : k / 64 ≤ (p.offset + o + m - 1) / 64 = leb-true (k / 64) ((p.offset + o + m - 1) / 64) outer.1 in
      out (omega (arith, low), omega (arith, high, fits, some)))

-- a range that is reached in a buffer
pub flat_reached : (shape : Option ImageInfo) (x : Option Placed) (o : ℕ) (n : Length) → MayReachTo (flat_in shape x) o n → shape ≡ None
flat_reached None x o n may = refl
flat_reached (Some m) x o (length_of.Bytes n) may = absurd may
flat_reached (Some m) x o length_of.Whole may = absurd may

pub flat_cached : (s : Held) (b : ℕ) (p : Placed) (o : ℕ) (n : Length) → cached_at s b ≡ Some p → MayReachTo (flat s b) o n → (shape_of s b ≡ None) × FitsIn p.size o n
flat_cached s b p o n is may =
    let none = flat_reached (shape_of s b) (placed s b) o n may in
    (none, may_reach (flat s b) p o n (rw none (cached_here s b p is).0) may)

pub flat_some : (shape : Option ImageInfo) (x : Option Placed) (o n : ℕ) → MayReach (flat_in shape x) o n → shape ≡ None
flat_some shape x o n may = flat_reached shape x o (length_of.Bytes n) may

-- the same of one in cached memory
pub cached_range : (s : Held) (b o n : ℕ) → true ≡ is_some (cached_at s b) → MayReach (flat s b) o n → MayReach (cached_at s b) o n
cached_range s b o n some may = go (cached_at s b) refl some
  where
    go : (x : Option Placed) → cached_at s b ≡ x → true ≡ is_some x → MayReach (cached_at s b) o n
    go None is h = absurd cc
    go (Some p) is h = subst (λ (x : Option Placed). MayReach x o n) (sym is) (flat_cached s b p o (length_of.Bytes n) is may).1

-- a test that is the same
pub tested : (f : Cell → Cell) (s t : Bool) (cell : Cell) → s ≡ t → (if s then f cell else cell) ≡ (if t then f cell else cell)
tested f s t cell same = ap (λ (b : Bool). if b then f cell else cell) same

module _ (s : Held) (b : ℕ) (p : Placed) (here : placed s b ≡ Some p) (cached : is_cached_in s.memory p ≡ true) (aligned : p.offset % 64 ≡ 0) where
  is_cached : is_some (cached_at s b) ≡ true
  is_cached = rw (here_cached s b p here cached) refl

  with_cached : (t : Bool) → (is_some (cached_at s b) && t) ≡ t
  with_cached t = ap (λ (u : Bool). u && t) is_cached

  module _ (o : ℕ) (n : Length) (fits : FitsIn p.size o n) where
    -- what an invalidation reaches
    pub range_inside : (k : ℕ) → k < p.size → in_atoms (p.offset + o) (length_of.Bytes (length_to p.size o n)) (p.offset + k) ≡ (is_some (cached_at s b) && in_atoms o n k)
    range_inside k lt = reached_moved p.offset o (length_to p.size o n) k aligned ∙ reached_to p.size o k n fits lt ∙ sym (with_cached (in_atoms o n k))

    pub range_outside : (k : ℕ) → (IsInAtoms p k → ⊥) → in_atoms (p.offset + o) (length_of.Bytes (length_to p.size o n)) k ≡ false
    range_outside k out = reached_outside p aligned o (length_to p.size o n) (ends_in p.size o n fits) k out

    -- what a flush reaches
    module _ (len : ℕ) (room : p.offset + p.size ≤ len) where
      pub flush_inside : (k : ℕ) → k < p.size → is_reached len (p.offset + o) (length_to p.size o n) (p.offset + k) ≡ (is_some (cached_at s b) && in_atoms o n k)
      flush_inside k lt = ap (λ (t : Bool). t && in_atoms (p.offset + o) (length_of.Bytes (length_to p.size o n)) (p.offset + k)) (lt-ltb (p.offset + k) len (omega (arith, room, lt))) ∙ range_inside k lt

      pub flush_outside : (k : ℕ) → (IsInAtoms p k → ⊥) → is_reached len (p.offset + o) (length_to p.size o n) k ≡ false
      flush_outside k out = and_right (nat_lt k len) (in_atoms (p.offset + o) (length_of.Bytes (length_to p.size o n)) k) (range_outside k out)

  -- an atom that is taken up or given back
  module _ (j len : ℕ) (below : j ≤ (p.size - 1) / 64) (some : 0 < p.size) (room : p.offset + p.size ≤ len) where
    pub atom_inside : (k : ℕ) → k < p.size → is_in_atom len (p.offset / 64 + j) (p.offset + k) ≡ (is_some (cached_at s b) && k / 64 == j)
    atom_inside k lt =
        ap (λ (t : Bool). t && (p.offset + k) / 64 == p.offset / 64 + j) (lt-ltb (p.offset + k) len (omega (arith, room, lt)))
        ∙ eqb_moved (p.offset / 64) (k / 64) j ((p.offset + k) / 64) (div_moved p.offset k aligned) ∙ sym (with_cached (k / 64 == j))
      where
        eqb_moved : (a u v u' : ℕ) → u' ≡ a + u → (u' == a + v) ≡ (u == v)
        eqb_moved a u v u' is = grind (arith, nat_tests)

    pub atom_outside : (k : ℕ) → (IsInAtoms p k → ⊥) → is_in_atom len (p.offset / 64 + j) k ≡ false
    atom_outside k out = false_from_ne_true (is_in_atom len (p.offset / 64 + j) k) (λ h.
        let parts = and_parts (nat_lt k len) (k / 64 == p.offset / 64 + j) h in
        let is : k / 64 ≡ p.offset / 64 + j = eqb-true (k / 64) (p.offset / 64 + j) parts.1 in
        out (omega (arith, is), omega (arith, is, below, some, aligned)))
