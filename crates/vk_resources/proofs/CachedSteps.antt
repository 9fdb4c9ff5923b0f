-- Each call on the host's cache, as a step of what is held.
use Rattle.std.proofs.Common.{◌≡◌, ℕ, ◌+◌, ◌-◌, ◌/◌, ◌%◌, ◌<◌, ◌≤◌, ◌==◌, List, [], length, slice_index, Bool, true, false, eqb, nat_lt, nat_le, ◌&&◌, refl, ap, sym, ◌∙◌, subst, arith, ◌⊎◌, inl, inr, Option, Some, None, if◌then◌else◌}
use Rattle.std.proofs.lemmas.Bool.{and_from, lt-ltb, ltb-true, le-leb, eqb-true, eqb-false}
use Rattle.std.specs.Prelude.{IsSome, is_some}
use Rattle.vk_map_cache.specs.Holdings.{Holdings, held_at, Changes, HoldsSame, given, only_where, is_reached, is_in_atom}
use Rattle.vk_memory.specs.MemoryState.{MemoryState, IsLive, region_of, type_of, type_in, with_region}
use Rattle.vk_memory.proofs.LiveObjects.{region_of-same, region_of-other, type_of-same}
use Rattle.vk_model.specs.declared.command.Length.{Length}
use Rattle.vk_model.specs.declared.command.Length.TheVariants as length_of
use Rattle.vk_model.specs.Run.Caches as caches
use Rattle.vk_model.specs.Run.Caches.{Cell, written_back, forgotten}
use Rattle.vk_model.specs.Run.CachedRuns.{after_host_write, turned_over}
use Rattle.vk_model.specs.World.Bytes.{in_buffer}
use Rattle.vk_model.specs.World.Effect.{in_atoms}
use Rattle.vk_resources.specs.declared.resources.Placed.{Placed}
use Rattle.vk_resources.specs.Allocating.{allotted}
use Rattle.vma_pools.specs.State.{released}
use Rattle.vk_backing.specs.Allotted as backing
use Rattle.vk_backing.specs.Backed.{Backed, IsBacked, IsWhole}
use Rattle.vk_backing.specs.Steps.{Releases, ReleaseAllots}
use Rattle.vk_backing.proofs.Spots.{are_spots}
use Rattle.vk_resources.specs.Held.{Held, IsInside, IsInAtoms, IsWithin, IsCachedByte, IsConsistent, is_cached_in, is_dirty, placed, placed_in, shape_in, shape_of, host_at, holding_in}
use Rattle.vk_resources.specs.Inner.Steps.{KeepsPlaces, HasChanged, Forgets, LiesElsewhere, IsEmpty, Ends, cached_at, is_of, length_to}
use Rattle.vk_resources.proofs.Placing.{inside_of, apart_rewritten, still_long, released_object, released_dead, apart_ended}
use Rattle.vk_model.specs.declared.resource.ImageInfo.{ImageInfo}
use Rattle.vk_resources.proofs.Lying.{kinds_kept}
use Rattle.vk_resources.proofs.Keeping.{objects_rest, same_objects}
use Rattle.vk_resources.proofs.CachedRest.{changed_rest, written_back_settles, forgotten_settles, turned_over_settles, settled_makes, settled_still}
use Rattle.vk_resources.proofs.CachedBytes.{cached_here, here_cached, caching_typed, held_kept, reached_outside, changed_caching, changed_cells, unchanged_cells, write_outside, write_makes, write_inside, FitsIn, range_inside, range_outside, flush_inside, flush_outside, atom_inside, atom_outside, tested}

-- ---- nothing changes

pub keeps_same : (s : Held) (cache : Holdings) → KeepsPlaces s (record s { cache = cache })
keeps_same s cache = record { resources = refl; shapes = refl; same = refl; lengths = λ n. refl; types = λ n. refl }

-- the same is held of every byte
pub same_consistent : (s : Held) (cache : Holdings) → IsConsistent s → HoldsSame s.cache cache → IsConsistent (record s { cache = cache })
same_consistent s cache consistent same = (
  consistent.0,
  record {
    aligned = consistent.1.aligned;
    only = λ number k held. consistent.1.only number k (subst (λ (h : Option caches.Held). IsSome h) (same number k) held);
    dirty = λ number k held. consistent.1.dirty number k (subst (λ (h : Option caches.Held). is_dirty h ≡ true) (same number k) held);
  },
  consistent.2,
)

-- a change of a buffer that isn't in cached memory
pub uncached_kept : (s : Held) (b : ℕ) (test : ℕ → Bool) (f : Cell → Cell) → cached_at s b ≡ None → HasChanged s s b (only_where (λ k. is_some (cached_at s b) && test k) f)
uncached_kept s b test f none =
    (keeps_same s s.cache, unchanged_cells s b (only_where (λ k. is_some (cached_at s b) && test k) f) (λ k cell. ap (λ (o : Option Placed). if is_some o && test k then f cell else cell) none), objects_rest s s (is_of b) (same_objects s s refl))

-- what isn't held isn't held when a range is forgotten
fewer_held : (number offset size : ℕ) (old new : Holdings) → ((region : List ℕ) → Changes (only_where (in_atoms offset (length_of.Bytes size)) (forgotten 0)) number old new region region) → (n k : ℕ) → held_at old n k ≡ None → held_at new n k ≡ None
fewer_held number offset size old new done n k none = go (eqb n number) refl
  where
    forgot : (t : Bool) (cell : Cell) → cell.held 0 ≡ None → (if t then forgotten 0 cell else cell).held 0 ≡ None
    forgot true cell unheld = refl
    forgot false cell unheld = unheld

    go : (t : Bool) → eqb n number ≡ t → held_at new n k ≡ None
    go true e =
        let same = eqb-true n number e in
        let cell : Cell = record { region = slice_index [] k; held = λ a. held_at old number k } in
        let now = (done []).bytes k cell (record { held = refl; region = refl }) in
        ap (λ (m : ℕ). held_at new m k) same ∙ sym now.held ∙ forgot (in_atoms offset (length_of.Bytes size) k) cell (ap (λ (m : ℕ). held_at old m k) (sym same) ∙ none)
    go false e = (done []).others n k (eqb-false n number e) ∙ none

-- ---- a change of the host's cache alone

module _ (s : Held) (consistent : IsConsistent s) (b : ℕ) (p : Placed) (is : cached_at s b ≡ Some p) where
  here : placed s b ≡ Some p
  here = (cached_here s b p is).0

  cached : is_cached_in s.memory p ≡ true
  cached = (cached_here s b p is).1

  inside : IsInside s.memory p
  inside = inside_of s.memory s.backed s.resources consistent.0 b p here

  aligned : p.offset % 64 ≡ 0
  aligned = consistent.1.aligned b p here cached

  -- what a change makes dirty is the buffer's
  abbrev Makes : (ℕ → Cell → Cell) → Type 0
  Makes f = (k : ℕ) (cell : Cell) → is_dirty ((f k cell).held 0) ≡ true → (is_dirty (cell.held 0) ≡ true) ⊎ IsWithin p k

  -- what is so of the cache with memory as it is
  in_cache : shape_of s b ≡ None → (f g : ℕ → Cell → Cell) (cache : Holdings) → Changes f p.object s.cache cache (region_of s.memory p.object) (region_of s.memory p.object) → ((k : ℕ) (cell : Cell) → (IsInAtoms p k → ⊥) → f k cell ≡ cell)
      → Makes f → ((k : ℕ) (cell : Cell) → k < p.size → f (p.offset + k) cell ≡ g k cell) → IsConsistent (record s { cache = cache }) × HasChanged s (record s { cache = cache }) b g
  in_cache flat_is f g cache done outside makes same = (
    (consistent.0, changed_caching s consistent b p here cached s.memory cache (λ q. refl) (λ q other. refl) f done outside makes, consistent.2),
    (
      keeps_same s cache,
      changed_cells s consistent b p here cached s.memory cache (λ q. refl) (λ q other. refl) f done outside flat_is g same,
      objects_rest s (record s { cache = cache }) (is_of b) (same_objects s (record s { cache = cache }) refl),
    ),
  )

  -- memory with other bytes in its memory object
  module _ (cache : Holdings) (after : List ℕ) (long : length after ≡ length (region_of s.memory p.object)) where
    abbrev pub rewritten : Held
    rewritten = record s { memory = with_region s.memory p.object after; cache = cache }

    types : (q : ℕ) → type_of rewritten.memory q ≡ type_of s.memory q
    types q = type_of-same s.memory p.object q after inside.live

    pub rewritten_keeps : KeepsPlaces s rewritten
    rewritten_keeps = record {
      resources = refl;
      shapes = refl;
      same = ap (λ (os : List (Option (ℕ × ℕ))). record (allotted s) { objects = os }) (kinds_kept s.memory p.object after);
      lengths = λ number. still_long s.memory p.object after inside.live long number;
      types = types;
    }

    -- where the same is held
    pub rewritten_consistent : HoldsSame s.cache cache → IsConsistent rewritten
    rewritten_consistent same = (
      apart_rewritten s.memory p.object after inside.live long s.backed s.resources consistent.0,
      caching_typed s.memory rewritten.memory s.resources cache (λ c q at. types q.object) (same_consistent s cache consistent same).1,
      consistent.2,
    )

  -- and with other bytes in its memory object
  in_both : shape_of s b ≡ None → (f g : ℕ → Cell → Cell) (cache : Holdings) (after : List ℕ) → Changes f p.object s.cache cache (region_of s.memory p.object) after → ((k : ℕ) (cell : Cell) → (IsInAtoms p k → ⊥) → f k cell ≡ cell)
      → Makes f → ((k : ℕ) (cell : Cell) → is_dirty (cell.held 0) ≡ false → (f k cell).region ≡ cell.region) → ((k : ℕ) (cell : Cell) → k < p.size → f (p.offset + k) cell ≡ g k cell)
      → IsConsistent (record s { memory = with_region s.memory p.object after; cache = cache }) × HasChanged s (record s { memory = with_region s.memory p.object after; cache = cache }) b g
  in_both flat_is f g cache after done outside makes still same = (
    (apart_rewritten s.memory p.object after inside.live done.size s.backed s.resources consistent.0, changed_caching s consistent b p here cached memory cache (types cache after done.size) elsewhere f now outside makes, consistent.2),
    (
      rewritten_keeps cache after done.size,
      changed_cells s consistent b p here cached memory cache (types cache after done.size) elsewhere f now outside flat_is g same,
      changed_rest s consistent b p here cached memory cache (types cache after done.size) elsewhere f now outside flat_is still,
    ),
  )
    where
      memory : MemoryState
      memory = with_region s.memory p.object after

      elsewhere : (q : ℕ) → (q ≡ p.object → ⊥) → region_of memory q ≡ region_of s.memory q
      elsewhere q other = region_of-other s.memory p.object q after other

      now : Changes f p.object s.cache cache (region_of s.memory p.object) (region_of memory p.object)
      now = subst (λ (r : List ℕ). Changes f p.object s.cache cache (region_of s.memory p.object) r) (sym (region_of-same s.memory p.object after inside.live)) done

  -- ---- the calls

  pub wrote : shape_of s b ≡ None → (o : ℕ) (bytes region : List ℕ) (cache : Holdings) → o + length bytes ≤ p.size → region ≡ region_of s.memory p.object → Changes (λ k. after_host_write true (given (p.offset + o) bytes k)) p.object s.cache cache region region
      → IsConsistent (record s { cache = cache }) × HasChanged s (record s { cache = cache }) b (λ k. after_host_write true (given o bytes k))
  wrote flat_is o bytes region cache fits at done =
      in_cache flat_is (λ k. after_host_write true (given (p.offset + o) bytes k)) (λ k. after_host_write true (given o bytes k)) cache
      (subst (λ (r : List ℕ). Changes (λ k. after_host_write true (given (p.offset + o) bytes k)) p.object s.cache cache r r) at done) (write_outside p o bytes fits) (write_makes p o bytes fits) (write_inside p o bytes fits)

  module _ (flat_is : shape_of s b ≡ None) (o : ℕ) (n : Length) (fits : FitsIn p.size o n) where
    pub flushed : (region after : List ℕ) (cache : Holdings) → region ≡ region_of s.memory p.object → Changes (only_where (is_reached (length region) (p.offset + o) (length_to p.size o n)) (written_back 0)) p.object s.cache cache region after
        → IsConsistent (record s { memory = with_region s.memory p.object after; cache = cache })
        × HasChanged s (record s { memory = with_region s.memory p.object after; cache = cache }) b (only_where (λ k. is_some (cached_at s b) && in_atoms o n k) (written_back 0))
    flushed region after cache at done =
        in_both flat_is (only_where (is_reached (length (region_of s.memory p.object)) (p.offset + o) (length_to p.size o n)) (written_back 0)) (only_where (λ k. is_some (cached_at s b) && in_atoms o n k) (written_back 0)) cache after
        (subst (λ (r : List ℕ). Changes (only_where (is_reached (length r) (p.offset + o) (length_to p.size o n)) (written_back 0)) p.object s.cache cache r after) at done)
        (λ k cell out. tested (written_back 0) _ false cell (flush_outside s b p here cached aligned o n fits (length (region_of s.memory p.object)) inside.room k out))
        (settled_makes (is_reached (length (region_of s.memory p.object)) (p.offset + o) (length_to p.size o n)) (written_back 0) written_back_settles p) (settled_still (is_reached (length (region_of s.memory p.object)) (p.offset + o) (length_to p.size o n)) (written_back 0) written_back_settles)
        (λ k cell lt. tested (written_back 0) _ _ cell (flush_inside s b p here cached aligned o n fits (length (region_of s.memory p.object)) inside.room k lt))

    pub invalidated : (cache : Holdings) → ((region : List ℕ) → Changes (only_where (in_atoms (p.offset + o) (length_of.Bytes (length_to p.size o n))) (forgotten 0)) p.object s.cache cache region region)
        → IsConsistent (record s { cache = cache }) × HasChanged s (record s { cache = cache }) b (only_where (λ k. is_some (cached_at s b) && in_atoms o n k) (forgotten 0))
    invalidated cache done =
        in_cache flat_is (only_where (in_atoms (p.offset + o) (length_of.Bytes (length_to p.size o n))) (forgotten 0)) (only_where (λ k. is_some (cached_at s b) && in_atoms o n k) (forgotten 0)) cache (done (region_of s.memory p.object))
        (λ k cell out. tested (forgotten 0) _ false cell (range_outside s b p here cached aligned o n fits k out)) (settled_makes (in_atoms (p.offset + o) (length_of.Bytes (length_to p.size o n))) (forgotten 0) forgotten_settles p) (λ k cell lt. tested (forgotten 0) _ _ cell (range_inside s b p here cached aligned o n fits k lt))

  pub turned_atom : shape_of s b ≡ None → (j : ℕ) (region after : List ℕ) (cache : Holdings) → j ≤ (p.size - 1) / 64 → region ≡ region_of s.memory p.object → Changes (only_where (is_in_atom (length region) (p.offset / 64 + j)) turned_over) p.object s.cache cache region after
      → IsConsistent (record s { memory = with_region s.memory p.object after; cache = cache })
      × HasChanged s (record s { memory = with_region s.memory p.object after; cache = cache }) b (only_where (λ k. is_some (cached_at s b) && k / 64 == j) turned_over)
  turned_atom flat_is j region after cache below at done =
      in_both flat_is (only_where (is_in_atom (length (region_of s.memory p.object)) (p.offset / 64 + j)) turned_over) (only_where (λ k. is_some (cached_at s b) && k / 64 == j) turned_over) cache after
      (subst (λ (r : List ℕ). Changes (only_where (is_in_atom (length r) (p.offset / 64 + j)) turned_over) p.object s.cache cache r after) at done)
      (λ k cell out. tested turned_over _ false cell (atom_outside s b p here cached aligned j (length (region_of s.memory p.object)) below inside.some inside.room k out))
      (settled_makes (is_in_atom (length (region_of s.memory p.object)) (p.offset / 64 + j)) turned_over turned_over_settles p) (settled_still (is_in_atom (length (region_of s.memory p.object)) (p.offset / 64 + j)) turned_over turned_over_settles)
      (λ k cell lt. tested turned_over _ _ cell (atom_inside s b p here cached aligned j (length (region_of s.memory p.object)) below inside.some inside.room k lt))

  -- ---- what is forgotten

  module _ (cache : Holdings) (done : (region : List ℕ) → Changes (only_where (in_atoms p.offset (length_of.Bytes p.size)) (forgotten 0)) p.object s.cache cache region region) where
    out_of_it : (k : ℕ) (cell : Cell) → (IsInAtoms p k → ⊥) → only_where (in_atoms p.offset (length_of.Bytes p.size)) (forgotten 0) k cell ≡ cell
    out_of_it k cell out =
        let start : p.offset + 0 ≡ p.offset = omega arith in
        tested (forgotten 0) _ false cell (subst (λ (o : ℕ). in_atoms o (length_of.Bytes p.size) k ≡ false) start (reached_outside p aligned 0 p.size (omega arith) k out))

    pub forgot_consistent : IsConsistent (record s { cache = cache })
    forgot_consistent = (consistent.0, changed_caching s consistent b p here cached s.memory cache (λ q. refl) (λ q other. refl) _ (done (region_of s.memory p.object)) out_of_it (settled_makes (in_atoms p.offset (length_of.Bytes p.size)) (forgotten 0) forgotten_settles p), consistent.2)

    gone_at : (k : ℕ) → IsInAtoms p k → held_at cache p.object k ≡ None
    gone_at k at =
        let cell : Cell = record { region = slice_index (region_of s.memory p.object) k; held = λ a. held_at s.cache p.object k } in
        let now = (done (region_of s.memory p.object)).bytes k cell (record { held = refl; region = refl }) in
        sym now.held ∙ ap (λ (t : Bool). (if t then forgotten 0 cell else cell).held 0) reached
      where
        reached : in_atoms p.offset (length_of.Bytes p.size) k ≡ true
        reached =
            let some = inside.some in
            and_from (nat_lt 0 p.size && nat_le (p.offset / 64) (k / 64)) (nat_le (k / 64) ((p.offset + p.size - 1) / 64))
            (and_from (nat_lt 0 p.size) (nat_le (p.offset / 64) (k / 64)) (lt-ltb 0 p.size some) (le-leb (p.offset / 64) (k / 64) at.0)) (le-leb (k / 64) ((p.offset + p.size - 1) / 64) at.1)

    pub forgets : Forgets s (record s { cache = cache }) b
    forgets = record {
      fewer = λ number k none. fewer_held p.object p.offset p.size s.cache cache done number k none;
      gone = λ q k at in_it. let both : Some p ≡ Some q = sym is ∙ at in let same : p ≡ q = cc in subst (λ (r : Placed). IsInAtoms r k → held_at cache r.object k ≡ None) same (gone_at k) in_it;
      others = λ c k ne. others c k ne (placed s c) refl;
    }
      where
        at_place : (c k : ℕ) (q : Placed) → placed s c ≡ Some q → (b ≡ c → ⊥) → (t : Bool) → nat_lt k q.size ≡ t → (if t then held_at cache q.object (q.offset + k) else None) ≡ (if t then held_at s.cache q.object (q.offset + k) else None)
        at_place c k q at ne false e = refl
        at_place c k q at ne true e =
            held_kept s consistent b p here cached s.memory cache (λ q. refl) (λ q other. refl) _ (done (region_of s.memory p.object)) out_of_it c q at ne k (ltb-true k q.size e)

        others : (c k : ℕ) → (c ≡ b → ⊥) → (o : Option Placed) → placed s c ≡ o → host_at (record s { cache = cache }) (in_buffer c k) ≡ host_at s (in_buffer c k)
        others c k ne None at = rw at refl
        others c k ne (Some q) at = rw at (at_place c k q at (λ same. ne (sym same)) (nat_lt k q.size) refl)

-- where there is nothing to be forgotten
pub forgets_none : (s : Held) (b : ℕ) → cached_at s b ≡ None → Forgets s s b
forgets_none s b none = record { gone = λ p k at in_it. let both : None ≡ Some p = sym none ∙ at in absurd cc; others = λ c k ne. refl; fewer = λ number k none. none }

-- ---- an id that ends

-- what was held nowhere is held nowhere when it is forgotten
pub all_none : (number offset size : ℕ) (old new : Holdings) → ((region : List ℕ) → Changes (only_where (in_atoms offset (length_of.Bytes size)) (forgotten 0)) number old new region region) → ((k : ℕ) → held_at old number k ≡ None) → HoldsSame old new
all_none number offset size old new done none n k = go (eqb n number) refl
  where
    go : (t : Bool) → eqb n number ≡ t → held_at new n k ≡ held_at old n k
    go true e = let was : held_at old n k ≡ None = ap (λ (m : ℕ). held_at old m k) (eqb-true n number e) ∙ none k in fewer_held number offset size old new done n k was ∙ sym was
    go false e = (done []).others n k (eqb-false n number e)

-- where a resource lies elsewhere its memory object is live when an id has ended
lives_elsewhere : (s : Held) (id : ℕ) (backed' : Backed) (memory' : MemoryState) (gone : Option ℕ) → Releases s.backed backed' s.memory memory' id gone → IsBacked backed' memory' → (b : ℕ) (p : Placed) → (b ≡ id → ⊥) → LiesElsewhere s id b p → IsLive memory' p.object
lives_elsewhere s id backed' memory' freed releases is b p other (inl own) = is.live own.0 p.object (releases.objects own.0 own.1 ∙ own.2)
lives_elsewhere s id backed' memory' freed releases is b p other (inr shared) =
    let l = shared.1 in subst (λ (n : ℕ). IsLive memory' n) l.object ((are_spots backed' memory' is).live b shared.0 l.spot (releases.keeps b shared.0 l.spot other l.lies))

module _ (s : Held) (id : ℕ) (cache : Holdings) (consistent : IsConsistent s) (mid : IsConsistent (record s { cache = cache })) (forgets : Forgets s (record s { cache = cache }) id) (gone : Option ℕ)
    (stays : (b : ℕ) (p : Placed) → (b ≡ id → ⊥) → placed s b ≡ Some p → IsLive (released s.memory gone) p.object) where
  -- nothing is held any more of a memory object that goes
  pub object_bare : (number k : ℕ) → gone ≡ Some number → held_at cache number k ≡ None
  object_bare number k has = go (held_at cache number k) refl
    where
      go : (h : Option caches.Held) → held_at cache number k ≡ h → h ≡ None
      go None at = refl
      go (Some h) at =
          let w = mid.1.only number k (rw at refl) in
          own (eqb w.id id) w refl
        where
          own : (t : Bool) → (w : IsCachedByte s.memory s.resources number k) → eqb w.id id ≡ t → Some h ≡ None
          own false w e =
              let lives = subst (λ (o : Option ℕ). IsLive (released s.memory o) w.place.object) has (stays w.id w.place (eqb-false w.id id e) w.here) in
              absurd (released_dead s.memory number (subst (λ (n : ℕ). IsLive (released s.memory (Some number)) n) w.object lives))
          own true w e =
              let same = eqb-true w.id id e in
              let there = here_cached s id w.place (ap (λ (i : ℕ). placed s i) (sym same) ∙ w.here) w.cached in
              let none = subst (λ (n : ℕ). held_at cache n k ≡ None) w.object (forgets.gone w.place k there w.atom) in
              sym at ∙ none

  module _ (backed' : Backed) (resources' : List (ℕ × Placed)) (shapes' : List (ℕ × ImageInfo)) (final : Holdings) (same : HoldsSame cache final) (is : IsBacked backed' (released s.memory gone))
      (no_buffer : placed_in resources' id ≡ None) (places : (b : ℕ) → (b ≡ id → ⊥) → placed_in resources' b ≡ placed_in s.resources b)
      (no_shape : shape_in shapes' id ≡ None) (shapes : (b : ℕ) → (b ≡ id → ⊥) → shape_in shapes' b ≡ shape_in s.shapes b)
    where
      abbrev pub ended : Held
      ended = record { memory = released s.memory gone; backed = backed'; resources = resources'; shapes = shapes'; cache = final }

      other : (b : ℕ) (p : Placed) → placed_in resources' b ≡ Some p → b ≡ id → ⊥
      other b p at is = let both : Some p ≡ None = sym at ∙ ap (λ (k : ℕ). placed_in resources' k) is ∙ no_buffer in cc

      -- another buffer lies in memory of the type that it was
      type_kept : (b : ℕ) (p : Placed) → (b ≡ id → ⊥) → placed s b ≡ Some p → type_of (released s.memory gone) p.object ≡ type_of s.memory p.object
      type_kept b p ne at = ap type_in (released_object s.memory gone p.object (stays b p ne at))

      pub ended_consistent : IsConsistent ended
      ended_consistent = (
        apart_ended s.memory gone s.backed backed' s.resources resources' id no_buffer places stays is consistent.0,
        record {
          aligned = λ b p at cached.
              let ne = other b p at in
              let was = sym (places b ne) ∙ at in
              consistent.1.aligned b p was (ap (λ (t : ℕ). t == 2) (sym (type_kept b p ne was)) ∙ cached);
          only = λ number k held. (stays_cached number k held (mid.1.only number k (subst (λ (h : Option caches.Held). IsSome h) (same number k) held))).0;
          dirty = λ number k held.
              let w = mid.1.dirty number k (subst (λ (h : Option caches.Held). is_dirty h ≡ true) (same number k) held) in
              stays_within number k w.0 w.1 (stays_cached number k (dirty_some (held_at final number k) held) w.0);
        },
        record { each = λ i m p is at. let ne = other i p at in consistent.2.each i m p (sym (shapes i ne) ∙ is) (sym (places i ne) ∙ at) },
      )
        where
          dirty_some : (h : Option caches.Held) → is_dirty h ≡ true → IsSome h
          dirty_some None e = absurd cc
          dirty_some (Some h) e = refl

          stays_within : (number k : ℕ) (w : IsCachedByte s.memory s.resources number k) → IsWithin w.place k → (v : IsCachedByte ended.memory resources' number k) × (w.place ≡ v.place) → (v : IsCachedByte ended.memory resources' number k) × IsWithin v.place k
          stays_within number k w within left = (left.0, subst (λ (q : Placed). IsWithin q k) left.1 within)

          -- a byte that is held is of a resource that stays
          stays_cached : (number k : ℕ) → IsSome (held_at final number k) → (w : IsCachedByte s.memory s.resources number k) → (v : IsCachedByte ended.memory resources' number k) × (w.place ≡ v.place)
          stays_cached number k held w = go (eqb w.id id) refl
            where
              go : (t : Bool) → eqb w.id id ≡ t → (v : IsCachedByte ended.memory resources' number k) × (w.place ≡ v.place)
              go false e =
                  let ne = eqb-false w.id id e in
                  (record { id = w.id; place = w.place; here = places w.id ne ∙ w.here; object = w.object; cached = ap (λ (t : ℕ). t == 2) (type_kept w.id w.place ne w.here) ∙ w.cached; atom = w.atom }, refl)
              go true e =
                  let one = eqb-true w.id id e in
                  let there = here_cached s id w.place (ap (λ (i : ℕ). placed s i) (sym one) ∙ w.here) w.cached in
                  let none : held_at cache number k ≡ None = subst (λ (n : ℕ). held_at cache n k ≡ None) w.object (forgets.gone w.place k there w.atom) in
                  let no : IsSome {T = caches.Held} None = subst (λ (h : Option caches.Held). IsSome h) (same number k ∙ none) held in
                  absurd cc

      pub ends : Releases s.backed backed' s.memory (released s.memory gone) id gone → (IsWhole s.backed → IsWhole backed') → ReleaseAllots (allotted s) (allotted ended) id → Ends s ended id
      ends releases whole allots = record {
        gone = gone;
        releases = releases;
        backed = is;
        stays = stays;
        whole = whole;
        allots = allots;
        no_resource = no_buffer;
        resources = places;
        no_shape = no_shape;
        shapes = shapes;
        held = λ b k ne. held b k ne;
      }
        where
          held : (b k : ℕ) → (b ≡ id → ⊥) → host_at ended (in_buffer b k) ≡ host_at s (in_buffer b k)
          held b k ne = ap (λ (o : Option Placed). holding_in final o k) (places b ne) ∙ in_final (placed s b) ∙ forgets.others b k ne
            where
              in_final : (o : Option Placed) → holding_in final o k ≡ holding_in cache o k
              in_final None = refl
              in_final (Some p) = ap (λ (h : Option caches.Held). if nat_lt k p.size then h else None) (same p.object (p.offset + k))

-- the same of what is held when it is forgotten
module _ (s n : Held) (id : ℕ) (memory : n.memory ≡ s.memory) (backed : n.backed ≡ s.backed) (resources : n.resources ≡ s.resources) (shapes_same : n.shapes ≡ s.shapes) (consistent : IsConsistent s) (mid : IsConsistent n) (forgets : Forgets s n id) (empty : IsEmpty s id)
    (backed' : Backed) (memory' : MemoryState) (gone : Option ℕ) (releases : Releases n.backed backed' n.memory memory' id gone) (is : IsBacked backed' memory') where
  as_cache : n ≡ record s { cache = n.cache }
  as_cache =
      ap (λ (m : MemoryState). record n { memory = m }) memory ∙ ap (λ (o : Backed). record n { memory = s.memory; backed = o }) backed
      ∙ ap (λ (b : List (ℕ × Placed)). record n { memory = s.memory; backed = s.backed; resources = b }) resources
      ∙ ap (λ (b : List (ℕ × ImageInfo)). record n { memory = s.memory; backed = s.backed; resources = s.resources; shapes = b }) shapes_same

  consistent_mid : IsConsistent (record s { cache = n.cache })
  consistent_mid = subst IsConsistent as_cache mid

  forgets_mid : Forgets s (record s { cache = n.cache }) id
  forgets_mid = subst (λ (h : Held). Forgets s h id) as_cache forgets

  releases_old : Releases s.backed backed' s.memory memory' id gone
  releases_old = subst (λ (b : Backed). Releases b backed' s.memory memory' id gone) backed (subst (λ (m : MemoryState). Releases n.backed backed' m memory' id gone) memory releases)

  stays : (b : ℕ) (p : Placed) → (b ≡ id → ⊥) → placed s b ≡ Some p → IsLive (released s.memory gone) p.object
  stays b p other at = subst (λ (m : MemoryState). IsLive m p.object) releases_old.memory (lives_elsewhere s id backed' memory' gone releases_old is b p other (empty b p other at))

  pub bare_object : (number : ℕ) → gone ≡ Some number → (k : ℕ) → held_at n.cache number k ≡ None
  bare_object number has k = object_bare s id n.cache consistent consistent_mid forgets_mid gone stays number k has

  module _ (resources' : List (ℕ × Placed)) (shapes' : List (ℕ × ImageInfo)) (final : Holdings) (same : HoldsSame n.cache final)
      (no_buffer : placed_in resources' id ≡ None) (places : (b : ℕ) → (b ≡ id → ⊥) → placed_in resources' b ≡ placed_in n.resources b)
      (no_shape : shape_in shapes' id ≡ None) (shapes : (b : ℕ) → (b ≡ id → ⊥) → shape_in shapes' b ≡ shape_in n.shapes b)
      (whole : IsWhole n.backed → IsWhole backed') (allots : ReleaseAllots (backing.allotted n.backed n.memory) (backing.allotted backed' memory') id)
    where
      abbrev final_of : MemoryState → Held
      final_of m = record { memory = m; backed = backed'; resources = resources'; shapes = shapes'; cache = final }

      pub all_ended : IsConsistent (final_of memory') × Ends s (final_of memory') id
      all_ended =
          let places' : (b : ℕ) → (b ≡ id → ⊥) → placed_in resources' b ≡ placed_in s.resources b = λ b ne. places b ne ∙ ap (λ (l : List (ℕ × Placed)). placed_in l b) resources in
          let shapes'' : (b : ℕ) → (b ≡ id → ⊥) → shape_in shapes' b ≡ shape_in s.shapes b = λ b ne. shapes b ne ∙ ap (λ (l : List (ℕ × ImageInfo)). shape_in l b) shapes_same in
          let left : memory' ≡ released s.memory gone = releases_old.memory in
          let is' = subst (λ (m : MemoryState). IsBacked backed' m) left is in
          let whole' = subst (λ (b : Backed). IsWhole b → IsWhole backed') backed whole in
          let allots' = subst (λ (m : MemoryState). ReleaseAllots (allotted s) (backing.allotted backed' m) id) left (subst (λ (b : Backed). ReleaseAllots (backing.allotted b s.memory) (backing.allotted backed' memory') id) backed (subst (λ (m : MemoryState). ReleaseAllots (backing.allotted n.backed m) (backing.allotted backed' memory') id) memory allots)) in
          let releases' = subst (λ (m : MemoryState). Releases s.backed backed' s.memory m id gone) left releases_old in
          subst (λ (m : MemoryState). IsConsistent (final_of m) × Ends s (final_of m) id) (sym left) (
            ended_consistent s id n.cache consistent consistent_mid forgets_mid gone stays backed' resources' shapes' final same is' no_buffer places' no_shape shapes'',
            ends s id n.cache consistent consistent_mid forgets_mid gone stays backed' resources' shapes' final same is' no_buffer places' no_shape shapes'' releases' whole' allots',
          )
