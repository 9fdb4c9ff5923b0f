-- What is mapped with a resource is mapped, or unmapped.
use Rattle.std.proofs.Common.{◌≡◌, ℕ, ◌+◌, ◌≤◌, [], ◌∷◌, List, length, slice_index, Bool, Option, Some, None, refl, sym, ap, subst, ◌∙◌}
use Rattle.std.specs.Prelude.{IfSome, IsSome, is_some, option_map}
use Rattle.vk_memory.specs.MemoryState.{MemoryState, IsLive, region_of, type_of}
use Rattle.vk_model.specs.declared.entry.Entry.{Entry}
use Rattle.vk_model.specs.declared.entry.Entry.TheVariants as entry
use Rattle.vk_model.specs.declared.resource.ImageInfo.{ImageInfo}
use Rattle.vk_model.specs.declared.resource.Spot.{Spot}
use Rattle.vk_model.specs.Trace.Point.{Past}
use Rattle.vk_model.specs.Trace.Order.{host}
use Rattle.vk_model.specs.Trace.Objects.{live, made_by, ended_by}
use Rattle.vk_model.specs.Run.Caches.{Cell}
use Rattle.vk_model.specs.Run.CachedRuns.{after_host}
use Rattle.vk_model.specs.World.Bytes.{Byte, resource_at}
use Rattle.vk_backing.specs.Backed.{Backed, number_in, object_in, mapping_of, LiesIn, IsBacked, IsWhole}
use Rattle.vk_backing.specs.Spots.{KeepsAllInfos}
use Rattle.vk_backing.specs.declared.backing.Own.{Own}
use Rattle.vk_backing.specs.Steps.{Maps, KeepsAllotted}
use Rattle.vk_backing.specs.Allotted as allotting
use Rattle.vk_backing.proofs.Remapped as memory
use Rattle.vk_backing.proofs.Remapped.{remapped_backed, remapped_allotted}
use Rattle.vk_resources.specs.declared.applied.Applied.TheVariants as applied
use Rattle.vk_resources.specs.declared.resources.Placed.{Placed}
use Rattle.vk_resources.specs.Allocating.{allotted, NoRoomIsExact, Allots}
use Rattle.vk_resources.specs.Held.{Held, IsConsistent, IsInside, HasCell, placed, placed_in, shape_of, shape_in, object_of}
use Rattle.vk_resources.specs.Matches.{Matches, Stands}
use Rattle.vk_resources.specs.Done.{DoneBy, Goes, ReadsNothing}
use Rattle.vk_resources.specs.Rest.{KeepsRest}
use Rattle.vk_resources.specs.Inner.Steps.{Remaps}
use Rattle.vk_resources.specs.Counted.{Counts, bound_in, bound_of, mapped_at}
use Rattle.vk_resources.proofs.CachedBytes.{caching_typed}
use Rattle.vk_resources.proofs.Matching.{home, lies_on, matches_same, stands_on}
use Rattle.vk_resources.proofs.Living.{live_same}
use Rattle.vk_resources.proofs.Applying.{none_new, pool_keeps, same_host, stays}

-- ---- memory objects

region_stays : (o : Option ℕ) (v : Bool) (m : MemoryState) (k : ℕ) → region_of (mapped_at o v m) k ≡ region_of m k
region_stays None v m k = refl
region_stays (Some n) v m k = memory.region_stays m n v k

type_stays : (o : Option ℕ) (v : Bool) (m : MemoryState) (k : ℕ) → type_of (mapped_at o v m) k ≡ type_of m k
type_stays None v m k = refl
type_stays (Some n) v m k = memory.type_stays m n v k

live_stays : (o : Option ℕ) (v : Bool) (m : MemoryState) (k : ℕ) → IsLive m k → IsLive (mapped_at o v m) k
live_stays None v m k live = live
live_stays (Some n) v m k live = memory.live_stays m n v k live

-- ---- what is held

module _ (s : Held) (consistent : IsConsistent s) (id : ℕ) (change : ℕ → ℕ) (v : Bool) (backed' : Backed) (maps : Maps s.backed backed' id change) (is : (m : MemoryState) → IsBacked s.backed m → IsBacked backed' m) (whole : IsWhole s.backed → IsWhole backed')
    (allots : (m : MemoryState) → IsBacked s.backed m → KeepsAllotted (allotting.allotted s.backed m) (allotting.allotted backed' m)) where
  abbrev after : Option ℕ → Held
  after o = record s { backed = backed'; memory = mapped_at o v s.memory }

  backed_is : (o : Option ℕ) → IsBacked backed' (mapped_at o v s.memory)
  backed_is None = is s.memory consistent.0.backed_is
  backed_is (Some n) = remapped_backed s.memory n v backed' (is s.memory consistent.0.backed_is)

  pub remapped_consistent : (o : Option ℕ) → IsConsistent (after o)
  remapped_consistent o = (
    record { inside = λ b. inside (placed s b) (consistent.0.inside b); apart = consistent.0.apart; backed_is = backed_is o },
    caching_typed s.memory (mapped_at o v s.memory) s.resources s.cache (λ b p here. type_stays o v s.memory p.object) consistent.1,
    consistent.2,
  )
    where
      inside : (x : Option Placed) → IfSome x (IsInside s.memory) → IfSome x (IsInside (mapped_at o v s.memory))
      inside None h = h
      inside (Some p) h = record { live = live_stays o v s.memory p.object h.live; some = h.some; room = subst (λ (n : ℕ). p.offset + p.size ≤ n) (ap length (sym (region_stays o v s.memory p.object))) h.room }

  pub remapped : (o : Option ℕ) → bound_of s id ≡ o → Remaps s (after o) id change v
  remapped o e = record {
    maps = maps;
    memory = ap (λ (x : Option ℕ). mapped_at x v s.memory) (sym e);
    backed = backed_is o;
    resources = refl;
    shapes = refl;
    cache = refl;
    whole = whole;
    allots = allot o;
  }
    where
      allot : (o : Option ℕ) → KeepsAllotted (allotted s) (allotted (after o))
      allot None = allots s.memory consistent.0.backed_is
      allot (Some n) = λ d are. remapped_allotted s.memory n v backed' d (allots s.memory consistent.0.backed_is d are)

-- ---- what is mapped with it

pub bound_none : (s : Held) (id : ℕ) → IsSome (mapping_of s.backed id) → bound_of s id ≡ None
bound_none s id some = go (mapping_of s.backed id) some
  where
    go : (o : Option ℕ) → IsSome o → bound_in o (placed s id) ≡ None
    go None none = absurd cc
    go (Some a) some = refl

pub bound_is : (s : Held) (id : ℕ) → (IsSome (mapping_of s.backed id) → ⊥) → (o : Option Placed) → placed s id ≡ o → bound_of s id ≡ option_map (λ p. p.object) o
bound_is s id none o at = go (mapping_of s.backed id) none ∙ ap (λ (x : Option Placed). option_map (λ (p : Placed). p.object) x) at
  where
    go : (x : Option ℕ) → (IsSome x → ⊥) → bound_in x (placed s id) ≡ option_map (λ p. p.object) (placed s id)
    go None away = plain (placed s id)
      where
        plain : (p : Option Placed) → bound_in None p ≡ option_map (λ p. p.object) p
        plain None = refl
        plain (Some p) = refl
    go (Some a) away = absurd (away refl)

-- ---- the same is live, and bytes stay

module _ (old new : Held) (owned : new.backed.owned ≡ old.backed.owned) (numbers : new.backed.numbers ≡ old.backed.numbers) (allocations : new.backed.allocations ≡ old.backed.allocations)
    (keeps : (i p : ℕ) (s : Spot) → LiesIn old.backed i p s → LiesIn new.backed i p s) (infos : KeepsAllInfos old.backed new.backed) (resources : new.resources ≡ old.resources) (shapes : new.shapes ≡ old.shapes)
    (lengths : (k : ℕ) → length (region_of new.memory k) ≡ length (region_of old.memory k)) (types : (k : ℕ) → type_of new.memory k ≡ type_of old.memory k) (backed : IsBacked new.backed new.memory) where
  -- what lies in pools lies where it did
  pub rebacked_matches : IsWhole new.backed → (alive : ℕ → Option Entry) → Matches alive old → Matches alive new
  rebacked_matches whole alive m = record {
    sizes = λ b. ap (λ (x : Option Placed). option_map (λ (p : Placed). p.size) x) (places b) ∙ m.sizes b;
    shapes = λ i. ap (λ (l : List (ℕ × ImageInfo)). shape_in l i) shapes ∙ m.shapes i;
    places = λ b p r here of. lies_on alive alive old new b r.place p (m.places b p r (sym (places b) ∙ here) of) (objects (home b r.place)) refl
        (λ q l. pool_keeps old new b q p backed (ap (λ (ns : List (ℕ × ℕ)). number_in ns q) numbers) (λ n s lies. keeps b n s lies) l);
    owned = λ i. ap is_some (objects i) ∙ m.owned i;
    memories = λ k number x of has. lengths number ∙ m.memories k number x of (sym (objects k) ∙ has);
    types = λ i number t of has. types number ∙ m.types i number t of (sym (objects i) ∙ has);
    pools = λ i. infos i ∙ m.pools i;
    pooled = λ i a has. m.pooled i a (ap (λ (ns : List (ℕ × ℕ)). number_in ns i) (sym allocations) ∙ has);
    whole = whole;
  }
    where
      objects : (i : ℕ) → object_of new i ≡ object_of old i
      objects i = ap (λ (os : List (ℕ × Own)). object_in os i) owned

      places : (b : ℕ) → placed new b ≡ placed old b
      places b = ap (λ (l : List (ℕ × Placed)). placed_in l b) resources

module _ (old new : Held) (id : ℕ) (change : ℕ → ℕ) (v : Bool) (remaps : Remaps old new id change v) where
  pub regions : (k : ℕ) → region_of new.memory k ≡ region_of old.memory k
  regions k = ap (λ (m : MemoryState). region_of m k) remaps.memory ∙ region_stays (bound_of old id) v old.memory k

  types : (k : ℕ) → type_of new.memory k ≡ type_of old.memory k
  types k = ap (λ (m : MemoryState). type_of m k) remaps.memory ∙ type_stays (bound_of old id) v old.memory k

  places : (b : ℕ) → placed new b ≡ placed old b
  places b = ap (λ (l : List (ℕ × Placed)). placed_in l b) remaps.resources

  images : (b : ℕ) → shape_of new b ≡ shape_of old b
  images b = ap (λ (l : List (ℕ × ImageInfo)). shape_in l b) remaps.shapes

  remapped_matches : (alive : ℕ → Option Entry) → Matches alive old → Matches alive new
  remapped_matches alive m = rebacked_matches old new remaps.maps.owned remaps.maps.numbers remaps.maps.allocations remaps.maps.keeps remaps.maps.infos remaps.resources remaps.shapes (λ k. ap length (regions k)) types remaps.backed (remaps.whole m.whole) alive m

  cells : (c : Byte) (cell : Cell) → HasCell old c cell → HasCell new c cell
  cells c cell has = stays old new c cell (places (resource_at c)) (images (resource_at c)) (λ p at. regions p.object) (same_host old new c (places (resource_at c)) remaps.cache) has

  pub remapped_rest : (test : Byte → Bool) → KeepsRest old new test
  remapped_rest test = record {
    types = λ number was is. types number;
    sizes = λ number was is. ap length (regions number);
    bytes = λ number k was is none. ap (λ (r : List ℕ). slice_index r k) (regions number);
  }

  -- ---- as it is asked for and done

  module _ (y : Entry) (none_made : made_by y ≡ None) (none_ended : ended_by y ≡ []) (keeps : (past : Past) (c : Byte) (cell : Cell) → after_host past [] y c cell ≡ cell) (reads : ReadsNothing y) where
    goes : (past : Past) (e : ℕ) → Stands past old → Goes e y past old new
    goes past e m = (
      stands_on past e y old new m (matches_same (live past) (live (host e y ∷ past)) new (live_same past e y none_made none_ended) (remapped_matches (live past) m.live)),
      λ c cell there after has. subst (λ (x : Cell). HasCell new c x) (sym (keeps past c cell)) (cells c cell has),
      none_new old new remaps.resources remaps.shapes,
    )

  pub map_done : (y : Entry) (b : ℕ) → y ≡ entry.Map b → (e : ℕ) (past : Past) → Stands past old → DoneBy applied.Done e y past old new
  map_done y b is e past m = subst (λ (x : Entry). DoneBy applied.Done e x past old new) (sym is) (goes (entry.Map b) refl refl (λ past c cell. refl) (λ b o n h. absurd cc) past e m, λ b o n h. absurd cc)

  pub unmap_done : (y : Entry) (b : ℕ) → y ≡ entry.Unmap b → (e : ℕ) (past : Past) → Stands past old → DoneBy applied.Done e y past old new
  unmap_done y b is e past m = subst (λ (x : Entry). DoneBy applied.Done e x past old new) (sym is) (goes (entry.Unmap b) refl refl (λ past c cell. refl) (λ b o n h. absurd cc) past e m, λ b o n h. absurd cc)

  pub map_rooms : (y : Entry) (b : ℕ) → y ≡ entry.Map b → NoRoomIsExact applied.Done old y
  map_rooms y b is = subst (λ (x : Entry). NoRoomIsExact applied.Done old x) (sym is) (λ d al none. none)

  pub unmap_rooms : (y : Entry) (b : ℕ) → y ≡ entry.Unmap b → NoRoomIsExact applied.Done old y
  unmap_rooms y b is = subst (λ (x : Entry). NoRoomIsExact applied.Done old x) (sym is) (λ d al none. none)

  pub map_allots : (y : Entry) (b : ℕ) → y ≡ entry.Map b → Allots applied.Done y old new
  map_allots y b is = subst (λ (x : Entry). Allots applied.Done x old new) (sym is) (λ d al. (d, refl, remaps.allots d al))

  pub unmap_allots : (y : Entry) (b : ℕ) → y ≡ entry.Unmap b → Allots applied.Done y old new
  unmap_allots y b is = subst (λ (x : Entry). Allots applied.Done x old new) (sym is) (λ d al. (d, refl, remaps.allots d al))

-- no other entry counts
pub uncounted : (y : Entry) (old new : Held) → ((b : ℕ) → y ≡ entry.Map b → ⊥) → ((b : ℕ) → y ≡ entry.Unmap b → ⊥) → Counts y old new
uncounted (entry.Map b) old new map unmap = absurd (map b refl)
uncounted (entry.Unmap b) old new map unmap = absurd (unmap b refl)
uncounted _ old new map unmap = tt
