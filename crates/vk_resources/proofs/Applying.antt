-- What an entry does to resources, and what it is answered.
use Rattle.std.proofs.Common.{◌≡◌, ℕ, ◌+◌, ◌<◌, List, [], ◌∷◌, length, slice_index, Bool, true, false, eqb, ◌==◌, cond, refl, ap, sym, ◌∙◌, subst, arith, Option, Some, None}
use Rattle.std.specs.Prelude.{IsSome, IsTrue, is_some, option_map, option_and_then}
use Rattle.std.proofs.lemmas.Bool.{eqb-true, eqb-false, false_from_ne_true}
use Rattle.std.proofs.lemmas.List.{length-replicate}
use Rattle.vk_memory.specs.MemoryState.{MemoryState, IsLive, region_of, bytes_of, type_of, type_in, fresh}
use Rattle.vk_memory.proofs.LiveObjects.{live_below}
use Rattle.vk_memory.specs.declared.memories.Object.{Object}
use Rattle.vk_model.specs.declared.entry.Entry.{Entry}
use Rattle.vk_model.specs.declared.entry.Entry.TheVariants as entry
use Rattle.vk_model.specs.declared.resource.BufferInfo.{BufferInfo}
use Rattle.vk_model.specs.declared.resource.MemoryInfo.{MemoryInfo}
use Rattle.vk_model.specs.declared.resource.Place.{Place}
use Rattle.vk_model.specs.declared.resource.Place.TheVariants as place
use Rattle.vk_model.specs.declared.resource.ImageInfo.{ImageInfo}
use Rattle.vk_model.specs.Trace.Image.{image_size}
use Rattle.vk_model.specs.Memory.Allocations.{Allocated, FindsNoneAt, FindsNoRoom, Gets, Changes}
use Rattle.vk_model.specs.Run.Runs.{touched_by}
use Rattle.vk_model.specs.Basics.{holds}
use Rattle.vk_model.specs.Trace.Point.{Past}
use Rattle.vk_model.specs.Trace.Order.{host}
use Rattle.vk_model.specs.Trace.Objects.{Resource, of_buffer, of_image, made_by, ended_by, live, image_in, resource_in, memory_in, pool_in, pool_at}
use Rattle.vk_model.specs.Rules.Ids.{is_memory}
use Rattle.vk_map_cache.specs.Holdings.{Holdings, held_at}
use Rattle.vk_model.specs.Run.Caches as caches
use Rattle.vk_model.specs.Run.Caches.{Cell, queue_agent, dropped, dropped_if}
use Rattle.vk_model.specs.Run.CachedRuns.{after_host}
use Rattle.vk_model.specs.World.Bytes.{Byte, in_buffer, in_image, resource_at}
use Rattle.vk_resources.specs.declared.applied.Applied.{Applied}
use Rattle.vk_resources.specs.declared.applied.Applied.TheVariants as applied
use Rattle.vk_resources.specs.declared.resources.Placed.{Placed}
use Rattle.vk_resources.specs.Held.{Held, IsApart, IsConsistent, placed, placed_in, shape_in, shape_of, object_of, host_at, holding_in, IsThere, HasCell}
use Rattle.vk_model.specs.declared.resource.Spot.{Spot}
use Rattle.vk_backing.specs.Backed as backing
use Rattle.vk_backing.specs.Backed.{Backed, number_in, pool_of, allocation_of, info_by, LiesIn, IsBacked, IsWhole}
use Rattle.vk_resources.specs.Matches.{Matches, MatchesLive, Stands, LiesAt, LiesOf, in_pool, is_own, size_made, has_memory, type_made, type_of_place}
use Rattle.vk_resources.specs.Fits.{IsUnused, FitsEntry, FitsPlace}
use Rattle.vk_resources.specs.Done.{LeavesCells, HoldsNoneNew, Goes, DoneBy, ReadsNothing}
use Rattle.vk_resources.specs.Inner.Steps.{Makes, MemoryMade, ResourceMade, Binds, BindReady, Puts, Ends}
use Rattle.vk_resources.proofs.Placing.{kept_object, new_object, inside_of, turned}
use Rattle.vk_resources.proofs.Lying.{where_lies, where_is, byte_stays, there_stays}
use Rattle.vk_resources.proofs.CachedBytes.{host_of, clear_atoms}
use Rattle.vk_resources.proofs.Matching.{home, unplaced, unowned, unshared, stands_on}
use Rattle.vk_resources.proofs.Living.{live_new, live_end, not_live, shared_on, Grows, grown, ended_matches, region_there}

-- ---- bytes that stay

-- where the cache and the place stay
pub same_host : (old new : Held) (c : Byte) → placed new (resource_at c) ≡ placed old (resource_at c) → new.cache ≡ old.cache → host_at new c ≡ host_at old c
same_host old new (in_image i l a x y z) place cache = refl
same_host old new (in_buffer b k) place cache = ap (λ (h : Holdings). holding_in h (placed new b) k) cache ∙ ap (λ (o : Option Placed). holding_in old.cache o k) place

-- a byte whose resource stays where it is, in an object that keeps its bytes, and of which the same is held
pub stays : (old new : Held) (c : Byte) (cell : Cell) → placed new (resource_at c) ≡ placed old (resource_at c) → shape_of new (resource_at c) ≡ shape_of old (resource_at c)
    → ((p : Placed) → placed old (resource_at c) ≡ Some p → region_of new.memory p.object ≡ region_of old.memory p.object) → host_at new c ≡ host_at old c → HasCell old c cell → HasCell new c cell
stays old new c cell place shape region host has = record {
  held = has.held ∙ sym host;
  region = has.region ∙ sym (byte_stays old new c place shape (λ l. ap (λ (r : List ℕ). slice_index r (l.place.offset + l.at)) (region l.place l.here)));
}

-- of what was there before, where one more object is live
grown_cells : (alive alive' : ℕ → Option Entry) (old new : Held) (id : ℕ) (x : Entry) → Grows alive alive' old new id x → Matches alive old → IsApart old.memory old.backed old.resources
    → ((number : ℕ) → IsLive old.memory number → region_of new.memory number ≡ region_of old.memory number) → new.cache ≡ old.cache → (c : Byte) (cell : Cell) → IsThere old c → HasCell old c cell → HasCell new c cell
grown_cells alive alive' old new id x g m apart kept cache c cell there has =
    let place = g.places (resource_at c) other in
    stays old new c cell place (g.shapes (resource_at c) other) (λ p at. kept p.object (inside_of old.memory old.backed old.resources apart (resource_at c) p at).live) (same_host old new c place cache) has
  where
    other : resource_at c ≡ id → ⊥
    other same =
        let l = where_lies old c there in
        let none : placed old id ≡ None = unplaced alive old id m (ap (option_and_then size_made) g.fresh) in
        let both : Some l.place ≡ None = sym l.here ∙ ap (λ (j : ℕ). placed old j) same ∙ none in
        cc

-- nothing is new where resources stay
pub none_new : (old new : Held) → new.resources ≡ old.resources → new.shapes ≡ old.shapes → HoldsNoneNew old new
none_new old new same shapes c there absent =
    absurd (absent (there_stays new old c (ap (λ (bs : List (ℕ × Placed)). placed_in bs (resource_at c)) (sym same)) (ap (λ (bs : List (ℕ × ImageInfo)). shape_in bs (resource_at c)) (sym shapes)) there))

-- ---- new objects

-- what pools do where an id gets something that lies in no pool, or a place in one
pub record PoolsGrow (old new : Held) (i : ℕ) (x : Entry) : Type 0 where
  pub info : info_by new.backed i ≡ None
  pub infos : (j : ℕ) → info_by new.backed j ≡ info_by old.backed j
  pub pooled : (a : ℕ) → allocation_of new.backed i ≡ Some a → IsTrue (in_pool x)
  pub allocations : (j : ℕ) → (j ≡ i → ⊥) → allocation_of new.backed j ≡ allocation_of old.backed j
  pub whole : IsWhole old.backed → IsWhole new.backed
  pub keeps : (b r : ℕ) (p : Placed) → (b ≡ i → ⊥) → LiesOf old.backed old.memory b r p → LiesOf new.backed new.memory b r p

-- where it stays in its pool, whose number stays
pub pool_keeps : (old new : Held) (b r : ℕ) (p : Placed) → IsBacked new.backed new.memory → pool_of new.backed r ≡ pool_of old.backed r → ((n : ℕ) (s : Spot) → LiesIn old.backed b n s → LiesIn new.backed b n s) → LiesOf old.backed old.memory b r p → LiesOf new.backed new.memory b r p
pool_keeps old new b r p is same keeps l = (l.0, same ∙ l.1, shared_on is l.2 (keeps l.0 l.2.spot l.2.lies))

-- what is new in a past has no pool
pub no_info : (past : Past) (s : Held) (i : ℕ) → MatchesLive past s → IsUnused past i → info_by s.backed i ≡ None
no_info past s i m unused = m.pools i ∙ ap (option_and_then pool_in) (not_live past i unused)

pub no_allocation : (past : Past) (s : Held) (i : ℕ) → MatchesLive past s → IsUnused past i → allocation_of s.backed i ≡ None
no_allocation past s i m unused = unshared (live past) s i m (ap (λ (o : Option Entry). holds o in_pool) (not_live past i unused))

-- the object that was made has its bytes, and others keep theirs
module _ (old new : Held) (id t size : ℕ) (makes : Makes old new id t size) where
  made_long : (number : ℕ) → object_of new id ≡ Some number → length (region_of new.memory number) ≡ size
  made_long number has =
      let both : ◌≡◌ {A = Option ℕ} (Some number) (Some (length old.memory.objects)) = sym has ∙ makes.here in
      let same : number ≡ length old.memory.objects = cc in
      rw (makes.memory, same) (ap (λ (o : Option Object). length (bytes_of o)) (new_object old.memory (fresh t size)) ∙ length-replicate size 205)

  made_type : (number : ℕ) → object_of new id ≡ Some number → type_of new.memory number ≡ t
  made_type number has =
      let both : ◌≡◌ {A = Option ℕ} (Some number) (Some (length old.memory.objects)) = sym has ∙ makes.here in
      let same : number ≡ length old.memory.objects = cc in
      rw (makes.memory, same) (ap type_in (new_object old.memory (fresh t size)))

  type_kept : (number : ℕ) → IsLive old.memory number → type_of new.memory number ≡ type_of old.memory number
  type_kept number lives = rw makes.memory (ap type_in (kept_object old.memory (fresh t size) number lives))

  made_kept : (number : ℕ) → IsLive old.memory number → region_of new.memory number ≡ region_of old.memory number
  made_kept number lives = rw makes.memory (ap bytes_of (kept_object old.memory (fresh t size) number lives))

  made_infos : (i : ℕ) → info_by new.backed i ≡ info_by old.backed i
  made_infos i = makes.owns.infos i

  made_allocations : (i : ℕ) → allocation_of new.backed i ≡ allocation_of old.backed i
  made_allocations i = ap (λ (ns : List (ℕ × ℕ)). number_in ns i) makes.owns.allocations

  made_keeps : (b r : ℕ) (p : Placed) → (b ≡ id → ⊥) → LiesOf old.backed old.memory b r p → LiesOf new.backed new.memory b r p
  made_keeps b r p other l = pool_keeps old new b r p makes.backed (ap (λ (ns : List (ℕ × ℕ)). number_in ns r) makes.owns.numbers) (λ n s lies. makes.owns.keeps b n s other lies) l

  made_pools : (past : Past) (x : Entry) → MatchesLive past old → IsUnused past id → PoolsGrow old new id x
  made_pools past x m unused = record {
    info = made_infos id ∙ no_info past old id m unused;
    infos = made_infos;
    pooled = λ a has. let both : ◌≡◌ {A = Option ℕ} (Some a) None = sym has ∙ made_allocations id ∙ no_allocation past old id m unused in absurd cc;
    allocations = λ j other. made_allocations j;
    whole = makes.whole;
    keeps = made_keeps;
  }

memory_grows : (old new : Held) (past : Past) (e i : ℕ) (info : MemoryInfo) → IsApart old.memory old.backed old.resources → Makes old new i info.memory_type info.size → new.resources ≡ old.resources → new.shapes ≡ old.shapes → IsUnused past i → MatchesLive past old
    → Grows (live past) (live (host e (entry.Memory i info) ∷ past)) old new i (entry.Memory i info)
memory_grows old new past e i info apart makes same shapes unused m =
    let none = not_live past i unused in
    let places : (b : ℕ) → placed new b ≡ placed old b = λ b. ap (λ (s : List (ℕ × Placed)). placed_in s b) same in
    let images : (b : ℕ) → shape_of new b ≡ shape_of old b = λ b. ap (λ (s : List (ℕ × ImageInfo)). shape_in s b) shapes in
    let pools = made_pools old new i info.memory_type info.size makes past (entry.Memory i info) m unused in
    record {
      now = live_new past e (entry.Memory i info) i refl refl unused;
      fresh = none;
      size = ap (λ (o : Option Placed). option_map (λ (p : Placed). p.size) o) (places i ∙ unplaced (live past) old i m (ap (option_and_then size_made) none));
      shaped = images i ∙ m.shapes i ∙ ap (option_and_then image_in) none;
      places = λ b other. places b;
      shapes = λ b other. images b;
      object = ap is_some makes.here;
      objects = makes.others;
      lies = λ p info at is. absurd cc;
      bytes = λ number y is has. let one : info ≡ y = cc in made_long old new i info.memory_type info.size makes number has ∙ ap (λ (z : MemoryInfo). z.size) one;
      regions = λ j number has. made_kept old new i info.memory_type info.size makes number (apart.backed_is.live j number has);
      type_now = λ number t is has. made_type old new i info.memory_type info.size makes number has ∙ cc;
      types = λ j number has. type_kept old new i info.memory_type info.size makes number (apart.backed_is.live j number has);
      info = pools.info;
      infos = λ j other. pools.infos j;
      pooled = pools.pooled;
      allocations = pools.allocations;
      whole = pools.whole;
      keeps = pools.keeps;
    }

pub memory_done : (old new : Held) (y : Entry) (i : ℕ) (info : MemoryInfo) → y ≡ entry.Memory i info → IsApart old.memory old.backed old.resources → (a : Applied) → MemoryMade a old new i info.memory_type info.size
    → (e : ℕ) (past : Past) → Stands past old → FitsEntry past y → DoneBy a e y past old new
memory_done old new y i info is apart a made e past m fit =
    subst (λ (x : Entry). DoneBy a e x past old new) (sym is) (go a made (subst (λ (x : Entry). FitsEntry past x) is fit))
  where
    go : (a : Applied) → MemoryMade a old new i info.memory_type info.size → FitsEntry past (entry.Memory i info) → DoneBy a e (entry.Memory i info) past old new
    go applied.Done made fit =
        let g = memory_grows old new past e i info apart made.0 made.1 made.2 fit.0 m.live in (
          (
            stands_on past e (entry.Memory i info) old new m (grown (live past) (live (host e (entry.Memory i info) ∷ past)) old new i (entry.Memory i info) g m.live),
            λ c cell there after has. grown_cells (live past) (live (host e (entry.Memory i info) ∷ past)) old new i (entry.Memory i info) g m.live apart (made_kept old new i info.memory_type info.size made.0) made.4 c cell there has,
            none_new old new made.1 made.2,
          ),
          λ b o n h. absurd cc,
        )
    go (applied.Bytes bytes) made fit = absurd made
    go applied.NoRoom made fit = (made.0, refl)

-- ---- new buffers and images

-- an entry that makes a resource, of so many bytes, and of a shape where it is an image
pub record IsCreatingEntry (x : Entry) (i : ℕ) (r : Resource) (size : ℕ) (shape : Option ImageInfo) : Type 0 where
  pub makes : made_by x ≡ Some i
  pub ends : ended_by x ≡ []
  pub resource : resource_in x ≡ Some r
  pub sized : size_made x ≡ Some size
  pub image : image_in x ≡ shape
  pub no_memory : memory_in x ≡ None
  pub no_pool : pool_in x ≡ None
  pub shares : in_pool x ≡ is_some (pool_at r.place)
  pub owns : has_memory x ≡ is_own r.place
  pub type : type_made x ≡ type_of_place r.place
  pub untouched : touched_by x ≡ None
  pub reads : ReadsNothing x
  pub keeps : (past : Past) (c : Byte) (cell : Cell) → after_host past [] x c cell ≡ cell
  pub finds : (d : Allocated) → FindsNoneAt d r.place r → FindsNoRoom d x
  pub found : (d : Allocated) → FindsNoRoom d x → FindsNoneAt d r.place r
  pub changes : (d e : Allocated) → Gets d i r r.place e → Changes d x e

pub creates_buffer : (i : ℕ) (b : BufferInfo) → IsCreatingEntry (entry.Buffer i b) i (of_buffer b) b.size None
creates_buffer i b = record { makes = refl; ends = refl; resource = refl; sized = refl; image = refl; no_memory = refl; no_pool = refl; shares = refl; owns = refl; type = refl; untouched = refl; reads = λ b o n h. absurd cc; keeps = λ past c cell. refl; finds = λ d f. f; found = λ d f. f; changes = λ d e g. g }

pub creates_image : (i : ℕ) (m : ImageInfo) → IsCreatingEntry (entry.Image i m) i (of_image m) (image_size m m.tiling) (Some m)
creates_image i m = record { makes = refl; ends = refl; resource = refl; sized = refl; image = refl; no_memory = refl; no_pool = refl; shares = refl; owns = refl; type = refl; untouched = refl; reads = λ b o n h. absurd cc; keeps = λ past c cell. refl; finds = λ d f. f; found = λ d f. f; changes = λ d e g. g }

-- what isn't held
unheld : (h : Option caches.Held) → (IsSome h → ⊥) → h ≡ None
unheld None none = refl
unheld (Some v) none = absurd (none refl)

module _ (old new : Held) (x : Entry) (i : ℕ) (r : Resource) (size : ℕ) (shape : Option ImageInfo) (creating : IsCreatingEntry x i r size shape) where
  -- a new resource that lies where its place says
  pub resource_grows : (past : Past) (e : ℕ) (p : Placed) → IsApart old.memory old.backed old.resources → Puts old new i p shape → p.size ≡ size → is_some (object_of new i) ≡ is_own r.place → ((j : ℕ) → (j ≡ i → ⊥) → object_of new j ≡ object_of old j)
      → LiesAt (live (host e x ∷ past)) new i r.place p → ((number : ℕ) → IsLive old.memory number → region_of new.memory number ≡ region_of old.memory number) → ((number t : ℕ) → type_of_place r.place ≡ Some t → object_of new i ≡ Some number → type_of new.memory number ≡ t)
      → ((number : ℕ) → IsLive old.memory number → type_of new.memory number ≡ type_of old.memory number) → PoolsGrow old new i x → IsUnused past i → Grows (live past) (live (host e x ∷ past)) old new i x
  resource_grows past e p apart puts sized object objects lies regions type types pools unused = record {
    now = live_new past e x i creating.makes creating.ends unused;
    fresh = not_live past i unused;
    size = ap (λ (o : Option Placed). option_map (λ (p : Placed). p.size) o) puts.here ∙ ap (λ (n : ℕ). Some n) sized ∙ sym creating.sized;
    shaped = puts.shaped ∙ sym creating.image;
    places = puts.others;
    shapes = puts.shapes;
    object = object ∙ sym creating.owns;
    objects = objects;
    lies = λ q t at is.
        let both : Some r ≡ Some t = sym creating.resource ∙ is in
        let one : r ≡ t = cc in
        let placed_both : Some q ≡ Some p = sym at ∙ puts.here in
        let same : q ≡ p = cc in
        subst (λ (t : Resource). LiesAt (live (host e x ∷ past)) new i t.place q) one (subst (λ (q : Placed). LiesAt (live (host e x ∷ past)) new i r.place q) (sym same) lies);
    bytes = λ number y is has. let both : None ≡ Some y = sym creating.no_memory ∙ is in absurd cc;
    regions = λ j number has. regions number (apart.backed_is.live j number has);
    type_now = λ number t is has. type number t (sym creating.type ∙ is) has;
    types = λ j number has. types number (apart.backed_is.live j number has);
    info = pools.info ∙ sym creating.no_pool;
    infos = λ j other. pools.infos j;
    pooled = pools.pooled;
    allocations = pools.allocations;
    whole = pools.whole;
    keeps = pools.keeps;
  }

  -- the resource that is new is where nothing was held
  pub new_unheld : (p : Placed) → Puts old new i p shape → new.cache ≡ old.cache → ((k : ℕ) → k < p.size → IsSome (held_at old.cache p.object (p.offset + k)) → ⊥) → HoldsNoneNew old new
  new_unheld p puts cache none (in_image j l a x y z) there absent = refl
  new_unheld p puts cache none (in_buffer b k) there absent = go (eqb b i) refl
    where
      go : (t : Bool) → eqb b i ≡ t → host_at new (in_buffer b k) ≡ None
      go false e = let ne = eqb-false b i e in absurd (absent (there_stays new old (in_buffer b k) (sym (puts.others b ne)) (sym (puts.shapes b ne)) there))
      go true e =
          let w = where_is new b k there in
          let both : Some w.0 ≡ Some p = sym w.1 ∙ ap (λ (j : ℕ). placed new j) (eqb-true b i e) ∙ puts.here in
          let same : w.0 ≡ p = cc in
          let at : placed new b ≡ Some p = w.1 ∙ ap (λ (q : Placed). Some q) same in
          let lt : k < p.size = subst (λ (q : Placed). k < q.size) same w.2 in
          host_of new b p at k lt ∙ ap (λ (h : Holdings). held_at h p.object (p.offset + k)) cache ∙ unheld (held_at old.cache p.object (p.offset + k)) (none k lt)

  pub resource_goes : (past : Past) (e : ℕ) → Grows (live past) (live (host e x ∷ past)) old new i x → Stands past old → IsApart old.memory old.backed old.resources
      → ((number : ℕ) → IsLive old.memory number → region_of new.memory number ≡ region_of old.memory number) → new.cache ≡ old.cache → HoldsNoneNew old new → Goes e x past old new
  resource_goes past e g m apart kept cache none = (
    stands_on past e x old new m (grown (live past) (live (host e x ∷ past)) old new i x g m.live),
    λ c cell there after has. subst (λ (y : Cell). HasCell new c y) (sym (creating.keeps past c cell)) (grown_cells (live past) (live (host e x ∷ past)) old new i x g m.live apart kept cache c cell there has),
    none,
  )

  pub resource_done : (t : ℕ) → r.place ≡ place.Dedicated t → IsConsistent old → (a : Applied) → ResourceMade a old new i t size r.size shape → (e : ℕ) (past : Past) → Stands past old → IsUnused past i → DoneBy a e x past old new
  resource_done t own consistent a made e past m unused = go a made
    where
      go : (a : Applied) → ResourceMade a old new i t size r.size shape → DoneBy a e x past old new
      go applied.Done made =
          let makes = made.0 in
          let p : Placed = record { size = size; object = length old.memory.objects; offset = 0 } in
          let g = resource_grows past e p consistent.0 made.1 refl (rw own (ap is_some makes.here)) makes.others
          (rw own (makes.here, refl)) (made_kept old new i t r.size makes) (type makes) (type_kept old new i t r.size makes) (made_pools old new i t r.size makes past x m.live unused) unused in (
            resource_goes past e g m consistent.0 (made_kept old new i t r.size makes) made.3 (new_unheld p made.1 made.3 none),
            creating.reads,
          )
        where
          type : Makes old new i t r.size → (number u : ℕ) → type_of_place r.place ≡ Some u → object_of new i ≡ Some number → type_of new.memory number ≡ u
          type makes number u is has =
              let both : ◌≡◌ {A = Option ℕ} (Some t) (Some u) = ap type_of_place (sym own) ∙ is in
              let same : t ≡ u = cc in
              made_type old new i t r.size makes number has ∙ same

          -- no resource lies in an object that is new
          none : (k : ℕ) → k < size → IsSome (held_at old.cache (length old.memory.objects) (0 + k)) → ⊥
          none k lt held =
              let w = consistent.1.only (length old.memory.objects) (0 + k) held in
              let low = live_below old.memory w.place.object (inside_of old.memory old.backed old.resources consistent.0 w.id w.place w.here).live in
              let at = w.object in
              omega (arith, low, at)
      go (applied.Bytes bytes) made = absurd made
      go applied.NoRoom made = (made.0, creating.untouched)

  pub bound_done : (k o : ℕ) → r.place ≡ place.Memory k o → IsConsistent old → BindReady old k o size → Binds old new i k o size shape → (e : ℕ) (past : Past) → Stands past old → IsUnused past i → FitsPlace past r (place.Memory k o) → DoneBy applied.Done e x past old new
  bound_done k o at consistent ready binds e past m unused fits =
      let none = not_live past i unused in
      let has_none : object_of old i ≡ None = unowned (live past) old i m.live (ap (λ (o : Option Entry). holds o has_memory) none) in
      let alone : is_some (object_of new i) ≡ is_own r.place = rw at (ap is_some (objects i ∙ has_none)) in
      let lives : IsTrue (holds (live (host e x ∷ past) k) is_memory) = rw (live_new past e x i creating.makes creating.ends unused k, other_entry fits.0 none) fits.0 in
      let kept : (number : ℕ) → IsLive old.memory number → region_of new.memory number ≡ region_of old.memory number = λ number lives. ap (λ (n : MemoryState). region_of n number) binds.0 in
      let g = resource_grows past e p consistent.0 puts refl alone (λ j other. objects j) (subst (λ (q : Place). LiesAt (live (host e x ∷ past)) new i q p) (sym at) (lives, objects k ∙ ready.has, refl)) kept (type has_none) (λ number lives. ap (λ (n : MemoryState). type_of n number) binds.0) (bound_pools past m.live unused) unused in
      (resource_goes past e g m consistent.0 kept binds.3 (new_unheld p puts binds.3 bare), creating.reads)
    where
      p : Placed
      p = record { size = size; object = ready.number; offset = o }

      puts : Puts old new i (record { size = size; object = ready.number; offset = o }) shape
      puts = binds.2 ready.number ready.has

      objects : (j : ℕ) → object_of new j ≡ object_of old j
      objects j = ap (λ (x : Backed). backing.object_of x j) binds.1

      bound_pools : (past : Past) → MatchesLive past old → IsUnused past i → PoolsGrow old new i x
      bound_pools past m unused = record {
        info = ap (λ (x : Backed). info_by x i) binds.1 ∙ no_info past old i m unused;
        infos = λ j. ap (λ (x : Backed). info_by x j) binds.1;
        pooled = λ a has. let both : ◌≡◌ {A = Option ℕ} (Some a) None = sym has ∙ ap (λ (x : Backed). allocation_of x i) binds.1 ∙ no_allocation past old i m unused in absurd cc;
        allocations = λ j other. ap (λ (x : Backed). allocation_of x j) binds.1;
        whole = λ w. subst IsWhole (sym binds.1) w;
        keeps = λ b r p other l. subst (λ (x : Backed). LiesOf x new.memory b r p) (sym binds.1) (subst (λ (n : MemoryState). LiesOf old.backed n b r p) (sym binds.0) l);
      }

      type : object_of old i ≡ None → (number u : ℕ) → type_of_place r.place ≡ Some u → object_of new i ≡ Some number → type_of new.memory number ≡ u
      type has_none number u is has = let both : ◌≡◌ {A = Option ℕ} (Some number) None = sym has ∙ objects i ∙ has_none in absurd cc

      -- what is held there would be of a resource that shares an atom with this one
      bare : (j : ℕ) → j < size → IsSome (held_at old.cache ready.number (o + j)) → ⊥
      bare j lt held =
          let w = consistent.1.only ready.number (o + j) held in
          let inside = inside_of old.memory old.backed old.resources consistent.0 w.id w.place w.here in
          let cached : type_of old.memory ready.number ≡ 2 = eqb-true (type_of old.memory ready.number) 2 (subst (λ (n : ℕ). (type_of old.memory n == 2) ≡ true) w.object w.cached) in
          clear_atoms w.place (record { size = size; object = ready.number; offset = o }) j (consistent.1.aligned w.id w.place w.here w.cached) (ready.aligned cached) inside.some
          (turned o w.place.offset size w.place.size (ready.apart w.id w.place w.here w.object)) lt w.atom

      other_entry : IsTrue (holds (live past k) is_memory) → live past i ≡ None → (k == i) ≡ false
      other_entry memory none = false_from_ne_true (k == i) (λ h.
          let gone : IsTrue (holds {A = Entry} None is_memory) = subst (λ (o : Option Entry). IsTrue (holds o is_memory)) (ap (live past) (eqb-true k i h) ∙ none) memory in
          cc)

-- ---- what ends

pub end_goes : (old new : Held) (past : Past) (e r : ℕ) (x : Entry) → made_by x ≡ None → ended_by x ≡ r ∷ [] → ((c : Byte) (cell : Cell) → after_host past [] x c cell ≡ cell) → Stands past old → IsApart old.memory old.backed old.resources → option_and_then pool_in (live past r) ≡ None
    → ((b : ℕ) (p : Placed) (t : Resource) → (b ≡ r → ⊥) → placed old b ≡ Some p → option_and_then resource_in (live past b) ≡ Some t → LiesAt (live past) old b t.place p → home b t.place ≡ r → ⊥) → Ends old new r → Goes e x past old new
end_goes old new past e r x makes ends_it same m apart no_pool clear ends = (stands_on past e x old new m (ended_matches (live past) (live (host e x ∷ past)) old new r now m.live apart no_pool clear ends), leaves, none)
  where
    now : (j : ℕ) → live (host e x ∷ past) j ≡ cond (j == r) None (live past j)
    now = live_end past e x r makes ends_it

    -- what is there afterwards is another
    other : (c : Byte) → IsThere new c → resource_at c ≡ r → ⊥
    other c after is =
        let l = where_lies new c after in
        let both : Some l.place ≡ None = sym l.here ∙ ap (λ (j : ℕ). placed new j) is ∙ ends.no_resource in
        cc

    host_same : (c : Byte) → (resource_at c ≡ r → ⊥) → host_at new c ≡ host_at old c
    host_same (in_image j l a z w p) ne = refl
    host_same (in_buffer b k) ne = ends.held b k ne

    leaves : LeavesCells past x old new
    leaves c cell there after has =
        let ne = other c after in
        subst (λ (y : Cell). HasCell new c y) (sym (same c cell))
        (stays old new c cell (ends.resources (resource_at c) ne) (ends.shapes (resource_at c) ne)
        (λ p at. region_there (live past) (live (host e x ∷ past)) old new r now m.live apart no_pool clear ends (resource_at c) p ne at) (host_same c ne) has)

    none : HoldsNoneNew old new
    none c after absent = let ne = other c after in absurd (absent (there_stays new old c (sym (ends.resources (resource_at c) ne)) (sym (ends.shapes (resource_at c) ne)) after))
