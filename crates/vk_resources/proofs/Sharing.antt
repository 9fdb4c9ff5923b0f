-- A resource is put in a pool.
use Rattle.std.proofs.Common.{◌≡◌, ◌⊎◌, inl, inr, ℕ, ◌+◌, ◌<◌, ◌≤◌, ◌%◌, List, ◌∷◌, length, Bool, true, false, refl, ap, sym, ◌∙◌, subst, arith, Option, Some, None}
use Rattle.std.specs.Prelude.{IsSome, is_some, option_and_then}
use Rattle.std.proofs.lemmas.Bool.{eqb-true}
use Rattle.vk_memory.specs.MemoryState.{MemoryState, IsLive, region_of, bytes_of, type_of, type_in}
use Rattle.vk_map_cache.specs.Holdings.{held_at}
use Rattle.vk_model.specs.declared.entry.Entry.{Entry}
use Rattle.vk_model.specs.declared.resource.ImageInfo.{ImageInfo}
use Rattle.vk_model.specs.declared.resource.Place.{Place}
use Rattle.vk_model.specs.declared.resource.Place.TheVariants as place
use Rattle.vk_model.specs.declared.resource.Spot.{Spot}
use Rattle.vk_model.specs.Basics.{holds}
use Rattle.vk_model.specs.Memory.Allocations.{Allocated, FindsNoneAt, Gets}
use Rattle.vk_model.specs.Trace.Point.{Past}
use Rattle.vk_model.specs.Trace.Order.{host}
use Rattle.vk_model.specs.Trace.Objects.{Resource, live, pool_at}
use Rattle.vk_transfer.specs.Ran.{AreApart}
use Rattle.vma_pools.specs.declared.allocations.Asked.{Asked}
use Rattle.vk_backing.specs.declared.backing.Own.{Own}
use Rattle.vk_backing.specs.Backed.{Backed, number_in, object_in, pool_of, IsBacked, IsWhole, allocation_of}
use Rattle.vk_backing.specs.Spots.{AreSpots}
use Rattle.vk_backing.specs.Steps.{Grows, Shares, ShareAllots, Asks}
use Rattle.vk_backing.specs.Allotted as allotting
use Rattle.vk_backing.proofs.Spots.{are_spots, spot_object}
use Rattle.vk_resources.specs.declared.applied.Applied.{Applied}
use Rattle.vk_resources.specs.declared.applied.Applied.TheVariants as applied
use Rattle.vk_resources.specs.declared.resources.Placed.{Placed}
use Rattle.vk_backing.specs.Passing.{ArePassing, CopiesAgree}
use Rattle.vk_backing.proofs.AgreeingSteps.{shares_agree}
use Rattle.vk_backing.proofs.PassingSteps.{shares_passing}
use Rattle.vk_resources.specs.Allocating.{allotted, NoRoomIsExact, Allots}
use Rattle.vk_resources.specs.Held.{Held, IsConsistent, placed, placed_in, shape_in, shape_of, object_of}
use Rattle.vk_resources.specs.Matches.{MatchesLive, Stands, LiesAt, LiesOf, is_own, has_memory, size_made, type_of_place}
use Rattle.vk_resources.specs.Fits.{IsUnused}
use Rattle.vk_resources.specs.Done.{DoneBy}
use Rattle.vk_resources.specs.Inner.Steps.{Puts, PutReady, PutIn, SharedMade, FoundOr, ShapeReady, LiesElsewhere, IsEmpty}
use Rattle.vk_resources.proofs.Placing.{grown_object, inside_of, turned}
use Rattle.vk_resources.proofs.CachedBytes.{clear_atoms}
use Rattle.vk_resources.proofs.Matching.{home, lies_in, live_of_placed, resource_of_placed, unowned, unplaced}
use Rattle.vk_resources.proofs.Living.{not_live}
use Rattle.vk_resources.proofs.Applying.{IsCreatingEntry, PoolsGrow, pool_keeps, no_info, resource_grows, resource_goes, new_unheld}

-- ---- where other resources lie

-- where an id is new each resource lies elsewhere
pub all_elsewhere : (past : Past) (s : Held) (i : ℕ) → MatchesLive past s → IsUnused past i → IsEmpty s i
all_elsewhere past s i m unused b p other at =
    let l = live_of_placed (live past) s b p m at in
    let none : object_of s i ≡ None = unowned (live past) s i m (ap (λ (o : Option Entry). holds o has_memory) (not_live past i unused)) in
    elim (lies_in (live past) s b l.resource.place p (m.places b p l.resource at (resource_of_placed (live past) b p l))) [
      | inl has ↦ inl (home b l.resource.place, λ same. (let both : ◌≡◌ {A = Option ℕ} (Some p.object) None = sym has ∙ ap (λ (j : ℕ). object_of s j) same ∙ none in cc), has)
      | inr shared ↦ inr shared
    ]

-- two places that are beside each other, of which less is taken
narrower : (a n b m k l : ℕ) → k ≤ n → l ≤ m → (a + n ≤ b) ⊎ (b + m ≤ a) → AreApart a k b l
narrower a n b m k l less fewer (inl le) = inl (omega (arith, less, le))
narrower a n b m k l less fewer (inr le) = inr (omega (arith, fewer, le))

-- a place in a pool is beside what lies elsewhere
module _ (old : Held) (new : Backed) (memory : MemoryState) (is : IsBacked new memory) (id pool : ℕ) (asked : Asked) (upper : Bool) (spot : Spot) (shares : Shares old.backed new old.memory memory id pool asked upper spot) (size : ℕ) (fits : size ≤ asked.size) where
  abbrev spots : AreSpots new memory
  spots = are_spots new memory is

  pub spot_beside : (c : ℕ) (q : Placed) → (c ≡ id → ⊥) → LiesElsewhere old id c q → q.object ≡ spot.memory → AreApart spot.offset size q.offset q.size
  spot_beside c q ne (inl own) same =
      absurd (spots.unowned id shares.number own.0 spot shares.lies (ap (λ (os : List (ℕ × Own)). object_in os own.0) shares.owned ∙ own.2 ∙ ap (λ (n : ℕ). Some n) same))
  spot_beside c q ne (inr shared) same =
      let l = shared.1 in
      let there = shares.keeps c shared.0 l.spot ne l.lies in
      let apart = spots.apart id c shares.number shared.0 spot l.spot shares.lies there (λ e. ne (sym e)) (sym same ∙ sym l.object) in
      subst (λ (n : ℕ). AreApart spot.offset size n q.size) l.offset (narrower spot.offset spot.size l.spot.offset l.spot.size size q.size (omega (arith, fits, shares.size)) l.within apart)

  pub spot_live : IsLive memory spot.memory
  spot_live = spots.live id shares.number spot shares.lies

  pub spot_room : spot.offset + size ≤ length (region_of memory spot.memory)
  spot_room = let r = spots.room id shares.number spot shares.lies in omega (arith, r, fits, shares.size)

  pub spot_aligned : type_of memory spot.memory ≡ 2 → spot.offset % 64 ≡ 0
  spot_aligned cached = shares.aligned (sym shares.kind ∙ cached)

-- ---- it may be put there

pub shared_ready : (old n : Held) (id pool size : ℕ) (asked : Asked) (upper : Bool) (shape : Option ImageInfo) (spot : Spot) → FoundOr (Some spot) old n id pool asked upper → 0 < size → size ≤ asked.size → placed old id ≡ None → shape_of old id ≡ None → IsEmpty old id → IsConsistent n
    → ((object offset : ℕ) → ShapeReady shape (record { size = size; object = object; offset = offset })) → PutReady n id (record { size = size; object = spot.memory; offset = spot.offset }) shape
shared_ready old n id pool size asked upper shape spot found some fits absent unshaped elsewhere consistent shaped = record {
  absent = ap (λ (l : List (ℕ × Placed)). placed_in l id) found.3 ∙ absent;
  unshaped = ap (λ (l : List (ℕ × ImageInfo)). shape_in l id) found.4 ∙ unshaped;
  inside = record {
    live = spot_live old n.backed n.memory found.1 id pool asked upper spot found.0 size fits;
    some = some;
    room = spot_room old n.backed n.memory found.1 id pool asked upper spot found.0 size fits;
  };
  apart = λ c q ne at object.
      spot_beside old n.backed n.memory found.1 id pool asked upper spot found.0 size fits c q ne (elsewhere c q ne (ap (λ (l : List (ℕ × Placed)). placed_in l c) (sym found.3) ∙ at)) object;
  aligned = λ cached. spot_aligned old n.backed n.memory found.1 id pool asked upper spot found.0 size fits (eqb-true (type_of n.memory spot.memory) 2 cached);
  shaped = shaped spot.memory spot.offset;
}

-- ---- what was made before a resource was put

module _ (old n new : Held) (memory : new.memory ≡ n.memory) (backed : new.backed ≡ n.backed) where
  pub shared_put : IsConsistent old → (id pool size : ℕ) (asked : Asked) (upper : Bool) (shape : Option ImageInfo) (spot : Spot) → allocation_of old.backed id ≡ None → FoundOr (Some spot) old n id pool asked upper → Grows old.memory n.memory → Puts n new id (record { size = size; object = spot.memory; offset = spot.offset }) shape → new.cache ≡ n.cache
      → PutIn old new id pool size asked upper shape spot
  shared_put consistent id pool size asked upper shape spot absent found grows puts cache = record {
    shares = subst (λ (b : Backed). Shares old.backed b old.memory new.memory id pool asked upper spot) (sym backed) (subst (λ (m : MemoryState). Shares old.backed n.backed old.memory m id pool asked upper spot) (sym memory) found.0);
    puts = record {
      here = puts.here;
      others = λ b other. puts.others b other ∙ ap (λ (l : List (ℕ × Placed)). placed_in l b) found.3;
      shaped = puts.shaped;
      shapes = λ b other. puts.shapes b other ∙ ap (λ (l : List (ℕ × ImageInfo)). shape_in l b) found.4;
    };
    grows = subst (λ (m : MemoryState). Grows old.memory m) (sym memory) grows;
    backed = subst (λ (b : Backed). IsBacked b new.memory) (sym backed) (subst (λ (m : MemoryState). IsBacked n.backed m) (sym memory) found.1);
    whole = λ w. subst IsWhole (sym backed) (found.2 w);
    passing = record {
      passing = λ p h. subst (λ (b : Backed). ArePassing p b) (sym backed) (shares_passing p old.backed n.backed h (Some spot) old.memory n.memory id pool asked upper absent found.0);
      agree = λ p h agree. subst (λ (m : MemoryState). CopiesAgree p new.backed m) (sym memory)
          (subst (λ (b : Backed). CopiesAgree p b n.memory) (sym backed) (shares_agree p old.backed n.backed h old.memory n.memory consistent.0.backed_is agree (Some spot) id pool asked upper found.1 grows found.0));
      pools = λ i. ap (λ (b : Backed). pool_of b i) backed ∙ ap (λ (l : List (ℕ × ℕ)). number_in l i) found.0.numbers;
    };
    cache = cache ∙ found.5;
    allots = λ r asks. subst (λ (b : Backed). ShareAllots (Some spot) (allotted old) (allotting.allotted b new.memory) id pool r upper) (sym backed)
        (subst (λ (m : MemoryState). ShareAllots (Some spot) (allotted old) (allotting.allotted n.backed m) id pool r upper) (sym memory) (found.6 r asks));
  }

-- ---- an entry that puts a resource in a pool

-- a place in a pool, or at the upper end of its block
abbrev pub place_in : Bool → ℕ → Place
place_in false q = place.Pool q
place_in true q = place.PoolUpper q

module _ (old new : Held) (x : Entry) (i : ℕ) (r : Resource) (size : ℕ) (shape : Option ImageInfo) (creating : IsCreatingEntry x i r size shape) (pool : ℕ) (upper : Bool) (at : r.place ≡ place_in upper pool) (asked : Asked) (asks : Asks r asked) where
  no_type : (b : Bool) (u : ℕ) → type_of_place (place_in b pool) ≡ Some u → ⊥
  no_type false u e = cc
  no_type true u e = cc

  not_own : (b : Bool) → is_own (place_in b pool) ≡ false
  not_own false = refl
  not_own true = refl

  in_one : (b : Bool) → is_some (pool_at (place_in b pool)) ≡ true
  in_one false = refl
  in_one true = refl

  lies_of : (alive : ℕ → Option Entry) (s : Held) (p : Placed) (b : Bool) → LiesOf s.backed s.memory i pool p → LiesAt alive s i (place_in b pool) p
  lies_of alive s p false l = l
  lies_of alive s p true l = l

  pub shared_done : IsConsistent old → (a : Applied) → SharedMade a old new i pool size asked upper shape → size ≤ asked.size → (e : ℕ) (past : Past) → Stands past old → IsUnused past i → DoneBy a e x past old new
  shared_done consistent a made fits e past m unused = go a made
    where
      go : (a : Applied) → SharedMade a old new i pool size asked upper shape → DoneBy a e x past old new
      go applied.NoRoom made = (made.0, creating.untouched)
      go (applied.Bytes bytes) made = absurd made
      go applied.Done made =
          let spot = made.0 in let put = made.1 in let shares = put.shares in
          let p : Placed = record { size = size; object = spot.memory; offset = spot.offset } in
          let objects : (j : ℕ) → object_of new j ≡ object_of old j = λ j. ap (λ (os : List (ℕ × Own)). object_in os j) shares.owned in
          let none_own : object_of old i ≡ None = unowned (live past) old i m.live (ap (λ (o : Option Entry). holds o has_memory) (not_live past i unused)) in
          let object : is_some (object_of new i) ≡ is_own r.place = ap is_some (objects i ∙ none_own) ∙ sym (ap is_own at ∙ not_own upper) in
          let numbers : (q : ℕ) → pool_of new.backed q ≡ pool_of old.backed q = λ q. ap (λ (ns : List (ℕ × ℕ)). number_in ns q) shares.numbers in
          let kind = (spot_object new.backed new.memory put.backed i shares.number spot shares.lies).kind in
          let of : LiesOf new.backed new.memory i pool p = (shares.number, numbers pool ∙ shares.named, record { spot = spot; lies = shares.lies; object = refl; offset = refl; within = omega (arith, fits, shares.size); kind = kind }) in
          let regions : (number : ℕ) → IsLive old.memory number → region_of new.memory number ≡ region_of old.memory number = λ number lives. ap bytes_of (grown_object old.memory new.memory put.grows number lives) in
          let types : (number : ℕ) → IsLive old.memory number → type_of new.memory number ≡ type_of old.memory number = λ number lives. ap type_in (grown_object old.memory new.memory put.grows number lives) in
          let pools : PoolsGrow old new i x = record {
            info = shares.infos i ∙ no_info past old i m.live unused;
            infos = shares.infos;
            pooled = λ a has. creating.shares ∙ ap (λ (q : Place). is_some (pool_at q)) at ∙ in_one upper;
            allocations = shares.others;
            whole = put.whole;
            keeps = λ b q p other l. pool_keeps old new b q p put.backed (numbers q) (λ n s lies. shares.keeps b n s other lies) l;
          } in
          let g = resource_grows old new x i r size shape creating past e p consistent.0 put.puts refl object (λ j other. objects j)
          (subst (λ (q : Place). LiesAt (live (host e x ∷ past)) new i q p) (sym at) (lies_of (live (host e x ∷ past)) new p upper of))
          regions (λ number u is has. absurd (no_type upper u (ap type_of_place (sym at) ∙ is))) types pools unused in
          (resource_goes old new x i r size shape creating past e g m consistent.0 regions put.cache (new_unheld old new x i r size shape creating p put.puts put.cache (bare spot put p types)), creating.reads)
        where
          bare : (spot : Spot) → PutIn old new i pool size asked upper shape spot → (p : Placed) → ((number : ℕ) → IsLive old.memory number → type_of new.memory number ≡ type_of old.memory number) → (k : ℕ) → k < size → IsSome (held_at old.cache spot.memory (spot.offset + k)) → ⊥
          bare spot put p types k lt held =
              let w = consistent.1.only spot.memory (spot.offset + k) held in
              let inside = inside_of old.memory old.backed old.resources consistent.0 w.id w.place w.here in
              let absent : placed old i ≡ None = unplaced (live past) old i m.live (ap (option_and_then size_made) (not_live past i unused)) in
              let ne : w.id ≡ i → ⊥ = λ (same : w.id ≡ i). (let both : Some w.place ≡ None = sym w.here ∙ ap (λ (j : ℕ). placed old j) same ∙ absent in cc) in
              let beside = spot_beside old new.backed new.memory put.backed i pool asked upper spot put.shares size fits w.id w.place ne (all_elsewhere past old i m.live unused w.id w.place ne w.here) w.object in
              let cached : type_of new.memory spot.memory ≡ 2 = ap (λ (n : ℕ). type_of new.memory n) (sym w.object) ∙ types w.place.object inside.live ∙ eqb-true (type_of old.memory w.place.object) 2 w.cached in
              clear_atoms w.place (record { size = size; object = spot.memory; offset = spot.offset }) k (consistent.1.aligned w.id w.place w.here w.cached)
              (spot_aligned old new.backed new.memory put.backed i pool asked upper spot put.shares size fits cached) inside.some (turned spot.offset w.place.offset size w.place.size beside) lt w.atom

  finds_in : (d : Allocated) (b : Bool) → r.place ≡ place_in b pool → FindsNoneAt d (place_in b pool) r → FindsNoneAt d r.place r
  finds_in d b e f = subst (λ (q : Place). FindsNoneAt d q r) (sym e) f

  pub shared_rooms : (a : Applied) → SharedMade a old new i pool size asked upper shape → NoRoomIsExact a old x
  shared_rooms a made = go upper at a made
    where
      go : (b : Bool) → r.place ≡ place_in b pool → (a : Applied) → SharedMade a old new i pool size asked b shape → NoRoomIsExact a old x
      go false e applied.Done made = λ d al none. (made.1.allots r asks d al).0 (subst (λ (q : Place). FindsNoneAt d q r) e (creating.found d none))
      go true e applied.Done made = λ d al none. (made.1.allots r asks d al).0 (subst (λ (q : Place). FindsNoneAt d q r) e (creating.found d none))
      go b e (applied.Bytes bytes) made = absurd made
      go false e applied.NoRoom made = λ d al. creating.finds d (finds_in d false e (made.1 r asks d al))
      go true e applied.NoRoom made = λ d al. creating.finds d (finds_in d true e (made.1 r asks d al))

  pub shared_allots : (a : Applied) → SharedMade a old new i pool size asked upper shape → Allots a x old new
  shared_allots a made = go upper at a made
    where
      go : (b : Bool) → r.place ≡ place_in b pool → (a : Applied) → SharedMade a old new i pool size asked b shape → Allots a x old new
      go false e applied.Done made = λ d al. let f = (made.1.allots r asks d al).1 in (f.0, creating.changes d f.0 (subst (λ (q : Place). Gets d i r q f.0) (sym e) f.1), f.2)
      go true e applied.Done made = λ d al. let f = (made.1.allots r asks d al).1 in (f.0, creating.changes d f.0 (subst (λ (q : Place). Gets d i r q f.0) (sym e) f.1), f.2)
      go b e (applied.Bytes bytes) made = absurd made
      go b e applied.NoRoom made = λ d al. subst (λ (s : Held). allotting.Fulfils (allotted s) d) (sym made.0) al
