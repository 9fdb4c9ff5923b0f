-- Where resources lie when a pass has ended, and that what is held is so then.
use Rattle.std.proofs.Common.{◌≡◌, ◌⊎◌, ◌∙◌, ℕ, ◌+◌, ◌%◌, ◌<◌, ◌≤◌, List, length, true, ◌==◌, Option, Some, None, refl, sym, ap, subst, arith, inl, inr, eq-eqb}
use Rattle.std.specs.Prelude.{Contains, IfSome, IsSome}
use Rattle.std.proofs.lemmas.Bool.{eqb-true}
use Rattle.std.proofs.lemmas.List.{get_or_default}
use Rattle.vk_memory.specs.declared.memories.Object.{Object}
use Rattle.vk_memory.specs.MemoryState.{MemoryState, IsLive, bytes_of, region_of, type_in, type_of}
use Rattle.vk_map_cache.specs.Holdings.{held_at}
use Rattle.vk_model.specs.Run.Caches as caches
use Rattle.vk_model.specs.declared.resource.ImageInfo.{ImageInfo}
use Rattle.vk_model.specs.declared.resource.Spot.{Spot}
use Rattle.vk_transfer.specs.Ran.{AreApart}
use Rattle.vk_backing.specs.declared.backing.Own.{Own}
use Rattle.vk_backing.specs.Backed.{Backed, allocation_of, object_in, IsBacked, LiesIn}
use Rattle.vk_backing.specs.Passing.{Passing, ArePassing}
use Rattle.vk_backing.specs.PassSteps.{Closes, HasBytes}
use Rattle.vk_backing.specs.Spots.{AreSpots}
use Rattle.vk_backing.proofs.Grown.{some_there}
use Rattle.vk_backing.proofs.Spots.{are_spots}
use Rattle.vk_resources.specs.declared.resources.Placed.{Placed}
use Rattle.vk_resources.specs.Held.{Held, IsApart, IsCaching, IsConsistent, IsCachedByte, IsInside, IsShaped, IsWithin, AreShaped, is_dirty, LiesShared, placed, placed_in, shape_in, object_of, is_cached_in}
use Rattle.vk_resources.specs.Inner.PassEnds.{HoldsNoneOf, LeavesOut, PlacesAnew}
use Rattle.vk_resources.proofs.CachedBytes.{clear_atoms, here_cached}
use Rattle.vk_resources.proofs.Placing.{inside_of, one_place}
use Rattle.vk_backing.proofs.Numbers.{listed_or}

-- ---- where a resource lies

-- in a memory object that an id has, where it has no allocation in a pool; or in a pool
abbrev pub HasHome : Held → ℕ → Placed → Type 0
HasHome s b p = ((h : ℕ) × (object_of s h ≡ Some p.object) × (allocation_of s.backed b ≡ None)) ⊎ ((n : ℕ) × LiesShared s.backed s.memory b n p)

abbrev pub HaveHomes : Held → Type 0
HaveHomes s = (b : ℕ) (p : Placed) → placed s b ≡ Some p → HasHome s b p

-- a resource that moves has an allocation in a pool
pub mover_has : (p : Passing) (b : Backed) → ArePassing p b → (i : ℕ) → Contains p.moving i → (a : ℕ) × (allocation_of b i ≡ Some a)
mover_has p b h i there =
    let lt : there.0 < length p.moving = there.1 in
    let has = h.movers.each there.0 (omega (arith, lt, h.movers.long)) in
    (_, ap (allocation_of b) (sym (get_or_default p.moving there.0 0 i there.1 ∙ there.2)) ∙ has)

module _ (s : Held) (consistent : IsConsistent s) (homes : HaveHomes s) (p q : Passing) (passing : ArePassing p s.backed) (backed' : Backed) (memory' : MemoryState) (id : ℕ) (moving ignored destroyed : List ℕ) (moving_is : moving ≡ p.moving)
    (closes : Closes p q s.backed backed' s.memory memory' id ignored destroyed) (back : IsBacked backed' memory') (between resources' : List (ℕ × Placed)) (left : LeavesOut s.resources between destroyed) (anew : PlacesAnew backed' moving between resources') where
  spots : AreSpots backed' memory'
  spots = are_spots backed' memory' back

  -- where it came from, and where it lies now
  pub record Came (b : ℕ) (now : Placed) : Type 0 where
    pub was : Placed
    pub here : placed s b ≡ Some was
    pub away : Contains destroyed b → ⊥
    pub size : now.size ≡ was.size

  -- in a memory object of an id it lies where it lay
  pub record IsOwned (b : ℕ) (now was : Placed) : Type 0 where
    pub owner : ℕ
    pub has : object_of s owner ≡ Some was.object
    pub same : now ≡ was

  -- in a pool it lies where its allocation does
  pub record IsPooled (b : ℕ) (now was : Placed) : Type 0 where
    pub pool : ℕ
    pub lay : LiesShared s.backed s.memory b pool was
    pub to : Spot
    pub lies : LiesIn backed' b pool to
    pub bytes : HasBytes s.memory lay.spot memory' to
    pub object : to.memory ≡ now.object
    pub offset : to.offset ≡ now.offset

  -- what moves has no place of its own
  moves_has : (b : ℕ) → Contains moving b → allocation_of s.backed b ≡ None → ⊥
  moves_has b there none =
      let has = mover_has p s.backed passing b (subst (λ (l : List ℕ). Contains l b) moving_is there) in
      let both = sym none ∙ has.1 in cc

  was_there : (b : ℕ) (now : Placed) → placed_in resources' b ≡ Some now → IsSome (placed_in between b)
  was_there b now at = go (placed_in between b) refl
    where
      go : (o : Option Placed) → placed_in between b ≡ o → IsSome o
      go None none = let both : Some now ≡ None = sym at ∙ anew.none b none in absurd cc
      go (Some x) is = refl

  pub not_gone : (b : ℕ) (now : Placed) → placed_in resources' b ≡ Some now → Contains destroyed b → ⊥
  not_gone b now at there = let both : Some now ≡ None = sym at ∙ anew.none b (left.gone b there) in cc

  pub record Origin (b : ℕ) (now : Placed) : Type 0 where
    pub came : Came b now
    pub lies : IsOwned b now came.was ⊎ IsPooled b now came.was

  pub origin : (b : ℕ) (now : Placed) → placed_in resources' b ≡ Some now → Origin b now
  origin b now at = elim (listed_or moving b) [
    | inl moves ↦ elim (homes b was here) [
      | inl own ↦ absurd (moves_has b moves own.2)
      | inr shared ↦
          let l = shared.1.lies in
          let a = anew.moved b l.number was moves (closes.allocations b away ∙ l.has) w.1 in
          let t = closes.bytes b shared.0 shared.1.spot away l in
          let one = spots.one b a.pool shared.0 a.spot t.0 a.lies t.1 in
          let same : record { size = was.size; object = a.spot.memory; offset = a.spot.offset } ≡ now = one_place (placed_in resources' b) _ now a.here at in
          record {
            came = record { was = was; here = here; away = away; size = ap (λ (x : Placed). x.size) (sym same) };
            lies = inr (record {
              pool = shared.0;
              lay = shared.1;
              to = t.0;
              lies = t.1;
              bytes = t.2;
              object = ap (λ (x : Spot). x.memory) (sym one.1) ∙ ap (λ (x : Placed). x.object) same;
              offset = ap (λ (x : Spot). x.offset) (sym one.1) ∙ ap (λ (x : Placed). x.offset) same;
            });
          }
    ]
    | inr still ↦
        let same : now ≡ was = one_place (placed_in resources' b) now was at (anew.others b still ∙ w.1) in
        let came : Came b now = record { was = was; here = here; away = away; size = ap (λ (x : Placed). x.size) same } in
        elim (homes b was here) [
          | inl own ↦ record { came = came; lies = inl (record { owner = own.0; has = own.1; same = same }) }
          | inr shared ↦
              let l = shared.1 in
              let t = closes.bytes b shared.0 l.spot away l.lies in
              let stays = closes.stays b shared.0 l.spot away (λ there. still (subst (λ (ms : List ℕ). Contains ms b) (sym moving_is) there)) l.lies in
              let one = spots.one b shared.0 shared.0 t.0 l.spot t.1 stays in
              record {
                came = came;
                lies = inr (record {
                  pool = shared.0;
                  lay = l;
                  to = t.0;
                  lies = t.1;
                  bytes = t.2;
                  object = ap (λ (x : Spot). x.memory) one.1 ∙ l.object ∙ ap (λ (x : Placed). x.object) (sym same);
                  offset = ap (λ (x : Spot). x.offset) one.1 ∙ l.offset ∙ ap (λ (x : Placed). x.offset) (sym same);
                });
              }
        ]
  ]
    where
      away : Contains destroyed b → ⊥
      away = not_gone b now at

      w : (x : Placed) × (placed_in between b ≡ Some x)
      w = some_there (placed_in between b) (was_there b now at)

      was : Placed
      was = w.0

      here : placed s b ≡ Some was
      here = sym (left.others b away) ∙ w.1

  -- its memory is of the type that it was of
  pub typed : (b : ℕ) (now was : Placed) → placed_in resources' b ≡ Some now → placed s b ≡ Some was → type_of memory' now.object ≡ type_of s.memory was.object
  typed b now was at here = let o = origin b now at in go o (one_place (placed s b) o.came.was was o.came.here here) o.lies
    where
      go : (o : Origin b now) → o.came.was ≡ was → IsOwned b now o.came.was ⊎ IsPooled b now o.came.was → type_of memory' now.object ≡ type_of s.memory was.object
      go o same (inl own) = ap (λ (x : Placed). type_of memory' x.object) own.same ∙ ap type_in (closes.objects own.owner o.came.was.object own.has) ∙ ap (λ (x : Placed). type_of s.memory x.object) same
      go o same (inr pooled) = ap (type_of memory') (sym pooled.object) ∙ pooled.bytes.kind ∙ ap (type_of s.memory) pooled.lay.object ∙ ap (λ (x : Placed). type_of s.memory x.object) same

  -- ---- inside memory objects, and apart

  inside : (b : ℕ) (now : Placed) → placed_in resources' b ≡ Some now → IsInside memory' now
  inside b now at = let o = origin b now at in go o (inside_of s.memory s.backed s.resources consistent.0 b o.came.was o.came.here) o.lies
    where
      go : (o : Origin b now) → IsInside s.memory o.came.was → IsOwned b now o.came.was ⊎ IsPooled b now o.came.was → IsInside memory' now
      go o i (inl own) =
          let same = closes.objects own.owner o.came.was.object own.has in
          subst (λ (x : Placed). IsInside memory' x) (sym own.same) (record {
            live = subst (λ (x : Option Object). IsSome x) (sym same) i.live;
            some = i.some;
            room = subst (λ (x : Option Object). o.came.was.offset + o.came.was.size ≤ length (bytes_of x)) (sym same) i.room;
          })
      go o i (inr pooled) =
          let some = i.some in
          let room = subst (λ (n : ℕ). pooled.to.offset + pooled.to.size ≤ length (region_of memory' n)) pooled.object (spots.room b pooled.pool pooled.to pooled.lies) in
          record {
            live = subst (λ (n : ℕ). IsLive memory' n) pooled.object (spots.live b pooled.pool pooled.to pooled.lies);
            some = omega (arith, some, o.came.size);
            room = omega (arith, room, pooled.offset, pooled.bytes.size, pooled.lay.within, o.came.size);
          }

  owned_apart : (b c : ℕ) (x y was : Placed) (o : IsOwned b x was) (z : Placed) (t : IsPooled c y z) → x.object ≡ y.object → ⊥
  owned_apart b c x y was o z t same =
      spots.unowned c t.pool o.owner t.to t.lies (ap (λ (os : List (ℕ × Own)). object_in os o.owner) closes.owned ∙ o.has ∙ ap (λ (n : ℕ). Some n) (ap (λ (v : Placed). v.object) (sym o.same) ∙ same ∙ sym t.object))

  beside : (b c : ℕ) (x y : Placed) → (b ≡ c → ⊥) → placed_in resources' b ≡ Some x → placed_in resources' c ≡ Some y → x.object ≡ y.object → AreApart x.offset x.size y.offset y.size
  beside b c x y other at also same = let o = origin b x at in let t = origin c y also in go o t o.lies t.lies
    where
      go : (o : Origin b x) (t : Origin c y) → IsOwned b x o.came.was ⊎ IsPooled b x o.came.was → IsOwned c y t.came.was ⊎ IsPooled c y t.came.was → AreApart x.offset x.size y.offset y.size
      go o t (inl u) (inl v) =
          let objects = ap (λ (z : Placed). z.object) (sym u.same) ∙ same ∙ ap (λ (z : Placed). z.object) v.same in
          subst (λ (z : Placed). AreApart z.offset z.size y.offset y.size) (sym u.same)
          (subst (λ (z : Placed). AreApart o.came.was.offset o.came.was.size z.offset z.size) (sym v.same) (consistent.0.apart b c o.came.was t.came.was other o.came.here t.came.here objects))
      go o t (inl u) (inr v) = absurd (owned_apart b c x y o.came.was u t.came.was v same)
      go o t (inr u) (inl v) = absurd (owned_apart c b y x t.came.was v o.came.was u (sym same))
      go o t (inr u) (inr v) = elim (spots.apart b c u.pool v.pool u.to v.to u.lies v.lies other (u.object ∙ same ∙ sym v.object)) [
        | inl low ↦ inl (omega (arith, low, u.offset, v.offset, u.bytes.size, u.lay.within, o.came.size))
        | inr high ↦ inr (omega (arith, high, u.offset, v.offset, v.bytes.size, v.lay.within, t.came.size))
      ]

  pub moved_apart : IsApart memory' backed' resources'
  moved_apart = record { inside = λ b. each b (placed_in resources' b) refl; apart = beside; backed_is = back }
    where
      each : (b : ℕ) (o : Option Placed) → placed_in resources' b ≡ o → IfSome o (IsInside memory')
      each b None at = tt
      each b (Some now) at = inside b now at

  -- ---- the host's cache

  module _ (unheld : HoldsNoneOf s moving destroyed) where
    begins : (b : ℕ) (now : Placed) → placed_in resources' b ≡ Some now → is_cached_in memory' now ≡ true → now.offset % 64 ≡ 0
    begins b now at is = let o = origin b now at in go o (eq-eqb (type_of s.memory o.came.was.object) 2 (sym (typed b now o.came.was at o.came.here) ∙ eqb-true (type_of memory' now.object) 2 is)) o.lies
      where
        go : (o : Origin b now) → is_cached_in s.memory o.came.was ≡ true → IsOwned b now o.came.was ⊎ IsPooled b now o.came.was → now.offset % 64 ≡ 0
        go o cached (inl own) = ap (λ (x : Placed). x.offset % 64) own.same ∙ consistent.1.aligned b o.came.was o.came.here cached
        go o cached (inr pooled) =
            ap (λ (n : ℕ). n % 64) (sym pooled.offset)
            ∙ pooled.bytes.aligned (ap (type_of s.memory) pooled.lay.object ∙ eqb-true (type_of s.memory o.came.was.object) 2 cached) (ap (λ (n : ℕ). n % 64) pooled.lay.offset ∙ consistent.1.aligned b o.came.was o.came.here cached)

    -- what is held is of a resource that stays
    still_there : (number k : ℕ) → IsSome (held_at s.cache number k) → (w : IsCachedByte s.memory s.resources number k) → placed_in resources' w.id ≡ Some w.place
    still_there number k held w = anew.others w.id (λ there. clash (unheld.first w.id w.place k there (here_cached s w.id w.place w.here w.cached) w.atom)) ∙ left.others w.id (λ there. clash (unheld.second w.id w.place k there (here_cached s w.id w.place w.here w.cached) w.atom)) ∙ w.here
      where
        clash : held_at s.cache w.place.object k ≡ None → ⊥
        clash none = let f : IsSome {T = caches.Held} None = subst (λ (x : Option caches.Held). IsSome x) (ap (λ (n : ℕ). held_at s.cache n k) (sym w.object) ∙ none) held in cc

    still_cached : (number k : ℕ) → IsSome (held_at s.cache number k) → (w : IsCachedByte s.memory s.resources number k) → (v : IsCachedByte memory' resources' number k) × (v.place ≡ w.place)
    still_cached number k held w =
        let at = still_there number k held w in
        (record { id = w.id; place = w.place; here = at; object = w.object; cached = ap (λ (t : ℕ). t == 2) (typed w.id w.place w.place at w.here) ∙ w.cached; atom = w.atom }, refl)

    dirty_held : (o : Option caches.Held) → is_dirty o ≡ true → IsSome o
    dirty_held None is = absurd cc
    dirty_held (Some x) is = refl

    pub moved_caching : IsCaching memory' resources' s.cache
    moved_caching = record {
      aligned = begins;
      only = λ number k held. (still_cached number k held (consistent.1.only number k held)).0;
      dirty = λ number k is.
          let w = consistent.1.dirty number k is in
          let v = still_cached number k (dirty_held (held_at s.cache number k) is) w.0 in
          (v.0, subst (λ (p : Placed). IsWithin p k) (sym v.1) w.1);
    }

    pub moved_shaped : (shapes' : List (ℕ × ImageInfo)) → LeavesOut s.shapes shapes' destroyed → AreShaped resources' shapes'
    moved_shaped shapes' gone = record { each = each }
      where
        each : (i : ℕ) (m : ImageInfo) (now : Placed) → shape_in shapes' i ≡ Some m → placed_in resources' i ≡ Some now → IsShaped m now
        each i m now shaped at =
            let o = origin i now at in
            let h = consistent.2.each i m o.came.was (sym (gone.others i o.came.away) ∙ shaped) o.came.here in
            record { shaped = h.shaped; size = o.came.size ∙ h.size; inside = λ c k is. subst (λ (n : ℕ). k < n) (sym o.came.size) (h.inside c k is) }

    pub moved_consistent : (shapes' : List (ℕ × ImageInfo)) → LeavesOut s.shapes shapes' destroyed → IsConsistent (record { memory = memory'; backed = backed'; resources = resources'; shapes = shapes'; cache = s.cache })
    moved_consistent shapes' gone = (moved_apart, moved_caching, moved_shaped shapes' gone)

    -- nothing is held where a resource lies that has moved
    pub moved_bare : (b k : ℕ) (now : Placed) → Contains moving b → placed_in resources' b ≡ Some now → k < now.size → held_at s.cache now.object (now.offset + k) ≡ None
    moved_bare b k now moves at lt = go (held_at s.cache now.object (now.offset + k)) refl
      where
        go : (o : Option caches.Held) → held_at s.cache now.object (now.offset + k) ≡ o → o ≡ None
        go None is = refl
        go (Some x) is =
            let held : IsSome (held_at s.cache now.object (now.offset + k)) = subst (λ (o : Option caches.Held). IsSome o) (sym is) refl in
            let w = consistent.1.only now.object (now.offset + k) held in
            let there = still_there now.object (now.offset + k) held w in
            let v = still_cached now.object (now.offset + k) held w in
            let other : w.id ≡ b → ⊥ = λ e. (
            let none = unheld.first w.id w.place (now.offset + k) (subst (λ (j : ℕ). Contains moving j) (sym e) moves) (here_cached s w.id w.place w.here w.cached) w.atom in
            let f : Some x ≡ None = sym is ∙ ap (λ (n : ℕ). held_at s.cache n (now.offset + k)) (sym w.object) ∙ none in cc) in
            let apart = beside w.id b w.place now other there at w.object in
            let cached : is_cached_in memory' w.place ≡ true = ap (λ (t : ℕ). t == 2) (typed w.id w.place w.place there w.here) ∙ w.cached in
            let also : is_cached_in memory' now ≡ true = ap (λ (n : ℕ). type_of memory' n == 2) (sym w.object) ∙ cached in
            absurd (clear_atoms w.place now k (begins w.id w.place there cached) (begins b now at also) (inside w.id w.place there).some apart lt w.atom)
