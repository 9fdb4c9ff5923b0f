-- The resources of a pool that is allocated have ranks, and lie in its blocks.
use Rattle.std.proofs.Common.{◌≡◌, ℕ, ◌≤◌, List, [], ◌∷◌, Bool, true, false, ◌==◌, Option, Some, None, refl, sym, ap, subst, ◌∙◌, arith}
use Rattle.std.specs.Prelude.{All, Contains, if◌then◌else◌}
use Rattle.std.specs.Option.{option_and_then}
use Rattle.std.specs.List.{filter}
use Rattle.std.proofs.lemmas.Bool.{eq-eqb, eqb-true}
use Rattle.std.proofs.lemmas.List.Elements.{All-weaker, All-contains_itself}
use Rattle.vk_memory.specs.MemoryState.{MemoryState}
use Rattle.vk_model.specs.declared.resource.PoolInfo.{PoolInfo}
use Rattle.vk_model.specs.Memory.MoveTargets.{Resident, Moved}
use Rattle.vk_model.specs.Memory.Pools.{PoolBlock, IsPool, IsAt, block_bytes, numbered_blocks}
use Rattle.vk_model.specs.Memory.Allocations.{Allocated, PoolMemory, pool_by_id}
use Rattle.vk_model.specs.Memory.PassLaws.{AllArePlaced, IsPlaceIn, IsRanked}
use Rattle.vk_model.proofs.Lists.Members.{filter_has, found as found_in, map_has, none_in, only_one}
use Rattle.vk_model.proofs.Memory.PoolNumbers.{numbered}
use Rattle.vk_model.proofs.Memory.PoolPlaces.{places_lie_inside}
use Rattle.vma_blocks.proofs.AlikeLemmas.{alike-bytes}
use Rattle.vma_pools.specs.declared.pool.PoolPlace.{PoolPlace}
use Rattle.vma_pools.specs.declared.allocations.Allocation.{Allocation}
use Rattle.vma_pools.specs.declared.allocations.Home.{Home}
use Rattle.vma_pools.specs.declared.allocations.Home.TheVariants as home
use Rattle.vma_pools.specs.Alike.{IsAlikePool}
use Rattle.vma_pools.specs.Inner.Kinds.{IsKeptPool, IsOfPool}
use Rattle.vma_pools.specs.Pools.{Kept}
use Rattle.vma_pools.specs.Ranges.{HasRange}
use Rattle.vma_pools.specs.State.{IsHeld, allocation_at, pool_at, range_at, request_in, shared_place, start_of}
use Rattle.vma_pools.proofs.PoolAlike.{all-alike, any-alike, alike-pool, pool-sym}
use Rattle.vma_pools.proofs.StateLemmas.{some-is}
use Rattle.vk_backing.specs.Backed.{Backed, IsBacked, allocation_of, pool_of}
use Rattle.vk_backing.specs.Allotted.{ArePoolsOf, Fulfils, IsPoolMemory, allotted, resident_at, resident_of}
use Rattle.vk_backing.proofs.PoolsBy.{pool_by, pool_found}

-- ---- the resident of an id

-- what backs a resident of a pool
record IsResident (b : Backed) (p : ℕ) (a : Resident) : Type 0 where
  number : ℕ
  has : allocation_of b a.id ≡ Some number
  allocation : Allocation
  live : allocation_at b.pools number ≡ Some allocation
  place : PoolPlace
  lies : allocation.home ≡ home.Shared p place
  is : a ≡ record { id = a.id; from = start_of place; request = request_in allocation.asked }

resident_is : (b : Backed) (p : ℕ) (a : Resident) → Contains (resident_of p a.id (option_and_then (allocation_at b.pools) (allocation_of b a.id))) a → IsResident b p a
resident_is b p a there = go (allocation_of b a.id) refl there
  where
    lying : (n : ℕ) → allocation_of b a.id ≡ Some n → (x : Allocation) → allocation_at b.pools n ≡ Some x → (h : Home) → x.home ≡ h → Contains (resident_at p a.id x.asked h) a → IsResident b p a
    lying n has x live (home.Own o) is c = absurd (none_in a c)
    lying n has x live (home.Shared t place) is c = by (t == p) refl c
      where
        by : (v : Bool) → (t == p) ≡ v → Contains (if v then record { id = a.id; from = start_of place; request = request_in x.asked } ∷ [] else []) a → IsResident b p a
        by true e c = record { number = n; has = has; allocation = x; live = live; place = place; lies = is ∙ ap (λ (s : ℕ). home.Shared s place) (eqb-true t p e); is = sym (only_one (record { id = a.id; from = start_of place; request = request_in x.asked }) a c) }
        by false e c = absurd (none_in a c)

    at : (n : ℕ) → allocation_of b a.id ≡ Some n → (o : Option Allocation) → allocation_at b.pools n ≡ o → Contains (resident_of p a.id o) a → IsResident b p a
    at n has None live c = absurd (none_in a c)
    at n has (Some x) live c = lying n has x live x.home refl c

    go : (o : Option ℕ) → allocation_of b a.id ≡ o → Contains (resident_of p a.id (option_and_then (allocation_at b.pools) o)) a → IsResident b p a
    go None has c = absurd (none_in a c)
    go (Some n) has c = at n has (allocation_at b.pools n) refl c

one_at_most : (p r : ℕ) (o : Option Allocation) (x y : Resident) → Contains (resident_of p r o) x → Contains (resident_of p r o) y → x ≡ y
one_at_most p r None x y c d = absurd (none_in x c)
one_at_most p r (Some a) x y c d = go a.home c d
  where
    one_of : (one : Resident) (v : Bool) → Contains (if v then one ∷ [] else []) x → Contains (if v then one ∷ [] else []) y → x ≡ y
    one_of one true c d = sym (only_one one x c) ∙ only_one one y d
    one_of one false c d = absurd (none_in x c)

    go : (h : Home) → Contains (resident_at p r a.asked h) x → Contains (resident_at p r a.asked h) y → x ≡ y
    go (home.Own o) c d = absurd (none_in x c)
    go (home.Shared t place) c d = one_of (record { id = r; from = start_of place; request = request_in a.asked }) (t == p) c d

-- ---- a pool that is allocated

module _ (b : Backed) (m : MemoryState) (h : IsBacked b m) (d : Allocated) (is : Fulfils (allotted b m) d) (i p : ℕ) (named : pool_of b i ≡ Some p) where
  abbrev pub q : PoolMemory
  q = (pool_by b m d is i p named).0

  abbrev k : Kept
  k = (pool_by b m d is i p named).1

  there : pool_at b.pools p ≡ Some k
  there = (pool_by b m d is i p named).3

  its : IsPoolMemory b i p k q
  its = (pool_by b m d is i p named).4

  back : IsAlikePool k.pool q.pool
  back = pool-sym q.pool k.pool its.pool

  kept : IsKeptPool k.pool
  kept = h.pools.pools p k there

  abbrev size : ℕ
  size = q.pool.info.block_size

  same_size : k.pool.info.block_size ≡ size
  same_size = ap (λ (n : PoolInfo). n.block_size) its.pool.info

  sizes_kept : All (λ c. block_bytes c.block ≡ size) k.pool.blocks
  sizes_kept = All-weaker (λ (c : PoolBlock). IsOfPool k.pool.info c.block) (λ c. block_bytes c.block ≡ size) (λ c of. of.bytes ∙ same_size) k.pool.blocks kept.kinds

  sizes : All (λ c. block_bytes c.block ≡ size) q.pool.blocks
  sizes = all-alike (λ c. block_bytes c.block ≡ size) (λ c. block_bytes c.block ≡ size) (λ c e alike of. alike-bytes c.block e.block alike.1 ∙ of) k.pool.blocks q.pool.blocks back.blocks sizes_kept

  its_pool : IsPool q.pool
  its_pool = alike-pool k.pool q.pool back kept.pool

  among : (a : Resident) (r : ℕ) → Contains q.residents a → a.id ≡ r → Contains (resident_of p r (option_and_then (allocation_at b.pools) (allocation_of b r))) a
  among a r c same = subst (λ (l : List Resident). Contains l a) (its.residents r) (filter_has (λ (x : Resident). x.id == r) q.residents a c (eq-eqb a.id r same))

  found : (a : Resident) → Contains q.residents a → IsResident b p a
  found a c = resident_is b p a (among a a.id c refl)

  big : (a : Resident) → Contains q.residents a → 16 ≤ a.request.size
  big a c =
      let r = found a c in
      let asks = h.pools.requests r.number r.allocation r.live in
      let some = asks.some in
      let units = asks.units in
      let size = ap (λ (x : Resident). x.request.size) r.is in
      omega (arith, some, units, size)

  lies : (a : Resident) → Contains q.residents a → IsPlaceIn size (numbered_blocks q.pool.blocks) a.from
  lies a c =
      let r = found a c in
      let held : IsHeld b.pools r.number false p r.place r.allocation.asked = record { allocation = r.allocation; live = r.live; there = ap shared_place r.lies; asks = refl } in
      let t = h.pools.taken r.number false p r.place r.allocation.asked held in
      let range : HasRange k.pool r.place.block (range_at r.place.start r.allocation.asked) = subst (λ (x : Kept). HasRange x.pool r.place.block (range_at r.place.start r.allocation.asked)) (some-is t.0 k (sym t.1 ∙ there)) t.2 in
      let itself : Resident = record { id = a.id; from = start_of r.place; request = request_in r.allocation.asked } in
      let at : IsAt (numbered_blocks k.pool.blocks) itself = record { block = numbered range.block; there = map_has numbered k.pool.blocks range.block range.there; number = range.number; range = range.range } in
      let inside = places_lie_inside size k.pool itself kept.pool sizes_kept (subst (λ (x : Resident). 16 ≤ x.request.size) r.is (big a c)) at in
      let other = any-alike (λ e. e.number ≡ r.place.block) (λ e. e.number ≡ r.place.block) (λ e f alike is. alike.0 ∙ is) k.pool.blocks q.pool.blocks back.blocks (range.there.0, range.block, range.there.1, range.there.2, range.number) in
      subst (λ (x : Resident). IsPlaceIn size (numbered_blocks q.pool.blocks) x.from) (sym r.is) (record {
        block = numbered other.1;
        there = map_has numbered q.pool.blocks other.1 (other.0, other.2, other.3);
        number = other.4;
        inside = inside.inside;
      })

  ranked : IsRanked size q
  ranked = record {
    sizes = sizes;
    before_next = its_pool.before_next;
    ids = λ a e c f same. one_at_most p e.id (option_and_then (allocation_at b.pools) (allocation_of b e.id)) a e (among a e.id c same) (among e e.id f refl);
    some = All-weaker (Contains q.residents) (λ a. 16 ≤ a.request.size) big q.residents (All-contains_itself q.residents);
  }

  all_placed : q.moves ≡ [] → AllArePlaced size q
  all_placed none = record {
    residents = All-weaker (Contains q.residents) (λ a. IsPlaceIn size (numbered_blocks q.pool.blocks) a.from) lies q.residents (All-contains_itself q.residents);
    targets = subst (λ (ms : List Moved). All (λ m. IsPlaceIn size (numbered_blocks q.pool.blocks) m.to) ms) (sym none) (λ j m lt. absurd (omega (arith, lt)));
  }

-- the pool of an id is that of its number
pub record IsRankedPool (size : ℕ) (q : PoolMemory) : Type 0 where
  pub ranks : IsRanked size q
  pub placed : q.moves ≡ [] → AllArePlaced size q

pub ranked_by : (b : Backed) (m : MemoryState) → IsBacked b m → (d : Allocated) → Fulfils (allotted b m) d → (i : ℕ) (q : PoolMemory) → pool_by_id i d ≡ Some q → IsRankedPool q.pool.info.block_size q
ranked_by b m h d is i q here = go (pool_of b i) refl
  where
    go : (o : Option ℕ) → pool_of b i ≡ o → IsRankedPool q.pool.info.block_size q
    go None none =
        let f = found_in (λ (o : PoolMemory). o.id == i) d.pools q here in
        let empty : filter (λ (o : PoolMemory). o.id == i) d.pools ≡ [] = subst (λ (o : Option ℕ). ArePoolsOf b i o (filter (λ (o : PoolMemory). o.id == i) d.pools)) none (is.pools i) in
        absurd (none_in q (subst (λ (l : List PoolMemory). Contains l q) empty (filter_has (λ (o : PoolMemory). o.id == i) d.pools q f.0 f.1)))
    go (Some p) named =
        let one = some-is (pool_by b m d is i p named).0 q (sym (pool_found b m d is i p named) ∙ here) in
        subst (λ (o : PoolMemory). IsRankedPool o.pool.info.block_size o) one (record { ranks = ranked b m h d is i p named; placed = all_placed b m h d is i p named })
