-- Where places that are taken in pools lie: in live memory objects, and apart.
use Rattle.std.proofs.Common.{◌≡◌, ℕ, ◌+◌, ◌^◌, ◌<◌, ◌≤◌, length, get_or, Bool, true, false, Option, Some, None, refl, sym, ap, subst, ◌∙◌, arith, inl, inr, ◌⊎◌}
use Rattle.std.specs.Prelude.{IsSomeAnd}
use Rattle.std.proofs.lemmas.Bool.{or_parts}
use Rattle.vk_memory.specs.MemoryState.{MemoryState, IsLive, region_of}
use Rattle.vk_model.specs.declared.resource.Spot.{Spot}
use Rattle.vk_model.specs.Memory.Suballocation.{ranges_meet}
use Rattle.vk_model.specs.Memory.MoveTargets.{Moved}
use Rattle.vma_pools.specs.declared.pool.PoolPlace.{PoolPlace}
use Rattle.vma_pools.specs.declared.allocations.Asked.{Asked}
use Rattle.vma_pools.specs.declared.allocations.Allocation.{Allocation}
use Rattle.vma_pools.specs.declared.allocations.Home.{Home}
use Rattle.vma_pools.specs.declared.allocations.Home.TheVariants as home
use Rattle.vma_pools.specs.Pools.{Kept, IsMemoryOf}
use Rattle.vma_pools.specs.Ranges.{HasRange}
use Rattle.vma_pools.specs.State.{PoolsState, pool_at, allocation_at, range_at, shared_place, reserved_place, held_place, IsHeld, ArePools, Backs, BlockOf, Has, IsObject, IfLive, IsSpotOf, IsTargetSpot}
use Rattle.vma_pools.proofs.CallLemmas.{places-apart, sized-live}
use Rattle.vma_pools.proofs.MovingLemmas.{range-inside}
use Rattle.vma_pools.proofs.StateLemmas.{some-is}
use Rattle.vk_model.proofs.Memory.Ranges.{beside}
use Rattle.vma_defrag.specs.Plans.{AreMatched, IsMove}
use Rattle.vma_defrag.specs.Bytes.{MovesBetween}
use Rattle.vma_defrag.specs.Inner.Held.{Holds}
use Rattle.vma_defrag.proofs.KeptBlocks.{one_memory, no_block}

pub block_pool : (p j q l : ℕ) → BlockOf p j ≡ BlockOf q l → p ≡ q
block_pool p j q l e = cc

pub block_index : (p j q l : ℕ) → BlockOf p j ≡ BlockOf q l → j ≡ l
block_index p j q l e = cc

-- both spots of an allocation that moves
pub both_spots : (s : PoolsState) (i : ℕ) (from to : Spot) → IfLive s i (λ a. IsSpotOf s a.home a.asked from) → IfLive s i (λ a. IsTargetSpot s a.home a.target a.asked to) → MovesBetween s i from to
both_spots s i from to x y = go (allocation_at s i) x y
  where
    go : (o : Option Allocation) → IsSomeAnd o (λ a. IsSpotOf s a.home a.asked from) → IsSomeAnd o (λ a. IsTargetSpot s a.home a.target a.asked to) → IsSomeAnd o (λ a. IsSpotOf s a.home a.asked from × IsTargetSpot s a.home a.target a.asked to)
    go None x y = absurd x
    go (Some a) x y = (x, y)

module _ (s : PoolsState) (h : ArePools s) where
  pub shared_holds : (i : ℕ) (r : Bool) (p : ℕ) (place : PoolPlace) (asked : Asked) → IsHeld s i r p place asked → (spot : Spot) → IsSpotOf s (home.Shared p place) asked spot → Holds s i r spot
  shared_holds i r p place asked held spot is =
      let t = h.taken i r p place asked held in
      let k = subst (λ (o : Option Kept). IsSomeAnd o (λ k. IsMemoryOf k place.block spot.memory × (spot.offset ≡ place.start) × (spot.size ≡ asked.size))) t.1 is in
      record { pool = p; place = place; asked = asked; held = held; kept = t.0; there = t.1; memory = k.0; offset = k.1; size = k.2 }

  -- a place lies at one spot
  pub holds_same : (i : ℕ) (r : Bool) (x y : Spot) → Holds s i r x → Holds s i r y → (x.memory ≡ y.memory) × (x.offset ≡ y.offset)
  holds_same i r x y a b =
      let c = some-is a.held.allocation b.held.allocation (sym a.held.live ∙ b.held.live) in
      let e = some-is (a.pool, a.place) (b.pool, b.place) (sym a.held.there ∙ ap (λ (c : Allocation). held_place r c) c ∙ b.held.there) in
      let p = ap (λ (x : ℕ × PoolPlace). x.0) e in let at = ap (λ (x : ℕ × PoolPlace). x.1) e in
      let k = some-is a.kept b.kept (sym a.there ∙ ap (λ (i : ℕ). pool_at s i) p ∙ b.there) in
      let other : IsMemoryOf a.kept a.place.block y.memory = subst (λ (c : Kept). IsMemoryOf c a.place.block y.memory) (sym k) (subst (λ (c : PoolPlace). IsMemoryOf b.kept c.block y.memory) (sym at) b.memory) in
      (one_memory a.kept (h.pools a.pool a.kept a.there).pool.rising a.place.block x.memory y.memory a.memory other, a.offset ∙ ap (λ (c : PoolPlace). c.start) at ∙ sym b.offset)

  -- what moves holds both of its places
  module _ (pool : ℕ) (m : Moved) (its : IsMove s pool m) (from to : Spot) (between : MovesBetween s m.id from to) where
    abbrev a : Allocation
    a = its.allocation

    spots : IsSpotOf s a.home a.asked from × IsTargetSpot s a.home a.target a.asked to
    spots = subst (λ (o : Option Allocation). IsSomeAnd o (λ a. IsSpotOf s a.home a.asked from × IsTargetSpot s a.home a.target a.asked to)) its.live between

    pub from_holds : Holds s m.id false from
    from_holds =
        shared_holds m.id false pool its.from a.asked (record { allocation = a; live = its.live; there = ap shared_place its.lies; asks = refl }) from
        (subst (λ (l : Home). IsSpotOf s l a.asked from) its.lies spots.0)

    pub to_holds : Holds s m.id true to
    to_holds =
        shared_holds m.id true pool its.target a.asked
        (record { allocation = a; live = its.live; there = ap (λ (l : Home). reserved_place l a.target) its.lies ∙ ap (λ (t : Option PoolPlace). reserved_place (home.Shared pool its.from) t) its.reserved; asks = refl }) to
        (subst (λ (t : Option PoolPlace). IsTargetSpot s (home.Shared pool its.from) t a.asked to) its.reserved (subst (λ (l : Home). IsTargetSpot s l a.target a.asked to) its.lies spots.1))

    pub from_size : from.size ≡ m.bytes
    unfolding from_holds shared_holds
    from_size = from_holds.size ∙ its.bytes

    pub to_size : to.size ≡ m.bytes
    unfolding to_holds shared_holds
    to_size = to_holds.size ∙ its.bytes

  module _ (m : MemoryState) (backs : Backs s m) (matched : AreMatched s) where
    module _ (i : ℕ) (r : Bool) (x : Spot) (l : Holds s i r x) where
      in_block : HasRange l.kept.pool l.place.block (range_at l.place.start l.asked)
      in_block =
          let t = h.taken i r l.pool l.place l.asked l.held in
          subst (λ (k : Kept). HasRange k.pool l.place.block (range_at l.place.start l.asked)) (some-is t.0 l.kept (sym t.1 ∙ l.there)) t.2

      index_there : l.memory.index < length l.kept.memories
      index_there = omega (arith, l.memory.there, matched l.pool l.kept l.there)

      some_asked : 0 < l.asked.size
      some_asked = subst (λ (a : Asked). 0 < a.size) l.held.asks (h.requests i l.held.allocation l.held.live).some

      pub holds_some : 0 < x.size
      holds_some = omega (arith, some_asked, l.size)

      pub has_object : Has s (BlockOf l.pool l.memory.index) x.memory
      has_object = (l.kept, l.there, index_there, l.memory.is)

      its_object : IsObject m x.memory l.kept.pool.info.memory_type l.kept.pool.info.block_size
      its_object = subst (λ (n : ℕ). IsObject m n l.kept.pool.info.memory_type l.kept.pool.info.block_size) l.memory.is (backs.blocks l.pool l.kept l.memory.index l.there index_there)

      pub holds_live : IsLive m x.memory
      holds_live = sized-live m x.memory l.kept.pool.info.block_size its_object.bytes (h.pools l.pool l.kept l.there).info.some

      pub holds_small : x.offset + x.size < 2 ^ 40
      holds_small =
          let r = range-inside l.kept (h.pools l.pool l.kept l.there) l.place.block (range_at l.place.start l.asked) in_block in
          omega (arith, r, l.offset, l.size, (h.pools l.pool l.kept l.there).info.small)

      pub holds_room : x.offset + x.size ≤ length (region_of m x.memory)
      holds_room =
          let r = range-inside l.kept (h.pools l.pool l.kept l.there) l.place.block (range_at l.place.start l.asked) in_block in
          omega (arith, r, its_object.bytes, l.offset, l.size)

    -- two of them
    pub holds_apart : (i j : ℕ) (r v : Bool) (x y : Spot) → Holds s i r x → Holds s j v y → ((i ≡ j) × (r ≡ v) → ⊥) → x.memory ≡ y.memory → (x.offset + x.size ≤ y.offset) ⊎ (y.offset + y.size ≤ x.offset)
    holds_apart i j r v x y a b differ same =
        let owner = backs.apart (BlockOf a.pool a.memory.index) (BlockOf b.pool b.memory.index) x.memory (has_object i r x a) (subst (λ (n : ℕ). Has s (BlockOf b.pool b.memory.index) n) (sym same) (has_object j v y b)) in
        let p = block_pool a.pool a.memory.index b.pool b.memory.index owner in let k = block_index a.pool a.memory.index b.pool b.memory.index owner in
        let kept = some-is a.kept b.kept (sym a.there ∙ ap (λ (i : ℕ). pool_at s i) p ∙ b.there) in
        let block : a.place.block ≡ b.place.block =
        sym (a.memory.numbered no_block) ∙ ap (λ (c : Kept). (get_or c.pool.blocks a.memory.index no_block).number) kept ∙ ap (λ (i : ℕ). (get_or b.kept.pool.blocks i no_block).number) k ∙ b.memory.numbered no_block in
        let there = subst (λ (n : ℕ). IsHeld s j v n b.place b.asked) (sym p) b.held in
        let clear = places-apart s h i j r v a.pool a.place b.place a.asked b.asked a.held there block differ in
        let sides = beside a.place.start a.asked.size b.place.start b.asked.size (some_asked i r x a) (some_asked j v y b) (or_parts (ranges_meet a.place.start a.asked.size b.place.start b.asked.size) _ clear).0 in
        elim sides [ inl low ↦ inl (omega (arith, low, a.offset, a.size, b.offset)) | inr high ↦ inr (omega (arith, high, b.offset, b.size, a.offset)) ]
