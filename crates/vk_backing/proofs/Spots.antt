-- Where resources lie in pools.
use Rattle.std.proofs.Common.{◌≡◌, ℕ, ◌+◌, ◌<◌, ◌≤◌, length, get_or, false, Some, refl, sym, ap, subst, ◌∙◌, arith, inl, inr, ◌⊎◌}
use Rattle.std.proofs.lemmas.Bool.{or_parts}
use Rattle.std.proofs.lemmas.List.{get_or_default}
use Rattle.vk_memory.specs.MemoryState.{MemoryState, IsLive, region_of}
use Rattle.vk_model.specs.declared.resource.Spot.{Spot}
use Rattle.vk_model.specs.Memory.Suballocation.{ranges_meet}
use Rattle.vk_model.specs.Memory.Pools.{PoolBlock}
use Rattle.vma_pools.specs.declared.pool.PoolPlace.{PoolPlace}
use Rattle.vma_pools.specs.declared.allocations.Allocation.{Allocation}
use Rattle.vma_pools.specs.declared.allocations.Home.TheVariants as home
use Rattle.vma_pools.specs.Pools.{Kept, IsMemoryOf}
use Rattle.vma_pools.specs.Ranges.{HasRange}
use Rattle.vma_pools.specs.State.{pool_at, allocation_at, range_at, shared_place, IsHeld, BlockOf, Has, IsObject}
use Rattle.vma_pools.proofs.CallLemmas.{its-pool, places-apart, sized-live}
use Rattle.vma_pools.proofs.MovingLemmas.{range-inside}
use Rattle.vma_pools.proofs.StateLemmas.{some-is}
use Rattle.vma_defrag.proofs.Spots.{block_index, block_pool}
use Rattle.vma_defrag.proofs.KeptBlocks.{no_block, one_memory}
use Rattle.vk_backing.specs.Backed.{Backed, allocation_of, LiesIn, IsBacked}
use Rattle.vk_backing.specs.Spots.{AreSpots}
use Rattle.vk_model.proofs.Memory.Ranges.{beside}

-- ---- spots

same_spot : (s t : Spot) → s.memory ≡ t.memory → s.offset ≡ t.offset → s.size ≡ t.size → s ≡ t
same_spot s t a b c =
    ap (λ (n : ℕ). record { memory = n; offset = s.offset; size = s.size }) a ∙ ap (λ (n : ℕ). record { memory = t.memory; offset = n; size = s.size }) b ∙ ap (λ (n : ℕ). record { memory = t.memory; offset = t.offset; size = n }) c

pub home_pool : (p q : ℕ) (x y : PoolPlace) → home.Shared p x ≡ home.Shared q y → p ≡ q
home_pool p q x y e = cc

pub home_place : (p q : ℕ) (x y : PoolPlace) → home.Shared p x ≡ home.Shared q y → x ≡ y
home_place p q x y e = cc

module _ (b : Backed) (m : MemoryState) (h : IsBacked b m) where
  -- ---- one resource

  module _ (id p : ℕ) (s : Spot) (l : LiesIn b id p s) where
    held : IsHeld b.pools l.number false p l.place l.allocation.asked
    held = record { allocation = l.allocation; live = l.live; there = ap shared_place l.lies; asks = refl }

    in_block : HasRange l.kept.pool l.place.block (range_at l.place.start l.allocation.asked)
    in_block = let t = h.pools.taken l.number false p l.place l.allocation.asked held in subst (λ (k : Kept). HasRange k.pool l.place.block (range_at l.place.start l.allocation.asked)) (some-is t.0 l.kept (sym t.1 ∙ l.there)) t.2

    some_asked : 0 < l.allocation.asked.size
    some_asked = (h.pools.requests l.number l.allocation l.live).some

    has_object : Has b.pools (BlockOf p l.memory.index) s.memory
    has_object = (l.kept, l.there, omega (arith, l.memory.there, h.matched p l.kept l.there), l.memory.is)

    pub spot_object : IsObject m s.memory l.kept.pool.info.memory_type l.kept.pool.info.block_size
    spot_object = subst (λ (n : ℕ). IsObject m n l.kept.pool.info.memory_type l.kept.pool.info.block_size) l.memory.is (h.backs.blocks p l.kept l.memory.index l.there (omega (arith, l.memory.there, h.matched p l.kept l.there)))

    lives : IsLive m s.memory
    lives = sized-live m s.memory l.kept.pool.info.block_size spot_object.bytes (h.pools.pools p l.kept l.there).info.some

    fits_room : s.offset + s.size ≤ length (region_of m s.memory)
    fits_room =
        let r = range-inside l.kept (h.pools.pools p l.kept l.there) l.place.block (range_at l.place.start l.allocation.asked) in_block in
        omega (arith, r, spot_object.bytes, l.offset, l.size)

  -- ---- where it is

  found : (id a : ℕ) → allocation_of b id ≡ Some a → (p : ℕ) × (s : Spot) × LiesIn b id p s
  found id a has =
      let x = h.shared id a has in
      let k = its-pool b.pools h.pools a x.allocation x.live x.pool x.place x.lies in
      let at = k.2.there in (
        x.pool,
        record { memory = get_or k.0.memories at.0 0; offset = x.place.start; size = x.allocation.asked.size },
        record {
          number = a;
          has = has;
          allocation = x.allocation;
          live = x.live;
          place = x.place;
          lies = x.lies;
          kept = k.0;
          there = k.1;
          memory = record { index = at.0; there = at.1; numbered = λ d. ap (λ (c : PoolBlock). c.number) (get_or_default k.0.pool.blocks at.0 d k.2.block at.1 ∙ at.2) ∙ k.2.number; is = refl };
          offset = refl;
          size = refl;
        },
      )

  -- ---- two descriptions of one

  only_one : (id p q : ℕ) (s t : Spot) → LiesIn b id p s → LiesIn b id q t → (p ≡ q) × (s ≡ t)
  only_one id o q s t x y =
      let n = some-is x.number y.number (sym x.has ∙ y.has) in
      let a = some-is x.allocation y.allocation (sym x.live ∙ ap (λ (i : ℕ). allocation_at b.pools i) n ∙ y.live) in
      let l = sym x.lies ∙ ap (λ (c : Allocation). c.home) a ∙ y.lies in
      let p = home_pool o q x.place y.place l in let at = home_place o q x.place y.place l in
      let k = some-is x.kept y.kept (sym x.there ∙ ap (λ (i : ℕ). pool_at b.pools i) p ∙ y.there) in
      let other : IsMemoryOf x.kept x.place.block t.memory = subst (λ (c : Kept). IsMemoryOf c x.place.block t.memory) (sym k) (subst (λ (c : PoolPlace). IsMemoryOf y.kept c.block t.memory) (sym at) y.memory) in
      (p, same_spot s t (one_memory x.kept (h.pools.pools o x.kept x.there).pool.rising x.place.block s.memory t.memory x.memory other) (x.offset ∙ ap (λ (c : PoolPlace). c.start) at ∙ sym y.offset) (x.size ∙ ap (λ (c : Allocation). c.asked.size) a ∙ sym y.size))

  -- ---- two of them

  apart : (i j o q : ℕ) (s t : Spot) → LiesIn b i o s → LiesIn b j q t → (i ≡ j → ⊥) → s.memory ≡ t.memory → (s.offset + s.size ≤ t.offset) ⊎ (t.offset + t.size ≤ s.offset)
  apart i j o q s t x y differ same =
      let owner = h.backs.apart (BlockOf o x.memory.index) (BlockOf q y.memory.index) s.memory (has_object i o s x) (subst (λ (n : ℕ). Has b.pools (BlockOf q y.memory.index) n) (sym same) (has_object j q t y)) in
      let p = block_pool o x.memory.index q y.memory.index owner in let k = block_index o x.memory.index q y.memory.index owner in
      let kept = some-is x.kept y.kept (sym x.there ∙ ap (λ (i : ℕ). pool_at b.pools i) p ∙ y.there) in
      let block : x.place.block ≡ y.place.block =
      sym (x.memory.numbered no_block) ∙ ap (λ (c : Kept). (get_or c.pool.blocks x.memory.index no_block).number) kept ∙ ap (λ (i : ℕ). (get_or y.kept.pool.blocks i no_block).number) k ∙ y.memory.numbered no_block in
      let there = subst (λ (n : ℕ). IsHeld b.pools y.number false n y.place y.allocation.asked) (sym p) (held j q t y) in
      let clear = places-apart b.pools h.pools x.number y.number false false o x.place y.place x.allocation.asked y.allocation.asked (held i o s x) there block
      (λ e. differ (h.one i j x.number x.has (y.has ∙ ap (λ (n : ℕ). Some n) (sym e.0)))) in
      let sides = beside x.place.start x.allocation.asked.size y.place.start y.allocation.asked.size (some_asked i o s x) (some_asked j q t y) (or_parts (ranges_meet x.place.start x.allocation.asked.size y.place.start y.allocation.asked.size) _ clear).0 in
      elim sides [ inl low ↦ inl (omega (arith, low, x.offset, x.size, y.offset)) | inr high ↦ inr (omega (arith, high, y.offset, y.size, x.offset)) ]

  pub are_spots : AreSpots b m
  are_spots = record {
    there = found;
    one = only_one;
    live = lives;
    some = λ i p s l. let r = some_asked i p s l in omega (arith, r, l.size);
    room = fits_room;
    unowned = λ i p j s l has. h.apart j s.memory (BlockOf p l.memory.index) has (has_object i p s l);
    apart = apart;
  }
