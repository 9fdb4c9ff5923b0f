-- What lies in pools stays where it is.
use Rattle.std.proofs.Common.{◌≡◌, ℕ, ◌+◌, ◌<◌, List, [], ◌∷◌, ◌++◌, set, length, get_or, Bool, true, false, ◌==◌, Option, Some, None, refl, sym, ap, subst, ◌∙◌, arith, inl, inr}
use Rattle.std.specs.Prelude.{if◌then◌else◌}
use Rattle.std.proofs.lemmas.Bool.{cases_eq, ne_eqb, eq-eqb}
use Rattle.std.proofs.lemmas.List.{get_or-map, get_or_append_left}
use Rattle.vk_memory.specs.MemoryState.{MemoryState}
use Rattle.vk_model.specs.declared.resource.Spot.{Spot}
use Rattle.vk_model.specs.Memory.Suballocation.{Request}
use Rattle.vk_model.specs.Memory.Room.{Block}
use Rattle.vk_model.specs.Memory.MoveTargets.{BlockStart}
use Rattle.vk_model.specs.Memory.Pools.{Pool, PoolBlock, block_with, new_block, in_block, with_change, pool_with}
use Rattle.vma_pools.specs.declared.pool.PoolPlace.{PoolPlace}
use Rattle.vma_pools.specs.declared.allocations.Asked.{Asked}
use Rattle.vma_pools.specs.declared.allocations.Allocation.{Allocation}
use Rattle.vma_pools.specs.Pools.{Kept, Takes, IsMemoryOf}
use Rattle.vma_pools.specs.State.{PoolsState, pool_at, allocation_at, request_in, start_of, IsGivenBack, released}
use Rattle.vma_pools.proofs.NumberLemmas.{at-old, at-other}
use Rattle.vma_pools.proofs.PoolAlike.{are-length, are-at}
use Rattle.vma_pools.proofs.StateLemmas.{some-is}
use Rattle.vma_pools.proofs.CountedLemmas.{old-blocks}
use Rattle.vma_defrag.proofs.KeptBlocks.{memory_left}
use Rattle.vk_backing.specs.Backed.{Backed, number_in, allocation_of, LiesIn, IsBacked}
use Rattle.vk_backing.proofs.Spots.{are_spots}
use Rattle.vk_backing.proofs.Sharing.{given_pools, sharing, pool_here, pool_other, old_allocation, blocks_new}
use Rattle.vk_backing.proofs.Releasing.{back_here, back_was, back_allocation, backing, shared_was}

-- ---- the memory objects of blocks

pub changed_number : (change : Block → Block) (n : ℕ) (b : PoolBlock) → (with_change change n b).number ≡ b.number
changed_number change n b = go (b.number == n)
  where
    go : (v : Bool) → (if v then record b { block = change b.block } else b).number ≡ b.number
    go true = refl
    go false = refl

module _ (p : Pool) (r : Request) (upper : Bool) (s : BlockStart) where
  number_old : s.block < p.next → (i : ℕ) (d : PoolBlock) → i < length p.blocks → (get_or (pool_with p r upper s).blocks i d).number ≡ (get_or p.blocks i d).number
  number_old lt i d there =
      ap (λ (v : Bool). (get_or (if v then record p { blocks = p.blocks ++ record { number = p.next; block = block_with (new_block p.info) r upper s.start } ∷ []; next = p.next + 1 } else record p { blocks = in_block (λ k. block_with k r upper s.start) s.block p.blocks }).blocks i d).number)
      (ne_eqb s.block p.next (λ e. omega (arith, lt, e)))
      ∙ ap (λ (b : PoolBlock). b.number) (get_or-map (with_change (λ k. block_with k r upper s.start) s.block) p.blocks i d d there)
      ∙ changed_number (λ k. block_with k r upper s.start) s.block (get_or p.blocks i d)

  number_new : s.block ≡ p.next → (i : ℕ) (d : PoolBlock) → i < length p.blocks → (get_or (pool_with p r upper s).blocks i d).number ≡ (get_or p.blocks i d).number
  number_new is i d there =
      ap (λ (v : Bool). (get_or (if v then record p { blocks = p.blocks ++ record { number = p.next; block = block_with (new_block p.info) r upper s.start } ∷ []; next = p.next + 1 } else record p { blocks = in_block (λ k. block_with k r upper s.start) s.block p.blocks }).blocks i d).number)
      (eq-eqb s.block p.next is)
      ∙ ap (λ (b : PoolBlock). b.number) (get_or_append_left p.blocks (record { number = p.next; block = block_with (new_block p.info) r upper s.start } ∷ []) d i there)

-- a block that a pool has is the same memory object when the pool has given a place
pub memory_given : (b : Backed) (m : MemoryState) → IsBacked b m → (p : ℕ) (was now : Kept) → pool_at b.pools p ≡ Some was → (after : MemoryState) (r : Request) (upper : Bool) (s : BlockStart) → Takes was now m after r upper s → (n x : ℕ) → IsMemoryOf was n x → IsMemoryOf now n x
memory_given b m h p was now there after r upper s (inl t) n x of =
    let a = old-blocks was.pool r upper s t.0.has in let l = are-length (pool_with was.pool r upper s).blocks now.pool.blocks t.0.pool.blocks in
    record {
      index = of.index;
      there = omega (arith, of.there, a, l);
      numbered = λ d. (are-at (pool_with was.pool r upper s).blocks now.pool.blocks t.0.pool.blocks of.index d).0 ∙ number_old was.pool r upper s t.0.has of.index d of.there ∙ of.numbered d;
      is = ap (λ (l : List ℕ). get_or l of.index 0) t.0.memories ∙ of.is;
    }
memory_given b m h p was now there after r upper s (inr t) n x of =
    let a = blocks_new was.pool r upper s t.is_new in let l = are-length (pool_with was.pool r upper s).blocks now.pool.blocks t.pool.blocks in
    let w = h.matched p was there in
    record {
      index = of.index;
      there = omega (arith, of.there, a, l);
      numbered = λ d. (are-at (pool_with was.pool r upper s).blocks now.pool.blocks t.pool.blocks of.index d).0 ∙ number_new was.pool r upper s t.is_new of.index d of.there ∙ of.numbered d;
      is = ap (λ (l : List ℕ). get_or l of.index 0) t.memories ∙ get_or_append_left was.memories (length m.objects ∷ []) 0 of.index (omega (arith, of.there, w)) ∙ of.is;
    }

-- ---- where nothing of pools changes

pub more_keeps : (b : Backed) (new : Option Kept) (numbers : List (ℕ × ℕ)) (i q : ℕ) (s : Spot) → LiesIn b i q s → LiesIn (record b { pools = record b.pools { pools = b.pools.pools ++ new ∷ [] }; numbers = numbers }) i q s
more_keeps b new numbers i q s l = record { number = l.number; has = l.has; allocation = l.allocation; live = l.live; place = l.place; lies = l.lies; kept = l.kept; there = at-old b.pools.pools new q l.kept l.there; memory = l.memory; offset = l.offset; size = l.size }

pub less_keeps : (b : Backed) (p : ℕ) (k : Kept) → pool_at b.pools p ≡ Some k → k.pool.blocks ≡ [] → (numbers : List (ℕ × ℕ)) (i q : ℕ) (s : Spot) → LiesIn b i q s → LiesIn (record b { pools = record b.pools { pools = set b.pools.pools p None }; numbers = numbers }) i q s
less_keeps b p k at empty numbers i q s l =
    let away : q ≡ p → ⊥ = λ (is : q ≡ p). (
    let e = some-is l.kept k (sym l.there ∙ ap (λ (n : ℕ). pool_at b.pools n) is ∙ at) in
    omega (arith, l.memory.there, ap (λ (c : Kept). length c.pool.blocks) e, ap (λ (bs : List PoolBlock). length bs) empty)) in
    record { number = l.number; has = l.has; allocation = l.allocation; live = l.live; place = l.place; lies = l.lies; kept = l.kept; there = at-other b.pools.pools p q None away ∙ l.there; memory = l.memory; offset = l.offset; size = l.size }

-- ---- where a pool gives a place

module _ (b : Backed) (m : MemoryState) (h : IsBacked b m) (p : ℕ) (was now : Kept) (there : pool_at b.pools p ≡ Some was) (place : PoolPlace) (asked : Asked) (upper : Bool) (after : MemoryState) (takes : Takes was now m after (request_in asked) upper (start_of place))
    (id : ℕ) (allocations : List (ℕ × ℕ)) (others : (i : ℕ) → (i ≡ id → ⊥) → number_in allocations i ≡ allocation_of b i) where
  pub share_keeps : (i q : ℕ) (s : Spot) → (i ≡ id → ⊥) → LiesIn b i q s → LiesIn (sharing b m h p was now there place asked upper after takes allocations) i q s
  share_keeps i q s other l = elim (cases_eq q p) [
    | inl is ↦ (let k = some-is l.kept was (sym l.there ∙ ap (λ (n : ℕ). pool_at b.pools n) is ∙ there) in record {
      number = l.number;
      has = others i other ∙ l.has;
      allocation = l.allocation;
      live = old_allocation b m h p was now there place asked upper after takes l.number l.allocation l.live;
      place = l.place;
      lies = l.lies;
      kept = now;
      there = ap (λ (n : ℕ). pool_at (given_pools b m h p was now there place asked upper after takes) n) is ∙ pool_here b m h p was now there place asked upper after takes;
      memory = memory_given b m h p was now there after (request_in asked) upper (start_of place) takes l.place.block s.memory (subst (λ (c : Kept). IsMemoryOf c l.place.block s.memory) k l.memory);
      offset = l.offset;
      size = l.size;
    })
    | inr away ↦ record {
      number = l.number;
      has = others i other ∙ l.has;
      allocation = l.allocation;
      live = old_allocation b m h p was now there place asked upper after takes l.number l.allocation l.live;
      place = l.place;
      lies = l.lies;
      kept = l.kept;
      there = pool_other b m h p was now there place asked upper after takes q away ∙ l.there;
      memory = l.memory;
      offset = l.offset;
      size = l.size;
    }
  ]

-- ---- where a place is given back

module _ (b : Backed) (m : MemoryState) (h : IsBacked b m) (a : ℕ) (x : Allocation) (live : allocation_at b.pools a ≡ Some x) (new : PoolsState) (p : ℕ) (place : PoolPlace) (gone : Option ℕ) (g : IsGivenBack b.pools new a p place gone)
    (id : ℕ) (its : allocation_of b id ≡ Some a) (allocations : List (ℕ × ℕ)) (none : number_in allocations id ≡ None) (others : (i : ℕ) → (i ≡ id → ⊥) → number_in allocations i ≡ allocation_of b i) where
  abbrev left : Backed
  left = backing b m h a x live new p place gone g id its allocations none others

  module _ (after : IsBacked left (released m gone)) where
    -- whatever lies there then did
    left_lay : (i q : ℕ) (s : Spot) → LiesIn left i q s → LiesIn b i q s
    left_lay i q s l =
        let w = shared_was b m h a x live new p place gone g id its allocations none others i l.number l.has in
        elim (back_was b m h a x live new p place gone g q l.kept l.there) [
          | inl here ↦ record {
            number = l.number;
            has = w.0;
            allocation = l.allocation;
            live = sym (back_allocation b m h a x live new p place gone g l.number w.1) ∙ l.live;
            place = l.place;
            lies = l.lies;
            kept = g.was;
            there = ap (λ (n : ℕ). pool_at b.pools n) here.0 ∙ g.there;
            memory = memory_left g.was g.now (h.matched p g.was g.there) (after.matched p g.now (back_here b m h a x live new p place gone g)) gone place.block g.blocks l.place.block s.memory (subst (λ (c : Kept). IsMemoryOf c l.place.block s.memory) (sym here.1) l.memory);
            offset = l.offset;
            size = l.size;
          }
          | inr old ↦ record {
            number = l.number;
            has = w.0;
            allocation = l.allocation;
            live = sym (back_allocation b m h a x live new p place gone g l.number w.1) ∙ l.live;
            place = l.place;
            lies = l.lies;
            kept = l.kept;
            there = old;
            memory = l.memory;
            offset = l.offset;
            size = l.size;
          }
        ]

    pub back_keeps : (i q : ℕ) (s : Spot) → (i ≡ id → ⊥) → LiesIn b i q s → LiesIn left i q s
    back_keeps i q s other l =
        let t = (are_spots left (released m gone) after).there i l.number (others i other ∙ l.has) in
        let o = (are_spots b m h).one i t.0 q t.1 s (left_lay i t.0 t.1 t.2) l in
        subst (λ (s : Spot). LiesIn left i q s) o.1 (subst (λ (n : ℕ). LiesIn left i n t.1) o.0 t.2)
