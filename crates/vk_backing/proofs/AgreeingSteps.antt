-- What has been copied stays so where what backs ids changes, call by call.
use Rattle.std.proofs.Common.{◌≡◌, ℕ, List, [], ◌∷◌, set, length, get_or, Bool, Option, Some, None, refl, sym, ap, subst, ◌∙◌, arith, inl, inr}
use Rattle.std.specs.Prelude.{Contains}
use Rattle.std.proofs.lemmas.Bool.{cases_eq}
use Rattle.std.proofs.lemmas.List.{get_or_default}
use Rattle.vk_memory.specs.MemoryState.{MemoryState, IsLive, object_at}
use Rattle.vk_model.specs.declared.resource.PoolInfo.{PoolInfo}
use Rattle.vk_model.specs.declared.resource.Spot.{Spot}
use Rattle.vk_model.specs.Memory.MoveTargets.{Moved}
use Rattle.vk_model.specs.Memory.Pools.{PoolBlock, empty_pool}
use Rattle.vma_pools.specs.declared.pool.PoolPlace.{PoolPlace}
use Rattle.vma_pools.specs.declared.allocations.Asked.{Asked}
use Rattle.vma_pools.specs.declared.allocations.Allocation.{Allocation}
use Rattle.vma_pools.specs.Pools.{Kept, IsMemoryOf}
use Rattle.vma_pools.specs.Ranges.{HasRange}
use Rattle.vma_pools.specs.State as pools
use Rattle.vma_pools.specs.State.{PoolsState, pool_at, allocation_at, range_at, request_in, start_of, released, IfLive, IsEnded, IsGivenBack}
use Rattle.vma_pools.proofs.CallLemmas.{range-block, sized-live}
use Rattle.vma_pools.proofs.NumberLemmas.{at-below, at-more, at-other, at-set}
use Rattle.vma_pools.proofs.StateLemmas.{some-is}
use Rattle.vma_defrag.proofs.KeptBlocks.{memory_left, one_memory}
use Rattle.vma_defrag.proofs.KeptBytes.{freed_stays}
use Rattle.vk_backing.specs.declared.backing.Own.{Own}
use Rattle.vk_backing.specs.Backed.{Backed, own_in, allocation_of, mapping_of, IsBacked}
use Rattle.vk_backing.specs.Passing.{Passing, ArePassing, CopiesAgree, open_moves}
use Rattle.vk_backing.specs.Steps.{Counts, Grows, DropsPool, EndsIn, EndsOwn, MakesPool, Maps, OwnsAlone, OwnsDedicated, OwnsOr, Releases, Shares, SharesOr, asked_on}
use Rattle.vk_backing.proofs.Agreeing.{HeldBlocksStay, agree_still}
use Rattle.vk_backing.proofs.Gone.{IsBlockOf}
use Rattle.vk_backing.proofs.Grown.{some_there}
use Rattle.vk_backing.proofs.Keeping.{memory_given}
use Rattle.vk_backing.proofs.PassingSteps.{counted_pools, mapped_stays, more_stays, own_ended, shared_ended}
use Rattle.vk_backing.proofs.Turned.{Stays, stays}

-- ---- memory objects of blocks

block_live : (b : Backed) (m : MemoryState) → IsBacked b m → (x : ℕ) → IsBlockOf b.pools x → IsLive m x
block_live b m h x of =
    let o = h.backs.blocks of.pool of.kept of.memory.index of.there (omega (arith, of.memory.there, h.matched of.pool of.kept of.there)) in
    subst (λ (j : ℕ). IsLive m j) of.memory.is (sized-live m (get_or of.kept.memories of.memory.index 0) of.kept.pool.info.block_size o.bytes (h.pools.pools of.pool of.kept of.there).info.some)

-- there are more memory objects
grown_objects : (b : Backed) (m n : MemoryState) → IsBacked b m → Grows m n → (x : ℕ) → IsBlockOf b.pools x → object_at n x ≡ object_at m x
grown_objects b m n h grows x of = let o = some_there (object_at m x) (block_live b m h x of) in grows x o.0 o.1 ∙ sym o.1

-- one has gone
released_objects : (c : Backed) (m n : MemoryState) (gone : Option ℕ) → IsBacked c n → n ≡ released m gone → (x : ℕ) → IsBlockOf c.pools x → object_at n x ≡ object_at m x
released_objects c m n gone h is x of = ap (λ (y : MemoryState). object_at y x) is ∙ go gone (subst (λ (y : MemoryState). IsLive y x) is (block_live c n h x of))
  where
    go : (o : Option ℕ) → IsLive (released m o) x → object_at (released m o) x ≡ object_at m x
    go None live = refl
    go (Some g) live = freed_stays (g ∷ []) m x live

-- ---- blocks

same_blocks : (s t : PoolsState) → t.pools ≡ s.pools → HeldBlocksStay s t
same_blocks s t e p l i r place asked x held at of = (l, ap (λ (ps : List (Option Kept)). pool_at (record s { pools = ps }) p) (sym e) ∙ at, of)

module _ (p : Passing) (old new : Backed) (hp : ArePassing p old) (m n : MemoryState) (h : IsBacked old m) (agree : CopiesAgree p old m) where
  pub owns_agree : (o : Option ℕ) (id t size : ℕ) → Grows m n → OwnsOr o old new m n id t size → OwnsAlone o old new id → CopiesAgree p new n
  owns_agree (Some k) id t size grows owns alone =
      agree_still p old new hp m n (λ mv there. stays (allocation_at old.pools mv.id) (allocation_at new.pools mv.id) (λ x is. ap (λ (s : PoolsState). allocation_at s mv.id) alone.1 ∙ is)) (same_blocks old.pools new.pools (ap (λ (s : PoolsState). s.pools) alone.1))
      (λ x was is. grown_objects old m n h grows x was) agree
  owns_agree None id t size grows owns alone = subst (λ (b : Backed). CopiesAgree p b n) (sym owns.0) (subst (λ (y : MemoryState). CopiesAgree p old y) (sym owns.1) agree)

  pub dedicates_agree : (o : Option ℕ) (id t size : ℕ) (asked : Asked) → Grows m n → OwnsOr o old new m n id t size → OwnsDedicated o old new m n id t asked → CopiesAgree p new n
  dedicates_agree (Some k) id t size asked grows owns made =
      let state = made.2.state in
      agree_still p old new hp m n (λ mv there. more_stays old.pools new.pools _ (ap (λ (s : PoolsState). s.allocations) state) mv.id) (same_blocks old.pools new.pools (ap (λ (s : PoolsState). s.pools) state))
      (λ x was is. grown_objects old m n h grows x was) agree
  dedicates_agree None id t size asked grows owns made = subst (λ (b : Backed). CopiesAgree p b n) (sym owns.0) (subst (λ (y : MemoryState). CopiesAgree p old y) (sym owns.1) agree)

  -- a block in which a place is taken is the memory object that it was when the pool has given a place
  given_blocks : (id pool : ℕ) (asked : Asked) (upper : Bool) (spot : Spot) → IsBacked new n → Shares old new m n id pool asked upper spot → HeldBlocksStay old.pools new.pools
  given_blocks id pool asked upper spot after sh q l i r place a x held at of = elim (cases_eq q sh.number) [
    | inl e ↦ (is.was, ap (λ (j : ℕ). pool_at old.pools j) e ∙ is.there, here e)
    | inr other ↦ (l, sym (at-other old.pools.pools sh.number q (Some is.now) other) ∙ sym (ap (λ (s : PoolsState). pool_at s q) is.state) ∙ at, of)
  ]
    where
      is : pools.IsShared old.pools new.pools m n sh.number (asked_on sh.kept.pool.info.memory_type asked) upper sh.allocation
      is = sh.shared

      here : q ≡ sh.number → IsMemoryOf is.was place.block x
      here e =
          let now : pool_at new.pools q ≡ Some is.now = ap (λ (j : ℕ). pool_at new.pools j) e ∙ ap (λ (s : PoolsState). pool_at s sh.number) is.state ∙ at-set old.pools.pools sh.number (Some is.now) (at-below old.pools.pools sh.number is.was is.there) in
          let same : l ≡ is.now = some-is l is.now (sym at ∙ now) in
          let t = h.pools.taken i r q place a held in
          let k : t.0 ≡ is.was = some-is t.0 is.was (sym t.1 ∙ ap (λ (j : ℕ). pool_at old.pools j) e ∙ is.there) in
          let any = range-block is.was.pool place.block (range_at place.start a) (subst (λ (y : Kept). HasRange y.pool place.block (range_at place.start a)) k t.2) in
          let old-one : IsMemoryOf is.was place.block (get_or is.was.memories any.0 0) = record { index = any.0; there = any.2; numbered = λ d. ap (λ (c : PoolBlock). c.number) (get_or_default is.was.pool.blocks any.0 d any.1 any.2 ∙ any.3) ∙ any.4; is = refl } in
          let new-one = memory_given old m h sh.number is.was is.now is.there n (request_in (asked_on sh.kept.pool.info.memory_type asked)) upper (start_of is.place) is.takes place.block (get_or is.was.memories any.0 0) old-one in
          let one = one_memory is.now (after.pools.pools q is.now now).pool.rising place.block (get_or is.was.memories any.0 0) x new-one (subst (λ (y : Kept). IsMemoryOf y place.block x) same of) in
          subst (λ (y : ℕ). IsMemoryOf is.was place.block y) one old-one

  pub shares_agree : (o : Option Spot) (id pool : ℕ) (asked : Asked) (upper : Bool) → IsBacked new n → Grows m n → SharesOr o old new m n id pool asked upper → CopiesAgree p new n
  shares_agree None id pool asked upper after grows same = subst (λ (b : Backed). CopiesAgree p b n) (sym same.0) (subst (λ (y : MemoryState). CopiesAgree p old y) (sym same.1) agree)
  shares_agree (Some spot) id pool asked upper after grows sh =
      agree_still p old new hp m n (λ mv there. more_stays old.pools new.pools _ (ap (λ (s : PoolsState). s.allocations) sh.shared.state) mv.id) (given_blocks id pool asked upper spot after sh) (λ x was is. grown_objects old m n h grows x was) agree

-- ---- what changes no memory object

module _ (p : Passing) (old new : Backed) (hp : ArePassing p old) (m : MemoryState) (agree : CopiesAgree p old m) where
  pub makes_agree : (id : ℕ) (info : PoolInfo) → MakesPool old new id info → CopiesAgree p new m
  makes_agree id info made =
      agree_still p old new hp m m (λ mv there. stays (allocation_at old.pools mv.id) (allocation_at new.pools mv.id) (λ x is. ap (λ (s : PoolsState). allocation_at s mv.id) made.pools ∙ is)) blocks (λ x was is. refl) agree
    where
      blocks : HeldBlocksStay old.pools new.pools
      blocks q l i r place a x held at of = elim (at-more old.pools.pools (Some (record { pool = empty_pool info; memories = [] })) q l (sym (ap (λ (s : PoolsState). pool_at s q) made.pools) ∙ at)) [
        | inl was ↦ (l, was, of)
        | inr first ↦ (let e = some-is (record { pool = empty_pool info; memories = [] }) l first.1 in absurd (let lt = subst (λ (k : Kept). length k.pool.blocks ≡ 0) e refl in omega (arith, of.there, lt)))
      ]

  pub drops_agree : (id : ℕ) → DropsPool old new id → CopiesAgree p new m
  drops_agree id gone =
      agree_still p old new hp m m (λ mv there. stays (allocation_at old.pools mv.id) (allocation_at new.pools mv.id) (λ x is. ap (λ (s : PoolsState). allocation_at s mv.id) gone.pools ∙ is)) blocks (λ x was is. refl) agree
    where
      blocks : HeldBlocksStay old.pools new.pools
      blocks q l i r place a x held at of = elim (cases_eq q gone.number) [
        | inl e ↦ absurd (let f = sym (at-set old.pools.pools gone.number None (at-below old.pools.pools gone.number gone.kept gone.there)) ∙ sym (ap (λ (s : PoolsState). pool_at s gone.number) gone.pools) ∙ ap (λ (j : ℕ). pool_at new.pools j) (sym e) ∙ at in cc)
        | inr other ↦ (l, sym (at-other old.pools.pools gone.number q None other) ∙ sym (ap (λ (s : PoolsState). pool_at s q) gone.pools) ∙ at, of)
      ]

  -- how often an allocation is mapped
  pub maps_agree : (id : ℕ) (change : ℕ → ℕ) → Maps old new id change → CopiesAgree p new m
  maps_agree id change maps = go (mapping_of old id) maps.counts
    where
      go : (o : Option ℕ) → Counts o change old new → CopiesAgree p new m
      go None same = subst (λ (b : Backed). CopiesAgree p b m) (sym same) agree
      go (Some a) counts = agree_still p old new hp m m (λ mv there. mapped_stays old new a change counts mv.id) (same_blocks old.pools new.pools (counted_pools old new a change counts)) (λ x was is. refl) agree

-- ---- what doesn't move ends

-- a block that is left is the memory object that it was
back_blocks : (old new : Backed) (m n : MemoryState) → IsBacked old m → IsBacked new n → (a q : ℕ) (place : PoolPlace) (gone : Option ℕ) → IsGivenBack old.pools new.pools a q place gone → HeldBlocksStay old.pools new.pools
back_blocks old new m n h after a q at-place gone g p l i r place asked x held at of = elim (cases_eq p q) [
  | inl e ↦ (
      let now : pool_at new.pools q ≡ Some g.now = ap (λ (s : PoolsState). pool_at s q) g.state ∙ at-set old.pools.pools q (Some g.now) (at-below old.pools.pools q g.was g.there) in
      let same = some-is l g.now (sym at ∙ ap (λ (j : ℕ). pool_at new.pools j) e ∙ now) in
      (g.was, ap (λ (j : ℕ). pool_at old.pools j) e ∙ g.there, memory_left g.was g.now (h.matched q g.was g.there) (after.matched q g.now now) gone at-place.block g.blocks place.block x (subst (λ (y : Kept). IsMemoryOf y place.block x) same of)))
  | inr other ↦ (l, sym (at-other old.pools.pools q p (Some g.now) other) ∙ sym (ap (λ (s : PoolsState). pool_at s p) g.state) ∙ at, of)
]

module _ (p : Passing) (old new : Backed) (hp : ArePassing p old) (m n : MemoryState) (h : IsBacked old m) (after : IsBacked new n) (id : ℕ) (away : Contains p.moving id → ⊥) (gone : Option ℕ) (ends : Releases old new m n id gone) (agree : CopiesAgree p old m) where
  objects : (x : ℕ) → IsBlockOf old.pools x → IsBlockOf new.pools x → object_at n x ≡ object_at m x
  objects x was is = released_objects new m n gone after ends.memory x is

  -- no allocation of a move ends
  unmoved : (a : ℕ) → new.pools.allocations ≡ set old.pools.allocations a None → ((mv : Moved) → Contains (open_moves p) mv → mv.id ≡ a → ⊥) → (mv : Moved) → Contains (open_moves p) mv → Stays (allocation_at old.pools mv.id) (allocation_at new.pools mv.id)
  unmoved a state apart mv there = stays (allocation_at old.pools mv.id) (allocation_at new.pools mv.id) (λ x is. ap (λ (l : List (Option Allocation)). allocation_at (record old.pools { allocations = l }) mv.id) state ∙ at-other old.pools.allocations a mv.id None (apart mv there) ∙ is)

  own_ends : (o : Own) → own_in old.owned id ≡ Some o → (a : Option ℕ) → o.allocation ≡ a → EndsOwn o.object a old.pools new.pools gone → CopiesAgree p new n
  own_ends o is None e ended =
      agree_still p old new hp m n (λ mv there. stays (allocation_at old.pools mv.id) (allocation_at new.pools mv.id) (λ x at. ap (λ (s : PoolsState). allocation_at s mv.id) ended.1 ∙ at)) (same_blocks old.pools new.pools (ap (λ (s : PoolsState). s.pools) ended.1)) objects agree
  own_ends o is (Some a) e ended =
      let x = own_ended p old new hp m h id o is a e gone ended in
      agree_still p old new hp m n (unmoved a (ap (λ (s : PoolsState). s.allocations) x.0) x.1) (same_blocks old.pools new.pools (ap (λ (s : PoolsState). s.pools) x.0)) objects agree

  shared_ends : (a : ℕ) → allocation_of old id ≡ Some a → IfLive old.pools a (λ x. IsEnded old.pools new.pools a x.home gone) → CopiesAgree p new n
  shared_ends a has ended =
      let x = shared_ended p old new hp m h id away a has gone ended in
      agree_still p old new hp m n (unmoved a (ap (λ (s : PoolsState). s.allocations) x.2.state) x.3) (back_blocks old new m n h after a x.0 x.1 gone x.2) objects agree

  pub releases_agree : CopiesAgree p new n
  releases_agree = go (own_in old.owned id) (allocation_of old id) refl refl ends.ends
    where
      go : (o : Option Own) (a : Option ℕ) → own_in old.owned id ≡ o → allocation_of old id ≡ a → EndsIn o a old.pools new.pools gone → CopiesAgree p new n
      go (Some o) a is has ended = own_ends o is o.allocation refl ended
      go None (Some a) is has ended = shared_ends a has ended
      go None None is has ended = agree_still p old new hp m n (λ mv there. stays (allocation_at old.pools mv.id) (allocation_at new.pools mv.id) (λ x at. ap (λ (s : PoolsState). allocation_at s mv.id) ended.1 ∙ at)) (same_blocks old.pools new.pools (ap (λ (s : PoolsState). s.pools) ended.1)) objects agree
