-- Pools and allocations stay as they always are when a place is reserved for one.
use Rattle.std.proofs.Common.{◌≡◌, ℕ, ◌+◌, ◌<◌, ◌≤◌, [], ◌∷◌, ◌++◌, set, Bool, true, false, Option, Some, None, refl, sym, ap, subst, ◌∙◌, arith, inl, inr, ◌⊎◌}
use Rattle.std.specs.Prelude.{Contains, unwrap_or, if◌then◌else◌}
use Rattle.std.proofs.lemmas.Bool.{cases_eq, ne_eqb}
use Rattle.std.proofs.lemmas.List.{length-set}
use Rattle.std.proofs.lemmas.List.Elements.{All-contains}
use Rattle.vk_model.specs.Memory.Suballocation.{Taken, Request, IsRequest}
use Rattle.vk_model.specs.Memory.Room.{Block, General, Stack}
use Rattle.vk_model.specs.Memory.MoveTargets.{BlockStart}
use Rattle.vk_model.specs.Memory.Pools.{Pool, block_bytes, block_taken, block_with, new_block, in_block, pool_with, IsSoundBlock}
use Rattle.vma_pools.specs.declared.pool.PoolPlace.{PoolPlace}
use Rattle.vma_pools.specs.declared.allocations.Asked.{Asked}
use Rattle.vma_pools.specs.declared.allocations.Allocation.{Allocation}
use Rattle.vma_pools.specs.declared.allocations.Home.{Home}
use Rattle.vma_pools.specs.declared.allocations.Home.TheVariants as home
use Rattle.vma_pools.specs.Inner.Kinds.{IsKeptPool, IsOfPool}
use Rattle.vma_pools.specs.Pools.{Kept, TakesTarget}
use Rattle.vma_pools.specs.Ranges.{HasRange}
use Rattle.vma_pools.specs.State.{PoolsState, pool_at, allocation_at, held_place, reserved_place, start_of, request_in, IsHeld, ArePools, IsMovable}
use Rattle.vma_pools.proofs.NumberLemmas.{at-below, at-set, at-other}
use Rattle.vma_pools.proofs.StateLemmas.{some-is, more-places, taken-fine}
use Rattle.vma_pools.proofs.EndedLemmas.{other-held, from-other}

-- a range of a pool ends in its block
pub range-inside : (k : Kept) → IsKeptPool k.pool → (n : ℕ) (t : Taken) → HasRange k.pool n t → t.start + t.size ≤ k.pool.info.block_size
range-inside k h n t has =
    let sound = All-contains (λ b. IsSoundBlock b.block) k.pool.blocks has.block h.pool.sound has.there in
    let bytes = (All-contains (λ b. IsOfPool k.pool.info b.block) k.pool.blocks has.block h.kinds has.there).bytes in
    let low = inside has.block.block sound has.range in omega (arith, low, bytes)
  where
    inside : (b : Block) → IsSoundBlock b → Contains (block_taken b) t → t.start + t.size ≤ block_bytes b
    inside (General size taken) sound c = All-contains (λ (t : Taken). t.start + t.size ≤ size) taken t sound.1.inside c
    inside (Stack b) sound c = All-contains (λ (t : Taken). t.start + t.size ≤ b.size) (block_taken (Stack b)) t sound.sound.inside c

same-next : (p : Pool) (r : Request) (upper : Bool) (s : BlockStart) → s.block < p.next → (pool_with p r upper s).next ≡ p.next
same-next p r upper s low =
    ap (λ (v : Bool). (if v then record p { blocks = p.blocks ++ record { number = p.next; block = block_with (new_block p.info) r upper s.start } ∷ []; next = p.next + 1 }
    else record p { blocks = in_block (λ k. block_with k r upper s.start) s.block p.blocks }).next) (ne_eqb s.block p.next (λ e. omega (arith, low, e)))

module _ (s : PoolsState) (h : ArePools s) (i : ℕ) (a : Allocation) (live : allocation_at s i ≡ Some a) (p : ℕ) (from : PoolPlace) (lies : a.home ≡ home.Shared p from) (none : a.target ≡ None)
    (was now : Kept) (there : pool_at s p ≡ Some was) (target : PoolPlace) (takes : TakesTarget was now (start_of from) (request_in a.asked) (start_of target)) where
  abbrev held : Allocation
  held = record a { target = Some target }

  abbrev reserved : PoolsState
  reserved = record { pools = set s.pools p (Some now); allocations = set s.allocations i (Some held) }

  reserved-here : allocation_at reserved i ≡ Some held
  reserved-here = at-set s.allocations i (Some held) (at-below s.allocations i a live)

  its-target : held_place true held ≡ Some (p, target)
  its-target = ap (λ (h : Home). reserved_place h (Some target)) lies

  had-none : held_place true a ≡ None
  had-none = ap (λ (h : Home). reserved_place h a.target) lies ∙ ap (λ (t : Option PoolPlace). reserved_place (home.Shared p from) t) none

  keep-held : (j : ℕ) (r : Bool) (q : ℕ) (pl : PoolPlace) (b : Asked) → IsHeld s j r q pl b → IsHeld reserved j r q pl b
  keep-held j r q pl b x = elim (cases_eq j i) [ inl is ↦ here r is x | inr other ↦ (let o = other-held s i (Some held) j r q pl b other x in record { allocation = o.allocation; live = o.live; there = o.there; asks = o.asks }) ]
    where
      here : (r : Bool) → j ≡ i → IsHeld s j r q pl b → IsHeld reserved j r q pl b
      here false is x =
          let e = some-is a x.allocation (sym live ∙ ap (λ (n : ℕ). allocation_at s n) (sym is) ∙ x.live) in
          record { allocation = held; live = ap (λ (n : ℕ). allocation_at reserved n) is ∙ reserved-here; there = ap (λ (c : Allocation). held_place false c) e ∙ x.there; asks = ap (λ (c : Allocation). c.asked) e ∙ x.asks }
      here true is x =
          let e = some-is a x.allocation (sym live ∙ ap (λ (n : ℕ). allocation_at s n) (sym is) ∙ x.live) in
          let f = sym had-none ∙ ap (λ (c : Allocation). held_place true c) e ∙ x.there in absurd (let g = f in cc)

  from-held : (j : ℕ) (r : Bool) (q : ℕ) (pl : PoolPlace) (b : Asked) → IsHeld reserved j r q pl b → IsHeld s j r q pl b ⊎ ((j ≡ i) × (r ≡ true) × (q ≡ p) × (pl ≡ target) × (b ≡ a.asked))
  from-held j r q pl b x = elim (cases_eq j i) [
    | inl is ↦ here r is x
    | inr other ↦ inl (from-other s i (Some held) j r q pl b other (record { allocation = x.allocation; live = x.live; there = x.there; asks = x.asks }))
  ]
    where
      here : (r : Bool) → j ≡ i → IsHeld reserved j r q pl b → IsHeld s j r q pl b ⊎ ((j ≡ i) × (r ≡ true) × (q ≡ p) × (pl ≡ target) × (b ≡ a.asked))
      here false is x =
          let e = some-is held x.allocation (sym reserved-here ∙ ap (λ (n : ℕ). allocation_at reserved n) (sym is) ∙ x.live) in
          inl (record { allocation = a; live = ap (λ (n : ℕ). allocation_at s n) is ∙ live; there = ap (λ (c : Allocation). held_place false c) e ∙ x.there; asks = ap (λ (c : Allocation). c.asked) e ∙ x.asks })
      here true is x =
          let e = some-is held x.allocation (sym reserved-here ∙ ap (λ (n : ℕ). allocation_at reserved n) (sym is) ∙ x.live) in
          let f = sym (sym its-target ∙ ap (λ (c : Allocation). held_place true c) e ∙ x.there) in
          inr (is, refl, ap (λ (o : Option (ℕ × PoolPlace)). (unwrap_or o (q, pl)).0) f, ap (λ (o : Option (ℕ × PoolPlace)). (unwrap_or o (q, pl)).1) f, sym x.asks ∙ ap (λ (c : Allocation). c.asked) (sym e))

  pub place-reserved : ArePools reserved
  place-reserved =
      let asks = h.requests i a live in let low = h.blocks p was there in let long = length-set s.allocations i (Some held) in
      let next = same-next was.pool (request_in a.asked) false (start_of target) takes.has in
      more-places s reserved h p was now there a.asked asks false target takes.given takes.pool (taken-fine was now (request_in a.asked) false (start_of target) asks.some (h.pools p was there) takes.given takes.pool)
      (at-set s.pools p (Some now) (at-below s.pools p was there)) (λ q other. at-other s.pools p q (Some now) other) (omega (arith, long)) (omega (arith, low, long, next, takes.pool.next))
      (λ j b at. elim (cases_eq j i) [
        | inl is ↦ subst (λ (c : Allocation). IsRequest c.asked.size c.asked.align) (some-is held b (sym reserved-here ∙ ap (λ (n : ℕ). allocation_at reserved n) (sym is) ∙ at)) asks
        | inr other ↦ h.requests j b (sym (at-other s.allocations i j (Some held) other) ∙ at)
      ])
      i true (record { allocation = held; live = reserved-here; there = its-target; asks = refl }) keep-held from-held

-- what may move has no place reserved
pub movable-none : (s : PoolsState) (l : Home) (t : Option PoolPlace) → IsMovable s l t → t ≡ None
movable-none s (home.Own n) t m = absurd m
movable-none s (home.Shared p place) None m = refl
movable-none s (home.Shared p place) (Some x) m = absurd m
