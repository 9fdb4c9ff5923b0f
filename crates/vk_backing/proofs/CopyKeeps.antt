-- What a copied part leaves as it was.
use Rattle.std.proofs.Common.{◌≡◌, ℕ, ◌+◌, ◌*◌, ◌<◌, ◌≤◌, List, false, true, Some, refl, sym, ap, subst, ◌∙◌, arith, inl, inr, ◌⊎◌}
use Rattle.std.proofs.lemmas.Bool.{cases_lt}
use Rattle.std.specs.Prelude.{Contains}
use Rattle.vk_memory.specs.MemoryState.{MemoryState, object_at}
use Rattle.vk_model.specs.declared.resource.Spot.{Spot}
use Rattle.vk_model.specs.Memory.MoveTargets.{Moved}
use Rattle.vma_pools.specs.declared.allocations.Home.{Home}
use Rattle.vma_pools.specs.State.{shared_place, BlockOf, Has, IsSpotOf}
use Rattle.vma_pools.proofs.NumberLemmas.{at-other}
use Rattle.vma_defrag.specs.State.{part_count}
use Rattle.vma_defrag.specs.Plans.{IsMove}
use Rattle.vma_defrag.specs.Bytes.{byte_in, part_size, CopiesPartOf, IsTargetByte, KeepsObjects}
use Rattle.vma_defrag.specs.Inner.Held.{Holds}
use Rattle.vma_defrag.proofs.Copying.{copied_keeps, copied_out, copied_to, part_inside}
use Rattle.vma_defrag.proofs.Spots.{has_object, holds_apart, shared_holds, to_size}
use Rattle.vk_backing.specs.Backed.{Backed, object_of, IsBacked, LiesIn}
use Rattle.vk_backing.proofs.Passing.{lies_spot}

module _ (b : Backed) (m : MemoryState) (h : IsBacked b m) (pool : ℕ) (mv : Moved) (its : IsMove b.pools pool mv) (number : ℕ) (few : number < part_count mv) (new : MemoryState) (c : CopiesPartOf b.pools mv number m new) where
  pub part_objects : KeepsObjects m new
  part_objects = copied_keeps b.pools h.pools m h.backs h.matched pool mv its number few new c

  target : Holds b.pools mv.id true c.to
  target = copied_to b.pools h.pools m h.backs h.matched pool mv its number few new c

  -- the bytes that are of no target of a move
  pub part_rest : (moves : List Moved) → Contains moves mv → (n k : ℕ) → (IsTargetByte b.pools moves (λ x. true) n k → ⊥) → byte_in new n k ≡ byte_in m n k
  part_rest moves there n k free = copied_out b.pools h.pools m h.backs h.matched pool mv its number few new c n k outside
    where
      outside : n ≡ c.to.memory → (k < c.to.offset + 4096 * number) ⊎ (c.to.offset + 4096 * number + part_size mv number ≤ k)
      outside same =
          let inside = part_inside mv.bytes number (part_size mv number) few refl in
          elim (cases_lt k (c.to.offset + 4096 * number)) [
            | inl low ↦ inl low
            | inr ge ↦ elim (cases_lt k (c.to.offset + 4096 * number + part_size mv number)) [
              | inl lt ↦ absurd (free (record { move = mv; there = there; passes = refl; from = c.from; to = c.to; between = c.between; object = sym same; low = omega (arith, ge); high = omega (arith, lt, inside) }))
              | inr high ↦ inr high
            ]
          ]

  -- the bytes of resources
  pub part_bytes : (i p : ℕ) (spot : Spot) (k : ℕ) → LiesIn b i p spot → k < spot.size → byte_in new spot.memory (spot.offset + k) ≡ byte_in m spot.memory (spot.offset + k)
  part_bytes i p spot k l lt = copied_out b.pools h.pools m h.backs h.matched pool mv its number few new c spot.memory (spot.offset + k) outside
    where
      differ : false ≡ true → ⊥
      differ e = absurd cc

      mine : Holds b.pools l.number false spot
      mine = shared_holds b.pools h.pools l.number false p l.place l.allocation.asked (record { allocation = l.allocation; live = l.live; there = ap shared_place l.lies; asks = refl }) spot (subst (λ (x : Home). IsSpotOf b.pools x l.allocation.asked spot) l.lies (lies_spot b i p spot l))

      outside : spot.memory ≡ c.to.memory → (spot.offset + k < c.to.offset + 4096 * number) ⊎ (c.to.offset + 4096 * number + part_size mv number ≤ spot.offset + k)
      outside same =
          let inside = part_inside mv.bytes number (part_size mv number) few refl in
          let size = to_size b.pools h.pools pool mv its c.from c.to c.between in
          elim (holds_apart b.pools h.pools m h.backs h.matched l.number mv.id false true spot c.to mine target (λ x. differ x.1) same) [
            | inl low ↦ inl (omega (arith, low, lt))
            | inr high ↦ inr (omega (arith, high, inside, size))
          ]

  -- memory objects that ids have of their own
  pub part_own : (i x : ℕ) → object_of b i ≡ Some x → object_at new x ≡ object_at m x
  part_own i x has =
      let owner = has_object b.pools h.pools m h.backs h.matched mv.id true c.to target in
      let other : x ≡ c.to.memory → ⊥ = λ (e : x ≡ c.to.memory). h.apart i x (BlockOf target.pool target.memory.index) has (subst (λ (y : ℕ). Has b.pools (BlockOf target.pool target.memory.index) y) (sym e) owner) in
      ap (λ (y : MemoryState). object_at y x) c.memory ∙ at-other m.objects c.to.memory x _ other
