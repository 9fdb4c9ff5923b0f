-- What changes when a part of a move is copied.
use Rattle.std.proofs.Common.{◌≡◌, ℕ, ◌+◌, ◌-◌, ◌*◌, ◌/◌, ◌<◌, ◌≤◌, List, length, get_or, true, false, refl, sym, ap, subst, ◌∙◌, arith, inl, inr, ◌⊎◌}
use Rattle.std.specs.Prelude.{min}
use Rattle.std.proofs.lemmas.Bool.{cases_eq}
use Rattle.vk_heap.specs.Region.{piece, splice}
use Rattle.vk_heap.proofs.SpliceLemmas.{length-splice, length-piece, splice-in, splice-out, get_or-piece}
use Rattle.vk_memory.specs.MemoryState.{MemoryState, IsLive, region_of}
use Rattle.vk_memory.proofs.LiveObjects.{region_of-same, region_of-other}
use Rattle.vk_model.specs.Memory.MoveTargets.{Moved}
use Rattle.vma_pools.specs.State.{PoolsState, ArePools, Backs}
use Rattle.vma_defrag.specs.State.{part_count}
use Rattle.vma_defrag.specs.Plans.{AreMatched, IsMove}
use Rattle.vma_defrag.specs.Bytes.{byte_in, part_size, CopiesPartOf, KeepsObjects}
use Rattle.vma_defrag.specs.Inner.Held.{Holds}
use Rattle.vma_defrag.proofs.Objects.{rewritten_keeps}
use Rattle.vma_defrag.proofs.Spots.{from_holds, to_holds, from_size, to_size, holds_live, holds_room}

-- a part ends with its move at the latest
pub part_inside : (bytes number size : ℕ) → number < (bytes + 4095) / 4096 → size ≡ min 4096 (bytes - 4096 * number) → 4096 * number + size ≤ bytes
part_inside bytes number size few is = omega (arith, few, is)

module _ (s : PoolsState) (h : ArePools s) (m : MemoryState) (backs : Backs s m) (matched : AreMatched s) (pool : ℕ) (mv : Moved) (its : IsMove s pool mv) (number : ℕ) (few : number < part_count mv) (new : MemoryState) (c : CopiesPartOf s mv number m new) where
  abbrev size : ℕ
  size = part_size mv number

  abbrev at : ℕ
  at = 4096 * number

  inside : at + size ≤ mv.bytes
  inside = part_inside mv.bytes number size few refl

  pub copied_from : Holds s mv.id false c.from
  copied_from = from_holds s h pool mv its c.from c.to c.between

  pub copied_to : Holds s mv.id true c.to
  copied_to = to_holds s h pool mv its c.from c.to c.between

  source_room : c.from.offset + at + size ≤ length (region_of m c.from.memory)
  source_room = let r = holds_room s h m backs matched mv.id false c.from copied_from in let e = from_size s h pool mv its c.from c.to c.between in omega (arith, r, e, inside)

  target_room : c.to.offset + at + size ≤ length (region_of m c.to.memory)
  target_room = let r = holds_room s h m backs matched mv.id true c.to copied_to in let e = to_size s h pool mv its c.from c.to c.between in omega (arith, r, e, inside)

  abbrev bytes : List ℕ
  bytes = piece (region_of m c.from.memory) (c.from.offset + at) size

  long : length bytes ≡ size
  long = length-piece (region_of m c.from.memory) (c.from.offset + at) size source_room

  fits : c.to.offset + at + length bytes ≤ length (region_of m c.to.memory)
  fits = omega (arith, target_room, long)

  live : IsLive m c.to.memory
  live = holds_live s h m backs matched mv.id true c.to copied_to

  abbrev spliced : List ℕ
  spliced = splice (region_of m c.to.memory) (c.to.offset + at) bytes

  here : region_of new c.to.memory ≡ spliced
  here = ap (λ (n : MemoryState). region_of n c.to.memory) c.memory ∙ region_of-same m c.to.memory spliced live

  elsewhere : (n : ℕ) → (n ≡ c.to.memory → ⊥) → region_of new n ≡ region_of m n
  elsewhere n other = ap (λ (x : MemoryState). region_of x n) c.memory ∙ region_of-other m c.to.memory n spliced other

  pub copied_keeps : KeepsObjects m new
  copied_keeps = subst (λ (n : MemoryState). KeepsObjects m n) (sym c.memory) (rewritten_keeps m c.to.memory spliced live (length-splice (region_of m c.to.memory) bytes (c.to.offset + at) fits))

  -- a byte of the part at the target
  pub copied_in : (j : ℕ) → j < size → byte_in new c.to.memory (c.to.offset + at + j) ≡ byte_in m c.from.memory (c.from.offset + at + j)
  copied_in j lt =
      let a : c.to.offset + at + j - (c.to.offset + at) ≡ c.from.offset + at + j - (c.from.offset + at) = omega arith in
      ap (λ (r : List ℕ). get_or r (c.to.offset + at + j) 0) here
      ∙ splice-in (region_of m c.to.memory) bytes (c.to.offset + at) fits (c.to.offset + at + j) (omega arith) (omega (arith, long, lt))
      ∙ ap (λ (k : ℕ). get_or bytes k 0) a
      ∙ get_or-piece (region_of m c.from.memory) (c.from.offset + at) size (c.from.offset + at + j) (omega arith) (omega (arith, lt))

  -- any other byte
  pub copied_out : (n k : ℕ) → (n ≡ c.to.memory → (k < c.to.offset + at) ⊎ (c.to.offset + at + size ≤ k)) → byte_in new n k ≡ byte_in m n k
  copied_out n k out = elim (cases_eq n c.to.memory) [
    | inl is ↦ subst (λ (i : ℕ). byte_in new i k ≡ byte_in m i k) (sym is)
        (ap (λ (r : List ℕ). get_or r k 0) here ∙ splice-out (region_of m c.to.memory) bytes (c.to.offset + at) fits k (sides (out is)))
    | inr other ↦ ap (λ (r : List ℕ). get_or r k 0) (elsewhere n other)
  ]
    where
      sides : (k < c.to.offset + at) ⊎ (c.to.offset + at + size ≤ k) → (k < c.to.offset + at) ⊎ (c.to.offset + at + length bytes ≤ k)
      sides (inl low) = inl low
      sides (inr high) = inr (omega (arith, high, long))
