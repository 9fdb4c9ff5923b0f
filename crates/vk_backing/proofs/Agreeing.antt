-- What has been copied stays so where what backs ids changes.
use Rattle.std.proofs.Common.{◌≡◌, ℕ, ◌+◌, get_or, Bool, false, true, Option, Some, refl, sym, ap, subst, ◌∙◌, inl, inr}
use Rattle.std.specs.Prelude.{Contains}
use Rattle.std.proofs.lemmas.List.{get_or_default}
use Rattle.vk_memory.specs.declared.memories.Object.{Object}
use Rattle.vk_memory.specs.MemoryState.{MemoryState, bytes_of, object_at}
use Rattle.vk_model.specs.declared.resource.Spot.{Spot}
use Rattle.vk_model.specs.Memory.MoveTargets.{Moved}
use Rattle.vma_pools.specs.declared.pool.PoolPlace.{PoolPlace}
use Rattle.vma_pools.specs.declared.allocations.Asked.{Asked}
use Rattle.vma_pools.specs.declared.allocations.Home.{Home}
use Rattle.vma_pools.specs.declared.allocations.Home.TheVariants as home
use Rattle.vma_pools.specs.Pools.{Kept, IsMemoryOf}
use Rattle.vma_pools.specs.State.{PoolsState, pool_at, allocation_at, reserved_place, shared_place, IsHeld, IsSpotOf, IsTargetSpot}
use Rattle.vma_pools.proofs.CallLemmas.{kept-and, live-and, live-holds}
use Rattle.vma_pools.proofs.EndedLemmas.{kept-is}
use Rattle.vma_defrag.specs.Bytes.{byte_in, no_move, MovesBetween}
use Rattle.vk_backing.specs.Backed.{Backed}
use Rattle.vk_backing.specs.Passing.{Passing, CopiesAgree, open_moves, ArePassing}
use Rattle.vk_backing.proofs.Gone.{IsBlockOf}
use Rattle.vk_backing.proofs.Passing.{move_is}
use Rattle.vk_backing.proofs.Turned.{Stays}

-- a block in which a place is taken is the memory object that it was
abbrev pub HeldBlocksStay : PoolsState → PoolsState → Type 0
HeldBlocksStay s t = (p : ℕ) (l : Kept) (i : ℕ) (r : Bool) (place : PoolPlace) (asked : Asked) (x : ℕ) → IsHeld s i r p place asked → pool_at t p ≡ Some l → IsMemoryOf l place.block x → (k : Kept) × (pool_at s p ≡ Some k) × IsMemoryOf k place.block x

module _ (p : Passing) (old new : Backed) (hp : ArePassing p old) (m n : MemoryState) (stay : (mv : Moved) → Contains (open_moves p) mv → Stays (allocation_at old.pools mv.id) (allocation_at new.pools mv.id)) (blocks : HeldBlocksStay old.pools new.pools)
    (objects : (x : ℕ) → IsBlockOf old.pools x → IsBlockOf new.pools x → object_at n x ≡ object_at m x) where
  -- a spot in a pool was there, and has the bytes that it had
  spot_was : (i : ℕ) (r : Bool) (q : ℕ) (place : PoolPlace) (asked : Asked) (spot : Spot) → IsHeld old.pools i r q place asked → IsSpotOf new.pools (home.Shared q place) asked spot → IsSpotOf old.pools (home.Shared q place) asked spot × (object_at n spot.memory ≡ object_at m spot.memory)
  spot_was i r q place asked spot held is =
      let l = kept-is new.pools q (λ k. IsMemoryOf k place.block spot.memory × (spot.offset ≡ place.start) × (spot.size ≡ asked.size)) is in
      let k = blocks q l.0 i r place asked spot.memory held l.1 l.2.0 in (
        kept-and old.pools q k.0 (λ k. IsMemoryOf k place.block spot.memory × (spot.offset ≡ place.start) × (spot.size ≡ asked.size)) k.1 (k.2, l.2.1, l.2.2),
        objects spot.memory (record { pool = q; kept = k.0; there = k.1; number = place.block; memory = k.2 }) (record { pool = q; kept = l.0; there = l.1; number = place.block; memory = l.2.0 }),
      )

  -- what moves did between the same spots
  moved_was : (mv : Moved) → Contains (open_moves p) mv → (from to : Spot) → MovesBetween new.pools mv.id from to → MovesBetween old.pools mv.id from to × (object_at n from.memory ≡ object_at m from.memory) × (object_at n to.memory ≡ object_at m to.memory)
  moved_was mv there from to between =
      let move = move_is p old hp mv there in let q = move.0 in let its = move.1 in let a = its.allocation in
      let y = stay mv there a its.live in
      let spots = live-holds new.pools mv.id (λ a. IsSpotOf new.pools a.home a.asked from × IsTargetSpot new.pools a.home a.target a.asked to) between y.0 y.1 in
      let here : IsSpotOf new.pools (home.Shared q its.from) a.asked from = subst (λ (l : Home). IsSpotOf new.pools l a.asked from) (y.2 ∙ its.lies) (subst (λ (r : Asked). IsSpotOf new.pools y.0.home r from) y.3 spots.0) in
      let target : IsTargetSpot new.pools (home.Shared q its.from) (Some its.target) a.asked to =
      subst (λ (l : Home). IsTargetSpot new.pools l (Some its.target) a.asked to) (y.2 ∙ its.lies) (subst (λ (t : Option PoolPlace). IsTargetSpot new.pools y.0.home t a.asked to) (y.4 ∙ its.reserved) (subst (λ (r : Asked). IsTargetSpot new.pools y.0.home y.0.target r to) y.3 spots.1)) in
      let x = spot_was mv.id false q its.from a.asked from (record { allocation = a; live = its.live; there = ap shared_place its.lies; asks = refl }) here in
      let z = spot_was mv.id true q its.target a.asked to (record { allocation = a; live = its.live; there = ap (λ (l : Home). reserved_place l a.target) its.lies ∙ ap (λ (t : Option PoolPlace). reserved_place (home.Shared q its.from) t) its.reserved; asks = refl }) target in (
        live-and old.pools mv.id a (λ a. IsSpotOf old.pools a.home a.asked from × IsTargetSpot old.pools a.home a.target a.asked to) its.live (
          subst (λ (l : Home). IsSpotOf old.pools l a.asked from) (sym its.lies) x.0,
          subst (λ (l : Home). IsTargetSpot old.pools l a.target a.asked to) (sym its.lies) (subst (λ (t : Option PoolPlace). IsTargetSpot old.pools (home.Shared q its.from) t a.asked to) (sym its.reserved) z.0),
        ),
        x.1,
        z.1,
      )

  same_byte : (x k : ℕ) → object_at n x ≡ object_at m x → byte_in n x k ≡ byte_in m x k
  same_byte x k e = ap (λ (o : Option Object). get_or (bytes_of o) k 0) e

  pub agree_still : CopiesAgree p old m → CopiesAgree p new n
  agree_still agree i at from to lt within between =
      let mv = get_or (open_moves p) i no_move in
      let w = moved_was mv (i, lt, get_or_default (open_moves p) i mv no_move lt) from to between in
      elim (agree i at from to lt within w.0) [
        | inl left ↦ inl left
        | inr same ↦ inr (same_byte to.memory (to.offset + at) w.2 ∙ same ∙ sym (same_byte from.memory (from.offset + at) w.1))
      ]
