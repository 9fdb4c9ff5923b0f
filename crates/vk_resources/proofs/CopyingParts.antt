-- A part of the open pass is copied: no byte of a resource changes.
use Rattle.std.proofs.Common.{◌≡◌, ◌∙◌, ℕ, ◌+◌, ◌*◌, ◌<◌, ◌≤◌, get_or, slice_index, Bool, true, false, Option, Some, None, refl, sym, ap, subst, arith, inl, inr, ◌⊎◌}
use Rattle.std.specs.Prelude.{IfSome, IsSome, Contains}
use Rattle.std.proofs.lemmas.Bool.{cases_eq}
use Rattle.std.proofs.lemmas.List.{get_or_default}
use Rattle.vk_memory.specs.declared.memories.Object.{Object}
use Rattle.vk_memory.specs.MemoryState.{MemoryState, object_at, region_of, type_of, type_in}
use Rattle.vk_model.specs.declared.entry.Entry.{Entry}
use Rattle.vk_model.specs.declared.resource.Spot.{Spot}
use Rattle.vk_model.specs.Memory.MoveTargets.{Moved}
use Rattle.vk_model.specs.Trace.Point.{Past}
use Rattle.vk_model.specs.Trace.Objects.{live}
use Rattle.vk_model.specs.World.Bytes.{Byte, resource_at}
use Rattle.vk_transfer.specs.Ran.{AreApart}
use Rattle.vma_pools.specs.declared.allocations.Home.{Home}
use Rattle.vma_pools.specs.State.{shared_place, BlockOf, IsSpotOf}
use Rattle.vma_defrag.specs.Bytes.{no_move, part_size, AreAlikeObjects, CopiesPart, KeepsObjects, MovesBetween}
use Rattle.vma_defrag.specs.Inner.Held.{Holds}
use Rattle.vma_defrag.specs.Plans.{IsMove}
use Rattle.vma_defrag.proofs.Copying.{copied_keeps, copied_out, part_inside}
use Rattle.vma_defrag.proofs.Objects.{keeps_length}
use Rattle.vma_defrag.proofs.Spots.{from_holds, holds_apart, has_object, shared_holds, to_holds, to_size}
use Rattle.vk_backing.specs.Backed.{IsBacked}
use Rattle.vk_backing.specs.PassSteps.{Copies}
use Rattle.vk_backing.specs.Passing.{Passing, ArePassing, open_moves}
use Rattle.vk_backing.proofs.Passing.{lies_spot, move_is, move_named}
use Rattle.vk_resources.specs.declared.resources.Placed.{Placed}
use Rattle.vk_resources.specs.Held.{Held, IsConsistent, IsInside, LiesShared, object_of, placed, byte_at}
use Rattle.vk_resources.specs.Matches.{Matches, Stands}
use Rattle.vk_resources.proofs.CachedBytes.{caching_typed}
use Rattle.vk_resources.proofs.Lying.{Lies, byte_stays, lies_within}
use Rattle.vk_resources.proofs.Matching.{home, lies_in, live_of_placed, resource_of_placed}
use Rattle.vk_resources.proofs.Remapping.{rebacked_matches}

-- ---- memory objects get other bytes

same_type : (o p : Option Object) → AreAlikeObjects o p → type_in p ≡ type_in o
same_type None None a = refl
same_type (Some o) (Some p) a = a.0
same_type None (Some p) a = absurd a
same_type (Some o) None a = absurd a

still_some : (o p : Option Object) → AreAlikeObjects o p → IsSome o → IsSome p
still_some None p a some = absurd cc
still_some (Some o) None a some = absurd a
still_some (Some o) (Some p) a some = refl

module _ (s : Held) (consistent : IsConsistent s) (memory' : MemoryState) (keeps : KeepsObjects s.memory memory') (is : IsBacked s.backed memory') where
  abbrev pub recopied : Held
  recopied = record s { memory = memory' }

  pub typed : (n : ℕ) → type_of memory' n ≡ type_of s.memory n
  typed n = same_type (object_at s.memory n) (object_at memory' n) (keeps.each n)

  pub recopied_consistent : IsConsistent recopied
  recopied_consistent = (
    record { inside = λ b. inside (placed s b) (consistent.0.inside b); apart = consistent.0.apart; backed_is = is },
    caching_typed s.memory memory' s.resources s.cache (λ b p here. typed p.object) consistent.1,
    consistent.2,
  )
    where
      inside : (x : Option Placed) → IfSome x (IsInside s.memory) → IfSome x (IsInside memory')
      inside None h = h
      inside (Some p) h = record {
        live = still_some (object_at s.memory p.object) (object_at memory' p.object) (keeps.each p.object) h.live;
        some = h.some;
        room = subst (λ (n : ℕ). p.offset + p.size ≤ n) (sym (keeps_length s.memory memory' keeps p.object)) h.room;
      }

  pub recopied_stands : (past : Past) → Stands past s → Stands past recopied
  recopied_stands past m = record {
    live = rebacked_matches s recopied refl refl refl (λ i q x l. l) (λ i. refl) refl refl (keeps_length s.memory memory' keeps) typed is m.live.whole (live past) m.live;
  }

-- ---- the place that is reserved for a move is apart from all resources, and that where it lies from all others

module _ (s : Held) (consistent : IsConsistent s) (p : Passing) (h : ArePassing p s.backed) (alive : ℕ → Option Entry) (m : Matches alive s) (mv : Moved) (there : Contains (open_moves p) mv) (from to : Spot) (between : MovesBetween s.backed.pools mv.id from to) where
  back : IsBacked s.backed s.memory
  back = consistent.0.backed_is

  reserved : Holds s.backed.pools mv.id true to
  reserved = let i = move_is p s.backed h mv there in to_holds s.backed.pools back.pools i.0 mv i.1 from to between

  taken : Holds s.backed.pools mv.id false from
  taken = let i = move_is p s.backed h mv there in from_holds s.backed.pools back.pools i.0 mv i.1 from to between

  lies_held : (b n : ℕ) (q : Placed) (l : LiesShared s.backed s.memory b n q) → Holds s.backed.pools l.lies.number false l.spot
  lies_held b n q l =
      let x = l.lies in
      shared_holds s.backed.pools back.pools x.number false n x.place x.allocation.asked (record { allocation = x.allocation; live = x.live; there = ap shared_place x.lies; asks = refl }) l.spot
      (subst (λ (h : Home). IsSpotOf s.backed.pools h x.allocation.asked l.spot) x.lies (lies_spot s.backed b n l.spot x))

  in_pool : (b n : ℕ) (q : Placed) → LiesShared s.backed s.memory b n q → q.object ≡ to.memory → AreApart q.offset q.size to.offset to.size
  in_pool b n q l same =
      elim (holds_apart s.backed.pools back.pools s.memory back.backs back.matched l.lies.number mv.id false true l.spot to (lies_held b n q l) reserved (λ e. let f = e.1 in cc) (l.object ∙ same)) [
        | inl low ↦ inl (omega (arith, low, l.offset, l.within))
        | inr high ↦ inr (omega (arith, high, l.offset))
      ]

  -- the same where it lies, but for what moves
  from_pool : (b n : ℕ) (q : Placed) → LiesShared s.backed s.memory b n q → q.object ≡ from.memory → AreApart q.offset q.size from.offset from.size ⊎ Contains p.moving b
  from_pool b n q l same = elim (cases_eq l.lies.number mv.id) [
    | inl is ↦ (let named = move_named p s.backed h mv there in
        inr (subst (λ (i : ℕ). Contains p.moving i) (back.one named.0 b mv.id named.2 (l.lies.has ∙ ap (λ (k : ℕ). Some k) is)) named.1))
    | inr other ↦ inl (beside other)
  ]
    where
      beside : (l.lies.number ≡ mv.id → ⊥) → AreApart q.offset q.size from.offset from.size
      beside other =
          elim (holds_apart s.backed.pools back.pools s.memory back.backs back.matched l.lies.number mv.id false false l.spot from (lies_held b n q l) taken (λ e. other e.0) (l.object ∙ same)) [
            | inl low ↦ inl (omega (arith, low, l.offset, l.within))
            | inr high ↦ inr (omega (arith, high, l.offset))
          ]

  -- no id has the memory object of a place in a pool of its own
  unowned : (i x : ℕ) (r : Bool) (spot : Spot) → Holds s.backed.pools mv.id r spot → object_of s i ≡ Some x → x ≡ spot.memory → ⊥
  unowned i x r spot held own same = back.apart i spot.memory (BlockOf held.pool held.memory.index) (own ∙ ap (λ (n : ℕ). Some n) same) (has_object s.backed.pools back.pools s.memory back.backs back.matched mv.id r spot held)

  pub target_apart : (b : ℕ) (q : Placed) → placed s b ≡ Some q → q.object ≡ to.memory → AreApart q.offset q.size to.offset to.size
  target_apart b q here same =
      let l = live_of_placed alive s b q m here in
      elim (lies_in alive s b l.resource.place q (m.places b q l.resource here (resource_of_placed alive b q l))) [
        | inl own ↦ absurd (unowned (home b l.resource.place) q.object true to reserved own same)
        | inr shared ↦ in_pool b shared.0 q shared.1 same
      ]

  pub source_apart : (b : ℕ) (q : Placed) → placed s b ≡ Some q → q.object ≡ from.memory → AreApart q.offset q.size from.offset from.size ⊎ Contains p.moving b
  source_apart b q here same =
      let l = live_of_placed alive s b q m here in
      elim (lies_in alive s b l.resource.place q (m.places b q l.resource here (resource_of_placed alive b q l))) [
        | inl own ↦ absurd (unowned (home b l.resource.place) q.object false from taken own same)
        | inr shared ↦ from_pool b shared.0 q shared.1 same
      ]

-- ---- a part is copied

module _ (s : Held) (consistent : IsConsistent s) (p q : Passing) (h : ArePassing p s.backed) (part : ℕ) (memory' : MemoryState) (copies : Copies p q s.backed part s.memory memory') where
  abbrev one : CopiesPart s.backed.pools (open_moves p) part s.memory memory'
  one = copies.copies

  abbrev mv : Moved
  mv = get_or (open_moves p) one.index no_move

  among : Contains (open_moves p) mv
  among = (one.index, one.its.there, get_or_default (open_moves p) one.index mv no_move one.its.there)

  its : IsMove s.backed.pools (move_is p s.backed h mv among).0 mv
  its = (move_is p s.backed h mv among).1

  backed_is : IsBacked s.backed s.memory
  backed_is = consistent.0.backed_is

  pub part_keeps : KeepsObjects s.memory memory'
  part_keeps = copied_keeps s.backed.pools backed_is.pools s.memory backed_is.backs backed_is.matched (move_is p s.backed h mv among).0 mv its one.number one.its.within memory' one.copies

  pub part_bytes : (alive : ℕ → Option Entry) → Matches alive s → (c : Byte) → byte_at (record s { memory = memory' }) c ≡ byte_at s c
  part_bytes alive m c = byte_stays s (record s { memory = memory' }) c refl refl (λ l. same l)
    where
      same : (l : Lies s c) → slice_index (region_of memory' l.place.object) (l.place.offset + l.at) ≡ slice_index (region_of s.memory l.place.object) (l.place.offset + l.at)
      same l = copied_out s.backed.pools backed_is.pools s.memory backed_is.backs backed_is.matched (move_is p s.backed h mv among).0 mv its one.number one.its.within memory' one.copies l.place.object (l.place.offset + l.at) (λ e. out (target_apart s consistent p h alive m mv among one.copies.from one.copies.to one.copies.between (resource_at c) l.place l.here e))
        where
          out : AreApart l.place.offset l.place.size one.copies.to.offset one.copies.to.size → (l.place.offset + l.at < one.copies.to.offset + 4096 * one.number) ⊎ (one.copies.to.offset + 4096 * one.number + part_size mv one.number ≤ l.place.offset + l.at)
          out (inl low) = let lt = lies_within s consistent.2 c l in inl (omega (arith, low, lt))
          out (inr high) =
              let size = to_size s.backed.pools backed_is.pools (move_is p s.backed h mv among).0 mv its one.copies.from one.copies.to one.copies.between in
              let end = part_inside mv.bytes one.number (part_size mv one.number) one.its.within refl in
              inr (omega (arith, high, size, end))
