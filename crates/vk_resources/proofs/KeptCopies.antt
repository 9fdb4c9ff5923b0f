-- Parts of the open pass that were copied stay so where bytes change of what doesn't move.
use Rattle.std.proofs.Common.{◌≡◌, ◌∙◌, ℕ, zero, suc, ◌+◌, ◌<◌, List, [], ◌∷◌, get_or, map, slice_index_or, ◌==◌, Bool, true, false, OnOk, Option, Result, Ok, Err, Some, None, refl, sym, ap, subst, arith, inl, inr}
use Rattle.std.specs.Prelude.{Contains, IsSome}
use Rattle.std.proofs.lemmas.Bool.{eq-eqb}
use Rattle.std.proofs.lemmas.List.{get_or_default}
use Rattle.vk_memory.specs.declared.memories.Object.{Object}
use Rattle.vk_memory.specs.MemoryState.{IsLive, object_at}
use Rattle.vk_model.specs.declared.entry.Entry.{Entry}
use Rattle.vk_model.specs.declared.resource.Spot.{Spot}
use Rattle.vk_model.specs.Basics.{among}
use Rattle.vk_model.specs.Memory.MoveTargets.{Moved}
use Rattle.vk_model.specs.Trace.Point.{Past}
use Rattle.vk_model.specs.Trace.Objects.{live}
use Rattle.vk_model.specs.World.Bytes.{Byte, resource_at}
use Rattle.vk_model.proofs.Lists.Members.{member_passes}
use Rattle.vma_defrag.specs.Bytes.{byte_in, no_move, MovesBetween}
use Rattle.vma_defrag.proofs.Spots.{from_holds, from_size, holds_live, to_holds, to_size}
use Rattle.vk_backing.specs.Allotted.{Allotted, kind_of}
use Rattle.vk_backing.specs.Backed.{Backed, IsBacked}
use Rattle.vk_backing.specs.Passing.{Passing, ArePassing, CopiesAgree, open_moves}
use Rattle.vk_backing.proofs.Passing.{move_is}
use Rattle.vk_resources.specs.Allocating.{allotted}
use Rattle.vk_resources.specs.Held.{Held, IsConsistent}
use Rattle.vk_resources.specs.Fits.{FitsEntry}
use Rattle.vk_resources.specs.Matches.{Stands}
use Rattle.vk_resources.specs.PassSteps.{KeepsCopies, KeepsSparedCopies, SparesBytes}
use Rattle.vk_resources.specs.Rest.{IsPlaceOf, KeepsRest, LiesNone, is_changed_by}
use Rattle.vk_resources.proofs.CopyingParts.{source_apart, target_apart}
use Rattle.vk_resources.proofs.Lying.{lies_within}

-- ---- the same memory objects are live where the same is allotted

kind_at : (os : List (Option Object)) (x : ℕ) → slice_index_or (map kind_of os) x None ≡ kind_of (slice_index_or os x None)
kind_at [] x = refl
kind_at (o ∷ os) zero = refl
kind_at (o ∷ os) (suc x) = kind_at os x

some_alike : (o p : Option Object) → kind_of p ≡ kind_of o → IsSome o → IsSome p
some_alike None p e some = absurd cc
some_alike (Some o) (Some p) e some = refl
some_alike (Some o) None e some = absurd cc

pub live_alike : (s n : Held) → allotted n ≡ allotted s → (x : ℕ) → IsLive s.memory x → IsLive n.memory x
live_alike s n same x live =
    some_alike (object_at s.memory x) (object_at n.memory x) (sym (kind_at n.memory.objects x) ∙ ap (λ (a : Allotted). slice_index_or a.objects x None) same ∙ kind_at s.memory.objects x) live

-- ---- what moves keeps its bytes at both places

module _ (s n : Held) (consistent : IsConsistent s) (past : Past) (m : Stands past s) (test : Byte → Bool) (rest : KeepsRest s n test) (same : allotted n ≡ allotted s) where
  module _ (p : Passing) (h : ArePassing p s.backed) (spares : SparesBytes p.moving test) (mv : Moved) (there : Contains (open_moves p) mv) (from to : Spot) (between : MovesBetween s.backed.pools mv.id from to) where
    within : (number k : ℕ) (c : Byte) (w : IsPlaceOf s number k c) → w.at < w.place.size
    within number k c w = lies_within s consistent.2 c (record { place = w.place; at = w.at; here = w.here; is = w.is })

    none_there : (at : ℕ) → at < to.size → LiesNone s test to.memory (to.offset + at)
    none_there at lt c passes w =
        let inside = within to.memory (to.offset + at) c w in
        elim (target_apart s consistent p h (live past) m.live mv there from to between (resource_at c) w.place w.here w.object) [
          | inl low ↦ omega (arith, low, inside, w.byte, lt)
          | inr high ↦ omega (arith, high, inside, w.byte, lt)
        ]

    none_here : (at : ℕ) → at < from.size → LiesNone s test from.memory (from.offset + at)
    none_here at lt c passes w =
        let inside = within from.memory (from.offset + at) c w in
        elim (source_apart s consistent p h (live past) m.live mv there from to between (resource_at c) w.place w.here w.object) [
          | inl apart ↦ elim apart [ inl low ↦ omega (arith, low, inside, w.byte, lt) | inr high ↦ omega (arith, high, inside, w.byte, lt) ]
          | inr moves ↦ (let f : among (resource_at c) p.moving ≡ true = member_passes (λ y. resource_at c == y) p.moving (resource_at c) moves (eq-eqb (resource_at c) (resource_at c) refl) in
              let g = sym f ∙ spares c passes in cc)
        ]

    back : IsBacked s.backed s.memory
    back = consistent.0.backed_is

    target_byte : (at : ℕ) → at < mv.bytes → byte_in n.memory to.memory (to.offset + at) ≡ byte_in s.memory to.memory (to.offset + at)
    target_byte at lt =
        let i = move_is p s.backed h mv there in
        let live = holds_live s.backed.pools back.pools s.memory back.backs back.matched mv.id true to (to_holds s.backed.pools back.pools i.0 mv i.1 from to between) in
        rest.bytes to.memory (to.offset + at) live (live_alike s n same to.memory live) (none_there at (let e = to_size s.backed.pools back.pools i.0 mv i.1 from to between in omega (arith, lt, e)))

    source_byte : (at : ℕ) → at < mv.bytes → byte_in n.memory from.memory (from.offset + at) ≡ byte_in s.memory from.memory (from.offset + at)
    source_byte at lt =
        let i = move_is p s.backed h mv there in
        let live = holds_live s.backed.pools back.pools s.memory back.backs back.matched mv.id false from (from_holds s.backed.pools back.pools i.0 mv i.1 from to between) in
        rest.bytes from.memory (from.offset + at) live (live_alike s n same from.memory live) (none_here at (let e = from_size s.backed.pools back.pools i.0 mv i.1 from to between in omega (arith, lt, e)))

  pub kept_copies : KeepsCopies s n test
  kept_copies p h spares agree = subst (λ (b : Backed). CopiesAgree p b n.memory) (sym (ap (λ (a : Allotted). a.backed) same)) again
    where
      again : CopiesAgree p s.backed n.memory
      again i at from to lt below between =
          let mv = get_or (open_moves p) i no_move in
          let there : Contains (open_moves p) mv = (i, lt, get_or_default (open_moves p) i mv no_move lt) in
          elim (agree i at from to lt below between) [
            | inl left ↦ inl left
            | inr copied ↦ inr (target_byte p h spares mv there from to between at below ∙ copied ∙ sym (source_byte p h spares mv there from to between at below))
          ]

-- over an entry that accesses bytes
pub access_copies : {T E : Type 0} (r : Result T E) (x : Entry) (s n : Held) → IsConsistent s → OnOk r ((past : Past) → Stands past s → FitsEntry past x → KeepsRest s n (is_changed_by s past x)) → OnOk r (allotted n ≡ allotted s)
    → OnOk r ((past : Past) → Stands past s → FitsEntry past x → KeepsSparedCopies x s n (is_changed_by s past x))
access_copies (Ok a) x s n consistent rest same = λ past m fit p h spares bytes agree. kept_copies s n consistent past m (is_changed_by s past x) (rest past m fit) same p h bytes agree
access_copies (Err e) x s n consistent rest same = tt
