-- The moves of a pass, by the ids of the resources that move.
use Rattle.std.proofs.Common.{◌≡◌, ℕ, suc, ◌+◌, ◌<◌, List, [], ◌∷◌, map, length, get_or, Bool, true, false, Option, Some, None, refl, sym, ap, subst, ◌∙◌, arith}
use Rattle.std.specs.Prelude.{AllPairs}
use Rattle.std.specs.Option.{option_or}
use Rattle.std.proofs.lemmas.List.{get_or-map, length-map}
use Rattle.std.proofs.lemmas.List.Sorted.{IsPermutation-map, IsPermutation-trans}
use Rattle.vk_memory.specs.MemoryState.{MemoryState}
use Rattle.vk_model.specs.Memory.MoveTargets.{BlockStart, Moved, Numbered, Resident, move_target, moves_from, over_limit, place_in, reserved}
use Rattle.vk_model.specs.Memory.Pools.{IsByPlace, IsHigher}
use Rattle.vma_pools.specs.Listing.{residents_of}
use Rattle.vma_defrag.specs.Bytes.{no_move}
use Rattle.vk_backing.specs.Backed.{Backed, allocation_by, IsBacked, IsWhole}
use Rattle.vk_backing.specs.Allotted.{resident_of}
use Rattle.vk_backing.specs.Passing.{named_in}
use Rattle.vk_backing.proofs.Keyed.{picked}
use Rattle.vk_backing.proofs.Permuting.{are_permuted}
use Rattle.vk_backing.proofs.Naming.{key, name, renamed, renamed_move, picked_residents}

module _ (b : Backed) (m : MemoryState) (h : IsBacked b m) (whole : IsWhole b) where
  -- ---- by place

  abbrev pub as_named : Resident → Resident
  as_named a = renamed b m h whole a

  falls : (rs : List Resident) → AllPairs (λ a b. IsHigher a.from b.from) rs → AllPairs (λ a b. IsHigher a.from b.from) (map as_named rs)
  falls rs pairs i j d less lt =
      let long = length-map rs as_named in
      let second : j < length rs = omega (arith, lt, long) in let first : i < length rs = omega (arith, less, second) in
      subst (λ (x : Resident). IsHigher x.from (get_or (map as_named rs) j d).from) (sym (get_or-map as_named rs i d d first))
      (subst (λ (x : Resident). IsHigher (as_named (get_or rs i d)).from x.from) (sym (get_or-map as_named rs j d d second)) (pairs i j d less second))

  pub named_by_place : (p : ℕ) (rs listed : List Resident) → ((r : ℕ) → picked key r rs ≡ resident_of p r (allocation_by b r)) → IsByPlace (residents_of b.pools p) listed → IsByPlace rs (map as_named listed)
  named_by_place p rs listed are by_place = record {
    same =
        IsPermutation-trans rs (map as_named (residents_of b.pools p)) (map as_named listed)
        (are_permuted key rs (map as_named (residents_of b.pools p)) (λ k. are k ∙ sym (picked_residents b m h whole p k)))
        (IsPermutation-map as_named (residents_of b.pools p) listed by_place.same);
    falling = falls listed by_place.falling;
  }

  -- ---- moves

  abbrev pub as_moved : Moved → Moved
  as_moved x = renamed_move b m h whole x

  -- those of the resources of these ids
  pub moves_named : (ids : List ℕ) (l : List Moved) → length ids ≡ length l → ((k : ℕ) → k < length l → name b m h whole (get_or l k no_move).id ≡ get_or ids k 0) → map as_moved l ≡ named_in ids l
  moves_named [] [] long each = refl
  moves_named [] (x ∷ l) long each = absurd cc
  moves_named (i ∷ ids) [] long each = absurd cc
  moves_named (i ∷ ids) (x ∷ l) long each =
      ap (λ (n : ℕ). record x { id = n } ∷ map as_moved l) (each 0 (omega arith))
      ∙ ap (λ (k : List Moved). record x { id = i } ∷ k) (moves_named ids l (omega (arith, long)) (λ k lt. each (suc k) (omega (arith, lt))))

  target_same : (blocks : List Numbered) (a : Resident) → move_target blocks (as_named a) ≡ move_target blocks a
  target_same [] a = refl
  target_same (b ∷ bs) a = ap (λ (o : Option BlockStart). option_or (place_in a b) o) (target_same bs a)

  abbrev AreRest : ℕ → ℕ → ℕ → ℕ → List Numbered → Resident → List Resident → BlockStart → Type 0
  AreRest mb mm bytes count blocks a rs s =
      moves_from mb mm (bytes + a.request.size) (count + 1) (reserved s a.request blocks) (map as_named rs) ≡ map as_moved (moves_from mb mm (bytes + a.request.size) (count + 1) (reserved s a.request blocks) rs)

  pub named_moves_from : (mb mm bytes count : ℕ) (blocks : List Numbered) (rs : List Resident) → moves_from mb mm bytes count blocks (map as_named rs) ≡ map as_moved (moves_from mb mm bytes count blocks rs)
  named_moves_from mb mm bytes count blocks [] = refl
  named_moves_from mb mm bytes count blocks (a ∷ rs) =
      ap (λ (o : Option BlockStart). elim o [
        | None ↦ moves_from mb mm bytes count blocks (map as_named rs)
        | Some s ↦ elim (over_limit mb mm bytes count a.request.size) [
          | true ↦ []
          | false ↦ record { id = (as_named a).id; to = s; bytes = a.request.size } ∷ moves_from mb mm (bytes + a.request.size) (count + 1) (reserved s a.request blocks) (map as_named rs)
        ]
      ]) (target_same blocks a)
      ∙ go (move_target blocks a) (named_moves_from mb mm bytes count blocks rs) (λ s. named_moves_from mb mm (bytes + a.request.size) (count + 1) (reserved s a.request blocks) rs)
    where
      next : (s : BlockStart) (v : Bool) → AreRest mb mm bytes count blocks a rs s
          → (elim v [ true ↦ [] | false ↦ record { id = (as_named a).id; to = s; bytes = a.request.size } ∷ moves_from mb mm (bytes + a.request.size) (count + 1) (reserved s a.request blocks) (map as_named rs) ])
          ≡ map as_moved (elim v [ true ↦ [] | false ↦ record { id = a.id; to = s; bytes = a.request.size } ∷ moves_from mb mm (bytes + a.request.size) (count + 1) (reserved s a.request blocks) rs ])
      next s true rest = refl
      next s false rest = ap (λ (l : List Moved). record { id = (as_named a).id; to = s; bytes = a.request.size } ∷ l) rest

      go : (o : Option BlockStart) → moves_from mb mm bytes count blocks (map as_named rs) ≡ map as_moved (moves_from mb mm bytes count blocks rs) → ((s : BlockStart) → AreRest mb mm bytes count blocks a rs s)
          → (elim o [
            | None ↦ moves_from mb mm bytes count blocks (map as_named rs)
            | Some s ↦ elim (over_limit mb mm bytes count a.request.size) [
              | true ↦ []
              | false ↦ record { id = (as_named a).id; to = s; bytes = a.request.size } ∷ moves_from mb mm (bytes + a.request.size) (count + 1) (reserved s a.request blocks) (map as_named rs)
            ]
          ])
          ≡ map as_moved (elim o [
            | None ↦ moves_from mb mm bytes count blocks rs
            | Some s ↦ elim (over_limit mb mm bytes count a.request.size) [
              | true ↦ []
              | false ↦ record { id = a.id; to = s; bytes = a.request.size } ∷ moves_from mb mm (bytes + a.request.size) (count + 1) (reserved s a.request blocks) rs
            ]
          ])
      go None skipped rest = skipped
      go (Some s) skipped rest = next s (over_limit mb mm bytes count a.request.size) (rest s)
