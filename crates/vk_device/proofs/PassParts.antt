-- The parts of a pass that begins are those of what is allocated then.
use Rattle.std.proofs.Common.{◌≡◌, ◌+◌, ◌/◌, ℕ, List, [], ◌∷◌, length, ◌==◌, Option, Some, None, arith, refl, ap, sym, ◌∙◌, subst}
use Rattle.std.specs.Prelude.{IsSome}
use Rattle.std.specs.List.{filter}
use Rattle.std.proofs.lemmas.List.FromFn.{length-range_with_len}
use Rattle.std.proofs.lemmas.List.Sums.{sum_by-cons}
use Rattle.vk_model.specs.declared.entry.Entry.TheVariants as entry
use Rattle.vk_model.specs.Basics.{below}
use Rattle.vk_model.specs.Memory.MoveTargets.{Moved, parts_of_moves}
use Rattle.vk_model.specs.Memory.Allocations.{Allocated, Defragmentation, PoolMemory, defragmented, pool_by_id, parts_after}
use Rattle.vma_defrag.specs.State.{DefragState}
use Rattle.vk_backing.specs.Backed.{pool_of}
use Rattle.vk_backing.specs.PassAllots.{AreDefragsOf, FulfilsAll}
use Rattle.vk_backing.specs.Passing.{Passing, ArePassing, defrag_in, open_defrag, open_moves, parts_left, moves_by, moves_on, named_in, named_move}
use Rattle.vk_backing.proofs.Keyed.{found_some}
use Rattle.vk_backing.proofs.Passing.{moves_here, open_is}
use Rattle.vk_backing.proofs.PoolsBy.{pool_by, pool_found}
use Rattle.vk_resources.specs.Allocating.{allotted}
use Rattle.vk_resources.specs.Held.{Held}

abbrev count_of : Moved → ℕ
count_of m = (m.bytes + 4095) / 4096

-- the names of what moves change no bytes
parts_named : (ids : List ℕ) (ms : List Moved) → length ids ≡ length ms → parts_of_moves (named_in ids ms) ≡ parts_of_moves ms
parts_named [] [] long = refl
parts_named [] (m ∷ ms) long = absurd (omega (arith, long))
parts_named (i ∷ ids) [] long = absurd (omega (arith, long))
parts_named (i ∷ ids) (m ∷ ms) long =
    let rest = parts_named ids ms (omega (arith, long)) in
    let new = sum_by-cons count_of (named_move i m) (named_in ids ms) in
    let old = sum_by-cons count_of m ms in
    omega (arith, rest, new, old)

module _ (q : Passing) (r : Held) (e : Allocated) (id : ℕ) (is : FulfilsAll (allotted r) q e) (h : ArePassing q r.backed) (opened : q.opened ≡ Some id) where
  abbrev its : (d : DefragState) × (defrag_in q id ≡ Some d) × IsSome d.current
  its = h.opened id opened

  abbrev its_pool : (pool : ℕ) × (pool_of r.backed pool ≡ Some its.0.pool) × (filter (λ f. f.id == id) e.defragmentations ≡ record { id = id; pool = pool; max_bytes = its.0.max_bytes; max_moves = its.0.max_moves } ∷ [])
  its_pool = subst (λ (o : Option DefragState). AreDefragsOf r.backed id o (filter (λ f. f.id == id) e.defragmentations)) its.1 (is.defrags id)

  abbrev its_memory : PoolMemory
  its_memory = (pool_by r.backed r.memory e is.resources its_pool.0 its.0.pool its_pool.1).0

  is_there : pool_by_id its_pool.0 e ≡ Some its_memory
  is_there = pool_found r.backed r.memory e is.resources its_pool.0 its.0.pool its_pool.1

  found : defragmented id e ≡ Some (record { id = id; pool = its_pool.0; max_bytes = its.0.max_bytes; max_moves = its.0.max_moves })
  found = found_some (λ (x : Defragmentation). x.id) id e.defragmentations _ its_pool.2

  is_open : open_defrag q ≡ Some its.0
  is_open = open_is q id opened ∙ its.1

  moves : its_memory.moves ≡ named_in q.moving (open_moves q)
  moves =
      is.moves its_pool.0 its.0.pool its_memory its_pool.1 is_there
      ∙ ap (λ (ms : List Moved). named_in q.moving ms) (ap (λ (o : Option DefragState). moves_on its.0.pool o) is_open ∙ moves_here its.0 its.0.pool refl ∙ sym (ap moves_by is_open))

  after : parts_after e (entry.Pass id) ≡ parts_of_moves its_memory.moves
  after =
      ap (λ (o : Option Defragmentation). elim o [ None ↦ 0 | Some f ↦ elim (pool_by_id f.pool e) [ None ↦ 0 | Some p ↦ parts_of_moves p.moves ] ]) found
      ∙ ap (λ (o : Option PoolMemory). elim o [ None ↦ 0 | Some p ↦ parts_of_moves p.moves ]) is_there

  pub parts_counted : parts_left q ≡ below (parts_of_moves (open_moves q)) → length (parts_left q) ≡ parts_after e (entry.Pass id)
  parts_counted all =
      ap (λ (l : List ℕ). length l) all ∙ length-range_with_len 0 (parts_of_moves (open_moves q)) ∙ sym (parts_named q.moving (open_moves q) h.movers.long)
      ∙ ap parts_of_moves (sym moves) ∙ sym after
