-- Passes of a defragmentation: the sum of ranks, how many moves are made, and the parts that are copied.
use Rattle.std.specs.Prelude.{◌≡◌, ℕ, List, [], ◌∷◌, ◌==◌, if◌then◌else◌, None}
use Rattle.vk_model.specs.declared.entry.Entry.{Entry}
use Rattle.vk_model.specs.declared.entry.Entry.TheVariants as entry
use Rattle.vk_model.specs.declared.resource.PoolKind.TheVariants as algorithm
use Rattle.vk_model.specs.Memory.MoveTargets.{Resident, pass_moves, parts_of_moves}
use Rattle.vk_model.specs.Memory.Pools.{numbered_blocks, rank_sum}
use Rattle.vk_model.specs.Memory.Allocations.{PoolMemory, Defragmentation, Allocated, PassBegins, pass_ended, ReachesWith}
use Rattle.vk_model.specs.Memory.PassRanks.{MovesLeadDown}
use Rattle.vk_model.specs.Memory.PassLaws.{IsRanked, AllArePlaced, PassBegan, PassEnded, ResourceEnded, Happens}
use Rattle.vk_model.specs.Run.Runs.{Step, Apply, CopyPart, start}
use Rattle.vk_model.specs.Run.Picks.{trace_picks}
use Rattle.vk_rows.specs.Writing.{pool_entry}
use Rattle.vk_rows.specs.Places.{resident, move_to}
use Rattle.vk_rows.specs.PoolBlocks.{holed, left, with_buffer}
use Rattle.vk_rows.specs.Stops.{usual, in_pool}
use Rattle.vk_rows.specs.Work.{the_first, the_last}

-- ---- two blocks with holes

-- The pool with its four buffers, outside a pass.
abbrev pub outside : PoolMemory
outside = record { id = 1; pool = holed; residents = left; moves = [] }

-- A defragmentation of it, without limits.
abbrev pub unlimited : Defragmentation
unlimited = record { id = 2; pool = 1; max_bytes = 0; max_moves = 0 }

-- In its pass two places of the first block are taken too.
abbrev pub inside : PoolMemory
inside = record { id = 1; pool = with_buffer 1024 0 2048 (with_buffer 1024 0 0 holed); residents = left; moves = move_to 17 0 0 ∷ move_to 15 0 2048 ∷ [] }

-- The sum of ranks in blocks of 4,096 bytes.
abbrev pub sum_of : PoolMemory → ℕ
sum_of q = rank_sum 4096 (numbered_blocks q.pool.blocks) q.residents

-- The buffers after both moves, from the highest place down.
abbrev pub packed_from_above : List Resident
packed_from_above = resident 13 0 3072 ∷ resident 15 0 2048 ∷ resident 11 0 1024 ∷ resident 17 0 0 ∷ []

-- ---- a pass that copies two parts

-- Two buffers of 5,000 bytes, of which the first goes, and a pass that moves the second to the start.
abbrev pub large_pass : List Entry
large_pass = pool_entry 1 algorithm.Tlsf 1 16384 1 ∷ in_pool 10 5000 ∷ in_pool 11 5000 ∷ entry.Destroy 10
    ∷ entry.Defrag 2 1 0 0 ∷ entry.Pass 2 ∷ entry.EndPass 2 [] [] ∷ entry.EndDefrag 2 ∷ []

-- Its pass has two parts; no other entry has any.
abbrev pub two_parts : ℕ → ℕ
two_parts n = if n == 5 then 2 else 0

-- The steps of a run of it, as a scheduler answers by the number of options.
abbrev pub steps_of : (ℕ → ℕ) → List Step
steps_of answer = (trace_picks (λ held n. answer n) (λ held n. held) two_parts None (start large_pass) [] large_pass).steps

-- Passes: ranks, moves and parts.
pub record PassRows : Type 0 where
  -- The laws of passes speak of this pool.
  pub ranked : IsRanked 4096 outside
  pub placed : AllArePlaced 4096 outside
  -- The pass begins with two moves, each to a lower rank, and changes no rank.
  pub begins : PassBegins unlimited outside inside
  pub down : MovesLeadDown 4096 inside
  pub sum_outside : sum_of outside ≡ 1024
  pub sum_inside : sum_of inside ≡ 1024
  -- Its end brings the sum down: by 640 where both moves are made, by 192 where the first is kept, and by more where a resource is lost.
  pub both_made : sum_of (pass_ended [] [] inside) ≡ 384
  pub one_kept : sum_of (pass_ended (17 ∷ []) [] inside) ≡ 832
  pub one_lost : sum_of (pass_ended [] (15 ∷ []) inside) ≡ 256
  -- How many moves are made.
  pub two_moves : Happens outside (PassBegan unlimited ∷ PassEnded [] [] ∷ []) (2 ∷ [])
  pub one_move : Happens outside (PassBegan unlimited ∷ PassEnded (17 ∷ []) [] ∷ ResourceEnded 17 ∷ []) (1 ∷ [])
  -- After both no move is left.
  pub none_left : pass_moves 0 0 (numbered_blocks (pass_ended [] [] inside).pool.blocks) packed_from_above ≡ []
  -- A move of 1,024 bytes is one part, and one of 5,008 bytes is two.
  pub one_part_each : parts_of_moves inside.moves ≡ 2
  pub larger : parts_of_moves (record { id = 11; to = record { block = 0; start = 0 }; bytes = 5008 } ∷ []) ≡ 2
  -- So the pass of the trace has two parts.
  pub reached : (d : Allocated) × ReachesWith two_parts usual large_pass d
  -- They are copied before the pass ends, or at its end.
  pub copied_first : steps_of the_first ≡ Apply [] 0 ∷ Apply [] 0 ∷ Apply [] 0 ∷ Apply [] 0 ∷ Apply [] 0 ∷ Apply [] 2 ∷ CopyPart 0 ∷ CopyPart 1 ∷ Apply [] 0 ∷ Apply [] 0 ∷ []
  pub copied_at_end : steps_of the_last ≡ Apply [] 0 ∷ Apply [] 0 ∷ Apply [] 0 ∷ Apply [] 0 ∷ Apply [] 0 ∷ Apply [] 2 ∷ Apply [] 0 ∷ Apply [] 0 ∷ []
