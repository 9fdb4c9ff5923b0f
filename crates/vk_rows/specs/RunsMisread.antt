-- Traces without a fault of which a wrong reading of a definition has the room or the steps otherwise: some stop, each beside one that has room.
use Rattle.std.specs.Prelude.{◌≡◌, ℕ, List, [], ◌∷◌, ◌++◌, take, Bool, true, false, ◌==◌, if◌then◌else◌, Some, None}
use Rattle.vk_model.specs.declared.entry.Entry.{Entry}
use Rattle.vk_model.specs.declared.entry.Entry.TheVariants as entry
use Rattle.vk_model.specs.declared.resource.Sharing.TheVariants as sharing
use Rattle.vk_model.specs.declared.resource.Place.TheVariants as place
use Rattle.vk_model.specs.declared.resource.PoolKind.TheVariants as algorithm
use Rattle.vk_model.specs.declared.command.Cmd.TheVariants as cmd
use Rattle.vk_model.specs.Trace.Order.{order}
use Rattle.vk_model.specs.World.Bytes.{in_buffer}
use Rattle.vk_model.specs.World.Effect.{world}
use Rattle.vk_model.specs.Run.Caches.{Clean}
use Rattle.vk_model.specs.Run.CachedRuns.{CachedStep, Does, Touches, Load}
use Rattle.vk_model.specs.Run.Picks.{trace_picks}
use Rattle.vk_model.specs.Run.Runs.{Step, Apply, RunPiece, CopyPart, start}
use Rattle.vk_rows.specs.Writing.{bytes, batch, buffer_entry, pool_entry, both}
use Rattle.vk_rows.specs.Stops.{Stops, HasRoom, usual}
use Rattle.vk_rows.specs.QueueCaches.{Leads, entries, in_cache}

-- The larger one is destroyed after the pass, which moved nothing, and of the two buffers that then come the second finds no room.
abbrev pub move_over_a_limit : List Entry
move_over_a_limit =
    pool_entry 1 algorithm.Tlsf 1 4096 1
    ∷ buffer_entry 10 1024 both sharing.Exclusive (place.Pool 1)
    ∷ buffer_entry 11 512 both sharing.Exclusive (place.Pool 1)
    ∷ buffer_entry 12 1024 both sharing.Exclusive (place.Pool 1)
    ∷ entry.Destroy 10
    ∷ entry.Defrag 2 1 512 0
    ∷ entry.Pass 2
    ∷ entry.EndPass 2 [] []
    ∷ entry.Destroy 12
    ∷ buffer_entry 13 2048 both sharing.Exclusive (place.Pool 1)
    ∷ buffer_entry 14 1536 both sharing.Exclusive (place.Pool 1)
    ∷ []

-- It is destroyed before the pass, which moves the smaller one to the start.
abbrev pub move_over_a_limit_corrected : List Entry
move_over_a_limit_corrected =
    pool_entry 1 algorithm.Tlsf 1 4096 1
    ∷ buffer_entry 10 1024 both sharing.Exclusive (place.Pool 1)
    ∷ buffer_entry 11 512 both sharing.Exclusive (place.Pool 1)
    ∷ buffer_entry 12 1024 both sharing.Exclusive (place.Pool 1)
    ∷ entry.Destroy 10
    ∷ entry.Destroy 12
    ∷ entry.Defrag 2 1 512 0
    ∷ entry.Pass 2
    ∷ entry.EndPass 2 [] []
    ∷ buffer_entry 13 2048 both sharing.Exclusive (place.Pool 1)
    ∷ buffer_entry 14 1536 both sharing.Exclusive (place.Pool 1)
    ∷ []

-- A buffer that comes inside the pass finds no room, as both places of what moves are taken.
abbrev pub target_of_a_kept_move : List Entry
target_of_a_kept_move =
    pool_entry 1 algorithm.Tlsf 1 4096 1
    ∷ buffer_entry 10 1024 both sharing.Exclusive (place.Pool 1)
    ∷ buffer_entry 11 1024 both sharing.Exclusive (place.Pool 1)
    ∷ buffer_entry 12 1024 both sharing.Exclusive (place.Pool 1)
    ∷ buffer_entry 13 1024 both sharing.Exclusive (place.Pool 1)
    ∷ entry.Destroy 10
    ∷ entry.Defrag 2 1 0 0
    ∷ entry.Pass 2
    ∷ buffer_entry 14 1024 both sharing.Exclusive (place.Pool 1)
    ∷ []

-- It comes after the end of the pass, which keeps the move.
abbrev pub target_of_a_kept_move_corrected : List Entry
target_of_a_kept_move_corrected =
    pool_entry 1 algorithm.Tlsf 1 4096 1
    ∷ buffer_entry 10 1024 both sharing.Exclusive (place.Pool 1)
    ∷ buffer_entry 11 1024 both sharing.Exclusive (place.Pool 1)
    ∷ buffer_entry 12 1024 both sharing.Exclusive (place.Pool 1)
    ∷ buffer_entry 13 1024 both sharing.Exclusive (place.Pool 1)
    ∷ entry.Destroy 10
    ∷ entry.Defrag 2 1 0 0
    ∷ entry.Pass 2
    ∷ entry.EndPass 2 (13 ∷ []) []
    ∷ buffer_entry 14 1024 both sharing.Exclusive (place.Pool 1)
    ∷ []

-- The third of three buffers finds no room behind the second, as each of the two begins 48 bytes after the end of the one before.
abbrev pub alignment_of_cached_memory : List Entry
alignment_of_cached_memory =
    pool_entry 1 algorithm.Linear 2 1024 1
    ∷ buffer_entry 2 272 both sharing.Exclusive (place.Pool 1)
    ∷ buffer_entry 3 272 both sharing.Exclusive (place.Pool 1)
    ∷ buffer_entry 4 448 both sharing.Exclusive (place.Pool 1)
    ∷ []

-- On memory type 1 they follow one another.
abbrev pub alignment_of_cached_memory_corrected : List Entry
alignment_of_cached_memory_corrected =
    pool_entry 1 algorithm.Linear 1 1024 1
    ∷ buffer_entry 2 272 both sharing.Exclusive (place.Pool 1)
    ∷ buffer_entry 3 272 both sharing.Exclusive (place.Pool 1)
    ∷ buffer_entry 4 448 both sharing.Exclusive (place.Pool 1)
    ∷ []

-- A fill of another buffer inside a pass that moves one.
abbrev pub pieces_before_parts : List Entry
pieces_before_parts =
    pool_entry 1 algorithm.Tlsf 1 4096 1
    ∷ buffer_entry 2 16 both sharing.Exclusive (place.Pool 1)
    ∷ buffer_entry 3 16 both sharing.Exclusive (place.Pool 1)
    ∷ buffer_entry 4 16 both sharing.Exclusive (place.Dedicated 1)
    ∷ entry.Destroy 2
    ∷ entry.Defrag 5 1 0 0
    ∷ entry.Pass 5
    ∷ entry.Submit 0 (batch [] (cmd.Fill 4 0 (bytes 16) 7 ∷ []) [] ∷ [])
    ∷ entry.EndPass 5 [] []
    ∷ []

-- A pass of a pool in which one buffer moves.
abbrev pub copies_after_a_pass : List Entry
copies_after_a_pass =
    pool_entry 1 algorithm.Tlsf 1 4096 1
    ∷ buffer_entry 2 16 both sharing.Exclusive (place.Pool 1)
    ∷ buffer_entry 3 16 both sharing.Exclusive (place.Pool 1)
    ∷ entry.Destroy 2
    ∷ entry.Defrag 4 1 0 0
    ∷ entry.Pass 4
    ∷ entry.EndPass 4 [] []
    ∷ []

-- The host's write is invalidated.
abbrev pub invalidated_and_clean : List Entry
invalidated_and_clean =
    buffer_entry 1 64 both sharing.Exclusive (place.Dedicated 2)
    ∷ entry.Map 1
    ∷ entry.Write 1 0 (170 ∷ [])
    ∷ entry.Invalidate 1 0 (bytes 1)
    ∷ []

-- Answers to the number of options: the first of three, and else the second.
abbrev pub first_of_three : ℕ → ℕ
first_of_three n = if n == 3 then 0 else 1

-- The steps of a scheduler with these answers, where the pass that begins at entry 6 has one part.
abbrev pub steps_with_part : (ℕ → ℕ) → List Step
steps_with_part answer = (trace_picks (λ held n. answer n) (λ held n. held) (λ e. if e == 6 then 1 else 0) None (start pieces_before_parts) [] pieces_before_parts).steps

-- The entries before the pass, its beginning, and a copy of all that is in memory in the cache of queue 0.
abbrev pub with_copies : List CachedStep
with_copies = entries (0 ∷ 1 ∷ 2 ∷ 3 ∷ 4 ∷ []) ++ Does (Apply [] 1) (3 ∷ []) ∷ Touches Load 0 (λ c. true) ∷ []

-- Whether the first byte of buffer 1 is dirty after some entries.
abbrev pub is_dirty : List Entry → Bool
is_dirty t = (world (order t)).dirty (in_buffer 1 0)

-- Where the traces stop, which steps they have, and what caches hold.
pub record RunsMisread : Type 0 where
  -- The first move that would pass a limit ends a pass: no smaller one is made in its place. Buffers of 512 and of 1,024 bytes are left in a block, the larger one higher, and a pass may move 512 bytes.
  pub move_over_a_limit : Stops usual move_over_a_limit 10
  pub move_over_a_limit_corrected : HasRoom usual move_over_a_limit_corrected
  -- When a pass ends the target of a move that is kept is free again.
  pub target_of_a_kept_move : Stops usual target_of_a_kept_move 8
  pub target_of_a_kept_move_corrected : HasRoom usual target_of_a_kept_move_corrected
  -- In a pool of memory type 2, too, each resource begins at a multiple of 64.
  pub alignment_of_cached_memory : Stops usual alignment_of_cached_memory 3
  pub alignment_of_cached_memory_corrected : HasRoom usual alignment_of_cached_memory_corrected
  -- Of what may be next, the pieces of commands come first, then the parts that are to be copied, and the next entry last. The first of three options is the fill, the second the part.
  pub the_piece : steps_with_part first_of_three ≡ Apply [] 0 ∷ Apply [] 0 ∷ Apply [] 0 ∷ Apply [] 0 ∷ Apply [] 0 ∷ Apply [] 0 ∷ Apply [] 1 ∷ Apply [] 0 ∷ RunPiece (8, 0) ∷ Apply [] 0 ∷ []
  pub the_part : steps_with_part (λ n. 1) ≡ Apply [] 0 ∷ Apply [] 0 ∷ Apply [] 0 ∷ Apply [] 0 ∷ Apply [] 0 ∷ Apply [] 0 ∷ Apply [] 1 ∷ Apply [] 0 ∷ CopyPart 0 ∷ Apply [] 0 ∷ []
  -- When a pass ends, no cache keeps a copy of what moved: it would be one of the old place.
  pub copy_in_the_pass : Leads copies_after_a_pass with_copies (λ s. in_cache 1 3 s ≡ Some (Clean 205))
  pub no_copy_after_it : Leads copies_after_a_pass (with_copies ++ Does (Apply [] 0) (3 ∷ []) ∷ []) (λ s. in_cache 1 3 s ≡ None)
  -- After an invalidation nothing that it reaches is left to be flushed.
  pub written_and_dirty : is_dirty (take 3 invalidated_and_clean) ≡ true
  pub invalidated_and_not : is_dirty invalidated_and_clean ≡ false
