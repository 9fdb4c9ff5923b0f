-- Pieces of commands, the order of nodes, what may run next, and what a scheduler is asked.
use Rattle.std.specs.Prelude.{Some, None, option_map, ◌≡◌, ℕ, ◌-◌, List, [], ◌∷◌, ◌++◌, map, take, reverse, length, Bool, true, false, ◌==◌, if◌then◌else◌, slice_get}
use Rattle.vk_model.specs.declared.command.Cmd.{Cmd}
use Rattle.vk_model.specs.declared.command.Cmd.TheVariants as cmd
use Rattle.vk_model.specs.declared.command.Element.TheVariants as element
use Rattle.vk_model.specs.declared.entry.Entry.{Entry}
use Rattle.vk_model.specs.declared.entry.Entry.TheVariants as entry
use Rattle.vk_model.specs.declared.layout.Format.TheVariants as texel_format
use Rattle.vk_model.specs.declared.resource.ImageInfo.{ImageInfo}
use Rattle.vk_model.specs.declared.resource.Kind.{Kind}
use Rattle.vk_model.specs.declared.resource.Kind.TheVariants as kind
use Rattle.vk_model.specs.declared.resource.Place.TheVariants as place
use Rattle.vk_model.specs.declared.resource.PoolKind.TheVariants as algorithm
use Rattle.vk_model.specs.declared.resource.Sharing.TheVariants as sharing
use Rattle.vk_model.specs.declared.rule.At.TheVariants as at
use Rattle.vk_model.specs.declared.rule.Rule.TheVariants as rule
use Rattle.vk_model.specs.Basics.{holds}
use Rattle.vk_model.specs.Trace.Point.{at_of}
use Rattle.vk_model.specs.Trace.Objects.{resource}
use Rattle.vk_model.specs.World.ByteWrites.{byte_writes}
use Rattle.vk_model.specs.Rules.Table.{first_fault}
use Rattle.vk_model.specs.Trace.Image.{image_size, row_pitch}
use Rattle.vk_model.specs.Trace.Order.{order}
use Rattle.vk_model.specs.World.Bytes.{in_buffer}
use Rattle.vk_model.specs.World.Effect.{world}
use Rattle.vk_model.specs.Sync.Node.{Node, nodes}
use Rattle.vk_model.specs.Sync.Edge.{edge}
use Rattle.vk_model.specs.Sync.Before.{before}
use Rattle.vk_model.specs.Sync.Seen.{Read, seen}
use Rattle.vk_model.specs.Run.Pieces.{pieces}
use Rattle.vk_model.specs.Run.Runs.{Name, Apply, RunPiece, CopyPart, Stage, offered, start, Allowed}
use Rattle.vk_model.specs.Run.Picks.{Picked, trace_picks}
use Rattle.vk_rows.specs.Writing.{bytes, to_end, dependency, levels, image_element, submit_info, semaphore_value, batch, buffer_entry, image_entry, pool_entry, transfer, host, all_commands, transfer_write, host_read, both, undefined, destination_optimal, ignored}

-- ---- pieces, layouts and sizes

-- The sizes of a command's pieces, after some entries.
abbrev pub piece_sizes : List Entry → Cmd → List ℕ
piece_sizes t c = map length (pieces (order t) c)

-- A buffer of 5,000 bytes.
abbrev pub large_buffer : List Entry
large_buffer = buffer_entry 1 5000 both sharing.Exclusive (place.Dedicated 1) ∷ []

-- An image of two levels, the first of which goes to TRANSFER_DST_OPTIMAL.
abbrev pub two_levels : List Entry
two_levels = image_entry 1 texel_format.R8Uint 8 8 2 1 kind.Optimal both sharing.Exclusive (place.Dedicated 0)
    ∷ entry.Submit 0 (batch []
    (cmd.Barrier (image_element (dependency 0 0 transfer transfer_write) ignored ignored 1 undefined destination_optimal (levels 0 1 0 1) ∷ []) ∷ [])
    [] ∷ [])
    ∷ []

-- An image of 9 by 5 texels of two bytes.
abbrev pub nine_by_five : Kind → ImageInfo
nine_by_five k = record { format = texel_format.R16Uint; width = 9; height = 5; levels = 1; layers = 1; tiling = k; usage = record { 0 = 3 }; sharing = sharing.Exclusive; place = place.Dedicated 0 }

-- ---- the order of nodes

-- A fill, a barrier if it's given, a signal, a wait, a map and a read: nodes 0 to 7, or 6 without the barrier.
abbrev pub upload : List Cmd → List Entry
upload barrier = buffer_entry 1 16 both sharing.Exclusive (place.Dedicated 1) ∷ entry.Semaphore 2 0
    ∷ entry.Submit 0 (batch [] (cmd.Fill 1 0 (bytes 16) 67305985 ∷ barrier) (submit_info 2 1 all_commands ∷ []) ∷ [])
    ∷ entry.Wait (semaphore_value 2 1 ∷ []) ∷ entry.Map 1 ∷ entry.Read 1 0 4 ∷ []

-- A barrier from the transfers' writes to the host's reads.
abbrev pub to_host : List Cmd
to_host = cmd.Barrier (element.Memory (dependency transfer transfer_write host host_read) ∷ []) ∷ []

-- Whether nodes of these numbers are related so, among the nodes of a trace.
abbrev pub related : (List Node → Node → Node → Bool) → List Entry → ℕ → ℕ → Bool
related test t m n =
    let ns = nodes (order t) in
    holds (slice_get (reverse ns) m) (λ x. holds (slice_get (reverse ns) n) (test ns x))

-- Whether the read of byte 0 of buffer 1 by one node has seen the write by another.
abbrev pub seen_byte : List Node → Node → Node → Bool
seen_byte ns w a = seen (λ b. false) ns w a Read (in_buffer 1 0)

-- ---- what may run next

-- Fills of one buffer on queue 0, with a barrier between, and of another on queue 1: nodes 3, 5 and 7.
abbrev pub three_fills : List Entry
three_fills = buffer_entry 1 16 both sharing.Exclusive (place.Dedicated 1) ∷ buffer_entry 2 16 both sharing.Exclusive (place.Dedicated 1)
    ∷ entry.Submit 0 (batch [] (cmd.Fill 1 0 (bytes 16) 1
    ∷ cmd.Barrier (element.Memory (dependency transfer transfer_write transfer transfer_write) ∷ [])
    ∷ cmd.Fill 1 0 (bytes 16) 2 ∷ []) [] ∷ [])
    ∷ entry.Submit 1 (batch [] (cmd.Fill 2 0 (bytes 16) 3 ∷ []) [] ∷ [])
    ∷ []

-- The pieces that are offered when some have run.
abbrev pub offers : List Name → List Name
offers done = offered (order three_fills) done

-- ---- what a scheduler is asked

-- Two fills and a barrier to the host, and a wait for both.
abbrev pub two_fills : List Entry
two_fills = buffer_entry 1 16 both sharing.Exclusive (place.Dedicated 1) ∷ entry.Semaphore 2 0
    ∷ entry.Submit 0 (batch [] (cmd.Fill 1 0 (bytes 8) 67305985 ∷ cmd.Fill 1 8 (bytes 8) 134678021 ∷ to_host) (submit_info 2 1 all_commands ∷ []) ∷ [])
    ∷ entry.Wait (semaphore_value 2 1 ∷ []) ∷ []

-- A scheduler that answers by the number of options, and holds those numbers, the newest first.
abbrev pub picked : (ℕ → ℕ) → List Entry → Picked
picked answer t = trace_picks (λ held n. answer n) (λ held n. n ∷ held) (λ e. 0) None (start t) [] t

-- The same on a device where this entry finds no room.
abbrev pub picked_until : ℕ → (ℕ → ℕ) → List Entry → Picked
picked_until n answer t = trace_picks (λ held n. answer n) (λ held n. n ∷ held) (λ e. 0) (Some n) (start t) [] t

-- The same on a device where the pass that begins at entry 3 has this many parts.
abbrev pub picked_with_parts : ℕ → (ℕ → ℕ) → List Entry → Picked
picked_with_parts parts answer t = trace_picks (λ held n. answer n) (λ held n. n ∷ held) (λ e. if e == 3 then parts else 0) None (start t) [] t

-- The first option.
abbrev pub the_first : ℕ → ℕ
the_first n = 0

-- The last option.
abbrev pub the_last : ℕ → ℕ
the_last n = n - 1

-- Two fills, and then a buffer of a whole heap.
abbrev pub fills_and_buffer : List Entry
fills_and_buffer = take 3 two_fills ++ buffer_entry 3 4194304 both sharing.Exclusive (place.Dedicated 1) ∷ []

-- A pass of a pool with one buffer.
abbrev pub small_pass : List Entry
small_pass = pool_entry 1 algorithm.Tlsf 1 4096 1 ∷ buffer_entry 2 16 both sharing.Exclusive (place.Pool 1) ∷ entry.Defrag 3 1 0 0 ∷ entry.Pass 3 ∷ entry.EndPass 3 [] [] ∷ []

-- A buffer in cached memory that the host writes and invalidates.
abbrev pub cached_write : List Entry
cached_write = buffer_entry 1 128 both sharing.Exclusive (place.Dedicated 2) ∷ entry.Map 1 ∷ entry.Write 1 0 (170 ∷ []) ∷ entry.Invalidate 1 0 (bytes 1) ∷ []

-- Two fills of the same bytes, with a barrier that names no access.
abbrev pub ordered_fills : List Entry
ordered_fills = buffer_entry 1 16 both sharing.Exclusive (place.Dedicated 1)
    ∷ entry.Submit 0 (batch [] (cmd.Fill 1 0 (bytes 16) 1
    ∷ cmd.Barrier (element.Memory (dependency transfer 0 transfer 0) ∷ [])
    ∷ cmd.Fill 1 0 (bytes 16) 2 ∷ []) [] ∷ [])
    ∷ []

-- Pieces, order, what may run next, and picks.
pub record Work : Type 0 where
  -- The points of a fill, a barrier, a signal, a wait, a map and a read, in order.
  pub points : map at_of (reverse (order (upload to_host)))
      ≡ at.Entry 0 ∷ at.Entry 1 ∷ at.Entry 2 ∷ at.Command 2 0 0 ∷ at.Command 2 0 1 ∷ at.Signal 2 0 0 ∷ at.Entry 3 ∷ at.Entry 4 ∷ at.Entry 5 ∷ []
  -- A buffer of 5,000 bytes asks for 5,008, at a multiple of 16.
  pub asked_size : option_map (λ r. r.size) (resource (order large_buffer) 1) ≡ Some 5008
  pub asked_align : option_map (λ r. r.align) (resource (order large_buffer) 1) ≡ Some 16
  -- A fill to the end of 5,000 bytes from byte 2 on writes 4,996.
  pub moves_to_end : length (byte_writes (order large_buffer) (cmd.Fill 1 2 to_end 7)) ≡ 4996
  -- An order without a memory dependency doesn't make a write after a write right.
  pub no_memory_dependency : first_fault ordered_fills ≡ Some (at.Command 1 0 2, rule.HazardWaw)
  -- A fill of 5,000 bytes has a piece of 4,096 and one of 904.
  pub fill_pieces : piece_sizes large_buffer (cmd.Fill 1 0 (bytes 5000) 7) ≡ 4096 ∷ 904 ∷ []
  -- After the transition level 0 is in TRANSFER_DST_OPTIMAL, level 1 in UNDEFINED.
  pub level_0 : (world (order two_levels)).layout 1 0 0 ≡ destination_optimal
  pub level_1 : (world (order two_levels)).layout 1 1 0 ≡ undefined
  -- An image of 9 by 5 texels of two bytes takes 256 bytes in tiles, and 320 in rows of 64.
  pub tiled_size : image_size (nine_by_five kind.Optimal) kind.Optimal ≡ 256
  pub linear_size : image_size (nine_by_five kind.Linear) kind.Linear ≡ 320
  pub linear_pitch : row_pitch (nine_by_five kind.Linear) ≡ 64
  -- The fill comes before the host's read, by which it is seen.
  pub fill_before_read : related before (upload to_host) 3 8 ≡ true
  pub read_seen_fill : related seen_byte (upload to_host) 3 8 ≡ true
  -- Without the barrier it comes before the read all the same, by which it isn't seen.
  pub still_before : related before (upload []) 3 7 ≡ true
  pub not_seen : related seen_byte (upload []) 3 7 ≡ false
  -- The fill is ordered directly before the signal.
  pub fill_to_signal : related edge (upload to_host) 3 5 ≡ true
  -- The fill after the barrier waits for the first one; that on the other queue doesn't.
  pub at_first : offers [] ≡ (3, 0) ∷ (7, 0) ∷ []
  pub then_the_second : offers ((3, 0) ∷ []) ≡ (5, 0) ∷ (7, 0) ∷ []
  -- Before the wait both fills are two options once; after that one is left, and then the wait. After each fill it is asked what four caches do.
  pub asked_once : (picked the_first two_fills).held ≡ 4 ∷ 4 ∷ 4 ∷ 4 ∷ 4 ∷ 4 ∷ 4 ∷ 4 ∷ 2 ∷ []
  pub in_order : (picked the_first two_fills).steps ≡ Apply [] 0 ∷ Apply [] 0 ∷ Apply [] 0 ∷ RunPiece (3, 0) ∷ RunPiece (4, 0) ∷ Apply [] 0 ∷ []
  pub last_first : (picked the_last two_fills).steps ≡ Apply [] 0 ∷ Apply [] 0 ∷ Apply [] 0 ∷ RunPiece (4, 0) ∷ RunPiece (3, 0) ∷ Apply [] 0 ∷ []
  -- Both orders of the fills are allowed runs.
  pub runs_in_order : Allowed (start two_fills) (Apply [] 0 ∷ Apply [] 0 ∷ Apply [] 0 ∷ RunPiece (3, 0) ∷ RunPiece (4, 0) ∷ Apply [] 0 ∷ []) (picked the_first two_fills).stage
  pub runs_last_first : Allowed (start two_fills) (Apply [] 0 ∷ Apply [] 0 ∷ Apply [] 0 ∷ RunPiece (4, 0) ∷ RunPiece (3, 0) ∷ Apply [] 0 ∷ []) (picked the_last two_fills).stage
  -- Both atoms are touched at each host access by the last answer, and none by the first.
  pub atoms_touched : (picked the_last cached_write).steps ≡ Apply [] 0 ∷ Apply [] 0 ∷ Apply (0 ∷ 1 ∷ []) 0 ∷ Apply (0 ∷ 1 ∷ []) 0 ∷ []
  pub no_atom_touched : (picked the_first cached_write).steps ≡ Apply [] 0 ∷ Apply [] 0 ∷ Apply [] 0 ∷ Apply [] 0 ∷ []
  -- Where the buffer finds no room the scheduler has picked it all the same: last by the first answer, at once by the last.
  pub picked_then_stopped : (picked_until 3 the_first fills_and_buffer).steps ≡ Apply [] 0 ∷ Apply [] 0 ∷ Apply [] 0 ∷ RunPiece (3, 0) ∷ RunPiece (4, 0) ∷ []
  pub stopped_at_once : (picked_until 3 the_last fills_and_buffer).steps ≡ Apply [] 0 ∷ Apply [] 0 ∷ Apply [] 0 ∷ []
  pub asked_of_three : (picked_until 3 the_last fills_and_buffer).held ≡ 3 ∷ []
  -- A pass may have two parts to copy, in any order, until it ends.
  pub copied_in_order : (e : Stage) × Allowed (start small_pass) (Apply [] 0 ∷ Apply [] 0 ∷ Apply [] 0 ∷ Apply [] 2 ∷ CopyPart 0 ∷ CopyPart 1 ∷ Apply [] 0 ∷ []) e
  pub copied_last_first : (e : Stage) × Allowed (start small_pass) (Apply [] 0 ∷ Apply [] 0 ∷ Apply [] 0 ∷ Apply [] 2 ∷ CopyPart 1 ∷ CopyPart 0 ∷ Apply [] 0 ∷ []) e
  -- Of two parts both are offered, and the end of the pass.
  pub parts_offered : (picked_with_parts 2 the_first small_pass).steps ≡ Apply [] 0 ∷ Apply [] 0 ∷ Apply [] 0 ∷ Apply [] 2 ∷ CopyPart 0 ∷ CopyPart 1 ∷ Apply [] 0 ∷ []
  pub asked_of_parts : (picked_with_parts 2 the_first small_pass).held ≡ 2 ∷ 3 ∷ []
