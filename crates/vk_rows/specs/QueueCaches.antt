-- Runs through caches: what memory and caches hold of a byte, step by step.
use Rattle.std.specs.Prelude.{◌≡◌, ℕ, List, [], ◌∷◌, ◌++◌, map, true, Option, Some, None}
use Rattle.vk_model.specs.declared.entry.Entry.{Entry}
use Rattle.vk_model.specs.declared.entry.Entry.TheVariants as entry
use Rattle.vk_model.specs.declared.command.Cmd.TheVariants as cmd
use Rattle.vk_model.specs.declared.command.Element.TheVariants as element
use Rattle.vk_model.specs.declared.resource.Place.TheVariants as place
use Rattle.vk_model.specs.declared.resource.Sharing.TheVariants as sharing
use Rattle.vk_model.specs.World.Bytes.{in_buffer}
use Rattle.vk_model.specs.Run.Runs.{Apply, RunPiece}
use Rattle.vk_model.specs.Run.Caches.{Cell, Held, Clean, Dirty, view, written_back, dropped, loaded, forgotten, with_write}
use Rattle.vk_model.specs.Run.CachedRuns.{CachedStep, Does, Touches, Load, CachedStage, CachedAllowed, cached_start}
use Rattle.vk_rows.specs.Writing.{bytes, dependency, buffer_region, submit_info, semaphore_value, batch, buffer_entry, transfer, host, all_commands, transfer_read, transfer_write, host_read, both, destination}
use Rattle.vk_rows.specs.Work.{two_fills}

-- A run of a trace through caches, from memory that holds 205 everywhere, leads to a stage of which this holds.
abbrev pub Leads : List Entry → List CachedStep → (CachedStage → Type 0) → Type 0
Leads t steps Holds = (e : CachedStage) × CachedAllowed (cached_start t (λ c. 205)) steps e × Holds e

-- Entries, of which none touches an atom.
abbrev pub entries : List ℕ → List CachedStep
entries es = map (λ e. Does (Apply [] 0) []) es

-- The first piece of a node.
abbrev pub piece : ℕ → CachedStep
piece n = Does (RunPiece (n, 0)) []

-- What memory has of byte 0 of a buffer.
abbrev pub in_memory : ℕ → CachedStage → ℕ
in_memory b s = (s.cells (in_buffer b 0)).region

-- What an agent's cache holds of it: the host's for agent 0, or that of queue k for agent k + 1.
abbrev pub in_cache : ℕ → ℕ → CachedStage → Option Held
in_cache a b s = (s.cells (in_buffer b 0)).held a

-- A fill with a barrier from writes to reads behind it, on queue 0.
abbrev pub fill_and_barrier : List Entry
fill_and_barrier = buffer_entry 1 16 both sharing.Exclusive (place.Dedicated 1)
    ∷ entry.Submit 0 (batch [] (cmd.Fill 1 0 (bytes 16) 67305985 ∷ cmd.Barrier (element.Memory (dependency transfer transfer_write transfer transfer_read) ∷ []) ∷ []) [] ∷ [])
    ∷ []

-- A copy on queue 2 that waits for a fill on queue 0, which is submitted later.
abbrev pub copy_waits : List Entry
copy_waits = buffer_entry 1 16 both sharing.Concurrent (place.Dedicated 1)
    ∷ buffer_entry 3 16 destination sharing.Concurrent (place.Dedicated 1)
    ∷ entry.Semaphore 2 0
    ∷ entry.Submit 2 (batch (submit_info 2 1 all_commands ∷ [])
    (cmd.Copy 1 3 (buffer_region 0 0 16 ∷ [])
    ∷ cmd.Barrier (element.Memory (dependency transfer transfer_write host host_read) ∷ []) ∷ [])
    (submit_info 2 2 all_commands ∷ []) ∷ [])
    ∷ entry.Submit 0 (batch [] (cmd.Fill 1 0 (bytes 16) 67305985 ∷ []) (submit_info 2 1 all_commands ∷ []) ∷ [])
    ∷ entry.Wait (semaphore_value 2 2 ∷ [])
    ∷ []

-- A buffer in cached memory that the host writes.
abbrev pub host_write : List Entry
host_write = buffer_entry 1 128 both sharing.Exclusive (place.Dedicated 2) ∷ entry.Map 1 ∷ entry.Write 1 0 (170 ∷ []) ∷ []

-- A byte of memory that holds 205, of which queue 0's cache holds a write of 1.
abbrev pub one_byte : Cell
one_byte = with_write 1 1 (record { region = 205; held = λ a. None })

-- A byte whose memory becomes v.
abbrev pub with_region : ℕ → Cell → Cell
with_region v cell = record cell { region = v }

-- Runs through caches.
pub record QueueCaches : Type 0 where
  -- A fill is dirty in its queue's cache, and memory is as it was.
  pub first_fill : Leads two_fills (entries (0 ∷ 1 ∷ 2 ∷ []) ++ piece 3 ∷ []) (λ s. (in_memory 1 s ≡ 205) × (in_cache 1 1 s ≡ Some (Dirty 1)))
  -- When the second has run as well, the barrier behind both happens: it writes both back, and drops them, though it makes them visible to the host alone.
  pub second_fill : Leads two_fills (entries (0 ∷ 1 ∷ 2 ∷ []) ++ piece 3 ∷ piece 4 ∷ []) (λ s. (in_memory 1 s ≡ 1) × (in_cache 1 1 s ≡ None))
  pub other_order : Leads two_fills (entries (0 ∷ 1 ∷ 2 ∷ []) ++ piece 4 ∷ piece 3 ∷ []) (λ s. (in_memory 1 s ≡ 1) × (in_cache 1 1 s ≡ None))
  -- A barrier writes back what it makes available, and then drops it where it makes it visible.
  pub written_then_dropped : Leads fill_and_barrier (entries (0 ∷ 1 ∷ []) ++ piece 2 ∷ []) (λ s. (in_memory 1 s ≡ 1) × (in_cache 1 1 s ≡ None))
  -- Queue 2 holds an old copy when the fill runs; the batch's wait drops it, so the copy reads the fill.
  pub old_copy : Leads copy_waits (entries (0 ∷ 1 ∷ 2 ∷ 3 ∷ 4 ∷ []) ++ Touches Load 2 (λ c. true) ∷ []) (λ s. in_cache 3 1 s ≡ Some (Clean 205))
  pub dropped_by_wait : Leads copy_waits (entries (0 ∷ 1 ∷ 2 ∷ 3 ∷ 4 ∷ []) ++ Touches Load 2 (λ c. true) ∷ piece 5 ∷ []) (λ s. (in_memory 1 s ≡ 1) × (in_cache 3 1 s ≡ None))
  pub copied : Leads copy_waits (entries (0 ∷ 1 ∷ 2 ∷ 3 ∷ 4 ∷ []) ++ Touches Load 2 (λ c. true) ∷ piece 5 ∷ piece 8 ∷ entries (5 ∷ [])) (λ s. in_memory 3 s ≡ 1)
  -- The host's write stays in its cache until it is flushed.
  pub unflushed : Leads host_write (entries (0 ∷ 1 ∷ 2 ∷ [])) (λ s. (in_memory 1 s ≡ 205) × (view 0 (s.cells (in_buffer 1 0)) ≡ 170))
  pub flushed : Leads (host_write ++ entry.Flush 1 0 (bytes 1) ∷ []) (entries (0 ∷ 1 ∷ 2 ∷ 3 ∷ [])) (λ s. in_memory 1 s ≡ 170)
  -- An invalidation forgets it.
  pub invalidated : Leads (host_write ++ entry.Invalidate 1 0 (bytes 1) ∷ []) (entries (0 ∷ 1 ∷ 2 ∷ 3 ∷ [])) (λ s. view 0 (s.cells (in_buffer 1 0)) ≡ 205)
  -- Before an access its atom may be taken up, or written back and given back.
  pub atom_loaded : Leads host_write (entries (0 ∷ 1 ∷ []) ++ Does (Apply (0 ∷ 1 ∷ []) 0) [] ∷ []) (λ s. (s.cells (in_buffer 1 64)).held 0 ≡ Some (Clean 205))
  pub atom_written_back : Leads (host_write ++ entry.Invalidate 1 0 (bytes 1) ∷ []) (entries (0 ∷ 1 ∷ 2 ∷ []) ++ Does (Apply (0 ∷ []) 0) [] ∷ []) (λ s. in_memory 1 s ≡ 170)
  -- One byte: it is dirty; written back; a copy stays when memory changes; dropped; loaded; forgotten.
  pub dirty : (one_byte.region ≡ 205) × (view 1 one_byte ≡ 1)
  pub back : (written_back 1 one_byte).region ≡ 1
  pub stale : view 1 (with_region 9 (written_back 1 one_byte)) ≡ 1
  pub fresh : view 1 (dropped 1 (with_region 9 (written_back 1 one_byte))) ≡ 9
  pub kept : view 1 (with_region 10 (loaded 1 (dropped 1 (with_region 9 (written_back 1 one_byte))))) ≡ 9
  pub gone : view 1 (forgotten 1 (with_region 10 (loaded 1 (dropped 1 (with_region 9 (written_back 1 one_byte)))))) ≡ 10
