-- Buffers that commands write and the host reads.
use Rattle.std.specs.Prelude.{◌+◌, List, [], ◌∷◌}
use Rattle.vk_model.specs.declared.rule.Rule.TheVariants as rule
use Rattle.vk_model.specs.declared.rule.At.TheVariants as at
use Rattle.vk_model.specs.declared.entry.Entry.{Entry}
use Rattle.vk_model.specs.declared.entry.Entry.TheVariants as entry
use Rattle.vk_model.specs.declared.resource.Sharing.TheVariants as sharing
use Rattle.vk_model.specs.declared.resource.Place.TheVariants as place
use Rattle.vk_model.specs.declared.command.Element.TheVariants as element
use Rattle.vk_model.specs.declared.command.Cmd.TheVariants as cmd
use Rattle.vk_rows.specs.Writing.{bytes, to_end, dependency, buffer_region, submit_info, semaphore_value, batch, buffer_entry, transfer, host, all_commands, transfer_read, transfer_write, host_read, source, destination, both}
use Rattle.vk_rows.specs.Claims.{Accepts, Refuses}

-- The example of the page of definitions: a buffer is filled on a queue, and the host reads it.
abbrev pub the_example : List Entry
the_example =
    buffer_entry 1 16 both sharing.Exclusive (place.Dedicated 1)
    ∷ entry.Semaphore 2 0
    ∷ entry.Submit 0 (batch []
    (cmd.Fill 1 0 (bytes 16) 67305985
    ∷ cmd.Barrier (element.Memory (dependency transfer transfer_write host host_read) ∷ []) ∷ [])
    (submit_info 2 1 all_commands ∷ []) ∷ [])
    ∷ entry.Wait (semaphore_value 2 1 ∷ [])
    ∷ entry.Map 1
    ∷ entry.Read 1 0 4
    ∷ []

-- Buffers that commands write and the host reads: what each trace reads, or its first fault.
pub record Uploads : Type 0 where
  -- An empty trace reads nothing.
  pub nothing : Accepts [] []
  -- A fill, a barrier to the host, a signal and a wait: the host reads the word, its lowest byte first.
  pub fill_and_read : Accepts the_example ((5, 1 ∷ 2 ∷ 3 ∷ 4 ∷ []) ∷ [])
  -- Without the barrier the wait alone doesn't make the write visible to the host.
  pub no_barrier : Refuses
      (buffer_entry 1 16 both sharing.Exclusive (place.Dedicated 1)
      ∷ entry.Semaphore 2 0
      ∷ entry.Submit 0 (batch [] (cmd.Fill 1 0 (bytes 16) 67305985 ∷ []) (submit_info 2 1 all_commands ∷ []) ∷ [])
      ∷ entry.Wait (semaphore_value 2 1 ∷ [])
      ∷ entry.Map 1
      ∷ entry.Read 1 0 4
      ∷ []) (at.Entry 5) rule.HazardRaw
  -- A buffer is destroyed while the fill isn't known complete.
  pub destroyed_too_early : Refuses
      (buffer_entry 1 16 both sharing.Exclusive (place.Dedicated 1)
      ∷ entry.Semaphore 2 0
      ∷ entry.Submit 0 (batch []
      (cmd.Fill 1 0 (bytes 16) 67305985
      ∷ cmd.Barrier (element.Memory (dependency transfer transfer_write host host_read) ∷ []) ∷ [])
      (submit_info 2 1 all_commands ∷ []) ∷ [])
      ∷ entry.Destroy 1
      ∷ entry.Map 1
      ∷ entry.Read 1 0 4
      ∷ []) (at.Entry 3) rule.InUse
  -- Two fills of the same bytes have no order of their own.
  pub filled_twice : Refuses
      (buffer_entry 1 16 both sharing.Exclusive (place.Dedicated 1)
      ∷ entry.Semaphore 2 0
      ∷ entry.Submit 0 (batch []
      (cmd.Fill 1 0 (bytes 16) 67305985
      ∷ cmd.Fill 1 0 (bytes 16) 67305985
      ∷ cmd.Barrier (element.Memory (dependency transfer transfer_write host host_read) ∷ []) ∷ [])
      (submit_info 2 1 all_commands ∷ []) ∷ [])
      ∷ entry.Wait (semaphore_value 2 1 ∷ [])
      ∷ entry.Map 1
      ∷ entry.Read 1 0 4
      ∷ []) (at.Command 2 0 1) rule.HazardWaw
  -- TRANSFER makes no host reads.
  pub wrong_source_access : Refuses
      (buffer_entry 1 16 both sharing.Exclusive (place.Dedicated 1)
      ∷ entry.Semaphore 2 0
      ∷ entry.Submit 0 (batch []
      (cmd.Fill 1 0 (bytes 16) 67305985
      ∷ cmd.Barrier (element.Memory (dependency transfer host_read host host_read) ∷ []) ∷ [])
      (submit_info 2 1 all_commands ∷ []) ∷ [])
      ∷ entry.Wait (semaphore_value 2 1 ∷ [])
      ∷ entry.Map 1
      ∷ entry.Read 1 0 4
      ∷ []) (at.Command 2 0 1) rule.Stage
  -- Two fills of different bytes need no order.
  pub two_fills : Accepts
      (buffer_entry 1 16 both sharing.Exclusive (place.Dedicated 1)
      ∷ entry.Semaphore 2 0
      ∷ entry.Submit 0 (batch []
      (cmd.Fill 1 0 (bytes 8) 67305985
      ∷ cmd.Fill 1 8 (bytes 8) 134678021
      ∷ cmd.Barrier (element.Memory (dependency transfer transfer_write host host_read) ∷ []) ∷ [])
      (submit_info 2 1 all_commands ∷ []) ∷ [])
      ∷ entry.Wait (semaphore_value 2 1 ∷ [])
      ∷ entry.Map 1
      ∷ entry.Read 1 4 8
      ∷ []) ((5, 1 ∷ 2 ∷ 3 ∷ 4 ∷ 5 ∷ 6 ∷ 7 ∷ 8 ∷ []) ∷ [])
  -- Two fills with four bytes in common.
  pub fills_that_meet : Refuses
      (buffer_entry 1 16 both sharing.Exclusive (place.Dedicated 1)
      ∷ entry.Semaphore 2 0
      ∷ entry.Submit 0 (batch []
      (cmd.Fill 1 0 (bytes 8) 67305985
      ∷ cmd.Fill 1 4 (bytes 8) 134678021
      ∷ cmd.Barrier (element.Memory (dependency transfer transfer_write host host_read) ∷ []) ∷ [])
      (submit_info 2 1 all_commands ∷ []) ∷ [])
      ∷ entry.Wait (semaphore_value 2 1 ∷ [])
      ∷ entry.Map 1
      ∷ entry.Read 1 4 8
      ∷ []) (at.Command 2 0 1) rule.HazardWaw
  -- A copy within one buffer, after a barrier for reads and writes.
  pub copy_within : Accepts
      (buffer_entry 1 24 both sharing.Exclusive (place.Dedicated 1)
      ∷ entry.Semaphore 2 0
      ∷ entry.Submit 0 (batch []
      (cmd.Update 1 0 (1 ∷ 2 ∷ 3 ∷ 4 ∷ 5 ∷ 6 ∷ 7 ∷ 8 ∷ 9 ∷ 10 ∷ 11 ∷ 12 ∷ 13 ∷ 14 ∷ 15 ∷ 16 ∷ [])
      ∷ cmd.Barrier (element.Memory (dependency transfer transfer_write transfer (transfer_read + transfer_write)) ∷ [])
      ∷ cmd.Copy 1 1 ((buffer_region 0 8 8) ∷ [])
      ∷ cmd.Barrier (element.Memory (dependency transfer transfer_write host host_read) ∷ []) ∷ [])
      (submit_info 2 1 all_commands ∷ []) ∷ [])
      ∷ entry.Wait (semaphore_value 2 1 ∷ [])
      ∷ entry.Map 1
      ∷ entry.Read 1 8 8
      ∷ []) ((5, 1 ∷ 2 ∷ 3 ∷ 4 ∷ 5 ∷ 6 ∷ 7 ∷ 8 ∷ []) ∷ [])
  -- The destination meets the source.
  pub copy_onto_itself : Refuses
      (buffer_entry 1 24 both sharing.Exclusive (place.Dedicated 1)
      ∷ entry.Semaphore 2 0
      ∷ entry.Submit 0 (batch []
      (cmd.Update 1 0 (1 ∷ 2 ∷ 3 ∷ 4 ∷ 5 ∷ 6 ∷ 7 ∷ 8 ∷ 9 ∷ 10 ∷ 11 ∷ 12 ∷ 13 ∷ 14 ∷ 15 ∷ 16 ∷ [])
      ∷ cmd.Barrier (element.Memory (dependency transfer transfer_write transfer (transfer_read + transfer_write)) ∷ [])
      ∷ cmd.Copy 1 1 ((buffer_region 0 8 12) ∷ [])
      ∷ cmd.Barrier (element.Memory (dependency transfer transfer_write host host_read) ∷ []) ∷ [])
      (submit_info 2 1 all_commands ∷ []) ∷ [])
      ∷ entry.Wait (semaphore_value 2 1 ∷ [])
      ∷ entry.Map 1
      ∷ entry.Read 1 8 8
      ∷ []) (at.Command 2 0 2) rule.Overlap
  -- A fill of what a copy reads, without a barrier between.
  pub write_after_read : Refuses
      (buffer_entry 1 24 both sharing.Exclusive (place.Dedicated 1)
      ∷ entry.Semaphore 2 0
      ∷ entry.Submit 0 (batch []
      (cmd.Update 1 0 (1 ∷ 2 ∷ 3 ∷ 4 ∷ 5 ∷ 6 ∷ 7 ∷ 8 ∷ 9 ∷ 10 ∷ 11 ∷ 12 ∷ 13 ∷ 14 ∷ 15 ∷ 16 ∷ [])
      ∷ cmd.Barrier (element.Memory (dependency transfer transfer_write transfer (transfer_read + transfer_write)) ∷ [])
      ∷ cmd.Copy 1 1 ((buffer_region 0 8 8) ∷ [])
      ∷ cmd.Fill 1 0 (bytes 4) 0
      ∷ cmd.Barrier (element.Memory (dependency transfer transfer_write host host_read) ∷ []) ∷ [])
      (submit_info 2 1 all_commands ∷ []) ∷ [])
      ∷ entry.Wait (semaphore_value 2 1 ∷ [])
      ∷ entry.Map 1
      ∷ entry.Read 1 8 8
      ∷ []) (at.Command 2 0 3) rule.HazardWar
  -- A fill to the end of 18 bytes writes 16.
  pub fill_to_the_end : Accepts
      (buffer_entry 1 18 both sharing.Exclusive (place.Dedicated 1)
      ∷ entry.Semaphore 2 0
      ∷ entry.Submit 0 (batch []
      (cmd.Fill 1 0 to_end 67305985
      ∷ cmd.Barrier (element.Memory (dependency transfer transfer_write host host_read) ∷ []) ∷ [])
      (submit_info 2 1 all_commands ∷ []) ∷ [])
      ∷ entry.Wait (semaphore_value 2 1 ∷ [])
      ∷ entry.Map 1
      ∷ entry.Read 1 12 4
      ∷ []) ((5, 1 ∷ 2 ∷ 3 ∷ 4 ∷ []) ∷ [])
  -- And leaves two undefined.
  pub unfilled_rest : Refuses
      (buffer_entry 1 18 both sharing.Exclusive (place.Dedicated 1)
      ∷ entry.Semaphore 2 0
      ∷ entry.Submit 0 (batch []
      (cmd.Fill 1 0 to_end 67305985
      ∷ cmd.Barrier (element.Memory (dependency transfer transfer_write host host_read) ∷ []) ∷ [])
      (submit_info 2 1 all_commands ∷ []) ∷ [])
      ∷ entry.Wait (semaphore_value 2 1 ∷ [])
      ∷ entry.Map 1
      ∷ entry.Read 1 12 5
      ∷ []) (at.Entry 5) rule.ReadUndefined
  -- What the host wrote to cached memory isn't seen before a flush.
  pub no_flush : Refuses
      (buffer_entry 1 16 source sharing.Exclusive (place.Dedicated 2)
      ∷ buffer_entry 2 16 destination sharing.Exclusive (place.Dedicated 1)
      ∷ entry.Semaphore 3 0
      ∷ entry.Map 1
      ∷ entry.Write 1 0 (10 ∷ 11 ∷ 12 ∷ 13 ∷ [])
      ∷ entry.Submit 0 (batch []
      (cmd.Copy 1 2 ((buffer_region 0 0 4) ∷ [])
      ∷ cmd.Barrier (element.Memory (dependency transfer transfer_write host host_read) ∷ []) ∷ [])
      (submit_info 3 1 all_commands ∷ []) ∷ [])
      ∷ entry.Wait (semaphore_value 3 1 ∷ [])
      ∷ entry.Map 2
      ∷ entry.Read 2 0 4
      ∷ []) (at.Command 5 0 0) rule.HazardRaw
  -- After the flush the submit makes it visible.
  pub flushed : Accepts
      (buffer_entry 1 16 source sharing.Exclusive (place.Dedicated 2)
      ∷ buffer_entry 2 16 destination sharing.Exclusive (place.Dedicated 1)
      ∷ entry.Semaphore 3 0
      ∷ entry.Map 1
      ∷ entry.Write 1 0 (10 ∷ 11 ∷ 12 ∷ 13 ∷ [])
      ∷ entry.Flush 1 0 (bytes 4)
      ∷ entry.Submit 0 (batch []
      (cmd.Copy 1 2 ((buffer_region 0 0 4) ∷ [])
      ∷ cmd.Barrier (element.Memory (dependency transfer transfer_write host host_read) ∷ []) ∷ [])
      (submit_info 3 1 all_commands ∷ []) ∷ [])
      ∷ entry.Wait (semaphore_value 3 1 ∷ [])
      ∷ entry.Map 2
      ∷ entry.Read 2 0 4
      ∷ []) ((9, 10 ∷ 11 ∷ 12 ∷ 13 ∷ []) ∷ [])
  -- An invalidation of one atom loses what wasn't flushed there, and nothing in the next atom.
  pub lost_neighbour : Accepts
      (buffer_entry 1 128 source sharing.Exclusive (place.Dedicated 2)
      ∷ entry.Map 1
      ∷ entry.Write 1 0 (170 ∷ [])
      ∷ entry.Write 1 64 (187 ∷ [])
      ∷ entry.Invalidate 1 0 (bytes 1)
      ∷ entry.Read 1 64 1
      ∷ []) ((5, 187 ∷ []) ∷ [])
  -- The lost byte is undefined.
  pub lost_byte : Refuses
      (buffer_entry 1 128 source sharing.Exclusive (place.Dedicated 2)
      ∷ entry.Map 1
      ∷ entry.Write 1 0 (170 ∷ [])
      ∷ entry.Write 1 64 (187 ∷ [])
      ∷ entry.Invalidate 1 0 (bytes 1)
      ∷ entry.Read 1 64 1
      ∷ entry.Read 1 0 1
      ∷ []) (at.Entry 6) rule.ReadUndefined
