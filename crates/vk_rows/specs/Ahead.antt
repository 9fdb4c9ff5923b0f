-- Commands inside a pass, and waits ahead of their signals.
use Rattle.std.specs.Prelude.{[], ◌∷◌}
use Rattle.vk_model.specs.declared.rule.Rule.TheVariants as rule
use Rattle.vk_model.specs.declared.rule.At.TheVariants as at
use Rattle.vk_model.specs.declared.entry.Entry.TheVariants as entry
use Rattle.vk_model.specs.declared.resource.Sharing.TheVariants as sharing
use Rattle.vk_model.specs.declared.resource.Place.TheVariants as place
use Rattle.vk_model.specs.declared.resource.PoolKind.TheVariants as algorithm
use Rattle.vk_model.specs.declared.command.Element.TheVariants as element
use Rattle.vk_model.specs.declared.command.Cmd.TheVariants as cmd
use Rattle.vk_rows.specs.Writing.{bytes, dependency, buffer_region, submit_info, semaphore_value, batch, buffer_entry, pool_entry, transfer, host, all_commands, transfer_write, host_read, destination, both}
use Rattle.vk_rows.specs.Claims.{Accepts, Refuses}

-- Commands inside a pass, and waits ahead of their signals: what each trace reads, or its first fault.
pub record Ahead : Type 0 where
  -- A copy from a resource that moves, inside the pass.
  pub copy_inside_pass : Accepts
      (pool_entry 1 algorithm.Tlsf 1 4096 2
      ∷ buffer_entry 2 16 both sharing.Exclusive (place.Pool 1)
      ∷ buffer_entry 3 16 destination sharing.Exclusive (place.Dedicated 1)
      ∷ entry.Semaphore 4 0
      ∷ entry.Map 2
      ∷ entry.Write 2 0 (1 ∷ 2 ∷ 3 ∷ 4 ∷ [])
      ∷ entry.Defrag 5 1 0 0
      ∷ entry.Pass 5
      ∷ entry.Submit 0 (batch []
      (cmd.Copy 2 3 ((buffer_region 0 0 4) ∷ [])
      ∷ cmd.Barrier (element.Memory (dependency transfer transfer_write host host_read) ∷ []) ∷ [])
      (submit_info 4 1 all_commands ∷ []) ∷ [])
      ∷ entry.Wait (semaphore_value 4 1 ∷ [])
      ∷ entry.EndPass 5 [] []
      ∷ entry.Map 3
      ∷ entry.Read 3 0 4
      ∷ []) ((12, 1 ∷ 2 ∷ 3 ∷ 4 ∷ []) ∷ [])
  -- A fill of a resource that moves.
  pub fill_inside_pass : Refuses
      (pool_entry 1 algorithm.Tlsf 1 4096 2
      ∷ buffer_entry 2 16 both sharing.Exclusive (place.Pool 1)
      ∷ buffer_entry 3 16 destination sharing.Exclusive (place.Dedicated 1)
      ∷ entry.Semaphore 4 0
      ∷ entry.Map 2
      ∷ entry.Write 2 0 (1 ∷ 2 ∷ 3 ∷ 4 ∷ [])
      ∷ entry.Defrag 5 1 0 0
      ∷ entry.Pass 5
      ∷ entry.Submit 0 (batch []
      (cmd.Fill 2 0 (bytes 4) 0
      ∷ cmd.Barrier (element.Memory (dependency transfer transfer_write host host_read) ∷ []) ∷ [])
      (submit_info 4 1 all_commands ∷ []) ∷ [])
      ∷ entry.Wait (semaphore_value 4 1 ∷ [])
      ∷ entry.EndPass 5 [] []
      ∷ entry.Map 3
      ∷ entry.Read 3 0 4
      ∷ []) (at.Command 8 0 0) rule.PassWrite
  -- The pass ends before the copy is known complete.
  pub pass_ends_early : Refuses
      (pool_entry 1 algorithm.Tlsf 1 4096 2
      ∷ buffer_entry 2 16 both sharing.Exclusive (place.Pool 1)
      ∷ buffer_entry 3 16 destination sharing.Exclusive (place.Dedicated 1)
      ∷ entry.Semaphore 4 0
      ∷ entry.Map 2
      ∷ entry.Write 2 0 (1 ∷ 2 ∷ 3 ∷ 4 ∷ [])
      ∷ entry.Defrag 5 1 0 0
      ∷ entry.Pass 5
      ∷ entry.Submit 0 (batch []
      (cmd.Copy 2 3 ((buffer_region 0 0 4) ∷ [])
      ∷ cmd.Barrier (element.Memory (dependency transfer transfer_write host host_read) ∷ []) ∷ [])
      (submit_info 4 1 all_commands ∷ []) ∷ [])
      ∷ entry.EndPass 5 [] []
      ∷ entry.Map 3
      ∷ entry.Read 3 0 4
      ∷ []) (at.Entry 9) rule.PassBusy
  -- A copy of the last bytes of a resource that moves in two parts.
  pub copy_of_the_end : Accepts
      (pool_entry 1 algorithm.Tlsf 1 65536 1
      ∷ buffer_entry 9 8192 both sharing.Exclusive (place.Pool 1)
      ∷ buffer_entry 2 8192 both sharing.Exclusive (place.Pool 1)
      ∷ buffer_entry 3 16 destination sharing.Exclusive (place.Dedicated 1)
      ∷ entry.Semaphore 4 0
      ∷ entry.Map 2
      ∷ entry.Write 2 8188 (1 ∷ 2 ∷ 3 ∷ 4 ∷ [])
      ∷ entry.Destroy 9
      ∷ entry.Defrag 5 1 0 0
      ∷ entry.Pass 5
      ∷ entry.Submit 0 (batch []
      (cmd.Copy 2 3 ((buffer_region 8188 0 4) ∷ [])
      ∷ cmd.Barrier (element.Memory (dependency transfer transfer_write host host_read) ∷ []) ∷ [])
      (submit_info 4 1 all_commands ∷ []) ∷ [])
      ∷ entry.Wait (semaphore_value 4 1 ∷ [])
      ∷ entry.EndPass 5 [] []
      ∷ entry.Map 3
      ∷ entry.Read 3 0 4
      ∷ entry.Read 2 8188 4
      ∷ []) ((14, 1 ∷ 2 ∷ 3 ∷ 4 ∷ []) ∷ (15, 1 ∷ 2 ∷ 3 ∷ 4 ∷ []) ∷ [])
  -- A mapped resource is destroyed inside the pass.
  pub mapped_inside_pass : Refuses
      (pool_entry 1 algorithm.Tlsf 1 65536 1
      ∷ buffer_entry 9 8192 both sharing.Exclusive (place.Pool 1)
      ∷ buffer_entry 2 8192 both sharing.Exclusive (place.Pool 1)
      ∷ buffer_entry 3 16 destination sharing.Exclusive (place.Dedicated 1)
      ∷ entry.Semaphore 4 0
      ∷ entry.Map 2
      ∷ entry.Write 2 8188 (1 ∷ 2 ∷ 3 ∷ 4 ∷ [])
      ∷ entry.Destroy 9
      ∷ entry.Defrag 5 1 0 0
      ∷ entry.Pass 5
      ∷ entry.Submit 0 (batch []
      (cmd.Copy 2 3 ((buffer_region 8188 0 4) ∷ [])
      ∷ cmd.Barrier (element.Memory (dependency transfer transfer_write host host_read) ∷ []) ∷ [])
      (submit_info 4 1 all_commands ∷ []) ∷ [])
      ∷ entry.Destroy 2
      ∷ entry.EndPass 5 [] []
      ∷ entry.Map 3
      ∷ entry.Read 3 0 4
      ∷ entry.Read 2 8188 4
      ∷ []) (at.Entry 11) rule.MapState
  -- A resource of the pool is destroyed inside the pass.
  pub destroyed_inside_pass : Refuses
      (pool_entry 1 algorithm.Tlsf 1 65536 1
      ∷ buffer_entry 9 8192 both sharing.Exclusive (place.Pool 1)
      ∷ buffer_entry 2 8192 both sharing.Exclusive (place.Pool 1)
      ∷ buffer_entry 3 16 destination sharing.Exclusive (place.Dedicated 1)
      ∷ entry.Semaphore 4 0
      ∷ entry.Map 2
      ∷ entry.Write 2 8188 (1 ∷ 2 ∷ 3 ∷ 4 ∷ [])
      ∷ entry.Destroy 9
      ∷ entry.Defrag 5 1 0 0
      ∷ entry.Pass 5
      ∷ entry.Submit 0 (batch []
      (cmd.Copy 2 3 ((buffer_region 8188 0 4) ∷ [])
      ∷ cmd.Barrier (element.Memory (dependency transfer transfer_write host host_read) ∷ []) ∷ [])
      (submit_info 4 1 all_commands ∷ []) ∷ [])
      ∷ entry.Unmap 2
      ∷ entry.Destroy 2
      ∷ entry.EndPass 5 [] []
      ∷ entry.Map 3
      ∷ entry.Read 3 0 4
      ∷ entry.Read 2 8188 4
      ∷ []) (at.Entry 12) rule.PassState
  -- A batch that was submitted before the one it waits for is started after it.
  pub wait_ahead : Accepts
      (buffer_entry 1 16 both sharing.Concurrent (place.Dedicated 1)
      ∷ buffer_entry 3 16 destination sharing.Concurrent (place.Dedicated 1)
      ∷ entry.Semaphore 2 0
      ∷ entry.Submit 2 (batch (submit_info 2 1 all_commands ∷ [])
      (cmd.Copy 1 3 ((buffer_region 0 0 16) ∷ [])
      ∷ cmd.Barrier (element.Memory (dependency transfer transfer_write host host_read) ∷ []) ∷ [])
      (submit_info 2 2 all_commands ∷ []) ∷ [])
      ∷ entry.Submit 0 (batch [] (cmd.Fill 1 0 (bytes 16) 67305985 ∷ []) (submit_info 2 1 all_commands ∷ []) ∷ [])
      ∷ entry.Wait (semaphore_value 2 2 ∷ [])
      ∷ entry.Map 3
      ∷ entry.Read 3 0 4
      ∷ []) ((7, 1 ∷ 2 ∷ 3 ∷ 4 ∷ []) ∷ [])
  -- A batch behind a waiting one of its queue isn't started, so its signal never comes.
  pub queue_held_back : Refuses
      (entry.Semaphore 1 0
      ∷ entry.Semaphore 2 0
      ∷ entry.Submit 0 (batch (submit_info 1 1 all_commands ∷ []) [] [] ∷ batch [] [] (submit_info 2 1 all_commands ∷ []) ∷ [])
      ∷ entry.Wait (semaphore_value 2 1 ∷ [])
      ∷ []) (at.Entry 3) rule.WaitNever
  -- The host's signal releases both.
  pub queue_released : Accepts
      (entry.Semaphore 1 0
      ∷ entry.Semaphore 2 0
      ∷ entry.Submit 0 (batch (submit_info 1 1 all_commands ∷ []) [] [] ∷ batch [] [] (submit_info 2 1 all_commands ∷ []) ∷ [])
      ∷ entry.Signal 1 1
      ∷ entry.Wait (semaphore_value 2 1 ∷ [])
      ∷ []) []
  -- A command of a waiting batch uses its buffer.
  pub waiting_command : Refuses
      (buffer_entry 1 16 both sharing.Exclusive (place.Dedicated 1)
      ∷ entry.Semaphore 2 0
      ∷ entry.Submit 0 (batch (submit_info 2 1 all_commands ∷ []) (cmd.Fill 1 0 (bytes 16) 1 ∷ []) [] ∷ [])
      ∷ entry.Destroy 1
      ∷ []) (at.Entry 3) rule.InUse
  -- A batch that is never started isn't judged.
  pub never_started : Accepts
      (buffer_entry 1 16 both sharing.Exclusive (place.Dedicated 1)
      ∷ entry.Semaphore 2 0
      ∷ entry.Submit 0 (batch (submit_info 2 1 all_commands ∷ []) (cmd.Fill 1 0 (bytes 16) 1 ∷ []) [] ∷ [])
      ∷ []) []
  -- A waiting batch is judged when it's started.
  pub judged_when_started : Refuses
      (buffer_entry 1 16 both sharing.Exclusive (place.Dedicated 1)
      ∷ entry.Semaphore 2 0
      ∷ entry.Submit 0 (batch (submit_info 2 1 all_commands ∷ []) (cmd.Fill 1 0 (bytes 15) 1 ∷ []) [] ∷ [])
      ∷ entry.Signal 2 1
      ∷ []) (at.Command 2 0 0) rule.Align
  -- And never, if it isn't.
  pub not_judged : Accepts
      (buffer_entry 1 16 both sharing.Exclusive (place.Dedicated 1)
      ∷ entry.Semaphore 2 0
      ∷ entry.Submit 0 (batch (submit_info 2 1 all_commands ∷ []) (cmd.Fill 1 0 (bytes 15) 1 ∷ []) [] ∷ [])
      ∷ []) []
  -- A waiting batch names a buffer that only a later entry makes: it keeps that one's pool busy, too.
  pub pass_of_a_later_id : Refuses
      (pool_entry 1 algorithm.Tlsf 1 4096 2
      ∷ entry.Semaphore 2 0
      ∷ entry.Defrag 3 1 0 0
      ∷ entry.Submit 0 (batch (submit_info 2 1 all_commands ∷ []) (cmd.Fill 4 0 (bytes 16) 1 ∷ []) [] ∷ [])
      ∷ buffer_entry 4 16 both sharing.Exclusive (place.Pool 1)
      ∷ entry.Pass 3
      ∷ []) (at.Entry 5) rule.PassBusy
  -- And no other buffer's.
  pub pass_of_another_id : Accepts
      (pool_entry 1 algorithm.Tlsf 1 4096 2
      ∷ entry.Semaphore 2 0
      ∷ entry.Defrag 3 1 0 0
      ∷ entry.Submit 0 (batch (submit_info 2 1 all_commands ∷ []) (cmd.Fill 4 0 (bytes 16) 1 ∷ []) [] ∷ [])
      ∷ buffer_entry 5 16 both sharing.Exclusive (place.Pool 1)
      ∷ entry.Pass 3
      ∷ []) []
