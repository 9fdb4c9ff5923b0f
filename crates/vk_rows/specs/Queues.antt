-- Queues, semaphores, events and ownership.
use Rattle.std.specs.Prelude.{◌+◌, [], ◌∷◌}
use Rattle.vk_model.specs.declared.rule.Rule.TheVariants as rule
use Rattle.vk_model.specs.declared.rule.At.TheVariants as at
use Rattle.vk_model.specs.declared.entry.Entry.TheVariants as entry
use Rattle.vk_model.specs.declared.resource.Sharing.TheVariants as sharing
use Rattle.vk_model.specs.declared.resource.Place.TheVariants as place
use Rattle.vk_model.specs.declared.command.Element.TheVariants as element
use Rattle.vk_model.specs.declared.command.Cmd.TheVariants as cmd
use Rattle.vk_rows.specs.Writing.{bytes, to_end, dependency, buffer_element, buffer_region, submit_info, semaphore_value, batch, buffer_entry, transfer, host, all_commands, transfer_read, transfer_write, host_read, destination, both}
use Rattle.vk_rows.specs.Claims.{Accepts, Refuses}

-- Queues, semaphores, events and ownership: what each trace reads, or its first fault.
pub record Queues : Type 0 where
  -- A release and an acquire with a semaphore between: the other family reads what the first wrote.
  pub transferred : Accepts
      (buffer_entry 1 16 both sharing.Exclusive (place.Dedicated 0)
      ∷ buffer_entry 2 16 destination sharing.Exclusive (place.Dedicated 1)
      ∷ entry.Semaphore 3 0
      ∷ entry.Submit 0 (batch []
      (cmd.Fill 1 0 (bytes 16) 67305985
      ∷ cmd.Barrier (buffer_element (dependency transfer transfer_write transfer 0) 0 1 1 0 to_end ∷ []) ∷ [])
      (submit_info 3 1 all_commands ∷ []) ∷ [])
      ∷ entry.Submit 2 (batch (submit_info 3 1 all_commands ∷ [])
      (cmd.Barrier (buffer_element (dependency transfer 0 transfer transfer_read) 0 1 1 0 to_end ∷ [])
      ∷ cmd.Copy 1 2 ((buffer_region 0 0 16) ∷ [])
      ∷ cmd.Barrier (element.Memory (dependency transfer transfer_write host host_read) ∷ []) ∷ [])
      (submit_info 3 2 all_commands ∷ []) ∷ [])
      ∷ entry.Wait (semaphore_value 3 2 ∷ [])
      ∷ entry.Map 2
      ∷ entry.Read 2 0 4
      ∷ []) ((7, 1 ∷ 2 ∷ 3 ∷ 4 ∷ []) ∷ [])
  -- A use by the other family without them loses the contents.
  pub not_transferred : Refuses
      (buffer_entry 1 16 both sharing.Exclusive (place.Dedicated 0)
      ∷ buffer_entry 2 16 destination sharing.Exclusive (place.Dedicated 1)
      ∷ entry.Semaphore 3 0
      ∷ entry.Submit 0 (batch [] (cmd.Fill 1 0 (bytes 16) 67305985 ∷ []) (submit_info 3 1 all_commands ∷ []) ∷ [])
      ∷ entry.Submit 2 (batch (submit_info 3 1 all_commands ∷ [])
      (cmd.Copy 1 2 ((buffer_region 0 0 16) ∷ [])
      ∷ cmd.Barrier (element.Memory (dependency transfer transfer_write host host_read) ∷ []) ∷ [])
      (submit_info 3 2 all_commands ∷ []) ∷ [])
      ∷ entry.Wait (semaphore_value 3 2 ∷ [])
      ∷ entry.Map 2
      ∷ entry.Read 2 0 4
      ∷ []) (at.Entry 7) rule.ReadUndefined
  -- An acquire without a release.
  pub acquire_alone : Refuses
      (buffer_entry 1 16 both sharing.Exclusive (place.Dedicated 0)
      ∷ buffer_entry 2 16 destination sharing.Exclusive (place.Dedicated 1)
      ∷ entry.Semaphore 3 0
      ∷ entry.Submit 0 (batch [] (cmd.Fill 1 0 (bytes 16) 67305985 ∷ []) (submit_info 3 1 all_commands ∷ []) ∷ [])
      ∷ entry.Submit 2 (batch (submit_info 3 1 all_commands ∷ [])
      (cmd.Barrier (buffer_element (dependency transfer 0 transfer transfer_read) 0 1 1 0 to_end ∷ [])
      ∷ cmd.Copy 1 2 ((buffer_region 0 0 16) ∷ [])
      ∷ cmd.Barrier (element.Memory (dependency transfer transfer_write host host_read) ∷ []) ∷ [])
      (submit_info 3 2 all_commands ∷ []) ∷ [])
      ∷ entry.Wait (semaphore_value 3 2 ∷ [])
      ∷ entry.Map 2
      ∷ entry.Read 2 0 4
      ∷ []) (at.Command 4 0 0) rule.OwnerPair
  -- A release of a range of a buffer.
  pub part_released : Refuses
      (buffer_entry 1 16 both sharing.Exclusive (place.Dedicated 0)
      ∷ buffer_entry 2 16 destination sharing.Exclusive (place.Dedicated 1)
      ∷ entry.Semaphore 3 0
      ∷ entry.Submit 0 (batch []
      (cmd.Fill 1 0 (bytes 16) 67305985
      ∷ cmd.Barrier (buffer_element (dependency transfer transfer_write transfer 0) 0 1 1 0 (bytes 8) ∷ []) ∷ [])
      (submit_info 3 1 all_commands ∷ []) ∷ [])
      ∷ entry.Submit 2 (batch (submit_info 3 1 all_commands ∷ [])
      (cmd.Barrier (buffer_element (dependency transfer 0 transfer transfer_read) 0 1 1 0 to_end ∷ [])
      ∷ cmd.Copy 1 2 ((buffer_region 0 0 16) ∷ [])
      ∷ cmd.Barrier (element.Memory (dependency transfer transfer_write host host_read) ∷ []) ∷ [])
      (submit_info 3 2 all_commands ∷ []) ∷ [])
      ∷ entry.Wait (semaphore_value 3 2 ∷ [])
      ∷ entry.Map 2
      ∷ entry.Read 2 0 4
      ∷ []) (at.Command 3 0 1) rule.OwnerWhole
  -- An await with other elements than the set.
  pub other_elements : Refuses
      (entry.Event 1
      ∷ entry.Submit 0 (batch []
      (cmd.Set 1 ((dependency transfer transfer_write transfer transfer_read) ∷ [])
      ∷ cmd.Await 1 ((dependency transfer transfer_write transfer (transfer_read + transfer_write)) ∷ []) ∷ [])
      [] ∷ [])
      ∷ []) (at.Command 1 0 1) rule.EventDependency
  -- An await with the elements of the set.
  pub equal_elements : Accepts
      (entry.Event 1
      ∷ entry.Submit 0 (batch []
      (cmd.Set 1 ((dependency transfer transfer_write transfer (transfer_read + transfer_write)) ∷ [])
      ∷ cmd.Await 1 ((dependency transfer transfer_write transfer (transfer_read + transfer_write)) ∷ []) ∷ [])
      [] ∷ [])
      ∷ []) []
  -- The same with a read alone.
  pub equal_reads : Accepts
      (entry.Event 1
      ∷ entry.Submit 0 (batch []
      (cmd.Set 1 ((dependency transfer transfer_write transfer transfer_read) ∷ [])
      ∷ cmd.Await 1 ((dependency transfer transfer_write transfer transfer_read) ∷ []) ∷ [])
      [] ∷ [])
      ∷ []) []
  -- An await of an event that wasn't set.
  pub never_set : Refuses
      (entry.Event 1
      ∷ entry.Submit 0 (batch [] (cmd.Await 1 ((dependency transfer transfer_write transfer (transfer_read + transfer_write)) ∷ []) ∷ []) [] ∷ [])
      ∷ []) (at.Command 1 0 0) rule.EventState
  -- A signal that isn't above the initial value.
  pub value_too_low : Refuses
      (entry.Semaphore 1 5
      ∷ entry.Signal 1 5
      ∷ []) (at.Entry 1) rule.SignalValue
  -- The greatest value.
  pub greatest_value : Accepts
      (entry.Semaphore 1 5
      ∷ entry.Signal 1 18446744073709551615
      ∷ []) []
  -- There is none above it.
  pub no_greater_value : Refuses
      (entry.Semaphore 1 5
      ∷ entry.Signal 1 18446744073709551615
      ∷ entry.Signal 1 18446744073709551615
      ∷ []) (at.Entry 2) rule.SignalValue
  -- Two signals of one value in one batch.
  pub same_value_twice : Refuses
      (entry.Semaphore 1 0
      ∷ entry.Submit 0 (batch [] [] (submit_info 1 1 all_commands ∷ submit_info 1 1 all_commands ∷ []) ∷ [])
      ∷ []) (at.Signal 1 0 1) rule.SignalValue
  -- The host waits for a value that nothing signals.
  pub never_signaled : Refuses
      (entry.Semaphore 1 0
      ∷ entry.Wait (semaphore_value 1 1 ∷ [])
      ∷ []) (at.Entry 1) rule.WaitNever
  -- Signals of one semaphore by two queues without an order.
  pub signals_unordered : Refuses
      (entry.Semaphore 1 0
      ∷ entry.Submit 0 (batch [] [] (submit_info 1 1 all_commands ∷ []) ∷ [])
      ∷ entry.Submit 1 (batch [] [] (submit_info 1 2 all_commands ∷ []) ∷ [])
      ∷ []) (at.Signal 2 0 0) rule.SignalOrder
  -- The second queue waits for the first one's value.
  pub signals_ordered : Accepts
      (entry.Semaphore 1 0
      ∷ entry.Submit 0 (batch [] [] (submit_info 1 1 all_commands ∷ []) ∷ [])
      ∷ entry.Submit 1 (batch (submit_info 1 1 all_commands ∷ []) [] (submit_info 1 2 all_commands ∷ []) ∷ [])
      ∷ []) []
  -- Queue 4.
  pub no_such_queue : Refuses
      (entry.Submit 4 []
      ∷ []) (at.Entry 0) rule.Queue
  -- Queue 3.
  pub last_queue : Accepts
      (entry.Submit 3 []
      ∷ []) []
  -- A batch waits for what is no semaphore.
  pub wait_for_nothing : Refuses
      (entry.Submit 0 (batch (submit_info 1 1 all_commands ∷ []) [] [] ∷ [])
      ∷ []) (at.Wait 0 0 0) rule.LiveId
  -- A semaphore that begins at the greatest value.
  pub greatest_initial_value : Accepts
      (entry.Semaphore 1 18446744073709551615
      ∷ []) []
  -- A submit of no batches.
  pub empty_submit : Accepts
      (entry.Submit 0 []
      ∷ []) []
