-- Readings that are easily mistaken: each with a trace that is judged otherwise by the wrong one, and its corrected trace.
use Rattle.std.specs.Prelude.{[], ◌∷◌}
use Rattle.vk_model.specs.declared.rule.Rule.TheVariants as rule
use Rattle.vk_model.specs.declared.rule.At.TheVariants as at
use Rattle.vk_model.specs.declared.entry.Entry.TheVariants as entry
use Rattle.vk_model.specs.declared.resource.Sharing.TheVariants as sharing
use Rattle.vk_model.specs.declared.resource.Place.TheVariants as place
use Rattle.vk_model.specs.declared.resource.Kind.TheVariants as kind
use Rattle.vk_model.specs.declared.layout.Format.TheVariants as texel_format
use Rattle.vk_model.specs.declared.command.Element.TheVariants as element
use Rattle.vk_model.specs.declared.command.Cmd.TheVariants as cmd
use Rattle.vk_rows.specs.Writing.{bytes, to_end, dependency, levels, buffer_element, image_element, buffer_region, region, submit_info, semaphore_value, batch, buffer_entry, image_entry, memory_entry, transfer, host, all_commands, transfer_read, transfer_write, host_read, source, destination, both, undefined, general, destination_optimal, ignored}
use Rattle.vk_rows.specs.Claims.{Accepts, Refuses}

-- Readings that are easily mistaken: what each trace reads, or its first fault.
pub record EasilyMistaken : Type 0 where
  -- An acquire is paired with the last release earlier than itself: a release later in the same barrier is another one.
  pub acquired_and_released : Accepts
      (buffer_entry 1 16 both sharing.Exclusive (place.Dedicated 0)
      ∷ entry.Semaphore 2 0
      ∷ entry.Submit 0 (batch [] (cmd.Barrier (buffer_element (dependency transfer transfer_write 0 0) 0 1 1 0 to_end ∷ []) ∷ []) (submit_info 2 1 all_commands ∷ []) ∷ [])
      ∷ entry.Submit 2 (batch (submit_info 2 1 all_commands ∷ [])
      (cmd.Barrier (buffer_element (dependency 0 0 transfer transfer_read) 0 1 1 0 to_end
      ∷ buffer_element (dependency transfer 0 0 0) 1 0 1 0 to_end ∷ []) ∷ [])
      [] ∷ [])
      ∷ []) []
  -- In the other order the release finds the buffer released.
  pub released_and_acquired : Refuses
      (buffer_entry 1 16 both sharing.Exclusive (place.Dedicated 0)
      ∷ entry.Semaphore 2 0
      ∷ entry.Submit 0 (batch [] (cmd.Barrier (buffer_element (dependency transfer transfer_write 0 0) 0 1 1 0 to_end ∷ []) ∷ []) (submit_info 2 1 all_commands ∷ []) ∷ [])
      ∷ entry.Submit 2 (batch (submit_info 2 1 all_commands ∷ [])
      (cmd.Barrier (buffer_element (dependency transfer 0 0 0) 1 0 1 0 to_end
      ∷ buffer_element (dependency 0 0 transfer transfer_read) 0 1 1 0 to_end ∷ []) ∷ [])
      [] ∷ [])
      ∷ []) (at.Command 3 0 0) rule.OwnerPair
  -- A dependency on all memory names no resource, also not that with id 0, which may be destroyed.
  pub all_memory_names_nothing : Accepts
      (buffer_entry 0 16 both sharing.Exclusive (place.Dedicated 0)
      ∷ entry.Submit 0 (batch [] (cmd.Barrier (element.Memory (dependency transfer transfer_write transfer transfer_read) ∷ []) ∷ []) [] ∷ [])
      ∷ entry.Destroy 0
      ∷ []) []
  -- A dependency on its bytes does.
  pub buffer_element_names_it : Refuses
      (buffer_entry 0 16 both sharing.Exclusive (place.Dedicated 0)
      ∷ entry.Submit 0 (batch [] (cmd.Barrier (buffer_element (dependency transfer transfer_write transfer transfer_read) ignored ignored 0 0 to_end ∷ []) ∷ []) [] ∷ [])
      ∷ entry.Destroy 0
      ∷ []) (at.Entry 2) rule.InUse
  -- A command's ids must be live when its batch is submitted, not only when it is started.
  pub made_before_the_start : Refuses
      (entry.Semaphore 1 0
      ∷ entry.Submit 0 (batch (submit_info 1 1 all_commands ∷ []) (cmd.Fill 2 0 (bytes 16) 7 ∷ []) [] ∷ [])
      ∷ buffer_entry 2 16 both sharing.Exclusive (place.Dedicated 0)
      ∷ entry.Signal 1 1
      ∷ []) (at.Command 1 0 0) rule.LiveId
  -- Here it is.
  pub made_before_the_submit : Accepts
      (entry.Semaphore 1 0
      ∷ buffer_entry 2 16 both sharing.Exclusive (place.Dedicated 0)
      ∷ entry.Submit 0 (batch (submit_info 1 1 all_commands ∷ []) (cmd.Fill 2 0 (bytes 16) 7 ∷ []) [] ∷ [])
      ∷ entry.Signal 1 1
      ∷ []) []
  -- A batch that waits names the ids of its commands, also one that is made later: the buffer is in use.
  pub waiting_names_what_comes : Refuses
      (entry.Semaphore 1 0
      ∷ entry.Submit 0 (batch (submit_info 1 1 all_commands ∷ []) (cmd.Fill 2 0 (bytes 16) 7 ∷ []) [] ∷ [])
      ∷ buffer_entry 2 16 both sharing.Exclusive (place.Dedicated 0)
      ∷ entry.Destroy 2
      ∷ []) (at.Entry 3) rule.InUse
  -- Another buffer isn't.
  pub waiting_names_another : Accepts
      (entry.Semaphore 1 0
      ∷ entry.Submit 0 (batch (submit_info 1 1 all_commands ∷ []) (cmd.Fill 3 0 (bytes 16) 7 ∷ []) [] ∷ [])
      ∷ buffer_entry 2 16 both sharing.Exclusive (place.Dedicated 0)
      ∷ entry.Destroy 2
      ∷ []) []
  -- An acquire makes nothing available, whatever source access it names.
  pub acquire_alone : Refuses
      (buffer_entry 1 16 both sharing.Exclusive (place.Dedicated 0)
      ∷ buffer_entry 2 16 destination sharing.Exclusive (place.Dedicated 0)
      ∷ entry.Semaphore 3 0
      ∷ entry.Submit 2 (batch [] (cmd.Fill 1 0 (bytes 16) 7 ∷ []) [] ∷ [])
      ∷ entry.Submit 0 (batch [] (cmd.Barrier (buffer_element (dependency transfer transfer_write 0 0) 0 1 1 0 to_end ∷ []) ∷ []) (submit_info 3 1 all_commands ∷ []) ∷ [])
      ∷ entry.Submit 2 (batch (submit_info 3 1 all_commands ∷ [])
      (cmd.Barrier (buffer_element (dependency transfer transfer_write transfer transfer_read) 0 1 1 0 to_end ∷ [])
      ∷ cmd.Copy 1 2 (buffer_region 0 0 16 ∷ []) ∷ [])
      [] ∷ [])
      ∷ []) (at.Command 5 0 1) rule.HazardRaw
  -- A dependency on all memory beside it makes the write available and visible.
  pub acquire_with_dependency : Accepts
      (buffer_entry 1 16 both sharing.Exclusive (place.Dedicated 0)
      ∷ buffer_entry 2 16 destination sharing.Exclusive (place.Dedicated 0)
      ∷ entry.Semaphore 3 0
      ∷ entry.Submit 2 (batch [] (cmd.Fill 1 0 (bytes 16) 7 ∷ []) [] ∷ [])
      ∷ entry.Submit 0 (batch [] (cmd.Barrier (buffer_element (dependency transfer transfer_write 0 0) 0 1 1 0 to_end ∷ []) ∷ []) (submit_info 3 1 all_commands ∷ []) ∷ [])
      ∷ entry.Submit 2 (batch (submit_info 3 1 all_commands ∷ [])
      (cmd.Barrier (buffer_element (dependency transfer transfer_write transfer transfer_read) 0 1 1 0 to_end
      ∷ element.Memory (dependency transfer transfer_write transfer transfer_read) ∷ [])
      ∷ cmd.Copy 1 2 (buffer_region 0 0 16 ∷ []) ∷ [])
      [] ∷ [])
      ∷ []) []
  -- A release makes nothing visible, whatever destination access it names.
  pub release_alone : Refuses
      (buffer_entry 1 16 both sharing.Exclusive (place.Dedicated 0)
      ∷ buffer_entry 2 16 destination sharing.Exclusive (place.Dedicated 0)
      ∷ entry.Submit 0 (batch []
      (cmd.Fill 1 0 (bytes 16) 7
      ∷ cmd.Barrier (buffer_element (dependency transfer transfer_write transfer transfer_read) 0 1 1 0 to_end ∷ [])
      ∷ cmd.Copy 1 2 (buffer_region 0 0 16 ∷ []) ∷ [])
      [] ∷ [])
      ∷ []) (at.Command 2 0 2) rule.HazardRaw
  -- The same dependency within the family does.
  pub no_release : Accepts
      (buffer_entry 1 16 both sharing.Exclusive (place.Dedicated 0)
      ∷ buffer_entry 2 16 destination sharing.Exclusive (place.Dedicated 0)
      ∷ entry.Submit 0 (batch []
      (cmd.Fill 1 0 (bytes 16) 7
      ∷ cmd.Barrier (buffer_element (dependency transfer transfer_write transfer transfer_read) ignored ignored 1 0 to_end ∷ [])
      ∷ cmd.Copy 1 2 (buffer_region 0 0 16 ∷ []) ∷ [])
      [] ∷ [])
      ∷ []) []
  -- A use ends a release: there is nothing to acquire then.
  pub used_after_release : Refuses
      (buffer_entry 1 16 both sharing.Exclusive (place.Dedicated 0)
      ∷ entry.Semaphore 2 0
      ∷ entry.Submit 0 (batch []
      (cmd.Barrier (buffer_element (dependency transfer transfer_write 0 0) 0 1 1 0 to_end ∷ [])
      ∷ cmd.Fill 1 0 (bytes 16) 7 ∷ [])
      (submit_info 2 1 all_commands ∷ []) ∷ [])
      ∷ entry.Submit 2 (batch (submit_info 2 1 all_commands ∷ []) (cmd.Barrier (buffer_element (dependency 0 0 transfer transfer_read) 0 1 1 0 to_end ∷ []) ∷ []) [] ∷ [])
      ∷ []) (at.Command 3 0 0) rule.OwnerPair
  -- A use before it doesn't.
  pub used_before_release : Accepts
      (buffer_entry 1 16 both sharing.Exclusive (place.Dedicated 0)
      ∷ entry.Semaphore 2 0
      ∷ entry.Submit 0 (batch []
      (cmd.Fill 1 0 (bytes 16) 7
      ∷ cmd.Barrier (buffer_element (dependency transfer transfer_write 0 0) 0 1 1 0 to_end ∷ []) ∷ [])
      (submit_info 2 1 all_commands ∷ []) ∷ [])
      ∷ entry.Submit 2 (batch (submit_info 2 1 all_commands ∷ []) (cmd.Barrier (buffer_element (dependency 0 0 transfer transfer_read) 0 1 1 0 to_end ∷ []) ∷ []) [] ∷ [])
      ∷ []) []
  -- A release is a use: what the other family owned is lost.
  pub release_of_another_family : Refuses
      (buffer_entry 1 16 both sharing.Exclusive (place.Dedicated 1)
      ∷ entry.Semaphore 2 0
      ∷ entry.Submit 2 (batch [] (cmd.Fill 1 0 (bytes 16) 67305985 ∷ []) (submit_info 2 1 all_commands ∷ []) ∷ [])
      ∷ entry.Submit 0 (batch (submit_info 2 1 all_commands ∷ []) (cmd.Barrier (buffer_element (dependency transfer 0 0 0) 0 1 1 0 to_end ∷ []) ∷ []) (submit_info 2 2 all_commands ∷ []) ∷ [])
      ∷ entry.Submit 2 (batch (submit_info 2 2 all_commands ∷ [])
      (cmd.Barrier (buffer_element (dependency 0 0 0 0) 0 1 1 0 to_end ∷ [])
      ∷ cmd.Barrier (element.Memory (dependency transfer transfer_write host host_read) ∷ []) ∷ [])
      (submit_info 2 3 all_commands ∷ []) ∷ [])
      ∷ entry.Wait (semaphore_value 2 3 ∷ [])
      ∷ entry.Map 1
      ∷ entry.Read 1 0 4
      ∷ []) (at.Entry 7) rule.ReadUndefined
  -- An acquire is none: what its own family released is kept.
  pub release_of_the_family : Accepts
      (buffer_entry 1 16 both sharing.Exclusive (place.Dedicated 1)
      ∷ entry.Semaphore 2 0
      ∷ entry.Submit 0 (batch []
      (cmd.Fill 1 0 (bytes 16) 67305985
      ∷ cmd.Barrier (buffer_element (dependency transfer transfer_write 0 0) 0 1 1 0 to_end ∷ []) ∷ [])
      (submit_info 2 1 all_commands ∷ []) ∷ [])
      ∷ entry.Submit 2 (batch (submit_info 2 1 all_commands ∷ [])
      (cmd.Barrier (buffer_element (dependency 0 0 transfer transfer_read) 0 1 1 0 to_end ∷ [])
      ∷ cmd.Barrier (element.Memory (dependency transfer 0 host host_read) ∷ []) ∷ [])
      (submit_info 2 3 all_commands ∷ []) ∷ [])
      ∷ entry.Wait (semaphore_value 2 3 ∷ [])
      ∷ entry.Map 1
      ∷ entry.Read 1 0 4
      ∷ []) ((6, 1 ∷ 2 ∷ 3 ∷ 4 ∷ []) ∷ [])
  -- A use by another family loses the contents of an image and leaves its layouts.
  pub layout_after_loss : Accepts
      (image_entry 1 texel_format.R8Uint 2 2 1 1 kind.Optimal both sharing.Exclusive (place.Dedicated 0)
      ∷ buffer_entry 2 4 source sharing.Exclusive (place.Dedicated 0)
      ∷ entry.Semaphore 3 0
      ∷ entry.Submit 0 (batch [] (cmd.Barrier (image_element (dependency 0 0 transfer transfer_write) ignored ignored 1 undefined destination_optimal (levels 0 1 0 1) ∷ []) ∷ []) (submit_info 3 1 all_commands ∷ []) ∷ [])
      ∷ entry.Submit 2 (batch (submit_info 3 1 all_commands ∷ []) (cmd.CopyIn 2 1 destination_optimal (region 0 0 0 0 0 1 0 0 2 2 ∷ []) ∷ []) [] ∷ [])
      ∷ []) []
  -- So it isn't in UNDEFINED then, and in no other layout.
  pub other_layout_after_loss : Refuses
      (image_entry 1 texel_format.R8Uint 2 2 1 1 kind.Optimal both sharing.Exclusive (place.Dedicated 0)
      ∷ buffer_entry 2 4 source sharing.Exclusive (place.Dedicated 0)
      ∷ entry.Semaphore 3 0
      ∷ entry.Submit 0 (batch [] (cmd.Barrier (image_element (dependency 0 0 transfer transfer_write) ignored ignored 1 undefined destination_optimal (levels 0 1 0 1) ∷ []) ∷ []) (submit_info 3 1 all_commands ∷ []) ∷ [])
      ∷ entry.Submit 2 (batch (submit_info 3 1 all_commands ∷ []) (cmd.CopyIn 2 1 general (region 0 0 0 0 0 1 0 0 2 2 ∷ []) ∷ []) [] ∷ [])
      ∷ []) (at.Command 4 0 0) rule.Layout
  -- Maps of a place of its own are counted: after two, one unmap leaves it mapped.
  pub mapped_twice_unmapped_once : Accepts
      (buffer_entry 1 16 both sharing.Exclusive (place.Dedicated 1)
      ∷ entry.Map 1 ∷ entry.Map 1 ∷ entry.Unmap 1 ∷ entry.Write 1 0 (1 ∷ 2 ∷ []) ∷ entry.Read 1 0 2
      ∷ []) ((5, 1 ∷ 2 ∷ []) ∷ [])
  -- Two don't.
  pub mapped_twice_unmapped_twice : Refuses
      (buffer_entry 1 16 both sharing.Exclusive (place.Dedicated 1)
      ∷ entry.Map 1 ∷ entry.Map 1 ∷ entry.Unmap 1 ∷ entry.Unmap 1 ∷ entry.Write 1 0 (1 ∷ 2 ∷ [])
      ∷ []) (at.Entry 5) rule.MapState
  -- Resources of one kind may share a page.
  pub page_of_one_kind : Accepts
      (memory_entry 1 0 4096
      ∷ buffer_entry 2 16 both sharing.Exclusive (place.Memory 1 0)
      ∷ buffer_entry 3 16 both sharing.Exclusive (place.Memory 1 16)
      ∷ image_entry 4 texel_format.R8Uint 8 8 1 1 kind.Optimal both sharing.Exclusive (place.Memory 1 1024)
      ∷ image_entry 5 texel_format.R8Uint 8 8 1 1 kind.Optimal both sharing.Exclusive (place.Memory 1 1280)
      ∷ []) []
  -- Those of two kinds may not.
  pub page_of_two_kinds : Refuses
      (memory_entry 1 0 4096
      ∷ buffer_entry 2 16 both sharing.Exclusive (place.Memory 1 0)
      ∷ image_entry 4 texel_format.R8Uint 8 8 1 1 kind.Optimal both sharing.Exclusive (place.Memory 1 768)
      ∷ []) (at.Entry 2) rule.Aliased
  -- What is bound ends with its requirement, here 16 bytes, and not with its size, here 12.
  pub requirement_past_the_end : Refuses
      (memory_entry 1 1 60
      ∷ buffer_entry 2 12 both sharing.Exclusive (place.Memory 1 48)
      ∷ []) (at.Entry 1) rule.BindRange
  -- Here it fits.
  pub requirement_inside : Accepts
      (memory_entry 1 1 64
      ∷ buffer_entry 2 12 both sharing.Exclusive (place.Memory 1 48)
      ∷ []) []
  -- A row length of 0 is that of the region.
  pub row_length_of_the_region : Accepts
      (buffer_entry 1 4 both sharing.Exclusive (place.Dedicated 1)
      ∷ buffer_entry 2 4 destination sharing.Exclusive (place.Dedicated 1)
      ∷ image_entry 3 texel_format.R8Uint 2 2 1 1 kind.Optimal both sharing.Exclusive (place.Dedicated 0)
      ∷ entry.Semaphore 4 0
      ∷ entry.Map 1
      ∷ entry.Write 1 0 (1 ∷ 2 ∷ 3 ∷ 4 ∷ [])
      ∷ entry.Submit 0 (batch []
      (cmd.Barrier (image_element (dependency 0 0 transfer transfer_write) ignored ignored 3 undefined general (levels 0 1 0 1) ∷ [])
      ∷ cmd.CopyIn 1 3 general (region 0 2 2 0 0 1 0 0 2 2 ∷ [])
      ∷ cmd.Barrier (element.Memory (dependency transfer transfer_write transfer transfer_read) ∷ [])
      ∷ cmd.CopyOut 3 general 2 (region 0 0 0 0 0 1 0 0 2 2 ∷ [])
      ∷ cmd.Barrier (element.Memory (dependency transfer transfer_write host host_read) ∷ []) ∷ [])
      (submit_info 4 1 all_commands ∷ []) ∷ [])
      ∷ entry.Wait (semaphore_value 4 1 ∷ [])
      ∷ entry.Map 2
      ∷ entry.Read 2 0 4
      ∷ []) ((9, 1 ∷ 2 ∷ 3 ∷ 4 ∷ []) ∷ [])
  -- A longer row leaves a gap, here past the end of the buffer.
  pub row_length_past_the_end : Refuses
      (buffer_entry 1 4 both sharing.Exclusive (place.Dedicated 1)
      ∷ image_entry 3 texel_format.R8Uint 2 2 1 1 kind.Optimal both sharing.Exclusive (place.Dedicated 0)
      ∷ entry.Submit 0 (batch []
      (cmd.Barrier (image_element (dependency 0 0 transfer transfer_write) ignored ignored 3 undefined general (levels 0 1 0 1) ∷ [])
      ∷ cmd.CopyIn 1 3 general (region 0 3 2 0 0 1 0 0 2 2 ∷ []) ∷ [])
      [] ∷ [])
      ∷ []) (at.Command 2 0 1) rule.Range
