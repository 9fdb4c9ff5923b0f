-- Images: layouts, transitions and copies.
use Rattle.std.specs.Prelude.{◌+◌, [], ◌∷◌}
use Rattle.vk_model.specs.declared.rule.Rule.TheVariants as rule
use Rattle.vk_model.specs.declared.rule.At.TheVariants as at
use Rattle.vk_model.specs.declared.entry.Entry.TheVariants as entry
use Rattle.vk_model.specs.declared.resource.Sharing.TheVariants as sharing
use Rattle.vk_model.specs.declared.resource.Place.TheVariants as place
use Rattle.vk_model.specs.declared.resource.Kind.TheVariants as kind
use Rattle.vk_model.specs.declared.layout.Format.TheVariants as texel_format
use Rattle.vk_model.specs.declared.command.Element.TheVariants as element
use Rattle.vk_model.specs.declared.command.Cmd.TheVariants as cmd
use Rattle.vk_rows.specs.Writing.{dependency, levels, image_element, region, image_region, submit_info, semaphore_value, batch, buffer_entry, image_entry, transfer, host, all_commands, transfer_read, transfer_write, host_read, source, destination, both, undefined, general, source_optimal, destination_optimal, ignored}
use Rattle.vk_rows.specs.Claims.{Accepts, Refuses}

-- Images: layouts, transitions and copies: what each trace reads, or its first fault.
pub record Images : Type 0 where
  -- A copy in with 12 texels from row to row, a copy out without gaps, of an image of 9 by 2.
  pub partial_tiles : Accepts
      (buffer_entry 1 48 source sharing.Exclusive (place.Dedicated 1)
      ∷ buffer_entry 2 36 destination sharing.Exclusive (place.Dedicated 1)
      ∷ image_entry 3 texel_format.R16Uint 9 2 1 1 kind.Optimal both sharing.Exclusive (place.Dedicated 0)
      ∷ entry.Semaphore 4 0
      ∷ entry.Map 1
      ∷ entry.Write 1 0 (0 ∷ 1 ∷ 2 ∷ 3 ∷ 4 ∷ 5 ∷ 6 ∷ 7 ∷ 8 ∷ 9 ∷ 10 ∷ 11 ∷ 12 ∷ 13 ∷ 14 ∷ 15 ∷ 16 ∷ 17 ∷ 18 ∷ 19 ∷ 20 ∷ 21 ∷ 22 ∷ 23 ∷ 24 ∷ 25 ∷ 26 ∷ 27 ∷ 28 ∷ 29 ∷ 30 ∷ 31 ∷ 32 ∷ 33 ∷ 34 ∷ 35 ∷ 36 ∷ 37 ∷ 38 ∷ 39 ∷ 40 ∷ 41 ∷ [])
      ∷ entry.Submit 0 (batch []
      (cmd.Barrier (image_element (dependency 0 0 transfer transfer_write) ignored ignored 3 undefined destination_optimal (levels 0 1 0 1) ∷ [])
      ∷ cmd.CopyIn 1 3 destination_optimal ((region 0 12 0 0 0 1 0 0 9 2) ∷ [])
      ∷ cmd.Barrier (image_element (dependency transfer transfer_write transfer transfer_read) ignored ignored 3 destination_optimal source_optimal (levels 0 1 0 1) ∷ [])
      ∷ cmd.CopyOut 3 source_optimal 2 ((region 0 0 0 0 0 1 0 0 9 2) ∷ [])
      ∷ cmd.Barrier (element.Memory (dependency transfer transfer_write host host_read) ∷ []) ∷ [])
      (submit_info 4 1 all_commands ∷ []) ∷ [])
      ∷ entry.Wait (semaphore_value 4 1 ∷ [])
      ∷ entry.Map 2
      ∷ entry.Read 2 0 36
      ∷ []) ((9, 0 ∷ 1 ∷ 2 ∷ 3 ∷ 4 ∷ 5 ∷ 6 ∷ 7 ∷ 8 ∷ 9 ∷ 10 ∷ 11 ∷ 12 ∷ 13 ∷ 14 ∷ 15 ∷ 16 ∷ 17 ∷ 24 ∷ 25 ∷ 26 ∷ 27 ∷ 28 ∷ 29 ∷ 30 ∷ 31 ∷ 32 ∷ 33 ∷ 34 ∷ 35 ∷ 36 ∷ 37 ∷ 38 ∷ 39 ∷ 40 ∷ 41 ∷ []) ∷ [])
  -- A transition from UNDEFINED loses what the clear wrote.
  pub cleared_then_discarded : Refuses
      (buffer_entry 1 64 destination sharing.Exclusive (place.Dedicated 1)
      ∷ image_entry 2 texel_format.R8Uint 8 8 1 1 kind.Optimal both sharing.Exclusive (place.Dedicated 0)
      ∷ entry.Semaphore 3 0
      ∷ entry.Submit 0 (batch []
      (cmd.Barrier (image_element (dependency 0 0 transfer transfer_write) ignored ignored 2 undefined destination_optimal (levels 0 1 0 1) ∷ [])
      ∷ cmd.Clear 2 destination_optimal (258 ∷ 0 ∷ 0 ∷ 0 ∷ []) ((levels 0 1 0 1) ∷ [])
      ∷ cmd.Barrier (image_element (dependency transfer transfer_write transfer transfer_read) ignored ignored 2 undefined source_optimal (levels 0 1 0 1) ∷ [])
      ∷ cmd.CopyOut 2 source_optimal 1 ((region 0 0 0 0 0 1 0 0 8 8) ∷ [])
      ∷ cmd.Barrier (element.Memory (dependency transfer transfer_write host host_read) ∷ []) ∷ [])
      (submit_info 3 1 all_commands ∷ []) ∷ [])
      ∷ entry.Wait (semaphore_value 3 1 ∷ [])
      ∷ entry.Map 1
      ∷ entry.Read 1 0 4
      ∷ []) (at.Entry 6) rule.ReadUndefined
  -- A transition from the current layout keeps it; each component keeps its low bits.
  pub cleared : Accepts
      (buffer_entry 1 64 destination sharing.Exclusive (place.Dedicated 1)
      ∷ image_entry 2 texel_format.R8Uint 8 8 1 1 kind.Optimal both sharing.Exclusive (place.Dedicated 0)
      ∷ entry.Semaphore 3 0
      ∷ entry.Submit 0 (batch []
      (cmd.Barrier (image_element (dependency 0 0 transfer transfer_write) ignored ignored 2 undefined destination_optimal (levels 0 1 0 1) ∷ [])
      ∷ cmd.Clear 2 destination_optimal (258 ∷ 0 ∷ 0 ∷ 0 ∷ []) ((levels 0 1 0 1) ∷ [])
      ∷ cmd.Barrier (image_element (dependency transfer transfer_write transfer transfer_read) ignored ignored 2 destination_optimal source_optimal (levels 0 1 0 1) ∷ [])
      ∷ cmd.CopyOut 2 source_optimal 1 ((region 0 0 0 0 0 1 0 0 8 8) ∷ [])
      ∷ cmd.Barrier (element.Memory (dependency transfer transfer_write host host_read) ∷ []) ∷ [])
      (submit_info 3 1 all_commands ∷ []) ∷ [])
      ∷ entry.Wait (semaphore_value 3 1 ∷ [])
      ∷ entry.Map 1
      ∷ entry.Read 1 0 4
      ∷ []) ((6, 2 ∷ 2 ∷ 2 ∷ 2 ∷ []) ∷ [])
  -- The old layout is neither UNDEFINED nor current.
  pub wrong_old_layout : Refuses
      (buffer_entry 1 64 destination sharing.Exclusive (place.Dedicated 1)
      ∷ image_entry 2 texel_format.R8Uint 8 8 1 1 kind.Optimal both sharing.Exclusive (place.Dedicated 0)
      ∷ entry.Semaphore 3 0
      ∷ entry.Submit 0 (batch []
      (cmd.Barrier (image_element (dependency 0 0 transfer transfer_write) ignored ignored 2 undefined destination_optimal (levels 0 1 0 1) ∷ [])
      ∷ cmd.Clear 2 destination_optimal (258 ∷ 0 ∷ 0 ∷ 0 ∷ []) ((levels 0 1 0 1) ∷ [])
      ∷ cmd.Barrier (image_element (dependency transfer transfer_write transfer transfer_read) ignored ignored 2 general source_optimal (levels 0 1 0 1) ∷ [])
      ∷ cmd.CopyOut 2 source_optimal 1 ((region 0 0 0 0 0 1 0 0 8 8) ∷ [])
      ∷ cmd.Barrier (element.Memory (dependency transfer transfer_write host host_read) ∷ []) ∷ [])
      (submit_info 3 1 all_commands ∷ []) ∷ [])
      ∷ entry.Wait (semaphore_value 3 1 ∷ [])
      ∷ entry.Map 1
      ∷ entry.Read 1 0 4
      ∷ []) (at.Command 3 0 2) rule.OldLayout
  -- Equal layouts are no transition, so the image is still in TRANSFER_DST_OPTIMAL.
  pub equal_layouts : Refuses
      (buffer_entry 1 64 destination sharing.Exclusive (place.Dedicated 1)
      ∷ image_entry 2 texel_format.R8Uint 8 8 1 1 kind.Optimal both sharing.Exclusive (place.Dedicated 0)
      ∷ entry.Semaphore 3 0
      ∷ entry.Submit 0 (batch []
      (cmd.Barrier (image_element (dependency 0 0 transfer transfer_write) ignored ignored 2 undefined destination_optimal (levels 0 1 0 1) ∷ [])
      ∷ cmd.Clear 2 destination_optimal (258 ∷ 0 ∷ 0 ∷ 0 ∷ []) ((levels 0 1 0 1) ∷ [])
      ∷ cmd.Barrier (image_element (dependency transfer transfer_write transfer transfer_read) ignored ignored 2 source_optimal source_optimal (levels 0 1 0 1) ∷ [])
      ∷ cmd.CopyOut 2 source_optimal 1 ((region 0 0 0 0 0 1 0 0 8 8) ∷ [])
      ∷ cmd.Barrier (element.Memory (dependency transfer transfer_write host host_read) ∷ []) ∷ [])
      (submit_info 3 1 all_commands ∷ []) ∷ [])
      ∷ entry.Wait (semaphore_value 3 1 ∷ [])
      ∷ entry.Map 1
      ∷ entry.Read 1 0 4
      ∷ []) (at.Command 3 0 3) rule.Layout
  -- A clear of an image in UNDEFINED.
  pub clear_undefined : Refuses
      (image_entry 1 texel_format.R8Uint 8 8 1 1 kind.Optimal both sharing.Exclusive (place.Dedicated 0)
      ∷ entry.Submit 0 (batch [] (cmd.Clear 1 destination_optimal (0 ∷ 0 ∷ 0 ∷ 0 ∷ []) ((levels 0 1 0 1) ∷ []) ∷ []) [] ∷ [])
      ∷ []) (at.Command 1 0 0) rule.Layout
  -- A clear on a queue of transfer alone.
  pub clear_on_transfer_queue : Refuses
      (image_entry 1 texel_format.R8Uint 8 8 1 1 kind.Optimal both sharing.Exclusive (place.Dedicated 0)
      ∷ entry.Submit 2 (batch [] (cmd.Clear 1 destination_optimal (0 ∷ 0 ∷ 0 ∷ 0 ∷ []) ((levels 0 1 0 1) ∷ []) ∷ []) [] ∷ [])
      ∷ []) (at.Command 1 0 0) rule.QueueKind
  -- The right column of an image goes to another one by way of GENERAL.
  pub image_to_image : Accepts
      (buffer_entry 1 4 source sharing.Exclusive (place.Dedicated 1)
      ∷ buffer_entry 2 4 destination sharing.Exclusive (place.Dedicated 1)
      ∷ image_entry 3 texel_format.R8Uint 2 2 1 1 kind.Optimal both sharing.Exclusive (place.Dedicated 0)
      ∷ image_entry 4 texel_format.R8Uint 2 2 1 1 kind.Linear both sharing.Exclusive (place.Dedicated 0)
      ∷ entry.Semaphore 5 0
      ∷ entry.Map 1
      ∷ entry.Write 1 0 (1 ∷ 2 ∷ 3 ∷ 4 ∷ [])
      ∷ entry.Submit 0 (batch []
      (cmd.Barrier (image_element (dependency 0 0 transfer transfer_write) ignored ignored 3 undefined general (levels 0 1 0 1) ∷ image_element (dependency 0 0 transfer transfer_write) ignored ignored 4 undefined general (levels 0 1 0 1) ∷ [])
      ∷ cmd.CopyIn 1 3 general ((region 0 0 0 0 0 1 0 0 2 2) ∷ [])
      ∷ cmd.Barrier (element.Memory (dependency transfer transfer_write transfer (transfer_read + transfer_write)) ∷ [])
      ∷ cmd.CopyImage 3 general 4 general ((image_region 0 0 0 0 1 1 0 0 0 1 2) ∷ [])
      ∷ cmd.Barrier (element.Memory (dependency transfer transfer_write transfer transfer_read) ∷ [])
      ∷ cmd.CopyOut 4 general 2 ((region 0 0 0 0 0 1 0 0 1 2) ∷ [])
      ∷ cmd.Barrier (element.Memory (dependency transfer transfer_write host host_read) ∷ []) ∷ [])
      (submit_info 5 1 all_commands ∷ []) ∷ [])
      ∷ entry.Wait (semaphore_value 5 1 ∷ [])
      ∷ entry.Map 2
      ∷ entry.Read 2 0 2
      ∷ []) ((10, 2 ∷ 4 ∷ []) ∷ [])
  -- Texels of one and of two bytes.
  pub other_texels : Refuses
      (buffer_entry 1 4 source sharing.Exclusive (place.Dedicated 1)
      ∷ buffer_entry 2 4 destination sharing.Exclusive (place.Dedicated 1)
      ∷ image_entry 3 texel_format.R8Uint 2 2 1 1 kind.Optimal both sharing.Exclusive (place.Dedicated 0)
      ∷ image_entry 4 texel_format.R16Uint 2 2 1 1 kind.Linear both sharing.Exclusive (place.Dedicated 0)
      ∷ entry.Semaphore 5 0
      ∷ entry.Map 1
      ∷ entry.Write 1 0 (1 ∷ 2 ∷ 3 ∷ 4 ∷ [])
      ∷ entry.Submit 0 (batch []
      (cmd.Barrier (image_element (dependency 0 0 transfer transfer_write) ignored ignored 3 undefined general (levels 0 1 0 1) ∷ image_element (dependency 0 0 transfer transfer_write) ignored ignored 4 undefined general (levels 0 1 0 1) ∷ [])
      ∷ cmd.CopyIn 1 3 general ((region 0 0 0 0 0 1 0 0 2 2) ∷ [])
      ∷ cmd.Barrier (element.Memory (dependency transfer transfer_write transfer (transfer_read + transfer_write)) ∷ [])
      ∷ cmd.CopyImage 3 general 4 general ((image_region 0 0 0 0 1 1 0 0 0 1 2) ∷ [])
      ∷ cmd.Barrier (element.Memory (dependency transfer transfer_write transfer transfer_read) ∷ [])
      ∷ cmd.CopyOut 4 general 2 ((region 0 0 0 0 0 1 0 0 1 2) ∷ [])
      ∷ cmd.Barrier (element.Memory (dependency transfer transfer_write host host_read) ∷ []) ∷ [])
      (submit_info 5 1 all_commands ∷ []) ∷ [])
      ∷ entry.Wait (semaphore_value 5 1 ∷ [])
      ∷ entry.Map 2
      ∷ entry.Read 2 0 2
      ∷ []) (at.Command 7 0 3) rule.Format
