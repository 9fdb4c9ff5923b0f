-- The broken and the corrected traces for each rule from RANGE to OWNER_PAIR.
use Rattle.std.specs.Prelude.{List, ◌+◌, [], ◌∷◌}
use Rattle.vk_model.specs.declared.entry.Entry.{Entry}
use Rattle.vk_model.specs.declared.entry.Entry.TheVariants as entry
use Rattle.vk_model.specs.declared.resource.Sharing.TheVariants as sharing
use Rattle.vk_model.specs.declared.resource.Place.TheVariants as place
use Rattle.vk_model.specs.declared.resource.Kind.TheVariants as kind
use Rattle.vk_model.specs.declared.layout.Format.TheVariants as texel_format
use Rattle.vk_model.specs.declared.command.Element.TheVariants as element
use Rattle.vk_model.specs.declared.command.Cmd.TheVariants as cmd
use Rattle.vk_rows.specs.Writing.{bytes, to_end, dependency, levels, buffer_element, image_element, buffer_region, image_region, submit_info, batch, buffer_entry, image_entry, transfer, all_commands, transfer_read, transfer_write, both, undefined, general, destination_optimal, ignored}

-- A flush of 17 bytes of 16.
abbrev pub range : List Entry
range =
    buffer_entry 1 16 both sharing.Exclusive (place.Dedicated 1)
    ∷ entry.Map 1
    ∷ entry.Flush 1 0 (bytes 17)
    ∷ []

-- Of 16.
abbrev pub range_corrected : List Entry
range_corrected =
    buffer_entry 1 16 both sharing.Exclusive (place.Dedicated 1)
    ∷ entry.Map 1
    ∷ entry.Flush 1 0 (bytes 16)
    ∷ []

-- A fill at byte 2.
abbrev pub align : List Entry
align =
    buffer_entry 1 16 both sharing.Exclusive (place.Dedicated 1)
    ∷ entry.Submit 0 (batch [] (cmd.Fill 1 2 (bytes 4) 7 ∷ []) [] ∷ [])
    ∷ []

-- At byte 4.
abbrev pub align_corrected : List Entry
align_corrected =
    buffer_entry 1 16 both sharing.Exclusive (place.Dedicated 1)
    ∷ entry.Submit 0 (batch [] (cmd.Fill 1 4 (bytes 4) 7 ∷ []) [] ∷ [])
    ∷ []

-- A copy of 8 bytes by 4.
abbrev pub overlap : List Entry
overlap =
    buffer_entry 1 16 both sharing.Exclusive (place.Dedicated 1)
    ∷ entry.Submit 0 (batch [] (cmd.Copy 1 1 ((buffer_region 0 4 8) ∷ []) ∷ []) [] ∷ [])
    ∷ []

-- By 8.
abbrev pub overlap_corrected : List Entry
overlap_corrected =
    buffer_entry 1 16 both sharing.Exclusive (place.Dedicated 1)
    ∷ entry.Submit 0 (batch [] (cmd.Copy 1 1 ((buffer_region 0 8 8) ∷ []) ∷ []) [] ∷ [])
    ∷ []

-- A copy from texels of one byte to texels of two.
abbrev pub format : List Entry
format =
    image_entry 1 texel_format.R8Uint 8 8 1 1 kind.Optimal both sharing.Exclusive (place.Dedicated 0)
    ∷ image_entry 2 texel_format.R16Uint 8 8 1 1 kind.Optimal both sharing.Exclusive (place.Dedicated 0)
    ∷ entry.Submit 0 (batch []
    (cmd.Barrier (image_element (dependency transfer transfer_write transfer (transfer_read + transfer_write)) ignored ignored 1 undefined general (levels 0 1 0 1) ∷ image_element (dependency transfer transfer_write transfer (transfer_read + transfer_write)) ignored ignored 2 undefined general (levels 0 1 0 1) ∷ [])
    ∷ cmd.CopyImage 1 general 2 general ((image_region 0 0 0 0 1 0 0 0 0 8 8) ∷ []) ∷ [])
    [] ∷ [])
    ∷ []

-- To texels of one.
abbrev pub format_corrected : List Entry
format_corrected =
    image_entry 1 texel_format.R8Uint 8 8 1 1 kind.Optimal both sharing.Exclusive (place.Dedicated 0)
    ∷ image_entry 2 texel_format.R8Uint 8 8 1 1 kind.Optimal both sharing.Exclusive (place.Dedicated 0)
    ∷ entry.Submit 0 (batch []
    (cmd.Barrier (image_element (dependency transfer transfer_write transfer (transfer_read + transfer_write)) ignored ignored 1 undefined general (levels 0 1 0 1) ∷ image_element (dependency transfer transfer_write transfer (transfer_read + transfer_write)) ignored ignored 2 undefined general (levels 0 1 0 1) ∷ [])
    ∷ cmd.CopyImage 1 general 2 general ((image_region 0 0 0 0 1 0 0 0 0 8 8) ∷ []) ∷ [])
    [] ∷ [])
    ∷ []

-- A dependency on level 1 of an image of one level.
abbrev pub subresource : List Entry
subresource =
    image_entry 1 texel_format.R8Uint 8 8 1 1 kind.Optimal both sharing.Exclusive (place.Dedicated 0)
    ∷ entry.Submit 0 (batch []
    (cmd.Barrier (image_element (dependency transfer transfer_write transfer (transfer_read + transfer_write)) ignored ignored 1 undefined undefined (levels 1 1 0 1) ∷ []) ∷ [])
    [] ∷ [])
    ∷ []

-- On level 0.
abbrev pub subresource_corrected : List Entry
subresource_corrected =
    image_entry 1 texel_format.R8Uint 8 8 1 1 kind.Optimal both sharing.Exclusive (place.Dedicated 0)
    ∷ entry.Submit 0 (batch []
    (cmd.Barrier (image_element (dependency transfer transfer_write transfer (transfer_read + transfer_write)) ignored ignored 1 undefined undefined (levels 0 1 0 1) ∷ []) ∷ [])
    [] ∷ [])
    ∷ []

-- A dependency with a stage that isn't known.
abbrev pub stage : List Entry
stage =
    entry.Submit 0 (batch [] (cmd.Barrier (element.Memory (dependency 1 0 0 0) ∷ []) ∷ []) [] ∷ [])
    ∷ []

-- With TRANSFER.
abbrev pub stage_corrected : List Entry
stage_corrected =
    entry.Submit 0 (batch [] (cmd.Barrier (element.Memory (dependency transfer 0 0 0) ∷ []) ∷ []) [] ∷ [])
    ∷ []

-- A clear of an image in UNDEFINED.
abbrev pub layout : List Entry
layout =
    image_entry 1 texel_format.R8Uint 8 8 1 1 kind.Optimal both sharing.Exclusive (place.Dedicated 0)
    ∷ entry.Submit 0 (batch [] (cmd.Clear 1 destination_optimal (0 ∷ 0 ∷ 0 ∷ 0 ∷ []) ((levels 0 1 0 1) ∷ []) ∷ []) [] ∷ [])
    ∷ []

-- After a transition.
abbrev pub layout_corrected : List Entry
layout_corrected =
    image_entry 1 texel_format.R8Uint 8 8 1 1 kind.Optimal both sharing.Exclusive (place.Dedicated 0)
    ∷ entry.Submit 0 (batch []
    (cmd.Barrier (image_element (dependency transfer transfer_write transfer (transfer_read + transfer_write)) ignored ignored 1 undefined destination_optimal (levels 0 1 0 1) ∷ [])
    ∷ cmd.Clear 1 destination_optimal (0 ∷ 0 ∷ 0 ∷ 0 ∷ []) ((levels 0 1 0 1) ∷ []) ∷ [])
    [] ∷ [])
    ∷ []

-- A transition from GENERAL of an image in UNDEFINED.
abbrev pub old_layout : List Entry
old_layout =
    image_entry 1 texel_format.R8Uint 8 8 1 1 kind.Optimal both sharing.Exclusive (place.Dedicated 0)
    ∷ entry.Submit 0 (batch []
    (cmd.Barrier (image_element (dependency transfer transfer_write transfer (transfer_read + transfer_write)) ignored ignored 1 general destination_optimal (levels 0 1 0 1) ∷ []) ∷ [])
    [] ∷ [])
    ∷ []

-- From UNDEFINED.
abbrev pub old_layout_corrected : List Entry
old_layout_corrected =
    image_entry 1 texel_format.R8Uint 8 8 1 1 kind.Optimal both sharing.Exclusive (place.Dedicated 0)
    ∷ entry.Submit 0 (batch []
    (cmd.Barrier (image_element (dependency transfer transfer_write transfer (transfer_read + transfer_write)) ignored ignored 1 undefined destination_optimal (levels 0 1 0 1) ∷ []) ∷ [])
    [] ∷ [])
    ∷ []

-- A release of half a buffer.
abbrev pub owner_whole : List Entry
owner_whole =
    buffer_entry 1 16 both sharing.Exclusive (place.Dedicated 1)
    ∷ entry.Submit 0 (batch [] (cmd.Barrier (buffer_element (dependency transfer transfer_write 0 0) 0 1 1 0 (bytes 8) ∷ []) ∷ []) [] ∷ [])
    ∷ []

-- Of all of it.
abbrev pub owner_whole_corrected : List Entry
owner_whole_corrected =
    buffer_entry 1 16 both sharing.Exclusive (place.Dedicated 1)
    ∷ entry.Submit 0 (batch [] (cmd.Barrier (buffer_element (dependency transfer transfer_write 0 0) 0 1 1 0 to_end ∷ []) ∷ []) [] ∷ [])
    ∷ []

-- An acquire without a release.
abbrev pub owner_pair : List Entry
owner_pair =
    buffer_entry 1 16 both sharing.Exclusive (place.Dedicated 1)
    ∷ entry.Semaphore 2 1
    ∷ entry.Submit 2 (batch (submit_info 2 1 all_commands ∷ [])
    (cmd.Barrier (buffer_element (dependency transfer 0 transfer transfer_read) 0 1 1 0 to_end ∷ []) ∷ [])
    [] ∷ [])
    ∷ []

-- After a release.
abbrev pub owner_pair_corrected : List Entry
owner_pair_corrected =
    buffer_entry 1 16 both sharing.Exclusive (place.Dedicated 1)
    ∷ entry.Semaphore 2 0
    ∷ entry.Submit 0 (batch []
    (cmd.Barrier (buffer_element (dependency transfer transfer_write 0 0) 0 1 1 0 to_end ∷ []) ∷ [])
    (submit_info 2 1 all_commands ∷ []) ∷ [])
    ∷ entry.Submit 2 (batch (submit_info 2 1 all_commands ∷ [])
    (cmd.Barrier (buffer_element (dependency transfer 0 transfer transfer_read) 0 1 1 0 to_end ∷ []) ∷ [])
    [] ∷ [])
    ∷ []
