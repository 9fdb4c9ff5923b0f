-- The items of rows, by what they stand for (profile).
use Rattle.std.specs.Prelude.{ℕ, List, [], ◌∷◌, ◌++◌}
use Rattle.vk_model.specs.declared.command.BufferCopy.{BufferCopy}
use Rattle.vk_model.specs.declared.command.BufferImageCopy.{BufferImageCopy}
use Rattle.vk_model.specs.declared.command.ImageCopy.{ImageCopy}
use Rattle.vk_model.specs.declared.command.SubresourceRange.{SubresourceRange}
use Rattle.vk_model.specs.declared.command.Dependency.{Dependency}
use Rattle.vk_model.specs.declared.command.Families.{Families}
use Rattle.vk_model.specs.declared.command.BufferElement.{BufferElement}
use Rattle.vk_model.specs.declared.command.ImageElement.{ImageElement}
use Rattle.vk_model.specs.declared.command.Element.{Element}
use Rattle.vk_model.specs.declared.command.Element.TheVariants.{Memory, Buffer, Image}
use Rattle.vk_model.specs.declared.entry.SemaphoreValue.{SemaphoreValue}
use Rattle.vk_row_text.specs.declared.names.ItemName.TheVariants as item
use Rattle.vk_row_text.specs.declared.names.RowName.TheVariants.{OfItem}
use Rattle.vk_row_text.specs.declared.words.Word.{Word}
use Rattle.vk_row_text.specs.declared.words.Word.TheVariants.{Number, Bytes, Layout, Family, Stages, Accesses, Range}
use Rattle.vk_row_text.specs.Words.{CallWords}

-- An id that a pass names (profile).
abbrev pub id_item : ℕ → CallWords
id_item id = (OfItem item.Id, Number id ∷ [])

-- A semaphore and the value that the host waits for, as in `VkSemaphoreWaitInfo`.
abbrev pub value_item : SemaphoreValue → CallWords
value_item v = (OfItem item.Semaphore, Number v.semaphore ∷ Number v.value ∷ [])

-- Levels and layers, as in `VkImageSubresourceRange`.
abbrev pub range_words : SubresourceRange → List Word
range_words r = Number r.first_level ∷ Number r.levels ∷ Number r.first_layer ∷ Number r.layers ∷ []

-- The same as an item.
abbrev pub range_item : SubresourceRange → CallWords
range_item r = (OfItem item.Range, range_words r)

-- A region, as `VkBufferCopy2`.
abbrev pub copy_item : BufferCopy → CallWords
copy_item r = (OfItem item.Copy, Number r.source_offset ∷ Number r.destination_offset ∷ Number r.size ∷ [])

-- A region, as `VkBufferImageCopy2`.
abbrev pub buffer_image_item : BufferImageCopy → CallWords
buffer_image_item r = (OfItem item.BufferImageCopy, Number r.buffer_offset ∷ Number r.row_length ∷ Number r.image_height ∷ Number r.level ∷ Number r.first_layer ∷ Number r.layers ∷ Number r.x ∷ Number r.y ∷ Number r.width ∷ Number r.height ∷ [])

-- A region, as `VkImageCopy2`.
abbrev pub image_item : ImageCopy → CallWords
image_item r = (OfItem item.ImageCopy, Number r.source_level ∷ Number r.source_first_layer ∷ Number r.destination_level ∷ Number r.destination_first_layer ∷ Number r.layers ∷ Number r.source_x ∷ Number r.source_y ∷ Number r.destination_x ∷ Number r.destination_y ∷ Number r.width ∷ Number r.height ∷ [])

-- Both scopes of a dependency, as in `VkMemoryBarrier2`.
abbrev pub scope_words : Dependency → List Word
scope_words d = Stages d.source_stages ∷ Accesses d.source_accesses ∷ Stages d.destination_stages ∷ Accesses d.destination_accesses ∷ []

-- Both families of an ownership transfer.
abbrev pub family_words : Families → List Word
family_words f = Family f.source ∷ Family f.destination ∷ []

-- An element, as `VkMemoryBarrier2`.
abbrev pub dependency_item : Dependency → CallWords
dependency_item d = (OfItem item.MemoryBarrier, scope_words d)

-- An element, as `VkBufferMemoryBarrier2`.
abbrev pub buffer_element_item : BufferElement → CallWords
buffer_element_item e = (OfItem item.BufferBarrier, scope_words e.dependency ++ family_words e.families ++ (Number e.buffer ∷ Number e.offset ∷ Bytes e.size ∷ []))

-- An element, as `VkImageMemoryBarrier2`; the levels and layers are an item within.
abbrev pub image_element_item : ImageElement → CallWords
image_element_item e = (OfItem item.ImageBarrier, scope_words e.dependency ++ family_words e.families ++ (Number e.image ∷ Layout e.old_layout ∷ Layout e.new_layout ∷ Range e.range ∷ []))

-- An element of a barrier.
abbrev pub element_item : Element → CallWords
element_item (Memory d) = dependency_item d
element_item (Buffer e) = buffer_element_item e
element_item (Image e) = image_element_item e
