-- The rows of a program in C, by the points that they stand for (profile).
use Rattle.std.specs.Prelude.{ℕ, Bool, true, false, List, [], ◌∷◌, ◌++◌, map, length, count_by}
use Rattle.vk_model.specs.declared.command.Cmd.{Cmd}
use Rattle.vk_model.specs.declared.command.Cmd.TheVariants.{Fill, Update, Copy, Clear, CopyIn, CopyOut, CopyImage, Barrier, Set, Await}
use Rattle.vk_model.specs.declared.command.Element.{Element}
use Rattle.vk_model.specs.declared.command.Element.TheVariants as element
use Rattle.vk_model.specs.declared.entry.Entry.{Entry}
use Rattle.vk_model.specs.declared.entry.Entry.TheVariants as entry
use Rattle.vk_model.specs.declared.entry.SemaphoreSubmit.{SemaphoreSubmit}
use Rattle.vk_row_text.specs.declared.names.EntryName.{EntryName}
use Rattle.vk_row_text.specs.declared.names.EntryName.TheVariants as name
use Rattle.vk_row_text.specs.declared.names.BatchName.{BatchName}
use Rattle.vk_row_text.specs.declared.names.BatchName.TheVariants as batch
use Rattle.vk_row_text.specs.declared.names.RowName.TheVariants.{OfEntry, InBatch}
use Rattle.vk_row_text.specs.declared.words.Word.{Word}
use Rattle.vk_row_text.specs.declared.words.Word.TheVariants.{Number, Hex, Bytes, Layout, Usage, Stages, Place, Algorithm, Sharing, Tiling, Format}
use Rattle.vk_row_text.specs.Words.{CallWords, RowWords}
use Rattle.vk_row_text.specs.Regions.{id_item, value_item, range_item, copy_item, buffer_image_item, image_item, dependency_item, element_item}

-- A row of an entry, without items.
abbrev pub of_entry : EntryName → List Word → RowWords
of_entry n words = ((OfEntry n, words), [])

-- The row of an entry: its members, in the order of the trace; the bytes of a write are elsewhere, and here is how many. A submit has the number of its batches, which have rows of their own where they start (profile).
abbrev pub entry_row : Entry → RowWords
entry_row (entry.Pool id info) = of_entry name.CreatePool (Number id ∷ Algorithm info.kind ∷ Number info.memory_type ∷ Number info.block_size ∷ Number info.block_limit ∷ [])
entry_row (entry.Buffer id info) = of_entry name.CreateBuffer (Number id ∷ Number info.size ∷ Usage info.usage ∷ Sharing info.sharing ∷ Place info.place ∷ [])
entry_row (entry.Image id info) = of_entry name.CreateImage (Number id ∷ Format info.format ∷ Number info.width ∷ Number info.height ∷ Number info.levels ∷ Number info.layers ∷ Tiling info.tiling ∷ Usage info.usage ∷ Sharing info.sharing ∷ Place info.place ∷ [])
entry_row (entry.Memory id info) = of_entry name.AllocateMemory (Number id ∷ Number info.memory_type ∷ Number info.size ∷ [])
entry_row (entry.Free memory) = of_entry name.FreeMemory (Number memory ∷ [])
entry_row (entry.Destroy resource) = of_entry name.Destroy (Number resource ∷ [])
entry_row (entry.DropPool pool) = of_entry name.DestroyPool (Number pool ∷ [])
entry_row (entry.Map buffer) = of_entry name.MapMemory (Number buffer ∷ [])
entry_row (entry.Unmap buffer) = of_entry name.UnmapMemory (Number buffer ∷ [])
entry_row (entry.Write buffer offset bytes) = of_entry name.Write (Number buffer ∷ Number offset ∷ Number (length bytes) ∷ [])
entry_row (entry.Read buffer offset size) = of_entry name.Read (Number buffer ∷ Number offset ∷ Number size ∷ [])
entry_row (entry.Flush buffer offset size) = of_entry name.Flush (Number buffer ∷ Number offset ∷ Bytes size ∷ [])
entry_row (entry.Invalidate buffer offset size) = of_entry name.Invalidate (Number buffer ∷ Number offset ∷ Bytes size ∷ [])
entry_row (entry.Semaphore id initial) = of_entry name.CreateSemaphore (Number id ∷ Number initial ∷ [])
entry_row (entry.Event id) = of_entry name.CreateEvent (Number id ∷ [])
entry_row (entry.Signal semaphore value) = of_entry name.SignalSemaphore (Number semaphore ∷ Number value ∷ [])
entry_row (entry.Wait waits) = ((OfEntry name.WaitSemaphores, Number (length waits) ∷ []), map value_item waits)
entry_row (entry.Submit queue batches) = of_entry name.Submit (Number queue ∷ Number (length batches) ∷ [])
entry_row (entry.Defrag id pool max_bytes max_moves) = of_entry name.BeginDefragmentation (Number id ∷ Number pool ∷ Number max_bytes ∷ Number max_moves ∷ [])
entry_row (entry.Pass defrag) = of_entry name.BeginPass (Number defrag ∷ [])
entry_row (entry.EndPass defrag ignored destroyed) = ((OfEntry name.EndPass, Number defrag ∷ Number (length ignored) ∷ Number (length destroyed) ∷ []), map id_item ignored ++ map id_item destroyed)
entry_row (entry.EndDefrag defrag) = of_entry name.EndDefragmentation (Number defrag ∷ [])

-- Whether an element is on all memory, on a range of a buffer, or on levels and layers of an image.
abbrev pub on_memory : Element → Bool
on_memory (element.Memory d) = true
on_memory (element.Buffer b) = false
on_memory (element.Image i) = false

abbrev pub on_buffer : Element → Bool
on_buffer (element.Memory d) = false
on_buffer (element.Buffer b) = true
on_buffer (element.Image i) = false

abbrev pub on_image : Element → Bool
on_image (element.Memory d) = false
on_image (element.Buffer b) = false
on_image (element.Image i) = true

-- The components of a color.
abbrev pub color_words : List ℕ → List Word
color_words c = map Number c

-- A row of a batch.
abbrev pub in_batch : BatchName → List Word → List CallWords → RowWords
in_batch n words items = ((InBatch n, words), items)

-- The row of a command: its members, in the order of the trace; the bytes of an update are elsewhere, and here is how many (profile).
abbrev pub command_row : Cmd → RowWords
command_row (Fill buffer offset size word) = in_batch batch.FillBuffer (Number buffer ∷ Number offset ∷ Bytes size ∷ Hex word ∷ []) []
command_row (Update buffer offset bytes) = in_batch batch.UpdateBuffer (Number buffer ∷ Number offset ∷ Number (length bytes) ∷ []) []
command_row (Copy source destination regions) = in_batch batch.CopyBuffer (Number source ∷ Number destination ∷ Number (length regions) ∷ []) (map copy_item regions)
command_row (Clear image layout color ranges) = in_batch batch.ClearColorImage (Number image ∷ Layout layout ∷ color_words color ++ (Number (length ranges) ∷ [])) (map range_item ranges)
command_row (CopyIn buffer image layout regions) = in_batch batch.CopyBufferToImage (Number buffer ∷ Number image ∷ Layout layout ∷ Number (length regions) ∷ []) (map buffer_image_item regions)
command_row (CopyOut image layout buffer regions) = in_batch batch.CopyImageToBuffer (Number image ∷ Layout layout ∷ Number buffer ∷ Number (length regions) ∷ []) (map buffer_image_item regions)
command_row (CopyImage source source_layout destination destination_layout regions) = in_batch batch.CopyImage (Number source ∷ Layout source_layout ∷ Number destination ∷ Layout destination_layout ∷ Number (length regions) ∷ []) (map image_item regions)
command_row (Barrier elements) = in_batch batch.PipelineBarrier (Number (count_by on_memory elements) ∷ Number (count_by on_buffer elements) ∷ Number (count_by on_image elements) ∷ []) (map element_item elements)
command_row (Set event elements) = in_batch batch.SetEvent (Number event ∷ Number (length elements) ∷ []) (map dependency_item elements)
command_row (Await event elements) = in_batch batch.WaitEvent (Number event ∷ Number (length elements) ∷ []) (map dependency_item elements)

-- The row of a wait or of a signal, as `VkSemaphoreSubmitInfo`.
abbrev pub submit_row : BatchName → SemaphoreSubmit → CallWords
submit_row n s = (InBatch n, Number s.semaphore ∷ Number s.value ∷ Stages s.stages ∷ [])

-- The row with which a batch begins: its entry, its number there, and its queue (profile).
abbrev pub batch_row : ℕ → ℕ → ℕ → CallWords
batch_row e b queue = (InBatch batch.Batch, Number e ∷ Number b ∷ Number queue ∷ [])

-- Whether an entry is about a range of a buffer.
abbrev pub is_of_range : Entry → Bool
is_of_range (entry.Write b o bytes) = true
is_of_range (entry.Read b o n) = true
is_of_range (entry.Flush b o n) = true
is_of_range (entry.Invalidate b o n) = true
is_of_range _ = false

-- Whether it has a list, or is of a defragmentation.
abbrev pub is_of_lists : Entry → Bool
is_of_lists (entry.Wait waits) = true
is_of_lists (entry.Submit queue batches) = true
is_of_lists (entry.Defrag id pool max_bytes max_moves) = true
is_of_lists (entry.EndPass defrag ignored destroyed) = true
is_of_lists _ = false

-- Whether a command names an image.
abbrev pub is_of_image : Cmd → Bool
is_of_image (Clear image layout color ranges) = true
is_of_image (CopyIn buffer image layout regions) = true
is_of_image (CopyOut image layout buffer regions) = true
is_of_image (CopyImage source a destination b regions) = true
is_of_image _ = false
