-- Names of rows that are found by their text.
use Rattle.std.proofs.Common.{◌≡◌, ◌∙◌, ℕ, List, [], ◌∷◌, Option, Some, None, refl, ap, sym}
use Rattle.std.specs.Prelude.{codes, bytes_eq, if◌then◌else◌}
use Rattle.vk_row_text.specs.declared.names.EntryName.TheVariants as name
use Rattle.vk_row_text.specs.declared.names.BatchName.TheVariants as batch
use Rattle.vk_row_text.specs.declared.names.ItemName.TheVariants as item
use Rattle.vk_row_text.specs.declared.names.RowName.{RowName}
use Rattle.vk_row_text.specs.declared.names.RowName.TheVariants.{OfEntry, InBatch, OfItem}
use Rattle.vk_row_text.specs.Names.{row_name}
use Rattle.vk_row_text.specs.Telling.{NamesDiffer}

table : List (List ℕ × RowName)
table
    = (codes "CREATE_POOL", OfEntry name.CreatePool)
    ∷ (codes "CREATE_BUFFER", OfEntry name.CreateBuffer)
    ∷ (codes "CREATE_IMAGE", OfEntry name.CreateImage)
    ∷ (codes "ALLOCATE_MEMORY", OfEntry name.AllocateMemory)
    ∷ (codes "FREE_MEMORY", OfEntry name.FreeMemory)
    ∷ (codes "DESTROY", OfEntry name.Destroy)
    ∷ (codes "DESTROY_POOL", OfEntry name.DestroyPool)
    ∷ (codes "MAP_MEMORY", OfEntry name.MapMemory)
    ∷ (codes "UNMAP_MEMORY", OfEntry name.UnmapMemory)
    ∷ (codes "WRITE", OfEntry name.Write)
    ∷ (codes "READ", OfEntry name.Read)
    ∷ (codes "FLUSH", OfEntry name.Flush)
    ∷ (codes "INVALIDATE", OfEntry name.Invalidate)
    ∷ (codes "CREATE_SEMAPHORE", OfEntry name.CreateSemaphore)
    ∷ (codes "CREATE_EVENT", OfEntry name.CreateEvent)
    ∷ (codes "SIGNAL_SEMAPHORE", OfEntry name.SignalSemaphore)
    ∷ (codes "WAIT_SEMAPHORES", OfEntry name.WaitSemaphores)
    ∷ (codes "SUBMIT", OfEntry name.Submit)
    ∷ (codes "BEGIN_DEFRAGMENTATION", OfEntry name.BeginDefragmentation)
    ∷ (codes "BEGIN_PASS", OfEntry name.BeginPass)
    ∷ (codes "END_PASS", OfEntry name.EndPass)
    ∷ (codes "END_DEFRAGMENTATION", OfEntry name.EndDefragmentation)
    ∷ (codes "BATCH", InBatch batch.Batch)
    ∷ (codes "BATCH_WAIT", InBatch batch.BatchWait)
    ∷ (codes "BATCH_SIGNAL", InBatch batch.BatchSignal)
    ∷ (codes "CMD_FILL_BUFFER", InBatch batch.FillBuffer)
    ∷ (codes "CMD_UPDATE_BUFFER", InBatch batch.UpdateBuffer)
    ∷ (codes "CMD_COPY_BUFFER", InBatch batch.CopyBuffer)
    ∷ (codes "CMD_CLEAR_COLOR_IMAGE", InBatch batch.ClearColorImage)
    ∷ (codes "CMD_COPY_BUFFER_TO_IMAGE", InBatch batch.CopyBufferToImage)
    ∷ (codes "CMD_COPY_IMAGE_TO_BUFFER", InBatch batch.CopyImageToBuffer)
    ∷ (codes "CMD_COPY_IMAGE", InBatch batch.CopyImage)
    ∷ (codes "CMD_PIPELINE_BARRIER", InBatch batch.PipelineBarrier)
    ∷ (codes "CMD_SET_EVENT", InBatch batch.SetEvent)
    ∷ (codes "CMD_WAIT_EVENT", InBatch batch.WaitEvent)
    ∷ (codes "ID", OfItem item.Id)
    ∷ (codes "SEMAPHORE", OfItem item.Semaphore)
    ∷ (codes "RANGE", OfItem item.Range)
    ∷ (codes "COPY", OfItem item.Copy)
    ∷ (codes "BUFFER_IMAGE_COPY", OfItem item.BufferImageCopy)
    ∷ (codes "IMAGE_COPY", OfItem item.ImageCopy)
    ∷ (codes "MEMORY_BARRIER", OfItem item.MemoryBarrier)
    ∷ (codes "BUFFER_BARRIER", OfItem item.BufferBarrier)
    ∷ (codes "IMAGE_BARRIER", OfItem item.ImageBarrier)
    ∷ []

found : List (List ℕ × RowName) → List ℕ → Option RowName
found [] text = None
found (row ∷ rows) text = if bytes_eq text row.0 then Some row.1 else found rows text

found_back : (n : RowName) → found table (row_name n) ≡ Some n
unfolding table found
found_back (OfEntry name.CreatePool) = refl
found_back (OfEntry name.CreateBuffer) = refl
found_back (OfEntry name.CreateImage) = refl
found_back (OfEntry name.AllocateMemory) = refl
found_back (OfEntry name.FreeMemory) = refl
found_back (OfEntry name.Destroy) = refl
found_back (OfEntry name.DestroyPool) = refl
found_back (OfEntry name.MapMemory) = refl
found_back (OfEntry name.UnmapMemory) = refl
found_back (OfEntry name.Write) = refl
found_back (OfEntry name.Read) = refl
found_back (OfEntry name.Flush) = refl
found_back (OfEntry name.Invalidate) = refl
found_back (OfEntry name.CreateSemaphore) = refl
found_back (OfEntry name.CreateEvent) = refl
found_back (OfEntry name.SignalSemaphore) = refl
found_back (OfEntry name.WaitSemaphores) = refl
found_back (OfEntry name.Submit) = refl
found_back (OfEntry name.BeginDefragmentation) = refl
found_back (OfEntry name.BeginPass) = refl
found_back (OfEntry name.EndPass) = refl
found_back (OfEntry name.EndDefragmentation) = refl
found_back (InBatch batch.Batch) = refl
found_back (InBatch batch.BatchWait) = refl
found_back (InBatch batch.BatchSignal) = refl
found_back (InBatch batch.FillBuffer) = refl
found_back (InBatch batch.UpdateBuffer) = refl
found_back (InBatch batch.CopyBuffer) = refl
found_back (InBatch batch.ClearColorImage) = refl
found_back (InBatch batch.CopyBufferToImage) = refl
found_back (InBatch batch.CopyImageToBuffer) = refl
found_back (InBatch batch.CopyImage) = refl
found_back (InBatch batch.PipelineBarrier) = refl
found_back (InBatch batch.SetEvent) = refl
found_back (InBatch batch.WaitEvent) = refl
found_back (OfItem item.Id) = refl
found_back (OfItem item.Semaphore) = refl
found_back (OfItem item.Range) = refl
found_back (OfItem item.Copy) = refl
found_back (OfItem item.BufferImageCopy) = refl
found_back (OfItem item.ImageCopy) = refl
found_back (OfItem item.MemoryBarrier) = refl
found_back (OfItem item.BufferBarrier) = refl
found_back (OfItem item.ImageBarrier) = refl

pub names_apart : NamesDiffer
names_apart n m same =
    let e : Some n ≡ Some m = sym (found_back n) ∙ (ap (found table) same ∙ found_back m) in
    cc
