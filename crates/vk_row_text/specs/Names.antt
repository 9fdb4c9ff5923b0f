-- The names of rows, as the header of the program in C has them (profile).
use Rattle.std.specs.Prelude.{ℕ, List, codes}
use Rattle.vk_row_text.specs.declared.names.EntryName.{EntryName}
use Rattle.vk_row_text.specs.declared.names.EntryName.TheVariants as entry
use Rattle.vk_row_text.specs.declared.names.BatchName.{BatchName}
use Rattle.vk_row_text.specs.declared.names.BatchName.TheVariants as batch
use Rattle.vk_row_text.specs.declared.names.ItemName.{ItemName}
use Rattle.vk_row_text.specs.declared.names.ItemName.TheVariants as item
use Rattle.vk_row_text.specs.declared.names.RowName.{RowName}
use Rattle.vk_row_text.specs.declared.names.RowName.TheVariants.{OfEntry, InBatch, OfItem}

-- The name of the row of an entry (profile).
abbrev pub entry_name : EntryName → List ℕ
entry_name entry.CreatePool = codes "CREATE_POOL"
entry_name entry.CreateBuffer = codes "CREATE_BUFFER"
entry_name entry.CreateImage = codes "CREATE_IMAGE"
entry_name entry.AllocateMemory = codes "ALLOCATE_MEMORY"
entry_name entry.FreeMemory = codes "FREE_MEMORY"
entry_name entry.Destroy = codes "DESTROY"
entry_name entry.DestroyPool = codes "DESTROY_POOL"
entry_name entry.MapMemory = codes "MAP_MEMORY"
entry_name entry.UnmapMemory = codes "UNMAP_MEMORY"
entry_name entry.Write = codes "WRITE"
entry_name entry.Read = codes "READ"
entry_name entry.Flush = codes "FLUSH"
entry_name entry.Invalidate = codes "INVALIDATE"
entry_name entry.CreateSemaphore = codes "CREATE_SEMAPHORE"
entry_name entry.CreateEvent = codes "CREATE_EVENT"
entry_name entry.SignalSemaphore = codes "SIGNAL_SEMAPHORE"
entry_name entry.WaitSemaphores = codes "WAIT_SEMAPHORES"
entry_name entry.Submit = codes "SUBMIT"
entry_name entry.BeginDefragmentation = codes "BEGIN_DEFRAGMENTATION"
entry_name entry.BeginPass = codes "BEGIN_PASS"
entry_name entry.EndPass = codes "END_PASS"
entry_name entry.EndDefragmentation = codes "END_DEFRAGMENTATION"

-- The name of a row of a batch (profile).
abbrev pub batch_name : BatchName → List ℕ
batch_name batch.Batch = codes "BATCH"
batch_name batch.BatchWait = codes "BATCH_WAIT"
batch_name batch.BatchSignal = codes "BATCH_SIGNAL"
batch_name batch.FillBuffer = codes "CMD_FILL_BUFFER"
batch_name batch.UpdateBuffer = codes "CMD_UPDATE_BUFFER"
batch_name batch.CopyBuffer = codes "CMD_COPY_BUFFER"
batch_name batch.ClearColorImage = codes "CMD_CLEAR_COLOR_IMAGE"
batch_name batch.CopyBufferToImage = codes "CMD_COPY_BUFFER_TO_IMAGE"
batch_name batch.CopyImageToBuffer = codes "CMD_COPY_IMAGE_TO_BUFFER"
batch_name batch.CopyImage = codes "CMD_COPY_IMAGE"
batch_name batch.PipelineBarrier = codes "CMD_PIPELINE_BARRIER"
batch_name batch.SetEvent = codes "CMD_SET_EVENT"
batch_name batch.WaitEvent = codes "CMD_WAIT_EVENT"

-- The name of an item of a row (profile).
abbrev pub item_name : ItemName → List ℕ
item_name item.Id = codes "ID"
item_name item.Semaphore = codes "SEMAPHORE"
item_name item.Range = codes "RANGE"
item_name item.Copy = codes "COPY"
item_name item.BufferImageCopy = codes "BUFFER_IMAGE_COPY"
item_name item.ImageCopy = codes "IMAGE_COPY"
item_name item.MemoryBarrier = codes "MEMORY_BARRIER"
item_name item.BufferBarrier = codes "BUFFER_BARRIER"
item_name item.ImageBarrier = codes "IMAGE_BARRIER"

-- The name of a row, or of an item of one (profile).
abbrev pub row_name : RowName → List ℕ
row_name (OfEntry name) = entry_name name
row_name (InBatch name) = batch_name name
row_name (OfItem name) = item_name name
