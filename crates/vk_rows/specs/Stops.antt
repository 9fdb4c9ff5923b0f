-- Where traces stop on a device, and how far others come: what each device has allocated follows from the entries and the places that they get.
use Rattle.std.specs.Prelude.{ℕ, List, [], ◌∷◌, ◌++◌}
use Rattle.vk_model.specs.declared.entry.Entry.{Entry}
use Rattle.vk_model.specs.declared.entry.Entry.TheVariants as entry
use Rattle.vk_model.specs.declared.resource.Place.TheVariants as place
use Rattle.vk_model.specs.declared.resource.PoolKind.TheVariants as algorithm
use Rattle.vk_model.specs.declared.resource.Sharing.TheVariants as sharing
use Rattle.vk_model.specs.Memory.HeapSizes.{HeapSizes}
use Rattle.vk_model.specs.Memory.Allocations.{Allocated, Reaches, StopsAt}
use Rattle.vk_rows.specs.Writing.{buffer_entry, memory_entry, pool_entry, both}

-- The trace stops at entry n on a device with heaps of these sizes.
abbrev pub Stops : HeapSizes → List Entry → ℕ → Type 0
Stops sizes t n = (d : Allocated) × StopsAt sizes t n d

-- All entries of the trace find room on such a device.
abbrev pub HasRoom : HeapSizes → List Entry → Type 0
HasRoom sizes t = (d : Allocated) × Reaches sizes t d

-- Heaps of the usual size.
abbrev pub usual : HeapSizes
usual = record { heap0 = 4194304; heap1 = 4194304 }

-- A heap 1 of 65,536 bytes.
abbrev pub small : HeapSizes
small = record { heap0 = 4194304; heap1 = 65536 }

-- A buffer of this size in pool 1.
abbrev pub in_pool : ℕ → ℕ → Entry
in_pool i size = buffer_entry i size both sharing.Exclusive (place.Pool 1)

-- A ring of 4,096 bytes that has come round to its oldest buffer.
abbrev pub ring : List Entry
ring = pool_entry 1 algorithm.Linear 1 4096 1 ∷ in_pool 2 2048 ∷ in_pool 3 2048 ∷ entry.Destroy 2 ∷ in_pool 4 1024 ∷ in_pool 5 1024 ∷ []

-- Four buffers of 1,024 bytes in a block of 4,096, of which the first and the third have gone.
abbrev pub holed : List Entry
holed = pool_entry 1 algorithm.Tlsf 1 4096 1 ∷ in_pool 10 1024 ∷ in_pool 11 1024 ∷ in_pool 12 1024 ∷ in_pool 13 1024 ∷ entry.Destroy 10 ∷ entry.Destroy 12 ∷ []

-- A pass moves the last one to the start.
abbrev pub defragmented : List Entry
defragmented = entry.Defrag 2 1 0 0 ∷ entry.Pass 2 ∷ entry.EndPass 2 [] [] ∷ entry.EndDefrag 2 ∷ []

-- Traces that stop, and traces that don't.
pub record Stopping : Type 0 where
  -- A buffer has all of heap 1, and another one finds no room.
  pub heap_used : Stops usual (buffer_entry 1 4194304 both sharing.Exclusive (place.Dedicated 1) ∷ buffer_entry 2 16 both sharing.Exclusive (place.Dedicated 1) ∷ []) 1
  -- A memory object has all of a small heap.
  pub memory_used : Stops small (memory_entry 1 1 65536 ∷ memory_entry 2 1 1 ∷ []) 1
  -- When it is freed there is room again.
  pub memory_freed : HasRoom small (memory_entry 1 1 65536 ∷ entry.Free 1 ∷ memory_entry 2 1 1 ∷ [])
  -- The ring has no place for 16 bytes.
  pub ring_full : Stops usual (ring ++ in_pool 6 16 ∷ []) 6
  -- Up to there each buffer found room.
  pub ring_turned : HasRoom usual ring
  -- Between the buffers that are left there is no place for 2,048 bytes.
  pub holes : Stops usual (holed ++ in_pool 20 2048 ∷ []) 7
  -- After a defragmentation there is.
  pub holes_closed : HasRoom usual (holed ++ defragmented ++ in_pool 20 2048 ∷ [])
