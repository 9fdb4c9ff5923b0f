-- Objects: ids, sizes, memory types and places.
use Rattle.std.specs.Prelude.{[], ◌∷◌}
use Rattle.vk_model.specs.declared.rule.Rule.TheVariants as rule
use Rattle.vk_model.specs.declared.rule.At.TheVariants as at
use Rattle.vk_model.specs.declared.entry.Entry.TheVariants as entry
use Rattle.vk_model.specs.declared.resource.Sharing.TheVariants as sharing
use Rattle.vk_model.specs.declared.resource.Place.TheVariants as place
use Rattle.vk_model.specs.declared.resource.Kind.TheVariants as kind
use Rattle.vk_model.specs.declared.resource.PoolKind.TheVariants as algorithm
use Rattle.vk_model.specs.declared.layout.Format.TheVariants as texel_format
use Rattle.vk_rows.specs.Writing.{buffer_entry, image_entry, pool_entry, memory_entry, source, both}
use Rattle.vk_rows.specs.Claims.{Accepts, Refuses}

-- Objects: ids, sizes, memory types and places: what each trace reads, or its first fault.
pub record Objects : Type 0 where
  -- An id is made twice.
  pub same_id : Refuses
      (entry.Semaphore 1 0
      ∷ entry.Semaphore 1 0
      ∷ []) (at.Entry 1) rule.NewId
  -- A size of 0, no usage and a type that isn't there: the first rule in the order of test is reported.
  pub three_faults : Refuses
      (buffer_entry 1 0 0 sharing.Exclusive (place.Dedicated 3)
      ∷ []) (at.Entry 0) rule.Size
  -- No usage, and a type that isn't there.
  pub two_faults : Refuses
      (buffer_entry 1 16 0 sharing.Exclusive (place.Dedicated 3)
      ∷ []) (at.Entry 0) rule.Usage
  -- A type that isn't there.
  pub one_fault : Refuses
      (buffer_entry 1 16 both sharing.Exclusive (place.Dedicated 3)
      ∷ []) (at.Entry 0) rule.MemoryType
  -- Two waits for nothing: the first point is reported.
  pub first_point : Refuses
      (entry.Wait []
      ∷ entry.Wait []
      ∷ []) (at.Entry 0) rule.Size
  -- A buffer of a whole heap breaks no rule.
  pub whole_heap : Accepts
      (buffer_entry 1 4194304 source sharing.Exclusive (place.Dedicated 1)
      ∷ []) []
  -- On cached memory a place is a multiple of 64.
  pub off_atom : Refuses
      (memory_entry 1 2 4096
      ∷ buffer_entry 2 16 both sharing.Exclusive (place.Memory 1 16)
      ∷ []) (at.Entry 1) rule.BindAlign
  -- At 64 it is.
  pub on_atom : Accepts
      (memory_entry 1 2 4096
      ∷ buffer_entry 2 16 both sharing.Exclusive (place.Memory 1 64)
      ∷ []) []
  -- A place that ends past the memory object.
  pub past_memory : Refuses
      (memory_entry 1 2 4096
      ∷ buffer_entry 2 16 both sharing.Exclusive (place.Memory 1 4096)
      ∷ []) (at.Entry 1) rule.BindRange
  -- A memory object that is mapped must not be mapped again.
  pub mapped_twice : Refuses
      (memory_entry 1 1 64
      ∷ buffer_entry 2 16 both sharing.Exclusive (place.Memory 1 0)
      ∷ entry.Map 2
      ∷ entry.Map 2
      ∷ []) (at.Entry 3) rule.MapState
  -- A memory object is freed under a live buffer.
  pub freed_in_use : Refuses
      (memory_entry 1 1 64
      ∷ buffer_entry 2 16 both sharing.Exclusive (place.Memory 1 0)
      ∷ entry.Map 2
      ∷ entry.Free 1
      ∷ []) (at.Entry 3) rule.InUse
  -- An optimal image and a buffer on one page.
  pub shared_page : Refuses
      (memory_entry 1 0 4096
      ∷ image_entry 2 texel_format.R8Uint 8 8 1 1 kind.Optimal both sharing.Exclusive (place.Memory 1 0)
      ∷ buffer_entry 3 16 both sharing.Exclusive (place.Memory 1 256)
      ∷ []) (at.Entry 2) rule.Aliased
  -- On the next page they don't conflict.
  pub next_page : Accepts
      (memory_entry 1 0 4096
      ∷ image_entry 2 texel_format.R8Uint 8 8 1 1 kind.Optimal both sharing.Exclusive (place.Memory 1 0)
      ∷ buffer_entry 3 16 both sharing.Exclusive (place.Memory 1 1024)
      ∷ []) []
  -- Two memory objects within their heap.
  pub two_memories : Accepts
      (memory_entry 1 1 65536
      ∷ memory_entry 2 1 1
      ∷ []) []
  -- A memory object over 67,108,864 bytes.
  pub memory_too_large : Refuses
      (memory_entry 1 1 67108865
      ∷ []) (at.Entry 0) rule.MemorySize
  -- A buffer over half the block of its pool.
  pub over_half_a_block : Refuses
      (pool_entry 1 algorithm.Tlsf 1 4096 2
      ∷ buffer_entry 2 2064 both sharing.Exclusive (place.Pool 1)
      ∷ []) (at.Entry 1) rule.PoolSize
  -- Half a block is allowed.
  pub half_a_block : Accepts
      (pool_entry 1 algorithm.Tlsf 1 4096 2
      ∷ buffer_entry 2 2048 both sharing.Exclusive (place.Pool 1)
      ∷ []) []
  -- A pool is dropped with a buffer in it.
  pub pool_in_use : Refuses
      (pool_entry 1 algorithm.Tlsf 1 4096 2
      ∷ buffer_entry 2 2048 both sharing.Exclusive (place.Pool 1)
      ∷ entry.DropPool 1
      ∷ []) (at.Entry 2) rule.InUse
  -- Only a pool of one block has an upper end.
  pub upper_of_two_blocks : Refuses
      (pool_entry 1 algorithm.Linear 1 4096 2
      ∷ buffer_entry 2 2048 both sharing.Exclusive (place.Pool 1)
      ∷ buffer_entry 3 1024 both sharing.Exclusive (place.PoolUpper 1)
      ∷ buffer_entry 4 1024 both sharing.Exclusive (place.Pool 1)
      ∷ buffer_entry 5 16 both sharing.Exclusive (place.Pool 1)
      ∷ []) (at.Entry 2) rule.PoolKind
  -- A linear pool can't be defragmented.
  pub linear_defragmentation : Refuses
      (pool_entry 1 algorithm.Linear 1 4096 1
      ∷ entry.Defrag 2 1 0 0
      ∷ []) (at.Entry 1) rule.PoolKind
