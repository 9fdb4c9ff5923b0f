-- Pools and their defragmentation.
use Rattle.std.specs.Prelude.{[], ◌∷◌}
use Rattle.vk_model.specs.declared.rule.Rule.TheVariants as rule
use Rattle.vk_model.specs.declared.rule.At.TheVariants as at
use Rattle.vk_model.specs.declared.entry.Entry.TheVariants as entry
use Rattle.vk_model.specs.declared.resource.Sharing.TheVariants as sharing
use Rattle.vk_model.specs.declared.resource.Place.TheVariants as place
use Rattle.vk_model.specs.declared.resource.PoolKind.TheVariants as algorithm
use Rattle.vk_rows.specs.Writing.{bytes, buffer_entry, pool_entry, source, both}
use Rattle.vk_rows.specs.Claims.{Accepts, Refuses, ReadsUntil}

-- Pools and their defragmentation: what each trace reads, or its first fault.
pub record Pools : Type 0 where
  -- Every other buffer of 1,024 bytes goes: the bytes of the last one stay readable. What needs 2,048 bytes then finds no room (below).
  pub holes : ReadsUntil
      (pool_entry 1 algorithm.Tlsf 1 4096 2
      ∷ buffer_entry 10 1024 both sharing.Exclusive (place.Pool 1)
      ∷ buffer_entry 11 1024 both sharing.Exclusive (place.Pool 1)
      ∷ buffer_entry 12 1024 both sharing.Exclusive (place.Pool 1)
      ∷ buffer_entry 13 1024 both sharing.Exclusive (place.Pool 1)
      ∷ buffer_entry 14 1024 both sharing.Exclusive (place.Pool 1)
      ∷ buffer_entry 15 1024 both sharing.Exclusive (place.Pool 1)
      ∷ buffer_entry 16 1024 both sharing.Exclusive (place.Pool 1)
      ∷ buffer_entry 17 1024 both sharing.Exclusive (place.Pool 1)
      ∷ entry.Map 17
      ∷ entry.Write 17 0 (171 ∷ 205 ∷ [])
      ∷ entry.Destroy 10
      ∷ entry.Destroy 12
      ∷ entry.Destroy 14
      ∷ entry.Destroy 16
      ∷ entry.Read 17 0 2
      ∷ buffer_entry 20 2048 both sharing.Exclusive (place.Pool 1)
      ∷ []) 16 ((15, 171 ∷ 205 ∷ []) ∷ [])
  -- A pass closes the holes, and changes no byte.
  pub defragmented : Accepts
      (pool_entry 1 algorithm.Tlsf 1 4096 2
      ∷ buffer_entry 10 1024 both sharing.Exclusive (place.Pool 1)
      ∷ buffer_entry 11 1024 both sharing.Exclusive (place.Pool 1)
      ∷ buffer_entry 12 1024 both sharing.Exclusive (place.Pool 1)
      ∷ buffer_entry 13 1024 both sharing.Exclusive (place.Pool 1)
      ∷ buffer_entry 14 1024 both sharing.Exclusive (place.Pool 1)
      ∷ buffer_entry 15 1024 both sharing.Exclusive (place.Pool 1)
      ∷ buffer_entry 16 1024 both sharing.Exclusive (place.Pool 1)
      ∷ buffer_entry 17 1024 both sharing.Exclusive (place.Pool 1)
      ∷ entry.Map 17
      ∷ entry.Write 17 0 (171 ∷ 205 ∷ [])
      ∷ entry.Destroy 10
      ∷ entry.Destroy 12
      ∷ entry.Destroy 14
      ∷ entry.Destroy 16
      ∷ entry.Read 17 0 2
      ∷ entry.Defrag 2 1 0 0
      ∷ entry.Pass 2
      ∷ entry.EndPass 2 [] []
      ∷ entry.EndDefrag 2
      ∷ buffer_entry 20 2048 both sharing.Exclusive (place.Pool 1)
      ∷ entry.Read 17 0 2
      ∷ []) ((15, 171 ∷ 205 ∷ []) ∷ (21, 171 ∷ 205 ∷ []) ∷ [])
  -- A pass that keeps one resource at its place and destroys another.
  pub one_kept_one_destroyed : Accepts
      (pool_entry 1 algorithm.Tlsf 1 4096 2
      ∷ buffer_entry 10 1024 both sharing.Exclusive (place.Pool 1)
      ∷ buffer_entry 11 1024 both sharing.Exclusive (place.Pool 1)
      ∷ buffer_entry 12 1024 both sharing.Exclusive (place.Pool 1)
      ∷ buffer_entry 13 1024 both sharing.Exclusive (place.Pool 1)
      ∷ buffer_entry 14 1024 both sharing.Exclusive (place.Pool 1)
      ∷ buffer_entry 15 1024 both sharing.Exclusive (place.Pool 1)
      ∷ buffer_entry 16 1024 both sharing.Exclusive (place.Pool 1)
      ∷ buffer_entry 17 1024 both sharing.Exclusive (place.Pool 1)
      ∷ entry.Map 17
      ∷ entry.Write 17 0 (171 ∷ 205 ∷ [])
      ∷ entry.Destroy 10
      ∷ entry.Destroy 12
      ∷ entry.Destroy 14
      ∷ entry.Destroy 16
      ∷ entry.Read 17 0 2
      ∷ entry.Defrag 2 1 0 0
      ∷ entry.Pass 2
      ∷ entry.EndPass 2 (17 ∷ []) (15 ∷ [])
      ∷ entry.EndDefrag 2
      ∷ buffer_entry 20 2048 both sharing.Exclusive (place.Pool 1)
      ∷ entry.Read 17 0 2
      ∷ []) ((15, 171 ∷ 205 ∷ []) ∷ (21, 171 ∷ 205 ∷ []) ∷ [])
  -- A mapped resource is destroyed by the end of a pass.
  pub mapped_destroyed : Refuses
      (pool_entry 1 algorithm.Tlsf 1 4096 2
      ∷ buffer_entry 10 1024 both sharing.Exclusive (place.Pool 1)
      ∷ buffer_entry 11 1024 both sharing.Exclusive (place.Pool 1)
      ∷ buffer_entry 12 1024 both sharing.Exclusive (place.Pool 1)
      ∷ buffer_entry 13 1024 both sharing.Exclusive (place.Pool 1)
      ∷ buffer_entry 14 1024 both sharing.Exclusive (place.Pool 1)
      ∷ buffer_entry 15 1024 both sharing.Exclusive (place.Pool 1)
      ∷ buffer_entry 16 1024 both sharing.Exclusive (place.Pool 1)
      ∷ buffer_entry 17 1024 both sharing.Exclusive (place.Pool 1)
      ∷ entry.Map 17
      ∷ entry.Write 17 0 (171 ∷ 205 ∷ [])
      ∷ entry.Destroy 10
      ∷ entry.Destroy 12
      ∷ entry.Destroy 14
      ∷ entry.Destroy 16
      ∷ entry.Read 17 0 2
      ∷ entry.Defrag 2 1 0 0
      ∷ entry.Pass 2
      ∷ entry.EndPass 2 [] (17 ∷ [])
      ∷ entry.EndDefrag 2
      ∷ buffer_entry 20 2048 both sharing.Exclusive (place.Pool 1)
      ∷ entry.Read 17 0 2
      ∷ []) (at.Entry 18) rule.MapState
  -- A resource is both kept and destroyed.
  pub listed_twice : Refuses
      (pool_entry 1 algorithm.Tlsf 1 4096 2
      ∷ buffer_entry 10 1024 both sharing.Exclusive (place.Pool 1)
      ∷ buffer_entry 11 1024 both sharing.Exclusive (place.Pool 1)
      ∷ buffer_entry 12 1024 both sharing.Exclusive (place.Pool 1)
      ∷ buffer_entry 13 1024 both sharing.Exclusive (place.Pool 1)
      ∷ buffer_entry 14 1024 both sharing.Exclusive (place.Pool 1)
      ∷ buffer_entry 15 1024 both sharing.Exclusive (place.Pool 1)
      ∷ buffer_entry 16 1024 both sharing.Exclusive (place.Pool 1)
      ∷ buffer_entry 17 1024 both sharing.Exclusive (place.Pool 1)
      ∷ entry.Map 17
      ∷ entry.Write 17 0 (171 ∷ 205 ∷ [])
      ∷ entry.Destroy 10
      ∷ entry.Destroy 12
      ∷ entry.Destroy 14
      ∷ entry.Destroy 16
      ∷ entry.Read 17 0 2
      ∷ entry.Defrag 2 1 0 0
      ∷ entry.Pass 2
      ∷ entry.EndPass 2 (17 ∷ []) (17 ∷ [])
      ∷ entry.EndDefrag 2
      ∷ buffer_entry 20 2048 both sharing.Exclusive (place.Pool 1)
      ∷ entry.Read 17 0 2
      ∷ []) (at.Entry 18) rule.Overlap
  -- A byte that the host wrote and didn't flush survives the move.
  pub unflushed_moves : Accepts
      (pool_entry 1 algorithm.Tlsf 2 4096 2
      ∷ buffer_entry 2 64 source sharing.Exclusive (place.Pool 1)
      ∷ buffer_entry 3 64 source sharing.Exclusive (place.Pool 1)
      ∷ entry.Map 3
      ∷ entry.Write 3 0 (170 ∷ [])
      ∷ entry.Destroy 2
      ∷ entry.Defrag 4 1 0 0
      ∷ entry.Pass 4
      ∷ entry.EndPass 4 [] []
      ∷ entry.Read 3 0 1
      ∷ []) ((9, 170 ∷ []) ∷ [])
  -- And is still unflushed after it.
  pub unflushed_lost : Refuses
      (pool_entry 1 algorithm.Tlsf 2 4096 2
      ∷ buffer_entry 2 64 source sharing.Exclusive (place.Pool 1)
      ∷ buffer_entry 3 64 source sharing.Exclusive (place.Pool 1)
      ∷ entry.Map 3
      ∷ entry.Write 3 0 (170 ∷ [])
      ∷ entry.Destroy 2
      ∷ entry.Defrag 4 1 0 0
      ∷ entry.Pass 4
      ∷ entry.EndPass 4 [] []
      ∷ entry.Invalidate 3 0 (bytes 1)
      ∷ entry.Read 3 0 1
      ∷ []) (at.Entry 10) rule.ReadUndefined
  -- A ring: two buffers of half a block, the first goes, two smaller ones take its place. A further one finds no room (below).
  pub ring : ReadsUntil
      (pool_entry 1 algorithm.Linear 1 4096 1
      ∷ buffer_entry 2 2048 both sharing.Exclusive (place.Pool 1)
      ∷ buffer_entry 3 2048 both sharing.Exclusive (place.Pool 1)
      ∷ entry.Destroy 2
      ∷ buffer_entry 4 1024 both sharing.Exclusive (place.Pool 1)
      ∷ buffer_entry 5 1024 both sharing.Exclusive (place.Pool 1)
      ∷ buffer_entry 6 16 both sharing.Exclusive (place.Pool 1)
      ∷ []) 6 []
  -- The ring without it.
  pub ring_full : Accepts
      (pool_entry 1 algorithm.Linear 1 4096 1
      ∷ buffer_entry 2 2048 both sharing.Exclusive (place.Pool 1)
      ∷ buffer_entry 3 2048 both sharing.Exclusive (place.Pool 1)
      ∷ entry.Destroy 2
      ∷ buffer_entry 4 1024 both sharing.Exclusive (place.Pool 1)
      ∷ buffer_entry 5 1024 both sharing.Exclusive (place.Pool 1)
      ∷ []) []
  -- A double stack: what is asked last doesn't fit between the stacks (below).
  pub double_stack : ReadsUntil
      (pool_entry 1 algorithm.Linear 1 4096 1
      ∷ buffer_entry 2 2048 both sharing.Exclusive (place.Pool 1)
      ∷ buffer_entry 3 1024 both sharing.Exclusive (place.PoolUpper 1)
      ∷ buffer_entry 4 1024 both sharing.Exclusive (place.Pool 1)
      ∷ buffer_entry 5 16 both sharing.Exclusive (place.Pool 1)
      ∷ []) 4 []
  -- Two blocks within the heap.
  pub two_blocks : Accepts
      (pool_entry 1 algorithm.Tlsf 1 65536 2
      ∷ buffer_entry 2 32768 both sharing.Exclusive (place.Pool 1)
      ∷ buffer_entry 3 32768 both sharing.Exclusive (place.Pool 1)
      ∷ buffer_entry 4 16 both sharing.Exclusive (place.Pool 1)
      ∷ []) []
  -- A second buffer that finds no room in its heap (below).
  pub second_buffer : ReadsUntil
      (buffer_entry 1 4194304 source sharing.Exclusive (place.Dedicated 1)
      ∷ buffer_entry 2 16 source sharing.Exclusive (place.Dedicated 1)
      ∷ []) 1 []
