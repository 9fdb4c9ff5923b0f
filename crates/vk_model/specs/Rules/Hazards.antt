-- The rules on hazards, on the use of what ends and on undefined bytes: HAZARD_WAR, HAZARD_RAW, HAZARD_WAW, IN_USE, READ_UNDEFINED.
use Rattle.std.specs.Prelude.{◌+◌, Bool, false, ◌==◌, is_none}
use Rattle.std.specs.List.{list_any}
use Rattle.vk_model.specs.declared.entry.Entry.{Entry}
use Rattle.vk_model.specs.declared.entry.Entry.TheVariants as entry
use Rattle.vk_model.specs.Basics.{below, holds}
use Rattle.vk_model.specs.Trace.Point.{Past, Point, on_host}
use Rattle.vk_model.specs.Trace.Objects.{live_resources, memory_of, pool_of}
use Rattle.vk_model.specs.World.Bytes.{World, in_buffer}
use Rattle.vk_model.specs.World.Effect.{world}
use Rattle.vk_model.specs.Sync.Access.{hazard, war, raw, waw}
use Rattle.vk_model.specs.Sync.Complete.{some_busy}

-- HAZARD_WAR: a write that isn't ordered after an earlier read of the byte (Vulkan, "Execution and Memory Dependencies", on data hazards).
abbrev pub breaks_hazard_war : Past → Point → Bool
breaks_hazard_war past p = hazard war past p

-- HAZARD_RAW: a read without a memory dependency on an earlier write of the byte (Vulkan, "Execution and Memory Dependencies", on data hazards).
abbrev pub breaks_hazard_raw : Past → Point → Bool
breaks_hazard_raw past p = hazard raw past p

-- HAZARD_WAW: a write without a memory dependency on an earlier write of the byte (Vulkan, "Execution and Memory Dependencies", on data hazards).
abbrev pub breaks_hazard_waw : Past → Point → Bool
breaks_hazard_waw past p = hazard waw past p

-- What an entry ends or frees that is still used: a resource by a command that isn't known complete, a memory object or a pool by a live resource (Vulkan, "Object Lifetime"; memory and pools: profile).
abbrev pub ends_used : Past → Point → Entry → Bool
ends_used past p (entry.Destroy r) = some_busy past p (λ s. r == s)
ends_used past p (entry.Free m) = list_any (λ r. holds (memory_of past r) (λ s. m == s)) (live_resources past)
ends_used past p (entry.DropPool q) = list_any (λ r. holds (pool_of past r) (λ s. q == s)) (live_resources past)
ends_used past p _ = false

-- IN_USE: an object ends while it's used (Vulkan, "Object Lifetime").
abbrev pub breaks_in_use : Past → Point → Bool
breaks_in_use past p = on_host (ends_used past p) p

-- Whether the host reads a byte that is undefined.
abbrev pub reads_undefined : World → Entry → Bool
reads_undefined w (entry.Read b o n) = list_any (λ k. is_none (w.value (in_buffer b (o + k)))) (below n)
reads_undefined w _ = false

-- READ_UNDEFINED: the host reads an undefined byte (profile).
abbrev pub breaks_read_undefined : Past → Point → Bool
breaks_read_undefined past p = on_host (reads_undefined (world past)) p
