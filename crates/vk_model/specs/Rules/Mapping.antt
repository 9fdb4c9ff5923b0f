-- The rules on mapping: MAP_STATE, HOST_VISIBLE.
use Rattle.std.specs.Prelude.{ℕ, Bool, false, not, ◌&&◌, ◌==◌, nat_lt, Option, Some, None, is_some, unwrap_or, count_by}
use Rattle.std.specs.List.{list_any}
use Rattle.vk_model.specs.declared.entry.Entry.{Entry}
use Rattle.vk_model.specs.declared.entry.Entry.TheVariants as entry
use Rattle.vk_model.specs.Basics.{holds}
use Rattle.vk_model.specs.Trace.Point.{Past, Point, entries, on_host}
use Rattle.vk_model.specs.Trace.Objects.{memory_of, is_of_type}

-- What is mapped with a resource: the memory object that the trace bound it to, or its own allocation, which has its id (Vulkan, "Host Access to Device Memory Objects"; VMA, "Memory mapping").
abbrev pub mapping : Past → ℕ → ℕ
mapping past r = unwrap_or (memory_of past r) r

-- The buffer that an entry maps.
abbrev pub maps : Entry → Option ℕ
maps (entry.Map b) = Some b
maps _ = None

-- The buffer that an entry unmaps.
abbrev pub unmaps : Entry → Option ℕ
unmaps (entry.Unmap b) = Some b
unmaps _ = None

-- How many entries are of this form with a buffer that shares its mapping with resource r.
abbrev pub count_for : Past → ℕ → (Entry → Option ℕ) → ℕ
count_for past r form = count_by (λ x. holds (form x) (λ b. mapping past b == mapping past r)) (entries past)

-- Whether what is mapped with a resource is mapped: more often mapped than unmapped (VMA, "Memory mapping", on counting).
abbrev pub is_mapped : Past → ℕ → Bool
is_mapped past r = nat_lt (count_for past r unmaps) (count_for past r maps)

-- Whether a resource's own allocation, of a pool or dedicated, is mapped.
abbrev pub is_mapped_alone : Past → ℕ → Bool
is_mapped_alone past r = not (is_some (memory_of past r)) && is_mapped past r

-- What an entry needs of the mapping (Vulkan, "Host Access to Device Memory Objects"; VMA, "Memory mapping").
abbrev pub bad_mapping : Past → Entry → Bool
bad_mapping past (entry.Map b) = is_some (memory_of past b) && is_mapped past b
bad_mapping past (entry.Unmap b) = not (is_mapped past b)
bad_mapping past (entry.Write b o bytes) = not (is_mapped past b)
bad_mapping past (entry.Read b o n) = not (is_mapped past b)
bad_mapping past (entry.Flush b o n) = not (is_mapped past b)
bad_mapping past (entry.Invalidate b o n) = not (is_mapped past b)
bad_mapping past (entry.Destroy r) = is_mapped_alone past r
bad_mapping past (entry.EndPass d kept lost) = list_any (is_mapped_alone past) lost
bad_mapping past _ = false

-- MAP_STATE: a memory object mapped twice, an access or unmap without a mapping, or a mapped pool or dedicated allocation destroyed (Vulkan, "Host Access to Device Memory Objects"; VMA, "Memory mapping").
abbrev pub breaks_map_state : Past → Point → Bool
breaks_map_state past p = on_host (bad_mapping past) p

-- HOST_VISIBLE: a buffer on type 0, which isn't visible to the host, is mapped (Vulkan, "Host Access to Device Memory Objects"; the number: profile).
abbrev pub breaks_host_visible : Past → Point → Bool
breaks_host_visible past p = on_host (λ x. holds (maps x) (is_of_type past 0)) p
