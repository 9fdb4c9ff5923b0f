-- The rules on binding resources to memory objects: BIND_RANGE, BIND_ALIGN, ALIASED.
use Rattle.std.specs.Prelude.{ℕ, ◌+◌, ◌%◌, Bool, not, ◌&&◌, ◌||◌, ◌==◌, nat_lt}
use Rattle.std.specs.List.{list_any}
use Rattle.vk_model.specs.declared.entry.Entry.{Entry}
use Rattle.vk_model.specs.Memory.Suballocation.{conflict}
use Rattle.vk_model.specs.Basics.{holds}
use Rattle.vk_model.specs.Trace.Point.{Past, Point, on_host}
use Rattle.vk_model.specs.Trace.Objects.{Resource, resource_in, resource, memory, bound_at, type_at, live_resources}

-- Whether an entry binds a resource at an offset of a memory object so that the test finds (Vulkan, "Resource Memory Association").
abbrev pub on_bound : (Resource → ℕ → ℕ → Bool) → Entry → Bool
on_bound test x = holds (resource_in x) (λ r. holds (bound_at r.place) (λ s. test r s.0 s.1))

-- Whether the resource ends past the memory object.
abbrev pub ends_past_memory : Past → Resource → ℕ → ℕ → Bool
ends_past_memory past r m o = holds (memory past m) (λ x. nat_lt x.size (o + r.size))

-- BIND_RANGE: a resource ends past the memory object that it's bound to (Vulkan, "Resource Memory Association").
abbrev pub breaks_bind_range : Past → Point → Bool
breaks_bind_range past p = on_host (on_bound (ends_past_memory past)) p

-- Whether the offset isn't a multiple of the alignment; on memory of type 2 also of 64, so that no two buffers share an atom (profile).
abbrev pub is_misplaced : Past → Resource → ℕ → ℕ → Bool
is_misplaced past r m o = not (o % r.align == 0) || holds (type_at past r.place) (λ t. t == 2) && not (o % 64 == 0)

-- BIND_ALIGN: the offset isn't a multiple of the alignment (Vulkan, "Resource Memory Association").
abbrev pub breaks_bind_align : Past → Point → Bool
breaks_bind_align past p = on_host (on_bound (is_misplaced past)) p

-- Whether the range of a resource at an offset of a memory object conflicts with that of a live resource there.
abbrev pub conflicts_with : Past → Resource → ℕ → ℕ → Resource → Bool
conflicts_with past r m o s = holds (bound_at s.place) (λ t. m == t.0 && conflict r.kind o r.size s.kind t.1 s.size)

-- Whether it conflicts with any.
abbrev pub is_aliased : Past → Resource → ℕ → ℕ → Bool
is_aliased past r m o = list_any (λ i. holds (resource past i) (conflicts_with past r m o)) (live_resources past)

-- ALIASED: its range meets that of a live resource, or shares a page of `bufferImageGranularity` with one of the other kind (Vulkan, "Resource Memory Association" and "Memory Aliasing"; that aliasing is refused: profile).
abbrev pub breaks_aliased : Past → Point → Bool
breaks_aliased past p = on_host (on_bound (is_aliased past)) p
