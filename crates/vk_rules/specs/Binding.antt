-- BIND_RANGE and BIND_ALIGN: which numbers are compared. ALIASED: the resource with which a new one is in conflict.
use Rattle.std.specs.Prelude.{◌≡◌, ℕ, ◌+◌, ◌%◌, ◌<◌, ◌≢◌, ◌==◌, true, Option, Some, None, option_map, option_and_then, if◌then◌else◌}
use Rattle.vk_model.specs.declared.entry.Entry.{Entry}
use Rattle.vk_model.specs.Basics.{holds}
use Rattle.vk_model.specs.Trace.Point.{Past}
use Rattle.vk_model.specs.Memory.Suballocation.{conflict, ranges_meet}
use Rattle.vk_model.specs.Trace.Objects.{Resource, resource_in, memory, bound_at, type_at, live}
use Rattle.vk_rules.specs.declared.aliases.Aliased.{Aliased}
use Rattle.vk_rules.specs.declared.binding.PastMemory.{PastMemory}
use Rattle.vk_rules.specs.declared.binding.AlignCause.{AlignCause}
use Rattle.vk_rules.specs.declared.binding.AlignCause.TheVariants as cause
use Rattle.vk_rules.specs.declared.binding.Misplaced.{Misplaced}
use Rattle.vk_rules.specs.Sizes.{needed_by}

-- The memory object and the offset at which an entry binds the resource that it makes.
abbrev pub bound_by : Entry → Option (ℕ × ℕ)
bound_by x = option_and_then (λ r. bound_at r.place) (resource_in x)

-- An entry binds a resource there, which asks for so many bytes, and they end past the memory object.
abbrev pub IsPastMemory : Past → Entry → PastMemory → Type 0
IsPastMemory past x m =
    (bound_by x ≡ Some (m.memory, m.offset)) × (needed_by x ≡ Some m.need)
    × (option_map (λ o. o.size) (memory past m.memory) ≡ Some m.size) × (m.size < m.offset + m.need)

-- Of how many bytes the offset of a resource must be a multiple: of its alignment, and on memory of type 2 of 64 (profile).
abbrev pub multiple_of : Past → AlignCause → Resource → Option ℕ
multiple_of past cause.Resource r = Some r.align
multiple_of past cause.Atom r = if holds (type_at past r.place) (λ t. t == 2) then Some 64 else None

-- An entry binds a resource there, and the offset isn't such a multiple.
abbrev pub IsMisplaced : Past → Entry → Misplaced → Type 0
IsMisplaced past x m =
    (bound_by x ≡ Some (m.memory, m.offset)) × (option_and_then (multiple_of past m.cause) (resource_in x) ≡ Some m.multiple)
    × (m.offset % m.multiple ≢ 0)

-- An entry makes a resource at this offset of a memory object, another one is live that is bound there too, and the two are in conflict (Vulkan, "Resource Memory Association" and "Memory Aliasing").
pub record IsAliased (past : Past) (x : Entry) (a : Aliased) : Type 0 where
  pub own : Resource
  pub made : resource_in x ≡ Some own
  pub place : bound_at own.place ≡ Some (a.memory, a.offset)
  pub size : own.size ≡ a.size
  pub there : Resource
  pub lives : option_and_then resource_in (live past a.other) ≡ Some there
  pub other_place : bound_at there.place ≡ Some (a.memory, a.other_offset)
  pub other_size : there.size ≡ a.other_size
  pub conflicts : conflict own.kind a.offset a.size there.kind a.other_offset a.other_size ≡ true
  pub bytes : a.by_bytes ≡ ranges_meet a.offset a.size a.other_offset a.other_size
