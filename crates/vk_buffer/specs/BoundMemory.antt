-- What is bound in a memory object, and which rule a further binding would break (Vulkan, "Resource Memory Association").
use Rattle.std.specs.Prelude.{ℕ, ◌+◌, ◌%◌, List, Bool, not, ◌&&◌, ◌||◌, ◌==◌, nat_lt, if◌then◌else◌, Option, Some, None, Result, Ok, Err}
use Rattle.std.specs.List.{list_any}
use Rattle.std.specs.Map.{remove_entry}
use Rattle.std.specs.Ordering.{nat_cmp}
use Rattle.std.specs.BTreeMap.{insert_entry, is_at}
use Rattle.vk_model.specs.declared.resource.Kind.{Kind}
use Rattle.vk_model.specs.declared.resource.Need.{Need}
use Rattle.vk_model.specs.declared.rule.Rule.{Rule}
use Rattle.vk_model.specs.declared.rule.Rule.TheVariants as rule
use Rattle.vk_model.specs.Memory.Addresses.{bit}
use Rattle.vk_model.specs.Memory.Suballocation.{conflict}
use Rattle.vk_buffer.specs.declared.bindings.BindError.{BindError}
use Rattle.vk_buffer.specs.declared.bindings.BindError.TheVariants.{Refused, NoMemory}
use Rattle.vk_buffer.specs.declared.bindings.BoundResource.{BoundResource}

-- A memory object with the resources that are bound in it, by their offsets in rising order (Vulkan, "Resource Memory Association").
pub record BoundMemory : Type 0 where
  pub size : ℕ
  pub memory_type : ℕ
  pub bound : List (ℕ × BoundResource)

-- ---- what changes

-- A further resource is bound.
abbrev pub with_bound : BoundMemory → ℕ → BoundResource → BoundMemory
with_bound s offset r = record s { bound = insert_entry nat_cmp s.bound offset r }

-- What was bound at an offset isn't any more; nothing is changed where nothing was.
abbrev pub without : BoundMemory → ℕ → BoundMemory
without s offset = record s { bound = remove_entry (is_at (nat_cmp offset)) s.bound }

-- ---- rules

-- MEMORY_TYPE: the object's type isn't among those that the resource allows (Vulkan, "Resource Memory Association", on `memoryTypeBits`).
abbrev pub is_wrong_type : BoundMemory → Need → Bool
is_wrong_type s need = not (bit need.types s.memory_type == 1)

-- BIND_RANGE: the resource ends past the object (Vulkan, "Resource Memory Association").
abbrev pub ends_past : BoundMemory → ℕ → Need → Bool
ends_past s offset need = nat_lt s.size (offset + need.size)

-- BIND_ALIGN: the offset isn't a multiple of the alignment; on memory of type 2 also of 64 (Vulkan, "Resource Memory Association"; the atom: profile).
abbrev pub is_misplaced : BoundMemory → ℕ → Need → Bool
is_misplaced s offset need = not (offset % need.align == 0) || s.memory_type == 2 && not (offset % 64 == 0)

-- A range conflicts with that of a resource that is bound.
abbrev pub conflicts_with : ℕ → ℕ → Kind → ℕ × BoundResource → Bool
conflicts_with offset size kind b = conflict kind offset size b.1.kind b.0 b.1.size

-- ALIASED: it conflicts with any (Vulkan, "Resource Memory Association" and "Memory Aliasing"; that aliasing is refused: profile).
abbrev pub is_aliased : BoundMemory → ℕ → ℕ → Kind → Bool
is_aliased s offset size kind = list_any (conflicts_with offset size kind) s.bound

-- The first rule that a binding breaks, in the order of the table of rules (profile).
abbrev pub refusal : BoundMemory → ℕ → Need → Kind → Option Rule
refusal s offset need kind =
    if is_wrong_type s need then Some rule.MemoryType else (
    if ends_past s offset need then Some rule.BindRange else (
    if is_misplaced s offset need then Some rule.BindAlign else (
    if is_aliased s offset need.size kind then Some rule.Aliased else None)))

-- The rule that a call of `bind` was refused by; none where it bound the resource, or found no memory to note it.
abbrev pub refused_by : Result (Unit {0}) BindError → Option Rule
refused_by (Ok bound) = None
refused_by (Err (Refused r)) = Some r
refused_by (Err NoMemory) = None
