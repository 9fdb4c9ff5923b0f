-- How often what a resource lies in is mapped.
use Rattle.std.specs.Prelude.{◌≡◌, ℕ, ◌-◌, Bool, true, false, Option, Some, None, ⊤}
use Rattle.vk_memory.specs.MemoryState.{MemoryState, with_mapped}
use Rattle.vk_model.specs.declared.entry.Entry.{Entry}
use Rattle.vk_model.specs.declared.entry.Entry.TheVariants as entry
use Rattle.vk_resources.specs.declared.resources.Placed.{Placed}
use Rattle.vk_backing.specs.Backed.{mapping_of}
use Rattle.vk_backing.specs.Steps.{Maps, one_more}
use Rattle.vk_resources.specs.Held.{Held, placed}

-- The number of the memory object that a resource is bound to; none where an allocation is mapped with it, or there is no such resource (Vulkan, "Resource Memory Association"; VMA, "Memory mapping").
abbrev pub bound_in : Option ℕ → Option Placed → Option ℕ
bound_in (Some a) p = None
bound_in None None = None
bound_in None (Some p) = Some p.object

-- The same of what is held.
abbrev pub bound_of : Held → ℕ → Option ℕ
bound_of s id = bound_in (mapping_of s.backed id) (placed s id)

-- Memory objects, with one of them mapped or not, if one is meant (Vulkan, "Host Access to Device Memory Objects").
abbrev pub mapped_at : Option ℕ → Bool → MemoryState → MemoryState
mapped_at None mapped m = m
mapped_at (Some n) mapped m = with_mapped m n mapped

-- What a map or an unmap counts: of its resource's allocation one more or one less, or that the memory object to which the resource is bound is mapped or not (Vulkan, "Host Access to Device Memory Objects"; VMA, "Memory mapping").
abbrev pub Counts : Entry → Held → Held → Type 0
Counts (entry.Map b) old new = Maps old.backed new.backed b one_more × (new.memory ≡ mapped_at (bound_of old b) true old.memory)
Counts (entry.Unmap b) old new = Maps old.backed new.backed b (λ n. n - 1) × (new.memory ≡ mapped_at (bound_of old b) false old.memory)
Counts _ old new = ⊤
