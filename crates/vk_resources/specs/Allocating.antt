-- What a device has allocated, and what an entry changes of it.
use Rattle.vk_model.specs.declared.entry.Entry.{Entry}
use Rattle.vk_model.specs.Memory.Allocations.{Allocated, FindsNoRoom, Changes}
use Rattle.vk_backing.specs.Allotted as backing
use Rattle.vk_backing.specs.Allotted.{Allotted, Fulfils}
use Rattle.vk_resources.specs.declared.applied.Applied.{Applied}
use Rattle.vk_resources.specs.declared.applied.Applied.TheVariants as applied
use Rattle.vk_resources.specs.Held.{Held}

-- What is allotted of what is held.
abbrev pub allotted : Held → Allotted
allotted s = backing.allotted s.backed s.memory

-- What is held is what is allocated (Vulkan, "Device Memory").
abbrev pub IsAllocated : Held → Allocated → Type 0
IsAllocated s d = Fulfils (allotted s) d

-- No room is answered exactly where the entry finds none with what is held (Vulkan, "Device Memory").
abbrev pub NoRoomIsExact : Applied → Held → Entry → Type 0
NoRoomIsExact applied.NoRoom s x = (d : Allocated) → IsAllocated s d → FindsNoRoom d x
NoRoomIsExact _ s x = (d : Allocated) → IsAllocated s d → FindsNoRoom d x → ⊥

-- An entry that is applied changes what is allocated as it is to, and no more; where there was no room nothing of it changes.
abbrev pub Allots : Applied → Entry → Held → Held → Type 0
Allots applied.NoRoom x old new = (d : Allocated) → IsAllocated old d → IsAllocated new d
Allots _ x old new = (d : Allocated) → IsAllocated old d → (e : Allocated) × Changes d x e × IsAllocated new e
