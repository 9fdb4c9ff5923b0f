-- What is seen of a memory object from without.
use Rattle.vk_memory.specs.declared.memories.Object.{Object}
use Rattle.vk_memory.specs.declared.views.ObjectInfo.{ObjectInfo}

-- What an object is, but for its bytes (Vulkan, "Device Memory" and "Host Access to Device Memory Objects").
abbrev pub info_of : Object → ObjectInfo
info_of o = record { memory_type = o.memory_type; size = o.size; mapped = o.mapped }
