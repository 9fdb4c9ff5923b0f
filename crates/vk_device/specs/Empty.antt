-- What a device begins with.
use Rattle.std.specs.Prelude.{[], None}
use Rattle.vk_backing.specs.Backed.{Backed}
use Rattle.vk_backing.specs.Passing.{Passing}

-- No memory object, pool or allocation is had by an id (Vulkan, "Device Memory"; VMA, "Custom memory pools").
abbrev pub nothing_backed : Backed
nothing_backed = record { owned = []; pools = record { pools = []; allocations = [] }; numbers = []; allocations = [] }

-- No defragmentation has begun (VMA, "Defragmentation").
abbrev pub none_begun : Passing
none_begun = record { defrags = []; opened = None; moving = [] }
