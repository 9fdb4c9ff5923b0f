-- What is known at an element of a barrier that comes next.
use Rattle.std.specs.Prelude.{◌≡◌, Option, Some, None}
use Rattle.vk_model.specs.Sync.Node.{Node, nodes}
use Rattle.vk_model.specs.Trace.Point.{Past}
use Rattle.vk_order.specs.Frontiers.{IsFrontier, IsKeptOf}
use Rattle.vk_order.specs.Limited.{part_of}
use Rattle.vk_history.specs.declared.element_parts.ElementPart.{ElementPart}

-- What is known at a node that comes next, where it is a dependency on a part of memory.
abbrev pub IsKnownAt : Past → Node → Option ElementPart → Type 0
IsKnownAt past n None = part_of n.act ≡ None
IsKnownAt past n (Some x) = IsFrontier x.frontier.now (nodes past) × IsKeptOf x.frontier.now (nodes past) n x.part
