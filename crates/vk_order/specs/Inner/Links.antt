-- Edges, in parts.
use Rattle.std.specs.Prelude.{List, Bool, ◌||◌}
use Rattle.vk_model.specs.Sync.Node.{Node}
use Rattle.vk_model.specs.Sync.Edge.{pairs, by_semaphore}
use Rattle.vk_order.specs.Prefixes.{submits}

-- Whether one node leads to another by a name: it is its submit, the set's element of an await's, or signals what is waited for (Vulkan, "Queue Submission", "Events" and "Semaphore Waiting").
abbrev pub by_name : List Node → Node → Node → Bool
by_name ns m n = submits n.point.entry m || (pairs m.act n.act || by_semaphore ns m n)
