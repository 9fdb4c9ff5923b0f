-- Hazards of a point, byte by byte.
use Rattle.std.specs.Prelude.{List, Bool, not, ◌&&◌}
use Rattle.vk_model.specs.declared.rule.Rule.{Rule}
use Rattle.vk_model.specs.declared.rule.Rule.TheVariants as rule
use Rattle.vk_model.specs.Trace.Point.{Past}
use Rattle.vk_model.specs.World.Bytes.{Byte}
use Rattle.vk_model.specs.Sync.Node.{Node, nodes}
use Rattle.vk_model.specs.Sync.Before.{before}
use Rattle.vk_model.specs.Sync.Seen.{Read, Write}
use Rattle.vk_model.specs.Sync.Access.{is_in, reads, writes, is_seen}
use Rattle.vk_order.specs.NodeViews.{node_of}
use Rattle.vk_hazards.specs.declared.hazards.Hazard.{Hazard}
use Rattle.vk_hazards.specs.declared.hazards.Hazard.TheVariants.{War, Raw, Waw}
use Rattle.vk_hazards.specs.declared.hazards.Placed.{Placed}

-- The rule that a hazard breaks.
abbrev pub rule_of : Hazard → Rule
rule_of War = rule.HazardWar
rule_of Raw = rule.HazardRaw
rule_of Waw = rule.HazardWaw

-- What the earlier node of a hazard accesses in the way that counts (Vulkan, "Execution and Memory Dependencies", on data hazards).
abbrev pub earlier_bytes : Past → Hazard → Node → List Byte
earlier_bytes past War x = reads past x
earlier_bytes past Raw x = writes past x
earlier_bytes past Waw x = writes past x

-- And the later one (Vulkan, "Execution and Memory Dependencies", on data hazards).
abbrev pub later_bytes : Past → Hazard → Node → List Byte
later_bytes past War y = writes past y
later_bytes past Raw y = reads past y
later_bytes past Waw y = writes past y

-- Whether what the later access needs is missing: an execution dependency after a read, a memory dependency after a write (Vulkan, "Execution and Memory Dependencies", on data hazards).
abbrev pub is_missing : Past → Hazard → Node → Node → Byte → Bool
is_missing past War x y b = not (before (nodes past) x y)
is_missing past Raw x y b = not (is_seen past x y Read b)
is_missing past Waw x y b = not (is_seen past x y Write b)

-- Whether a node is in hazard with an earlier one at a byte.
abbrev pub in_hazard : Past → Hazard → Node → Node → Byte → Bool
in_hazard past h x y b = is_in b (earlier_bytes past h x) && is_in b (later_bytes past h y) && is_missing past h x y b

-- The node that is reported of.
abbrev pub node_at : Placed → Node
node_at p = node_of p.number p.row
