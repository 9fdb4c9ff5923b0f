-- Records of slots as two lists: the nodes that they hold, and the stack's entries.
use Rattle.std.specs.Prelude.{ℕ, List, map, Option, None, Some, if◌then◌else◌, false}
use Rattle.vk_nodes.specs.declared.node.Node.{Node}
use Rattle.vk_nodes.specs.declared.slot.Slot.{Slot}
use Rattle.vk_nodes.specs.Slots.{empty_node}

-- The node that is held in a record.
abbrev pub seen : Slot → Option Node
seen slot = if slot.is_held then Some slot.node else None

-- The stack's entry in a record.
abbrev pub entry : Slot → ℕ
entry slot = slot.name

-- A record that holds nothing.
abbrev pub empty_slot : Slot
empty_slot = record { node = empty_node; is_held = false; name = 0 }

pub record Columns : Type 0 where
  -- for each record the node that it holds
  pub nodes : List (Option Node)
  -- for each record the entry of the stack that it has
  pub names : List ℕ

-- Both of all records.
abbrev pub columns : List Slot → Columns
columns slots = record { nodes = map seen slots; names = map entry slots }
