-- Slots of nodes as a list: for each slot the node that is held there, or none.
use Rattle.std.specs.Prelude.{◌≡◌, ℕ, suc, ◌<◌, List, [], ◌∷◌, length, get_or, set, Option, None, Some, IsTrue, is_some}
use Rattle.vk_nodes.specs.declared.node.Node.{Node}
use Rattle.vk_nodes.specs.declared.node.RangeState.TheVariants.{Free}

-- A node is held in the slot.
abbrev pub IsHeld : List (Option Node) → ℕ → Type 0
IsHeld slots slot = IsTrue (is_some (get_or slots slot None))

-- Each slot holds a node.
abbrev pub AllHeld : List (Option Node) → Type 0
AllHeld slots = (slot : ℕ) → slot < length slots → IsHeld slots slot

-- How many slots hold none.
abbrev pub free_count : List (Option Node) → ℕ
free_count [] = 0
free_count (None ∷ slots) = suc (free_count slots)
free_count (Some node ∷ slots) = free_count slots

-- The node of no bytes, in no list.
abbrev pub empty_node : Node
empty_node = record { start = 0; size = 0; before = None; after = None; previous_free = None; next_free = None; state = Free }

-- A slot was free and now holds the empty node, and all others are as they were.
pub record Hands (old new : List (Option Node)) (slot : ℕ) : Type 0 where
  pub inside : slot < length old
  pub was_free : get_or old slot None ≡ None
  pub held : new ≡ set old slot (Some empty_node)
