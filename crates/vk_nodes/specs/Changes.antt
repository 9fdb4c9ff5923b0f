-- Changes to some fields of a node.
use Rattle.std.specs.Prelude.{◌≡◌, ℕ, List, set, get_or, Option, None, Some}
use Rattle.vk_nodes.specs.declared.node.Node.{Node}
use Rattle.vk_nodes.specs.declared.change.Change.{Change}
use Rattle.vk_nodes.specs.declared.change.Change.TheVariants.{Before, End, State, Listed, PreviousFree, NextFree}

-- The node after a change, which keeps all fields that it doesn't name.
abbrev pub changed : Node → Change → Node
changed n (Before slot) = record n { before = Some slot }
changed n (End size after state) = record n { size = size; after = after; state = state }
changed n (State state) = record n { state = state }
changed n (Listed previous next) = record n { previous_free = previous; next_free = next }
changed n (PreviousFree slot) = record n { previous_free = slot }
changed n (NextFree slot) = record n { next_free = slot }

-- The node of the slot is changed, and all else is as it was.
abbrev pub IsChanged : List (Option Node) → List (Option Node) → ℕ → Change → Type 0
IsChanged old new slot change = (n : Node) → get_or old slot None ≡ Some n → new ≡ set old slot (Some (changed n change))
