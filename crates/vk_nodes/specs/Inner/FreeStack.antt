-- The stack of free slots.
use Rattle.std.specs.Prelude.{◌≡◌, ◌≢◌, ℕ, ◌<◌, List, length, get_or, Option, None}
use Rattle.vk_nodes.specs.declared.node.Node.{Node}
use Rattle.vk_nodes.specs.Slots.{free_count}

-- The first names are those of the free slots, each once.
pub record IsFreeStack (names : List ℕ) (free : ℕ) (slots : List (Option Node)) : Type 0 where
  -- there are as many as free slots
  pub count : free_count slots ≡ free
  -- each is a slot
  pub inside : (i : ℕ) → i < free → get_or names i 0 < length slots
  -- and free
  pub is_free : (i : ℕ) → i < free → get_or slots (get_or names i 0) None ≡ None
  -- no two are the same
  pub apart : (i j : ℕ) → i < j → j < free → get_or names i 0 ≢ get_or names j 0
