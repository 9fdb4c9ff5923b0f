-- Slots in a store: what is seen of the fields, and what holds of them.
use Rattle.std.specs.Prelude.{◌≡◌, ℕ, ◌-◌, ◌^◌, ◌<◌, ◌≤◌, List, ◌++◌, length, take, replicate, Option, None}
use Rattle.vk_nodes.specs.declared.node.Node.{Node}
use Rattle.vk_nodes.specs.declared.filled.Filled.TheInside.{Inside}
use Rattle.vk_nodes.specs.Inner.FreeStack.{IsFreeStack}

-- The slots that were used, and then free ones.
abbrev pub slots_seen : ℕ → ℕ → List (Option Node) → List (Option Node)
slots_seen used slots nodes = take used nodes ++ replicate (slots - used) None

pub record IsFilled (f : Inside) : Type 0 where
  -- each record has a node and a name
  pub long : length f.store.names ≡ length f.store.nodes
  -- not all slots need have been used
  pub used : f.used ≤ f.slots
  -- there are records for all
  pub slots : f.slots ≤ length f.store.nodes
  -- a slot is named by 32 bits
  pub few : length f.store.nodes < 2 ^ 32
  -- the free ones among those that were used are on the stack
  pub stack : IsFreeStack f.store.names f.free (take f.used f.store.nodes)
