-- What is kept of points.
use Rattle.std.specs.Prelude.{◌≡◌, List, []}
use Rattle.vk_model.specs.Trace.Point.{Past}
use Rattle.vk_model.specs.Sync.Node.{Node, nodes}
use Rattle.vk_order.specs.declared.acts.Row.{Row}
use Rattle.vk_order.specs.NodeViews.{nodes_after}
use Rattle.vk_order.specs.Lines.{IsPlaced}

-- The rows and the order are those of the past's nodes, of which the elements of one command are together.
pub record IsKept (past : Past) (rows : List Row) (order : List Node) : Type 0 where
  pub listed : nodes_after [] rows ≡ nodes past
  pub ordered : order ≡ nodes past
  pub placed : IsPlaced (nodes past)
