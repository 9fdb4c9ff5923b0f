-- What is kept of points.
use Rattle.std.specs.Prelude.{◌≡◌, ℕ, List, [], ◌∷◌, length}
use Rattle.vk_model.specs.Trace.Point.{Past, Point}
use Rattle.vk_model.specs.Sync.Node.{Node, nodes}
use Rattle.vk_order.specs.declared.acts.Row.{Row}
use Rattle.vk_order.specs.NodeViews.{nodes_after}
use Rattle.vk_hazards.specs.declared.before.creators.Creators.{Creators}
use Rattle.vk_hazards.specs.Creators.{AreCreators}

-- The rows and the order are those of the past's nodes, the creators are the past's, and so many nodes come before those of the newest point.
pub record IsRead (past : Past) (rows : List Row) (order : List Node) (creators : Creators) (count : ℕ) : Type 0 where
  pub listed : nodes_after [] rows ≡ nodes past
  pub ordered : order ≡ nodes past
  pub made : AreCreators creators past
  pub before : (older : Past) (p : Point) → past ≡ p ∷ older → count ≡ length (nodes older)
