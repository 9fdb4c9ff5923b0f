-- Points that are kept, and what is ready for those that come next.
use Rattle.std.specs.Prelude.{[], List, Option, Some, None, ⊤}
use Rattle.vk_order.specs.declared.acts.Row.{Row}
use Rattle.vk_order.specs.declared.clocks.Stamp.{Stamp}
use Rattle.vk_order.specs.declared.frontier.Frontier.{Frontier}
use Rattle.vk_order.specs.declared.lines.Line.{Line}
use Rattle.vk_order.specs.NodeViews.{nodes_after}
use Rattle.vk_order.specs.Inner.Kept.{IsStamped, IsLonger}
use Rattle.vk_order.specs.Inner.Tallies.{lines_of}
use Rattle.vk_order.specs.Frontiers.{IsFrontier}

-- A frontier, if there is one, is that of the rows, and has these lines.
abbrev pub IsOf : Option Frontier → List Row → List Line → Type 0
IsOf None rows ls = ⊤
IsOf (Some f) rows ls = IsFrontier f (nodes_after [] rows) × IsLonger ls (lines_of f.tallies.items)

-- Each row has a stamp, and the frontier is that of the rows.
pub record IsReady (rows : List Row) (stamps : List Stamp) (ls : List Line) (frontier : Option Frontier) : Type 0 where
  pub stamped : IsStamped rows stamps ls
  pub next : IsOf frontier rows ls
