-- Where the points of orders are: no two commands at one place.
use Rattle.std.specs.Prelude.{List}
use Rattle.vk_model.specs.declared.entry.Entry.{Entry}
use Rattle.vk_model.specs.Trace.Point.{Past, Point}
use Rattle.vk_model.specs.Trace.Order.{order}
use Rattle.vk_model.specs.Trace.Structure.{IsOrdered}
use Rattle.vk_model.specs.Sync.Node.{nodes}
use Rattle.vk_model.specs.Rules.Fault.{Comes}
use Rattle.vk_order.specs.Queries.{IsNew}
use Rattle.vk_order.specs.Places.{IsApart}

-- No two commands of an ordered past are at one place.
abbrev pub OrderedIsApart : Type 0
OrderedIsApart = (past : Past) → IsOrdered past → IsApart past

-- So it is of reference order.
abbrev pub OrderIsApart : Type 0
OrderIsApart = (t : List Entry) → IsApart (order t)

-- Each point of an ordered past is new among the nodes of those before it.
abbrev pub OrderedIsNew : Type 0
OrderedIsNew = (past before : Past) (p : Point) → IsOrdered past → Comes past before p → IsNew p (nodes before)

-- So is each point of reference order.
abbrev pub OrderIsNew : Type 0
OrderIsNew = (t : List Entry) (before : Past) (p : Point) → Comes (order t) before p → IsNew p (nodes before)
