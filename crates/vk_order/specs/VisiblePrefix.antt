-- Nodes whose writes are seen whatever the byte.
use Rattle.std.specs.Prelude.{Bool, ◌&&◌, nat_lt}
use Rattle.vk_order.specs.declared.parts.Spot.{Spot}
use Rattle.vk_order.specs.declared.visible_prefix.VisiblePrefix.{VisiblePrefix}
use Rattle.vk_order.specs.Lines.{same_line}

-- Whether the node of a spot is one of the first of a line.
abbrev pub is_among : VisiblePrefix → Spot → Bool
is_among s w = same_line s.line w.line && nat_lt w.place s.count
