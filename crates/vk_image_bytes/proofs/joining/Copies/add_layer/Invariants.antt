use Rattle.std.proofs.Common.{◌<◌, map}
use Rattle.vk_model.specs.Basics.{below}
use Rattle.vk_image_bytes.specs.Inner.Rows.{AreAdded, RowsFit, row_copy}
use Rattle.vk_image_bytes.proofs.joining.Copies.add_layer.Given as goal

abbrev pub invariant-loop-row : goal.invariant-loop-row
invariant-loop-row l = l.layer < l.rows.layers → RowsFit l.rows → AreAdded l.fn.self l.self (map (row_copy l.rows l.layer) (below l.row))
