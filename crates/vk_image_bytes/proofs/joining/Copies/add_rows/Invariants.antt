use Rattle.std.specs.List.{flat_map}
use Rattle.vk_model.specs.Basics.{below}
use Rattle.vk_image_bytes.specs.Inner.Rows.{AreAdded, RowsFit, layer_copies}
use Rattle.vk_image_bytes.proofs.joining.Copies.add_rows.Given as goal

abbrev pub invariant-loop-layer : goal.invariant-loop-layer
invariant-loop-layer l = RowsFit l.rows → AreAdded l.fn.self l.self (flat_map (layer_copies l.rows) (below l.layer))
