-- Boxes of texels of the code.
use Rattle.vk_model.specs.World.Areas.{Box}
use Rattle.vk_overlaps.specs.declared.boxes.TexelBox.{TexelBox}

-- The box of the definitions.
abbrev pub box_of : TexelBox → Box
box_of t = record { level = t.level; first_layer = t.first_layer; layers = t.layers; x = t.x; y = t.y; width = t.width; height = t.height }
