use Rattle.std.proofs.Common.{arith, ◌∙◌}
use Rattle.vk_image_bytes.proofs.Spans.{Clipped, parts_are, whole_are}
use Rattle.vk_image_bytes.proofs.image_bytes.ImageBytes.ranges.Goals as goal

pub returns-then-high-levels : goal.returns-then-high-levels
returns-then-high-levels c =
    let of = c.whole_layers.ensures in
    let clipped : Clipped c.args.self.now c.args.range.now c.min-low.result c.min-high.result c.min-layer.result c.min-end.result =
    record { low_is = omega arith; high_is = omega arith; layer_is = omega arith; end_is = omega arith; levels_few = omega arith; layers_few = omega arith } in
    whole_are c.args.self.now c.args.range.now c.min-low.result c.min-high.result c.min-layer.result c.min-end.result c.whole_layers.result clipped c.if-low-eq0.true (c.if-high-levels.true ∙ c.levels-levels.ensures.count) of.first of.size of.step of.count

pub returns-else-low-eq0 : goal.returns-else-low-eq0
returns-else-low-eq0 c =
    let of = c.parts_of_layers.ensures in
    let clipped : Clipped c.args.self.now c.args.range.now c.min-low.result c.min-high.result c.min-layer.result c.min-end.result =
    record { low_is = omega arith; high_is = omega arith; layer_is = omega arith; end_is = omega arith; levels_few = omega arith; layers_few = omega arith } in
    parts_are c.args.self.now c.args.range.now c.min-low.result c.min-high.result c.min-layer.result c.min-end.result c.parts_of_layers.result clipped of.first of.size of.step of.count
