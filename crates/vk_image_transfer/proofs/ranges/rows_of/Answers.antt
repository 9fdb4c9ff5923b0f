use Rattle.std.proofs.Common.{arith}
use Rattle.vk_image_transfer.proofs.AllPieces.{level_few, more_rows, rows_read}
use Rattle.vk_image_transfer.proofs.ranges.rows_of.Goals as goal

pub loop-step-preserved : goal.loop-step-preserved
loop-step-preserved c =
    let m = c.args.image.now in
    let r = c.args.range.now in
    let k = c.loop-step.step in
    let is = rows_read m r k c.from.result c.from-in-loop-step.result c.level_height.result c.from.ensures c.from-in-loop-step.ensures c.level_height.ensures in
    let few = level_few m r k c.requires.range c.requires.layers c.requires.height in
    let more = more_rows m r k in
    record { sum = omega (arith, is, more); few = omega (arith, is, few) }
