use Rattle.std.proofs.Common.{arith}
use Rattle.vk_image_transfer.proofs.AllPieces.{more_rows, rows_read}
use Rattle.vk_image_transfer.proofs.ranges.Clear.level_of.Goals as goal

pub loop-step-preserved : goal.loop-step-preserved
loop-step-preserved c =
    let m = c.args.image.now in
    let r = c.args.range.now in
    let k = c.loop-step.step in
    omega (arith, rows_read m r k c.from.result c.from-in-loop-step.result c.level_height.result c.from.ensures c.from-in-loop-step.ensures c.level_height.ensures, more_rows m r k, c.if-left-rows.false)
