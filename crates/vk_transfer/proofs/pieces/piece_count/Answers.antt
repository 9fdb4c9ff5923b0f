use Rattle.std.proofs.Common.{arith}
use Rattle.vk_transfer.proofs.Ranges.{piece_counted}
use Rattle.vk_transfer.proofs.pieces.piece_count.Goals as goal

pub returns-then-size-eq0 : goal.returns-then-size-eq0
returns-then-size-eq0 c ms long = omega (arith, piece_counted ms c.args.size long, c.if-size-eq0.true)

pub returns-else-size-eq0 : goal.returns-else-size-eq0
returns-else-size-eq0 c ms long = omega (arith, piece_counted ms c.args.size long, c.if-size-eq0.false)
