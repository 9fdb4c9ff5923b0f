use Rattle.std.proofs.Common.{arith, ◌<◌, ap, length, []}
use Rattle.std.proofs.lemmas.List.{get_or_default}
use Rattle.vk_sync.proofs.MovingLemmas.{line_len}
use Rattle.vk_sync.proofs.board.Board.count_of.Goals as goal

pub returns : goal.returns
returns c =
    let b = c.args.self.now in
    let q = c.args.queue in
    let lt : q < length b.lines = let four = c.requires.loose.lines_len in omega (arith, c.requires.queue) in
    let line = ap length (get_or_default b.lines q c.index-self-queue.result [] lt) in
    omega (arith, c.len.ensures, line, line_len b.commands.items b.lines b.done b.free b.counts c.requires.loose q c.requires.queue)
