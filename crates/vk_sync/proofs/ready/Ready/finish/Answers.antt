use Rattle.std.proofs.Common.{arith}
use Rattle.vk_sync.proofs.RunLemmas.{left_falls}
use Rattle.vk_sync.proofs.ready.Ready.finish.Goals as goal

pub invariant_of-self : goal.invariant_of-self
invariant_of-self c =
    let small = c.self.invariant.1 in
    let falls = left_falls c.self.inside.board.commands.items c.args.piece in
    (c.finish.ensures.board, rw c.finish.ensures.commands (omega (arith, falls, small)))
