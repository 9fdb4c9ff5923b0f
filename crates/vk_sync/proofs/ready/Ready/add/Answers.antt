use Rattle.std.proofs.Common.{arith, ◌∙◌, ap, length}
use Rattle.std.proofs.lemmas.List.FromFn.{length-range_with_len}
use Rattle.std.proofs.lemmas.List.Sums.{sum_by_push}
use Rattle.vk_sync.specs.declared.board.Command.{Command}
use Rattle.vk_sync.proofs.ready.Ready.add.Goals as goal

pub push-requires-clause-small : goal.push-requires-clause-small
push-requires-clause-small c =
    let small = c.self.invariant.1 in
    let len = ap length c.in_ok-left.ensures ∙ length-range_with_len 0 c.args.pieces in
    omega (arith, c.in-Some.ensures, small, len)

pub invariant_of-self-2 : goal.invariant_of-self-2
invariant_of-self-2 c =
    let small = c.self.invariant.1 in
    let len = ap length c.in_ok-left.ensures ∙ length-range_with_len 0 c.args.pieces in
    let cs = c.self.inside.board.commands.items in
    let f = λ (x : Command). length x.left in
    (c.settle.ensures.board, rw (c.settle.ensures.commands, c.in_ok-push.ensures.commands) (omega (arith, sum_by_push f cs (record { queue = c.args.queue; before = c.args.before; left = c.in_ok-left.left }), small, len, c.in-Some.ensures)))
