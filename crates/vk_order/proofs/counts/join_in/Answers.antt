use Rattle.std.proofs.Common.{arith}
use Rattle.vk_order.proofs.CountLemmas.{joined_rest}
use Rattle.vk_order.proofs.counts.join_in.Goals as goal

pub returns : goal.returns
returns c =
    let long = c.join_shared.ensures.len in
    let all = c.in_ok-take_rest.ensures.len in
    joined_rest c.args.all.now.items c.args.other.now c.join_shared.new.all.items c.take_rest.new.all.items (omega arith) (λ i lt. c.join_shared.ensures.counts i (omega arith))
    (λ i lt. c.in_ok-take_rest.ensures.first i (omega arith)) (λ i ge lt. c.in_ok-take_rest.ensures.rest i (omega arith) lt)
