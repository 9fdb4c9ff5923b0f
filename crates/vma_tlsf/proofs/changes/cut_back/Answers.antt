use Rattle.std.proofs.Common.{arith}
use Rattle.vma_tlsf.proofs.Cuts.{split_after, node_bound, back_whole, back_split}
use Rattle.vma_tlsf.proofs.changes.cut_back.Goals as goal

pub returns-then-node-size : goal.returns-then-node-size
returns-then-node-size c =
    let some = c.requires.some in
    let within = c.requires.within in
    back_whole c.args.nodes.now c.give.new.self c.args.slot c.args.fresh c.args.node c.requires.chain c.requires.here (omega arith) c.requires.taken c.requires.fresh c.requires.next c.args.size c.if-node-size.true c.give.ensures

pub split-requires-clause-after : goal.split-requires-clause-after
split-requires-clause-after c = split_after c.args.nodes.now c.args.slot c.args.fresh c.args.node c.requires.chain c.requires.here (let some = c.requires.some in let within = c.requires.within in omega arith) c.requires.fresh

pub split-requires-clause-bounds : goal.split-requires-clause-bounds
split-requires-clause-bounds c = let h = node_bound c.args.nodes.now c.args.slot c.args.node c.requires.chain c.requires.here (let some = c.requires.some in let within = c.requires.within in omega arith) in omega arith

pub returns : goal.returns
returns c =
    let some = c.requires.some in
    let within = c.requires.within in
    let other = c.if-node-size.false in
    back_split c.args.nodes.now c.split.new.nodes c.args.slot c.args.fresh c.args.node c.requires.chain c.requires.here (omega arith) c.requires.taken c.requires.fresh c.requires.next c.args.size some (omega arith) c.split.ensures.split c.split.ensures.held
