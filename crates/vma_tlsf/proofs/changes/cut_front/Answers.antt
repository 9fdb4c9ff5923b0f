use Rattle.std.proofs.Common.{◌-◌, arith}
use Rattle.vma_tlsf.proofs.Cuts.{split_after, node_bound, front_split}
use Rattle.vma_tlsf.proofs.changes.cut_front.Goals as goal

pub split-requires-clause-after : goal.split-requires-clause-after
split-requires-clause-after c = split_after c.args.nodes.now c.args.place.slot c.args.fresh c.args.node c.requires.chain c.requires.here (let from = c.requires.from in let to = c.requires.to in omega arith) c.requires.fresh

pub split-requires-clause-bounds : goal.split-requires-clause-bounds
split-requires-clause-bounds c = let h = node_bound c.args.nodes.now c.args.place.slot c.args.node c.requires.chain c.requires.here (let from = c.requires.from in let to = c.requires.to in omega arith) in omega arith

pub returns : goal.returns
returns c =
    let from = c.requires.from in
    let to = c.requires.to in
    front_split c.args.nodes.now c.split.new.nodes c.args.place.slot c.args.fresh c.args.node c.args.state c.requires.chain c.requires.here (omega arith) c.requires.free c.requires.fresh c.requires.taken c.args.place.start (c.args.place.start - c.args.node.start) (omega arith) (omega arith) (omega arith) c.split.ensures.split c.split.ensures.held
