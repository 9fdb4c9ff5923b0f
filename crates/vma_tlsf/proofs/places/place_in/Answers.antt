use Rattle.std.proofs.Common.{arith}
use Rattle.vma_tlsf.proofs.Placing.{lowest_some, lowest_none, are_small, block_chain}
use Rattle.vma_tlsf.proofs.places.place_in.Goals as goal

pub overflow_add-low : goal.overflow_add-low
overflow_add-low c =
    let small = are_small c.args.nodes.now c.args.node c.args.want c.low_end-low.result (block_chain c.args.nodes.now c.args.limit c.requires.block) c.requires.free c.requires.request c.low_end-low.ensures in
    let more = small.more in
    omega arith

pub overflow_add-start : goal.overflow_add-start
overflow_add-start c =
    let small = are_small c.args.nodes.now c.args.node c.args.want c.low_end-low.result (block_chain c.args.nodes.now c.args.limit c.requires.block) c.requires.free c.requires.request c.low_end-low.ensures in
    let up = small.up_small in
    let bound = c.requires.bound in
    let is = c.aligned-start.ensures in
    omega arith

pub returns-then-start-want : goal.returns-then-start-want
returns-then-start-want c =
    let high = c.min-high.ensures in
    let within = c.if-start-want.true in
    lowest_some c.args.nodes.now c.args.node c.args.want c.args.limit c.requires.block c.requires.free c.requires.request c.low_end-low.result c.high_end.result _ c.low_end-low.ensures c.high_end.ensures c.aligned-start.ensures (omega arith) (omega arith)

pub returns-else-start-want : goal.returns-else-start-want
returns-else-start-want c =
    let high = c.min-high.ensures in
    let over = c.if-start-want.false in
    lowest_none c.args.nodes.now c.args.node c.args.want c.args.limit c.requires.block c.requires.free c.requires.request c.low_end-low.result c.high_end.result _ c.low_end-low.ensures c.high_end.ensures c.aligned-start.ensures (λ one two. omega arith)
