use Rattle.std.proofs.Common.{arith}
use Rattle.vma_tlsf.proofs.Cuts.{seen_held}
use Rattle.vma_tlsf.proofs.Walking.{at_live, start_bound, after_live, before_live, after_start, before_start, not_first, not_last, slot_there, byte_chain}
use Rattle.vma_tlsf.proofs.near.slot_from.Goals as goal

pub unreachable-requires : goal.unreachable-requires
unreachable-requires c = not_first c.args.nodes.now (byte_chain c.args.nodes.now c.args.byte c.requires.there) c.back.slot c.back.node c.back.invariant c.args.byte c.back-test.true c.in_default.is

pub get-node-requires-in-back : goal.get-node-requires-in-back
get-node-requires-in-back c =
    let live = before_live c.args.nodes.now (byte_chain c.args.nodes.now c.args.byte c.requires.there) c.back.slot c.back.node c.back.invariant c.in-Some.before c.in-Some.is in
    seen_held c.args.nodes.now c.in-Some.before live.0 live.1

pub back-smaller : goal.back-smaller
back-smaller c = before_start c.args.nodes.now (byte_chain c.args.nodes.now c.args.byte c.requires.there) c.back.slot c.back.node c.back.invariant c.in-Some.before c.get-node-in-back.result c.in-Some.is c.get-node-in-back.ensures

pub back-preserved : goal.back-preserved
back-preserved c = at_live c.args.nodes.now c.in-Some.before c.get-node-in-back.result (before_live c.args.nodes.now (byte_chain c.args.nodes.now c.args.byte c.requires.there) c.back.slot c.back.node c.back.invariant c.in-Some.before c.in-Some.is) c.get-node-in-back.ensures

pub unreachable-requires-in_default-after : goal.unreachable-requires-in_default-after
unreachable-requires-in_default-after c = not_last c.args.nodes.now c.args.byte c.on.slot c.on.node c.requires.there c.on.invariant.at c.on-test.true c.in_default-after.is

pub overflow_add-node : goal.overflow_add-node
overflow_add-node c =
    let bound = start_bound c.args.nodes.now (byte_chain c.args.nodes.now c.args.byte c.requires.there) c.on.slot c.on.node c.on.invariant.at in
    omega arith

pub get-node-requires-in-on : goal.get-node-requires-in-on
get-node-requires-in-on c =
    let live = after_live c.args.nodes.now (byte_chain c.args.nodes.now c.args.byte c.requires.there) c.on.slot c.on.node c.on.invariant.at c.in-Some-after.after c.in-Some-after.is in
    seen_held c.args.nodes.now c.in-Some-after.after live.0 live.1

pub on-smaller : goal.on-smaller
on-smaller c =
    let starts = after_start c.args.nodes.now (byte_chain c.args.nodes.now c.args.byte c.requires.there) c.on.slot c.on.node c.on.invariant.at c.in-Some-after.after c.get-node-in-on.result c.in-Some-after.is c.get-node-in-on.ensures in
    let some = c.on.invariant.at.some in
    let before = c.on-test.true in
    omega arith

pub on-preserved : goal.on-preserved
on-preserved c =
    let has = byte_chain c.args.nodes.now c.args.byte c.requires.there in
    let starts = after_start c.args.nodes.now has c.on.slot c.on.node c.on.invariant.at c.in-Some-after.after c.get-node-in-on.result c.in-Some-after.is c.get-node-in-on.ensures in
    let before = c.on-test.true in
    record {
      at = at_live c.args.nodes.now c.in-Some-after.after c.get-node-in-on.result (after_live c.args.nodes.now has c.on.slot c.on.node c.on.invariant.at c.in-Some-after.after c.in-Some-after.is) c.get-node-in-on.ensures;
      low = omega arith;
    }

pub returns : goal.returns
returns c = slot_there c.args.nodes.now (byte_chain c.args.nodes.now c.args.byte c.requires.there) c.on.slot c.on.node c.on.invariant.at c.args.byte c.on.invariant.low (let over = c.on-test.false in omega arith)
