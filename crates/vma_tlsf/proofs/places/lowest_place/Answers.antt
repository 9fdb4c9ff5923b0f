use Rattle.std.proofs.Common.{refl, arith}
use Rattle.vma_tlsf.specs.Inner.Chain.{range}
use Rattle.vma_tlsf.specs.Inner.Wants.{request_of_want}
use Rattle.vma_tlsf.proofs.Cuts.{node_seen, seen_held}
use Rattle.vma_tlsf.proofs.Placing.{block_chain}
use Rattle.vma_tlsf.proofs.Walking.{at_live, start_bound, after_live, after_start, none_further, none_at_all, none_behind, none_lower, before_at}
use Rattle.vma_tlsf.proofs.places.lowest_place.Goals as goal

pub returns-in-Some-clause-some : goal.returns-in-Some-clause-some
returns-in-Some-clause-some c =
    let at = c.walk.invariant.at in
    let l = c.in-Some.ensures.lowest in
    record {
      fitting = l.fitting c.in-Some.start refl;
      place = record { range = range c.walk.node; there = node_seen c.args.nodes.now c.walk.slot c.walk.node at.here at.some; free = c.in-Some.ensures.free; from = l.from c.in-Some.start refl; to = l.to c.in-Some.start refl };
    }

pub returns-in-Some-clause-lowest : goal.returns-in-Some-clause-lowest
returns-in-Some-clause-lowest c = none_lower c.args.nodes.now c.walk.node (request_of_want c.args.want) c.args.limit c.in-Some.start c.walk.invariant.below c.in-Some.ensures.lowest

pub returns-in_default-after-clause-none : goal.returns-in_default-after-clause-none
returns-in_default-after-clause-none c _ = none_behind c.args.nodes.now c.args.limit c.walk.slot c.walk.node (request_of_want c.args.want) c.requires.request.some c.requires.block c.walk.invariant.at c.in_default-after.is
    (none_further c.args.nodes.now c.walk.node (request_of_want c.args.want) c.args.limit c.walk.invariant.below c.in_default.ensures.lowest)

pub get-node-requires-in-walk : goal.get-node-requires-in-walk
get-node-requires-in-walk c =
    let live = after_live c.args.nodes.now (block_chain c.args.nodes.now c.args.limit c.requires.block) c.walk.slot c.walk.node c.walk.invariant.at c.in-Some-after.after c.in-Some-after.is in
    seen_held c.args.nodes.now c.in-Some-after.after live.0 live.1

pub walk-smaller : goal.walk-smaller
walk-smaller c =
    let has = block_chain c.args.nodes.now c.args.limit c.requires.block in
    let starts = after_start c.args.nodes.now has c.walk.slot c.walk.node c.walk.invariant.at c.in-Some-after.after c.get-node-in-walk.result c.in-Some-after.is c.get-node-in-walk.ensures in
    let bound = start_bound c.args.nodes.now has c.walk.slot c.walk.node c.walk.invariant.at in
    let some = c.walk.invariant.at.some in
    omega arith

pub walk-preserved : goal.walk-preserved
walk-preserved c =
    let has = block_chain c.args.nodes.now c.args.limit c.requires.block in
    let live = after_live c.args.nodes.now has c.walk.slot c.walk.node c.walk.invariant.at c.in-Some-after.after c.in-Some-after.is in
    let starts = after_start c.args.nodes.now has c.walk.slot c.walk.node c.walk.invariant.at c.in-Some-after.after c.get-node-in-walk.result c.in-Some-after.is c.get-node-in-walk.ensures in
    record {
      at = at_live c.args.nodes.now c.in-Some-after.after c.get-node-in-walk.result live c.get-node-in-walk.ensures;
      below = rw starts (none_further c.args.nodes.now c.walk.node (request_of_want c.args.want) c.args.limit c.walk.invariant.below c.in_default.ensures.lowest);
    }

pub walk-init : goal.walk-init
walk-init c =
    let b = before_at c.args.nodes.now (request_of_want c.args.want) c.args.limit c.args.from c.get-node.result c.requires.from c.get-node.ensures in
    record { at = b.0; below = b.1 }

pub returns-clause-none : goal.returns-clause-none
returns-clause-none c _ = none_at_all c.args.nodes.now c.args.limit c.walk.node.start (request_of_want c.args.want) c.requires.request.some (let over = c.walk-test.false in omega arith) c.walk.invariant.below
