use Rattle.std.proofs.Common.{◌<◌, arith}
use Rattle.vma_tlsf.specs.Inner.Wants.{taken_of_want}
use Rattle.vma_tlsf.proofs.Joins.{has_alike}
use Rattle.vma_tlsf.proofs.Carving.{place_from, slot_at, slot_below, takes_alike}
use Rattle.vma_tlsf.proofs.changes.put.Goals as goal

pub carve_start-requires-clause-chain : goal.carve_start-requires-clause-chain
carve_start-requires-clause-chain c = has_alike c.args.nodes.now c.fresh.new.nodes c.fresh.ensures.alike c.requires.chain

pub carve_start-requires-clause-start : goal.carve_start-requires-clause-start
carve_start-requires-clause-start c = slot_at c.args.nodes.now c.fresh.new.nodes c.args.place.slot c.args.place.start c.get-whole.result c.fresh.ensures.alike c.args.want.size c.requires.place c.get-whole.ensures c.if-whole-place.true

pub returns-then-whole-place-clause-taken : goal.returns-then-whole-place-clause-taken
returns-then-whole-place-clause-taken c _ = takes_alike c.args.nodes.now c.fresh.new.nodes c.carve_start.new.nodes (taken_of_want c.args.place.start c.args.want) c.fresh.ensures.alike c.carve_start.ensures

pub carve-requires-clause-chain : goal.carve-requires-clause-chain
carve-requires-clause-chain c = has_alike c.args.nodes.now c.two_fresh.new.nodes c.two_fresh.ensures.alike c.requires.chain

pub carve-requires-clause-before : goal.carve-requires-clause-before
carve-requires-clause-before c =
    let alike = c.two_fresh.ensures.alike in
    let from = place_from c.args.nodes.now c.two_fresh.new.nodes c.args.place.slot c.args.place.start c.get-whole.result alike c.args.want.size c.requires.place c.get-whole.ensures in
    let other = c.if-whole-place.false in
    let less : c.get-whole.result.start < c.args.place.start = omega arith in
    slot_below c.args.nodes.now c.two_fresh.new.nodes c.args.place.slot c.args.place.start c.get-whole.result alike c.args.want.size c.requires.place c.get-whole.ensures less

pub returns-clause-taken : goal.returns-clause-taken
returns-clause-taken c _ = takes_alike c.args.nodes.now c.two_fresh.new.nodes c.carve.new.nodes (taken_of_want c.args.place.start c.args.want) c.two_fresh.ensures.alike c.carve.ensures
