use Rattle.std.proofs.Common.{◌∙◌}
use Rattle.vma_tlsf.proofs.Slots.{alike-refl}
use Rattle.vma_tlsf.proofs.Joins.{has_alike}
use Rattle.vma_tlsf.proofs.Carving.{has_front, next_taken, starts_here, node_some, fresh_apart, carved}
use Rattle.vma_tlsf.proofs.changes.carve_start.Goals as goal

pub take_start-requires-clause-chain : goal.take_start-requires-clause-chain
take_start-requires-clause-chain c = has_alike c.args.nodes.now c.unlink.new.nodes c.unlink.ensures c.requires.chain

pub take_start-requires-clause-some : goal.take_start-requires-clause-some
take_start-requires-clause-some c = node_some c.args.nodes.now c.unlink.new.nodes c.args.place.slot c.args.place.start c.args.want.size c.get-node.result c.requires.chain c.unlink.ensures c.requires.place c.get-node.ensures

pub take_start-requires-clause-start : goal.take_start-requires-clause-start
take_start-requires-clause-start c = starts_here c.args.nodes.now c.unlink.new.nodes c.args.place.slot c.args.place.start c.get-node.result c.unlink.ensures c.requires.start c.get-node.ensures

pub cut_back-requires-clause-chain : goal.cut_back-requires-clause-chain
cut_back-requires-clause-chain c = has_front c.args.nodes.now c.unlink.new.nodes c.take_start.new.nodes c.args.place.slot c.args.place.start c.args.want c.args.place.slot c.args.fresh_slot c.args.place.slot c.get-node.result c.get-taken.result c.requires.chain c.unlink.ensures c.taken_state.result c.taken_state.ensures c.take_start.ensures c.get-taken.ensures

pub cut_back-requires-clause-next : goal.cut_back-requires-clause-next
cut_back-requires-clause-next c = next_taken c.args.nodes.now c.unlink.new.nodes c.take_start.new.nodes c.args.place.slot c.args.place.start c.args.want c.args.place.slot c.args.fresh_slot c.args.place.slot c.get-node.result c.get-taken.result c.requires.chain c.unlink.ensures c.taken_state.result c.taken_state.ensures c.take_start.ensures c.get-taken.ensures

pub cut_back-requires-clause-fresh : goal.cut_back-requires-clause-fresh
cut_back-requires-clause-fresh c =
    c.take_start.ensures.rest_fresh c.args.fresh_slot
    (fresh_apart c.args.nodes.now c.args.place.slot c.args.fresh_slot c.args.place.start c.args.want.size c.requires.place c.requires.fresh)
    (c.unlink.ensures.held c.args.fresh_slot c.requires.fresh.0, c.unlink.ensures.ranges c.args.fresh_slot ∙ c.requires.fresh.1)

pub returns-then-want-taken : goal.returns-then-want-taken
returns-then-want-taken c = carved c.args.nodes.now c.unlink.new.nodes c.take_start.new.nodes c.args.place.slot c.args.place.start c.args.want c.args.place.slot c.args.fresh_slot c.args.place.slot c.get-node.result c.get-taken.result c.requires.chain c.unlink.ensures c.taken_state.result c.taken_state.ensures c.take_start.ensures c.get-taken.ensures c.cut_back.new.nodes c.push.new.nodes c.cut_back.ensures c.push.ensures

pub returns-else-want-taken : goal.returns-else-want-taken
returns-else-want-taken c = carved c.args.nodes.now c.unlink.new.nodes c.take_start.new.nodes c.args.place.slot c.args.place.start c.args.want c.args.place.slot c.args.fresh_slot c.args.place.slot c.get-node.result c.get-taken.result c.requires.chain c.unlink.ensures c.taken_state.result c.taken_state.ensures c.take_start.ensures c.get-taken.ensures c.cut_back.new.nodes c.cut_back.new.nodes c.cut_back.ensures (alike-refl c.cut_back.new.nodes)
