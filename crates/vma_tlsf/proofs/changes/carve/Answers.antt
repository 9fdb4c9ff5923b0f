use Rattle.vma_tlsf.proofs.Slots.{alike-trans}
use Rattle.vma_tlsf.proofs.Joins.{has_alike}
use Rattle.vma_tlsf.proofs.Carving.{has_front, next_taken, starts_below, carved}
use Rattle.vma_tlsf.proofs.changes.carve.Goals as goal

pub cut_front-requires-clause-chain : goal.cut_front-requires-clause-chain
cut_front-requires-clause-chain c = has_alike c.args.nodes.now c.unlink.new.nodes c.unlink.ensures c.requires.chain

pub cut_front-requires-clause-from : goal.cut_front-requires-clause-from
cut_front-requires-clause-from c = starts_below c.args.nodes.now c.unlink.new.nodes c.args.place.slot c.args.place.start c.get-node.result c.unlink.ensures c.requires.before c.get-node.ensures

pub cut_back-requires-clause-chain : goal.cut_back-requires-clause-chain
cut_back-requires-clause-chain c = has_front c.args.nodes.now c.unlink.new.nodes c.cut_front.new.nodes c.args.place.slot c.args.place.start c.args.want c.args.one c.args.two c.args.one c.get-node.result c.get-taken.result c.requires.chain c.unlink.ensures c.taken_state.result c.taken_state.ensures c.cut_front.ensures c.get-taken.ensures

pub cut_back-requires-clause-next : goal.cut_back-requires-clause-next
cut_back-requires-clause-next c = next_taken c.args.nodes.now c.unlink.new.nodes c.cut_front.new.nodes c.args.place.slot c.args.place.start c.args.want c.args.one c.args.two c.args.one c.get-node.result c.get-taken.result c.requires.chain c.unlink.ensures c.taken_state.result c.taken_state.ensures c.cut_front.ensures c.get-taken.ensures

pub returns-then-want-taken : goal.returns-then-want-taken
returns-then-want-taken c = carved c.args.nodes.now c.unlink.new.nodes c.cut_front.new.nodes c.args.place.slot c.args.place.start c.args.want c.args.one c.args.two c.args.one c.get-node.result c.get-taken.result c.requires.chain c.unlink.ensures c.taken_state.result c.taken_state.ensures c.cut_front.ensures c.get-taken.ensures c.cut_back.new.nodes c.push-then-want-taken.new.nodes c.cut_back.ensures (alike-trans c.cut_back.new.nodes c.push.new.nodes c.push-then-want-taken.new.nodes c.push.ensures c.push-then-want-taken.ensures)

pub returns-else-want-taken : goal.returns-else-want-taken
returns-else-want-taken c = carved c.args.nodes.now c.unlink.new.nodes c.cut_front.new.nodes c.args.place.slot c.args.place.start c.args.want c.args.one c.args.two c.args.one c.get-node.result c.get-taken.result c.requires.chain c.unlink.ensures c.taken_state.result c.taken_state.ensures c.cut_front.ensures c.get-taken.ensures c.cut_back.new.nodes c.push.new.nodes c.cut_back.ensures c.push.ensures
