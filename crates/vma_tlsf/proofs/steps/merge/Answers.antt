use Rattle.std.proofs.Common.{◌+◌, refl}
use Rattle.vma_tlsf.proofs.Made.{relinked_kept, held_gone, merge_made, merged_held}
use Rattle.vma_tlsf.proofs.steps.merge.Goals as goal

pub give-requires : goal.give-requires
give-requires c =
    let kept = relinked_kept c.args.nodes.now c.set_before.new.nodes c.args.slot c.args.gone c.args.slot c.args.node c.args.last c.requires.here c.requires.after c.set_before.ensures in
    let longer = c.change.ensures c.args.node kept in
    rw longer (held_gone c.args.nodes.now c.set_before.new.nodes c.args.slot c.args.gone c.args.node c.args.last c.args.state c.requires.here c.requires.there c.requires.other c.requires.after c.requires.some c.set_before.ensures (record c.args.node { size = c.args.node.size + c.args.last.size; after = c.args.last.after; state = c.args.state }) refl)

pub returns-clause-merged : goal.returns-clause-merged
returns-clause-merged c =
    let kept = relinked_kept c.args.nodes.now c.set_before.new.nodes c.args.slot c.args.gone c.args.slot c.args.node c.args.last c.requires.here c.requires.after c.set_before.ensures in
    let longer = c.change.ensures c.args.node kept in
    rw (c.give.ensures, longer) (merge_made c.args.nodes.now c.set_before.new.nodes c.args.slot c.args.gone c.args.node c.args.last c.args.state c.requires.here c.requires.there c.requires.other c.requires.after c.requires.some c.set_before.ensures _ refl)

pub returns-clause-held : goal.returns-clause-held
returns-clause-held c =
    let kept = relinked_kept c.args.nodes.now c.set_before.new.nodes c.args.slot c.args.gone c.args.slot c.args.node c.args.last c.requires.here c.requires.after c.set_before.ensures in
    let longer = c.change.ensures c.args.node kept in
    rw (c.give.ensures, longer) (merged_held c.args.nodes.now c.set_before.new.nodes c.args.slot c.args.gone c.args.node c.args.last c.args.state c.requires.here c.requires.there c.requires.other c.requires.after c.requires.some c.set_before.ensures _ refl)
