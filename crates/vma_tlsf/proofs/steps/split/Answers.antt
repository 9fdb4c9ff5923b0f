use Rattle.std.proofs.Common.{refl}
use Rattle.vma_tlsf.proofs.Made.{fresh_kept, split_made, split_held}
use Rattle.vma_tlsf.proofs.steps.split.Goals as goal

pub returns-clause-split : goal.returns-clause-split
returns-clause-split c =
    let kept = fresh_kept c.args.nodes.now c.set_before.new.nodes c.args.slot c.args.fresh_slot c.args.node _ c.requires.here c.requires.there c.requires.other c.requires.after c.set_before.ensures in
    let shorter = c.change.ensures c.args.node (rw c.set.ensures kept) in
    rw (shorter, c.set.ensures) (split_made c.args.nodes.now c.set_before.new.nodes c.args.slot c.args.fresh_slot c.args.node c.args.front_size c.args.front c.args.back c.requires.here c.requires.there c.requires.other c.requires.after c.requires.some c.requires.rest c.set_before.ensures _ _ refl refl)

pub returns-clause-held : goal.returns-clause-held
returns-clause-held c =
    let kept = fresh_kept c.args.nodes.now c.set_before.new.nodes c.args.slot c.args.fresh_slot c.args.node _ c.requires.here c.requires.there c.requires.other c.requires.after c.set_before.ensures in
    let shorter = c.change.ensures c.args.node (rw c.set.ensures kept) in
    rw (shorter, c.set.ensures) (split_held c.args.nodes.now c.set_before.new.nodes c.args.slot c.args.fresh_slot c.args.node c.args.front_size c.args.front c.args.back c.requires.here c.requires.there c.requires.other c.requires.after c.requires.some c.requires.rest c.set_before.ensures _ _ refl refl)
