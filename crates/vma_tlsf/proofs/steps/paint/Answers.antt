use Rattle.std.proofs.Common.{refl, ◌∙◌, Some}
use Rattle.vk_nodes.specs.declared.node.Node.{Node}
use Rattle.vma_tlsf.proofs.Slots.{held_here, held-set, range_there, seen-set_there, seen-set_elsewhere}
use Rattle.vma_tlsf.proofs.steps.paint.Goals as goal

pub returns-clause-painted : goal.returns-clause-painted
returns-clause-painted c =
    let held = held_here c.args.nodes.now c.args.slot c.args.node c.requires.here in
    let node : Node = record c.args.node { state = c.args.state } in
    rw (c.change.ensures c.args.node c.requires.here) (record {
      there = seen-set_there c.args.nodes.now c.args.slot held (Some node) ∙ range_there node c.requires.some;
      others = seen-set_elsewhere c.args.nodes.now c.args.slot held (Some node);
    })

pub returns-clause-held : goal.returns-clause-held
returns-clause-held c =
    let held = held_here c.args.nodes.now c.args.slot c.args.node c.requires.here in
    let node : Node = record c.args.node { state = c.args.state } in
    rw (c.change.ensures c.args.node c.requires.here) (held-set c.args.nodes.now c.args.slot held (Some node) refl)
