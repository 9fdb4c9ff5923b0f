use Rattle.std.proofs.Common.{sym, ◌∙◌}
use Rattle.vma_tlsf.specs.Inner.Chain.{range}
use Rattle.vma_tlsf.proofs.Cuts.{node_seen}
use Rattle.vma_tlsf.proofs.near.remembered.Goals as goal

pub returns-then-abs_diff-le-MOST_APART : goal.returns-then-abs_diff-le-MOST_APART
returns-then-abs_diff-le-MOST_APART c = (range c.in_ok-node.node, node_seen c.args.nodes.now c.in_ok-slot.field-0.now c.in_ok-node.node (sym c.find.ensures ∙ c.in_ok-node.was) c.if-node-gt0.true)
