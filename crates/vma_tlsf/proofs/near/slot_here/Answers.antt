use Rattle.std.proofs.Common.{sym, ◌∙◌, arith}
use Rattle.vma_tlsf.specs.Inner.Chain.{range}
use Rattle.vma_tlsf.proofs.Cuts.{node_seen}
use Rattle.vma_tlsf.proofs.near.slot_here.Goals as goal

pub returns-then-node-start : goal.returns-then-node-start
returns-then-node-start c = (range c.in_ok-node.node, node_seen c.args.nodes.now c.in_ok-slot.field-0.now c.in_ok-node.node (sym c.find.ensures ∙ c.in_ok-node.was) c.if-node-gt0.true, omega (arith, c.if-node-start.true), omega (arith, c.if-node-start.true, c.if-node-gt0.true))
