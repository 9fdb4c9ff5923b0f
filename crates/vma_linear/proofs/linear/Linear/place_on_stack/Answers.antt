use Rattle.std.proofs.Common.{sym, ◌∙◌}
use Rattle.vma_linear.specs.Inner.Blocks.{block_of}
use Rattle.vma_linear.proofs.Places.{stack_found}
use Rattle.vma_linear.proofs.linear.Linear.place_on_stack.Goals as goal

pub returns-then-is_empty : goal.returns-then-is_empty
returns-then-is_empty c =
    stack_found (block_of c.self.inside) _ (record { size = c.args.bytes; align = c.args.align; kind = c.args.kind }) _ _ _ c.self.invariant.block c.requires c.self.view_is
    (sym c.is_empty.ensures ∙ c.if-is_empty.true) c.middle.ensures.from c.middle.ensures.to c.lowest.ensures
