use Rattle.std.proofs.Common.{◌<◌, ◌+◌, ◌^◌, sym, ap, subst, ◌∙◌}
use Rattle.vma_linear.specs.Inner.Blocks.{block_of}
use Rattle.vma_linear.specs.Inner.Gaps.{free_from, free_to}
use Rattle.vma_linear.proofs.Places.{ring_found}
use Rattle.vma_linear.proofs.BlockSteps.{wrapped_fits, wrapped_from_fits}
use Rattle.vma_linear.proofs.linear.Linear.place_in_ring.Goals as goal

pub free_from-requires : goal.free_from-requires
free_from-requires c = wrapped_fits c.self.inside c.self.invariant c.last.result c.last.ensures

pub lowest-requires-clause-within : goal.lowest-requires-clause-within
lowest-requires-clause-within c =
    subst (λ n. n < 2 ^ 63 + 1024) (sym (c.free_from.ensures ∙ ap (free_from c.args.kind) c.last.ensures)) (wrapped_from_fits c.self.inside c.self.invariant c.args.kind)

pub returns : goal.returns
returns c =
    ring_found (block_of c.self.inside) _ (record { size = c.args.bytes; align = c.args.align; kind = c.args.kind }) _ _ _ c.self.invariant.block c.requires c.self.view_is
    c.if-not-self.false (sym c.is_empty.ensures ∙ c.if-not-is_empty.false) (sym c.is_empty-else-not-is_empty.ensures ∙ c.if-is_empty.false)
    (c.free_from.ensures ∙ ap (free_from c.args.kind) c.last.ensures) (c.free_to.ensures ∙ ap (free_to c.self.inside.size c.args.kind) c.first.ensures) c.lowest.ensures
