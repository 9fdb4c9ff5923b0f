use Rattle.std.proofs.Common.{◌<◌, ◌+◌, ◌^◌, sym, ap, subst, ◌∙◌}
use Rattle.vma_linear.specs.Inner.Gaps.{free_from}
use Rattle.vma_linear.proofs.BlockSteps.{lower_fits, lower_from_fits}
use Rattle.vma_linear.proofs.linear.Linear.middle.Goals as goal

pub free_from-requires : goal.free_from-requires
free_from-requires c = lower_fits c.self.inside c.self.invariant c.last.result c.last.ensures

pub returns-clause-within : goal.returns-clause-within
returns-clause-within c =
    subst (λ n. n < 2 ^ 63 + 1024) (sym (c.free_from.ensures ∙ ap (free_from c.args.kind) c.last.ensures)) (lower_from_fits c.self.inside c.self.invariant c.args.kind)
