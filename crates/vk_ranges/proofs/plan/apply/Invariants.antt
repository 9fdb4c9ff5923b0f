use Rattle.std.proofs.Common.{◌≡◌}
use Rattle.vk_ranges.specs.Inner.Plans.{applied}
use Rattle.vk_ranges.proofs.plan.apply.Given as goal

abbrev pub invariant-loop-change : goal.invariant-loop-change
invariant-loop-change g l = applied l.change-iterator.rest.items l.runs ≡ applied l.fn.changes.items l.fn.runs
