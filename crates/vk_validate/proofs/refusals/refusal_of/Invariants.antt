use Rattle.std.proofs.Common.{◌≡◌}
use Rattle.vk_validate.proofs.refusals.refusal_of.Given as goal

abbrev pub invariant-loop-point : goal.invariant-loop-point
invariant-loop-point l = l.history ≡ record { points = l.points; count = l.point-index }
