use Rattle.vk_repairs.specs.Repairs.{IsRepair}
use Rattle.vk_repairs.proofs.repairs.less_at.Given as goal

-- what is left is a repair
abbrev pub invariant-loop-step : goal.invariant-loop-step
invariant-loop-step l = IsRepair l.refused.trace.now l.refused.at l.best
