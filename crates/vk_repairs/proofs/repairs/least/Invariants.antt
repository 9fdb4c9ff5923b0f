use Rattle.vk_repairs.specs.Repairs.{IsRepair}
use Rattle.vk_repairs.proofs.repairs.least.Given as goal

-- what is left is a repair
abbrev pub invariant-loop-turn : goal.invariant-loop-turn
invariant-loop-turn l = IsRepair l.refused.trace.now l.refused.at l.best

-- what is left is a repair
abbrev pub invariant-loop-number : goal.invariant-loop-number
invariant-loop-number l = IsRepair l.refused.trace.now l.refused.at l.best
