use Rattle.std.specs.Prelude.{IfSome}
use Rattle.vk_repairs.specs.Repairs.{IsRepair}
use Rattle.vk_repairs.proofs.repairs.first_of.Given as goal

-- what is kept so far is a repair
abbrev pub invariant-loop-count : goal.invariant-loop-count
invariant-loop-count l = IfSome l.best (IsRepair l.refused.trace.now l.refused.at)
