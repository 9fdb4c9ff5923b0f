use Rattle.std.proofs.Common.{◌≡◌, ◌-◌, ◌≤◌, true, take, length}
use Rattle.std.specs.List.{list_all}
use Rattle.vk_model.specs.Trace.Point.{Past}
use Rattle.vk_model.specs.Trace.Order.{is_met}
use Rattle.vk_queues.specs.Inner.Tallied.{IsTallied}
use Rattle.vk_queues.proofs.lines.count_met.Given as goal

abbrev pub invariant-loop-met : goal.invariant-loop-met
invariant-loop-met l = (l.fn.known ≤ l.met) × ((past : Past) → IsTallied l.tallies past → list_all (is_met past) (take l.fn.known l.waits) ≡ true → list_all (is_met past) (take l.met l.waits) ≡ true)

abbrev pub decreases-loop-met : goal.decreases-loop-met
decreases-loop-met l = length l.waits - l.met
