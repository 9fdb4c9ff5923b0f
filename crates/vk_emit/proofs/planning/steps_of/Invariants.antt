use Rattle.std.proofs.Common.{◌≡◌, drop, []}
use Rattle.vk_model.specs.Trace.Order.{Front, order_from}
use Rattle.vk_queues.specs.IsWaiting.{IsWaiting}
use Rattle.vk_emit.specs.Steps.{past_of_steps}
use Rattle.vk_emit.proofs.planning.steps_of.Given as goal

abbrev pub invariant-loop-number : goal.invariant-loop-number
invariant-loop-number l = (f : Front) × IsWaiting l.waiting l.number f × (past_of_steps l.steps.items ≡ f.past) × (order_from l.number f (drop l.number l.entries) ≡ order_from 0 (record { past = []; waiting = [] }) l.entries)
