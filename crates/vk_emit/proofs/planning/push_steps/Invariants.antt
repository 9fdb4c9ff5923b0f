use Rattle.std.proofs.Common.{◌≡◌, ◌+◌, length}
use Rattle.vk_model.specs.Trace.Point.{Past}
use Rattle.vk_model.specs.Trace.Order.{Front, settled, after_entry}
use Rattle.vk_queues.specs.IsWaiting.{IsWaiting, waiting_count}
use Rattle.vk_emit.specs.Steps.{past_with}
use Rattle.vk_emit.proofs.planning.push_steps.Given as goal

abbrev pub invariant-loop-batch : goal.invariant-loop-batch
invariant-loop-batch l = (before : Past) (f : Front) → IsWaiting l.fn.waiting l.number f → past_with before l.fn.steps.items ≡ f.past
    → (h : Front) × IsWaiting l.waiting (l.number + 1) h × (past_with before l.steps.items ≡ h.past) × (settled (length h.waiting) h ≡ after_entry l.number l.entry f)

abbrev pub decreases-loop-batch : goal.decreases-loop-batch
decreases-loop-batch l = waiting_count l.waiting
