use Rattle.std.proofs.Common.{◌≡◌, ◌+◌, length}
use Rattle.vk_model.specs.Trace.Point.{Past}
use Rattle.vk_model.specs.Trace.Order.{Front, settled, after_entry}
use Rattle.vk_queues.specs.PointViews.{past_after}
use Rattle.vk_queues.specs.IsWaiting.{IsWaiting, waiting_count}
use Rattle.vk_queues.proofs.orders.push_points.Given as goal

abbrev pub invariant-loop-batch : goal.invariant-loop-batch
invariant-loop-batch l = (before : Past) (f : Front) → IsWaiting l.fn.waiting l.number f → past_after before l.fn.points.items ≡ f.past
    → (h : Front) × IsWaiting l.waiting (l.number + 1) h × (past_after before l.points.items ≡ h.past) × (settled (length h.waiting) h ≡ after_entry l.number l.entry f)

abbrev pub decreases-loop-batch : goal.decreases-loop-batch
decreases-loop-batch l = waiting_count l.waiting
