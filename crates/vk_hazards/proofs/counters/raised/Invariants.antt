use Rattle.std.proofs.Common.{◌≡◌, ◌≤◌, length, take, max}
use Rattle.std.specs.List.{fold}
use Rattle.vk_model.specs.Trace.Order.{signaled}
use Rattle.vk_queues.specs.PointViews.{past_of}
use Rattle.vk_hazards.proofs.counters.raised.Given as goal

abbrev pub invariant-loop-count : goal.invariant-loop-count
invariant-loop-count l = record {
  within : l.count ≤ length l.points;
  is : fold max l.least (signaled (past_of l.points) l.semaphore) ≡ fold max l.greatest (signaled (past_of (take l.count l.points)) l.semaphore);
}

abbrev pub decreases-loop-count : goal.decreases-loop-count
decreases-loop-count l = l.count
