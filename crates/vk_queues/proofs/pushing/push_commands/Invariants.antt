use Rattle.std.proofs.Common.{◌≡◌, drop}
use Rattle.vk_model.specs.Trace.Point.{Past, Run}
use Rattle.vk_model.specs.Trace.Order.{actions}
use Rattle.vk_queues.specs.PointViews.{batch_of, past_after}
use Rattle.vk_queues.proofs.pushing.push_commands.Given as goal

abbrev pub invariant-loop-place : goal.invariant-loop-place
invariant-loop-place l = (past : Past) → actions Run (batch_of l.batch) l.place (drop l.place l.commands) (past_after past l.points.items) ≡ actions Run (batch_of l.batch) 0 l.commands (past_after past l.fn.points.items)
