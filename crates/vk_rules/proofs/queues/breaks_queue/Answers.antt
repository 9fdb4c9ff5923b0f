use Rattle.std.proofs.Common.{◌∙◌}
use Rattle.vk_model.specs.Trace.Point.{Past}
use Rattle.vk_rules.proofs.queues.breaks_queue.Goals as goal

pub returns : goal.returns
returns c = λ (past : Past). c.is_some.ensures ∙ c.queue_of.ensures.broken
