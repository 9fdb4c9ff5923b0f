use Rattle.std.proofs.Common.{◌∙◌}
use Rattle.vk_model.specs.Trace.Point.{Past}
use Rattle.vk_rules.proofs.memories.breaks_memory_size.Goals as goal

pub returns : goal.returns
returns c = λ (past : Past). c.is_some.ensures ∙ c.memory_size_of.ensures.broken
