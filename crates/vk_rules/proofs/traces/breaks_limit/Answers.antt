use Rattle.std.proofs.Common.{◌∙◌}
use Rattle.vk_model.specs.Trace.Point.{Point}
use Rattle.vk_rules.proofs.traces.breaks_limit.Goals as goal

pub returns : goal.returns
returns c = λ (p : Point). c.is_some.ensures ∙ c.limit_of.ensures.broken
