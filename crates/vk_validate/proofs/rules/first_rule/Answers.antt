use Rattle.std.proofs.Common.{sym, ◌∙◌}
use Rattle.vk_model.specs.Trace.PointViews.{point_of}
use Rattle.vk_history.specs.PointViews.{past}
use Rattle.vk_validate.proofs.Judging.Rules.{first_is_early, first_is_late}
use Rattle.vk_validate.proofs.rules.first_rule.Goals as goal

pub returns-in-Some : goal.returns-in-Some
returns-in-Some c = first_is_early (past c.args.history.now) (point_of c.args.point.now) _ (sym c.first_early.ensures ∙ c.in-Some.is)

pub returns : goal.returns
returns c = c.first_late.ensures ∙ first_is_late (past c.args.history.now) (point_of c.args.point.now) (sym c.first_early.ensures ∙ c.in_default.is)
