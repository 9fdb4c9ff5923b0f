use Rattle.std.proofs.Common.{◌∙◌, ap}
use Rattle.vk_model.specs.Trace.PointViews.{action_of}
use Rattle.vk_validate.proofs.Judging.Rules.{commands_are, early_are}
use Rattle.vk_validate.proofs.rules.rules_on.Goals as goal

pub returns-in-Run : goal.returns-in-Run
returns-in-Run c past p is = commands_are past p _ (is ∙ ap action_of c.in-Run.is)

pub returns-in-Wait : goal.returns-in-Wait
returns-in-Wait c past p is = early_are past p

pub returns-in-Signal : goal.returns-in-Signal
returns-in-Signal c past p is = early_are past p
