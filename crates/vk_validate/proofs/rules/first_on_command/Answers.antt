use Rattle.std.proofs.Common.{◌∙◌, ap}
use Rattle.vk_model.specs.Trace.Point.{Run}
use Rattle.vk_model.specs.Trace.PointViews.{point_of}
use Rattle.vk_history.specs.PointViews.{past}
use Rattle.vk_validate.proofs.Judging.Rules.{commands_are, fills_are, updates_are, copies_are, barriers_are}
use Rattle.vk_validate.proofs.rules.first_on_command.Goals as goal

pub returns-in-Fill : goal.returns-in-Fill
returns-in-Fill c = c.first_on_buffers.ensures ∙ fills_are (past c.args.history.now) (point_of c.args.point.now) _ _ _ _ (c.requires.command ∙ ap Run c.in-Fill.is)

pub returns-in-Update : goal.returns-in-Update
returns-in-Update c = c.first_on_buffers-in-Update.ensures ∙ updates_are (past c.args.history.now) (point_of c.args.point.now) _ _ _ (c.requires.command ∙ ap Run c.in-Update.is)

pub returns-in-Copy : goal.returns-in-Copy
returns-in-Copy c = c.first_on_buffers-in-Copy.ensures ∙ copies_are (past c.args.history.now) (point_of c.args.point.now) _ _ _ (c.requires.command ∙ ap Run c.in-Copy.is)

pub returns-in-Barrier : goal.returns-in-Barrier
returns-in-Barrier c = c.first_on_barrier.ensures ∙ barriers_are (past c.args.history.now) (point_of c.args.point.now) _ (c.requires.command ∙ ap Run c.in-Barrier.is)

pub returns-in_default : goal.returns-in_default
returns-in_default c = c.first_of.ensures ∙ commands_are (past c.args.history.now) (point_of c.args.point.now) _ c.requires.command
