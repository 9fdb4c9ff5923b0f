use Rattle.std.proofs.Common.{◌∙◌, sym, ap}
use Rattle.std.specs.Prelude.{is_some}
use Rattle.vk_model.specs.Trace.PointViews.{point_of}
use Rattle.vk_history.specs.PointViews.{past}
use Rattle.vk_history.proofs.Making.JudgedIds.{no_host}
use Rattle.vk_history.proofs.Making.Ended.{ended_is, judged_ended}
use Rattle.vk_history.proofs.history.History.was_ended_for.Goals as goal

pub returns-in-Host : goal.returns-in-Host
returns-in-Host c = rw c.in-Host.is (c.is_some.ensures ∙ ap is_some c.first_end.ensures ∙ sym (ended_is (past c.args.self.now) c.args.id))

pub returns-in_default : goal.returns-in_default
returns-in_default c = c.was_ended_before.ensures ∙ sym (judged_ended (past c.args.self.now) (point_of c.args.point.now) c.args.id c.requires (no_host c.args.point.now.action c.in_default.not-Host))
