use Rattle.std.proofs.Common.{◌∙◌, sym}
use Rattle.vk_model.specs.Trace.PointViews.{point_of}
use Rattle.vk_history.specs.PointViews.{past}
use Rattle.vk_history.proofs.Making.JudgedIds.{no_host, judged_made}
use Rattle.vk_history.proofs.history.History.made_for.Goals as goal

pub returns-in_default : goal.returns-in_default
returns-in_default c = c.made_before.ensures ∙ sym (judged_made (past c.args.self.now) (point_of c.args.point.now) c.args.id c.is_judged.ensures.faultless c.requires (no_host c.args.point.now.action c.in_default.not-Host))
