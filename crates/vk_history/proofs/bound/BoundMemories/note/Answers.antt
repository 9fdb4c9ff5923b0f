use Rattle.std.proofs.Common.{ap}
use Rattle.std.proofs.lemmas.Result.{on_ok_weaker}
use Rattle.vk_model.specs.Trace.PointViews.{point_of, action_of}
use Rattle.vk_history.proofs.Making.JudgedIds.{no_host}
use Rattle.vk_history.proofs.Living.Bound.{host_bound, quiet_bound}
use Rattle.vk_history.proofs.bound.BoundMemories.note.Goals as goal

pub returns-in-Host : goal.returns-in-Host
returns-in-Host c = on_ok_weaker c.change_by.result (λ by past judged objects are. host_bound past (point_of c.args.point.now) judged c.in-Host.entry.now (ap action_of c.in-Host.is) c.args.self.now c.change_by.new.self (by past objects) are) c.change_by.ensures

pub returns-in_default : goal.returns-in_default
returns-in_default c = λ past judged objects are. quiet_bound past (point_of c.args.point.now) judged (no_host c.args.point.now.action c.in_default.not-Host) c.args.self.now are
