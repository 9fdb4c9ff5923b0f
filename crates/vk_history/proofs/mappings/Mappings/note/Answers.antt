use Rattle.std.proofs.Common.{ap}
use Rattle.std.proofs.lemmas.Result.{on_ok_weaker}
use Rattle.vk_model.specs.Trace.PointViews.{point_of, action_of}
use Rattle.vk_history.proofs.Making.JudgedIds.{no_host}
use Rattle.vk_history.proofs.Living.Mappings.{host_mapped, quiet_mapped}
use Rattle.vk_history.proofs.mappings.Mappings.note.Goals as goal

pub returns-in-Host : goal.returns-in-Host
returns-in-Host c = on_ok_weaker c.map_by.result (λ by past judged objects are. host_mapped past (point_of c.args.point.now) judged c.args.self.now c.map_by.new.self c.in-Host.entry.now (ap action_of c.in-Host.is) (by past objects) are) c.map_by.ensures

pub returns-in_default : goal.returns-in_default
returns-in_default c = λ past judged objects are. quiet_mapped past (point_of c.args.point.now) judged c.args.self.now c.args.self.now (no_host c.args.point.now.action c.in_default.not-Host) are
