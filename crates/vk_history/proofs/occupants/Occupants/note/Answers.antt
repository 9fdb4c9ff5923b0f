use Rattle.std.proofs.Common.{ap}
use Rattle.vk_model.specs.Trace.PointViews.{point_of, action_of}
use Rattle.vk_history.proofs.Making.JudgedIds.{no_host}
use Rattle.vk_history.proofs.Living.Counting.{on_both}
use Rattle.vk_history.proofs.Living.Occupants.{host_occupied, quiet_occupied}
use Rattle.vk_history.proofs.occupants.Occupants.note.Goals as goal

pub returns-in-Host : goal.returns-in-Host
returns-in-Host c =
    on_both c.occupy_by.result c.occupy_by.ensures.memories c.occupy_by.ensures.pools
    (λ memories pools past judged objects are. host_occupied past (point_of c.args.point.now) judged c.args.self.now c.occupy_by.new.self c.in-Host.entry.now (ap action_of c.in-Host.is) (memories past objects) (pools past objects) are)

pub returns-in_default : goal.returns-in_default
returns-in_default c = λ past judged objects are. quiet_occupied past (point_of c.args.point.now) judged c.args.self.now c.args.self.now (no_host c.args.point.now.action c.in_default.not-Host) are
