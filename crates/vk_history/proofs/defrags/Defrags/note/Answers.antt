use Rattle.std.proofs.Common.{ap}
use Rattle.vk_model.specs.Trace.PointViews.{point_of, action_of}
use Rattle.vk_history.proofs.Making.JudgedIds.{no_host}
use Rattle.vk_history.proofs.Living.Counting.{on_both}
use Rattle.vk_history.proofs.Living.Defrags.{host_defrags, quiet_defrags}
use Rattle.vk_history.proofs.defrags.Defrags.note.Goals as goal

pub returns-in-Host : goal.returns-in-Host
returns-in-Host c =
    on_both c.defrag_by.result c.defrag_by.ensures.pools c.defrag_by.ensures.pass
    (λ pools pass past judged objects are. host_defrags past (point_of c.args.point.now) judged c.args.self.now are c.in-Host.entry.now (ap action_of c.in-Host.is) c.defrag_by.new.self (pools past objects) (pass past objects))

pub returns-in_default : goal.returns-in_default
returns-in_default c = λ past judged objects are. quiet_defrags past (point_of c.args.point.now) judged c.args.self.now are (no_host c.args.point.now.action c.in_default.not-Host)
