use Rattle.std.proofs.Common.{ap}
use Rattle.std.proofs.lemmas.Result.{on_ok_weaker}
use Rattle.vk_model.specs.Trace.PointViews.{point_of, action_of}
use Rattle.vk_history.proofs.Living.Residents.{host_resides}
use Rattle.vk_history.proofs.residents.Residents.note.Goals as goal

pub returns-in-Host : goal.returns-in-Host
returns-in-Host c = on_ok_weaker c.reside_by.result
    (λ by past are. host_resides past (point_of c.args.point.now) c.args.self.now c.reside_by.new.self c.in-Host.entry.now (ap action_of c.in-Host.is) by are) c.reside_by.ensures
