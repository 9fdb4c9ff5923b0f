use Rattle.vk_model.specs.Trace.PointViews.{point_of}
use Rattle.vk_model.specs.World.Effect.{world}
use Rattle.vk_touches.proofs.PartChanges.{on_three}
use Rattle.vk_history.proofs.Transitions.Elements.{point_kept}
use Rattle.vk_history.proofs.Transitions.Named.{elements_there, grown}
use Rattle.vk_history.proofs.layouts.CurrentLayouts.note_with.Goals as goal

pub returns : goal.returns
returns c =
    let does = rw (c.elements_of.ensures, c.family_of.ensures) at c.change_all.ensures in
    on_three c.change_all.result does does does (λ change more most past j objects current.
    let p = point_of c.args.point.now in
    grown past p j c.change_all.new.self _ (point_kept c.args.self.now c.change_all.new.self past p.queue p.action (λ w kept. change past w objects (elements_there past p j) kept) (world past) current))
