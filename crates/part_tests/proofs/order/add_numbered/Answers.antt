use Rattle.std.proofs.Common.{◌≡◌, ◌+◌, subst, sym}
use Rattle.std.specs.Prelude.{List}
use Rattle.std.proofs.lemmas.Result.{on_ok_weaker}
use Rattle.vk_model.specs.Sync.Node.{Node}
use Rattle.vk_model.specs.Trace.PointViews.{point_of}
use Rattle.part_tests.proofs.DrawnPlaces.{AreBelow, stays_below}
use Rattle.part_tests.proofs.order.add_numbered.Goals as goal

pub returns : goal.returns
returns c = on_ok_weaker c.add.result
    (λ e. subst (λ (ns : List Node). AreBelow (c.args.number + 1) ns) (sym e) (stays_below (point_of c.args.point) c.args.number c.args.points.now c.requires.below c.requires.numbered)) c.add.ensures.ok
