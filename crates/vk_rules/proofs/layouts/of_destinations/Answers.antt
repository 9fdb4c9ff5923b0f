use Rattle.std.proofs.Common.{refl, sym, ap}
use Rattle.std.proofs.lemmas.Option.{slice_get-get_or}
use Rattle.vk_model.specs.World.Effect.{world}
use Rattle.vk_history.specs.PointViews.{past}
use Rattle.vk_rules.specs.Inner.Layouts.{cleared_part}
use Rattle.vk_rules.proofs.PartLemmas.{written_in}
use Rattle.vk_rules.proofs.layouts.of_destinations.Goals as goal

pub returns-in-Some-clause-reported : goal.returns-in-Some-clause-reported
returns-in-Some-clause-reported c = λ read same.
    written_in (world (past c.args.history.now)) read c.args.regions.now c.args.image c.args.layout c.loop-index.index _ _ c.in-Some.found same
    (slice_get-get_or c.args.regions.now c.loop-index.index _ c.loop-index-test.true) refl
    (ap (cleared_part c.args.image c.args.layout) (sym c.layers_of.ensures)) c.in-Some.ensures.reported
