use Rattle.vk_model.specs.World.Effect.{in_atoms}
use Rattle.vk_touches.specs.Conflicts.{SeesWrite}
use Rattle.vk_touches.proofs.Invalidating.{invalidated_values, invalidated_answers}
use Rattle.vk_touches.proofs.invalidations.invalidate_touches.Goals as goal

pub returns-clause-values : goal.returns-clause-values
returns-clause-values c = invalidated_values (SeesWrite c.args.by.now) c.args.touches.now c.loop-at.touches c.of_atoms-part.result.low c.of_atoms-part.result.high
    (rw (← c.len.ensures) c.of_atoms-part.ensures.within) (in_atoms c.args.offset c.args.size) (rw (← c.len.ensures) c.of_atoms-part.ensures.reached) c.loop-at.at c.loop-at-test.false c.loop-at.invariant.0 c.loop-at.invariant.1

pub returns-clause-answers : goal.returns-clause-answers
returns-clause-answers c = invalidated_answers (SeesWrite c.args.by.now) c.args.touches.now c.loop-at.touches c.of_atoms-part.result.low c.of_atoms-part.result.high
    (rw (← c.len.ensures) c.of_atoms-part.ensures.within) (in_atoms c.args.offset c.args.size) (rw (← c.len.ensures) c.of_atoms-part.ensures.reached) c.loop-at.at c.loop-at-test.false c.loop-at.invariant.0 c.loop-at.invariant.1
