use Rattle.vk_touches.proofs.PartChanges.{on_three}
use Rattle.vk_history.proofs.Kept.ImageRanges.{transition_within}
use Rattle.vk_history.proofs.ranges.touch_range_by_transition.Goals as goal

pub returns-clause-values : goal.returns-clause-values
returns-clause-values c = on_three c.touch_transition.result c.touch_transition.ensures.values c.touch_transition.ensures.values c.touch_transition.ensures.values (λ values more again.
    transition_within c.args.spot c.args.touches.now c.touch_transition.new.touches c.args.offset c.args.size c.of-part.result.low c.of-part.result.high (let high = c.of-part.ensures.high in rw (← c.len.ensures) high) c.of-part.ensures.low values)
