use Rattle.std.proofs.Common.{false}
use Rattle.vk_model.specs.World.Effect.{in_atoms}
use Rattle.vk_touches.proofs.PartChanges.{on_three, assigned_where}
use Rattle.vk_history.proofs.ranges.clear.Goals as goal

pub returns-clause-values : goal.returns-clause-values
returns-clause-values c = on_three c.assign.result c.assign.ensures.inside c.assign.ensures.before c.assign.ensures.after (λ inside before after.
    assigned_where false (in_atoms c.args.offset c.args.size) c.args.bytes.now c.assign.new.self c.of_atoms-part.result.low c.of_atoms-part.result.high
    (rw (← c.len.ensures) c.of_atoms-part.ensures.within) (rw (← c.len.ensures) c.of_atoms-part.ensures.reached) before after inside)
