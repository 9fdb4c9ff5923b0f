use Rattle.vk_availability.proofs.Freeing.{happens, nothing_happens}
use Rattle.vk_availability.proofs.happening.happen.Goals as goal

pub returns-then-event-clause-happens : goal.returns-then-event-clause-happens
returns-then-event-clause-happens c = happens c.args.resources.now c.args.event c.args.lags.now c.catch_up_on.new.lags c.if-event.true c.catch_up_on.ensures

pub returns-else-event-clause-happens : goal.returns-else-event-clause-happens
returns-else-event-clause-happens c = nothing_happens c.args.resources.now c.args.event c.args.lags.now c.if-event.false
