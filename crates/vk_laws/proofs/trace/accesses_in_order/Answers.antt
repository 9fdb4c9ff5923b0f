use Rattle.vk_laws.proofs.Nodes.Ordered.{in_order}
use Rattle.vk_laws.proofs.trace.accesses_in_order.Goals as goal

pub returns : goal.returns
returns c = λ all x y b none cx cy lt ax ay meet.
    in_order c.commands_stay.ensures c.no_hazard.ensures c.seen_is_before.ensures c.host_in_order.ensures c.growth_keeps.ensures all none x y cx cy lt ax ay b meet
