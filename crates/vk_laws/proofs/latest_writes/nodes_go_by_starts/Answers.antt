use Rattle.vk_model.specs.Trace.Order.{order}
use Rattle.vk_model.specs.Rules.Table.{first_fault}
use Rattle.vk_laws.proofs.Running.StageTasks.{known_of}
use Rattle.vk_laws.proofs.CachedRunning.CachedSteps.{steps_by_starts}
use Rattle.vk_laws.proofs.latest_writes.nodes_go_by_starts.Goals as goal

pub returns : goal.returns
unfolding first_fault
returns c = λ t region steps s e step moved run none next.
    let known = known_of c.before_is_path.ensures c.before_is_order.ensures.transitive c.before_is_order.ensures.forward c.growth_keeps.ensures c.no_fault_is_sound.ensures t none in
    steps_by_starts known c.pieces_are_byte_writes.ensures (c.discards_keep_premises.ensures.hazard_free (order t) none) region steps s e step moved run next
    (λ done cells reached b q u held. c.dirty_is_of_the_latest.ensures (order t) done cells b q u (c.order_is_structured.ensures.ordered t) none reached held)
