use Rattle.vk_model.specs.Trace.Order.{order}
use Rattle.vk_model.specs.Rules.Table.{first_fault}
use Rattle.vk_model.specs.Run.CachedRuns.{cached_start}
use Rattle.vk_laws.proofs.Running.StageTasks.{known_of}
use Rattle.vk_laws.proofs.CachedRunning.CachedSteps.{runs_reached, plain_run}
use Rattle.vk_laws.proofs.cached_runs.cached_runs_are_reached.Goals as goal

pub returns : goal.returns
unfolding first_fault
returns c = record {
  runs = λ t region steps e run. plain_run steps (cached_start t region) e run;
  reached = λ t region steps e run none.
      let known = known_of c.before_is_path.ensures c.before_is_order.ensures.transitive c.before_is_order.ensures.forward c.growth_keeps.ensures c.no_fault_is_sound.ensures t none in
      runs_reached known c.pieces_are_byte_writes.ensures (c.discards_keep_premises.ensures.hazard_free (order t) none) region steps e run;
}
