use Rattle.std.proofs.Common.{List, subst}
use Rattle.vk_model.specs.Run.Runs.{Step}
use Rattle.vk_laws.specs.DefinedRuns.{RunOf}
use Rattle.vk_laws.proofs.DirectRuns.RunsOn.{direct}
use Rattle.vk_laws.proofs.direct_runs.direct_runs_are_runs.Goals as goal

pub returns : goal.returns
returns c = λ t steps s m r. subst (λ (l : List Step). RunOf t l s) r.same_steps (c.cached_runs_are_reached.ensures.runs t r.first r.cached_steps (direct s m) r.run)
