use Rattle.vk_laws.proofs.Running.Following.{run_follows}
use Rattle.vk_laws.proofs.trace_runs.defined_runs_follow.Goals as goal

pub returns : goal.returns
returns c = λ t steps s run. run_follows c.growth_keeps.ensures t steps s run
