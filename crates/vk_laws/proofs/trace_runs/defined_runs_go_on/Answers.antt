use Rattle.vk_laws.proofs.Running.Following.{run_goes_on}
use Rattle.vk_laws.proofs.trace_runs.defined_runs_go_on.Goals as goal

pub returns : goal.returns
returns c = λ t steps s x xs run none left. run_goes_on s x xs left (λ over. (c.defined_runs_end.ensures.whole t steps s run none over).0)
