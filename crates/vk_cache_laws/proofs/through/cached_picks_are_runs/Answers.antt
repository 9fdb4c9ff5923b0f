use Rattle.vk_cache_laws.proofs.CachedPicking.{picked_through}
use Rattle.vk_cache_laws.proofs.SamePicks.{same_for_trace}
use Rattle.vk_cache_laws.proofs.through.cached_picks_are_runs.Goals as goal

pub returns-clause-runs : goal.returns-clause-runs
returns-clause-runs c = λ answer next t first parts moved stop held none. picked_through answer next t first c.cached_runs_are_reached.ensures.runs (λ steps s x xs run left. c.defined_runs_go_on.ensures t steps s x xs run none left) parts moved stop held

pub returns-clause-picks : goal.returns-clause-picks
returns-clause-picks c = λ answer next parts moved stop s held xs. same_for_trace answer next parts moved stop s held xs
