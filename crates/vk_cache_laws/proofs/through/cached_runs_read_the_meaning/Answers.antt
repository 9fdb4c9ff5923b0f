use Rattle.vk_cache_laws.proofs.CachedReads.{run_means, run_means_all, goes_on}
use Rattle.vk_cache_laws.proofs.through.cached_runs_read_the_meaning.Goals as goal

pub returns-clause-reads : goal.returns-clause-reads
returns-clause-reads c = λ t first steps e run none. run_means t first none c.cached_runs_mean_the_trace.ensures.reads c.cached_runs_are_reached.ensures.runs c.defined_runs_follow.ensures steps e run

pub returns-clause-whole : goal.returns-clause-whole
returns-clause-whole c = λ t first steps e run none left. run_means_all t first none c.cached_runs_mean_the_trace.ensures.reads c.cached_runs_are_reached.ensures.runs c.defined_runs_follow.ensures steps e run left

pub returns-clause-goes_on : goal.returns-clause-goes_on
returns-clause-goes_on c = λ t first steps s x xs run none left. goes_on s x xs left (c.defined_runs_go_on.ensures t _ s.stage x xs (c.cached_runs_are_reached.ensures.runs t first steps s run) none left)
