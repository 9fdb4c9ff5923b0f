use Rattle.std.proofs.Common.{List, [], ◌∷◌, ◌++◌, refl, subst, append-nil}
use Rattle.vk_model.specs.Run.Runs.{Step}
use Rattle.vk_model.specs.Run.CachedRuns.{Cells, after_step, after_nodes, touched, Does}
use Rattle.vk_model.specs.Run.Caches.{queue_agent}
use Rattle.std.specs.Prelude.{if◌then◌else◌}
use Rattle.vk_laws.specs.CacheRuns.{CachedRun}
use Rattle.vk_laws.proofs.DirectRuns.Unheld.{same_cells}
use Rattle.vk_laws.proofs.GoingOn.{at, further, one_step, one_touch, longer_run, nothing_happens}
use Rattle.vk_laws.proofs.cache_runs.cached_runs_go_on.Goals as goal

pub returns : goal.returns
returns c = record {
  begins = λ t first. record { first = first; cached_steps = []; run = refl; same_steps = refl };
  steps = λ t steps s e cells step moved none r next.
      subst (λ (cs : Cells). CachedRun t (steps ++ step ∷ []) e cs)
      (c.nodes_go_by_starts.ensures t r.first r.cached_steps (at s cells) (at e (after_nodes s e (after_step s step moved cells))) step moved r.run none (next, refl))
      (further r (Does step moved ∷ []) e (after_nodes s e (after_step s step moved cells)) (one_step r step moved e next));
  alone = nothing_happens;
  touches = λ t steps s cells touch queue test r. subst (λ (l : List Step). CachedRun t l s (λ c. if test c then touched touch (queue_agent queue) (cells c) else cells c)) (append-nil steps) (one_touch r touch queue test);
  longer = λ t more steps s cells r. longer_run r more;
  same = λ t steps s cells other r region held. subst (λ (cs : Cells). CachedRun t steps s cs) (same_cells cells other region held) r;
}
