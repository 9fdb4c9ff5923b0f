use Rattle.std.proofs.Common.{[], ◌∷◌, ◌++◌, refl, subst}
use Rattle.vk_model.specs.Run.Runs.{Apply, applied}
use Rattle.vk_model.specs.Run.CachedRuns.{cached_start}
use Rattle.vk_laws.specs.DirectRuns.{HostMemory, DirectRun}
use Rattle.vk_laws.proofs.DirectRuns.Unheld.{same_memory}
use Rattle.vk_laws.proofs.Running.OfferedPieces.{is_piece}
use Rattle.vk_laws.proofs.DirectRuns.RunsOn.{direct, begun, further, entry_goes_on, part_goes_on, entry_stays, bare_after, piece_steps, piece_run, longer_allowed}
use Rattle.vk_laws.proofs.direct_runs.direct_runs_go_on.Goals as goal

pub returns : goal.returns
returns c = record {
  begins = begun;
  pieces = λ t steps s m x r h. let p = is_piece s.front.past s.done x h in further r (piece_steps x p.node.point.queue) _ _ (piece_run s m x h p.node p.present);
  entries = λ t steps s m x xs atoms parts moved r left may are. entry_goes_on r x xs atoms parts moved left may are;
  others = λ t steps s m x xs parts r left may e. subst (λ (n : HostMemory). DirectRun t (steps ++ Apply [] parts ∷ []) (applied s parts x xs) n) (entry_stays s.front.past m x e) (entry_goes_on r x xs [] parts [] left may refl);
  uncached = λ t steps s region x xs parts r left may e. subst (λ (n : HostMemory). DirectRun t (steps ++ Apply [] parts ∷ []) (applied s parts x xs) n) (bare_after s.front.past region x e) (entry_goes_on r x xs [] parts [] left may refl);
  parts = λ t steps s m k r h. part_goes_on r k h;
  longer = λ t more steps s m r. record { first = r.first; cached_steps = r.cached_steps; run = longer_allowed more r.cached_steps (cached_start t r.first) (direct s m) r.run; same_steps = r.same_steps };
  same = λ t steps s m n r region host. subst (λ (k : HostMemory). DirectRun t steps s k) (same_memory m n region host) r;
}
