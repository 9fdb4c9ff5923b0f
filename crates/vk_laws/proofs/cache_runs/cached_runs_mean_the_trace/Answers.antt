use Rattle.std.proofs.Common.{◌≡◌, ℕ, List, [], ◌∷◌, ◌++◌, ◌+◌, None, refl, ap, ◌∙◌, subst}
use Rattle.vk_model.specs.declared.entry.Entry.{Entry}
use Rattle.vk_model.specs.declared.entry.Entry.TheVariants as entry
use Rattle.vk_model.specs.World.Bytes.{in_buffer}
use Rattle.vk_model.specs.Trace.Order.{order}
use Rattle.vk_model.specs.Rules.Table.{first_fault}
use Rattle.vk_model.specs.Run.Caches.{queue_agent, view}
use Rattle.vk_model.specs.Run.Runs.{Step, RunPiece, Stage}
use Rattle.vk_model.specs.Run.CachedRuns.{Cells, after_atoms, after_step, after_nodes, Does, CachedStage, cached_start}
use Rattle.vk_laws.specs.Machine.{Task, latest}
use Rattle.vk_laws.specs.Discards.{with_discards}
use Rattle.vk_laws.specs.DefinedRuns.{RunOf, piece_task}
use Rattle.vk_laws.specs.CachedRuns.{tasks_through}
use Rattle.vk_laws.specs.CacheRuns.{CachedRun}
use Rattle.vk_laws.proofs.Running.StageTasks.{Known, known_of}
use Rattle.vk_laws.proofs.DirectRuns.RunsOn.{joined}
use Rattle.vk_laws.proofs.DirectRuns.Values.{bytes_are, reads_next, value_now, written_last, seen_by_queue}
use Rattle.vk_laws.proofs.GoingOn.{at, one_step}
use Rattle.vk_laws.proofs.cache_runs.cached_runs_mean_the_trace.Goals as goal

pub returns : goal.returns
unfolding first_fault
returns c =
    let known : (t : List Entry) → first_fault t ≡ None → Known t = known_of c.before_is_path.ensures c.before_is_order.ensures.transitive c.before_is_order.ensures.forward c.growth_keeps.ensures c.no_fault_is_sound.ensures in
    let runs : (t : List Entry) (steps : List Step) (s : Stage) (cells : Cells) → CachedRun t steps s cells → RunOf t steps s =
    λ t steps s cells r. subst (λ (l : List Step). RunOf t l s) r.same_steps (c.cached_runs_are_reached.ensures.runs t r.first r.cached_steps (at s cells) r.run) in record {
      runs = runs;
      reads = λ t steps s cells b o n xs atoms none r left.
          let run = runs t steps s cells r in
          ap (λ (bytes : List ℕ). (s.count, bytes) ∷ []) (bytes_are s.front.past b o n (λ d. view 0 (after_atoms (entry.Read b o n) atoms cells d))
          (λ k lt. value_now (known t none) steps s run (in_buffer b (o + k)) _
          (c.cached_runs_are_fresh.ensures.host_reads t r.first r.cached_steps (at s cells) (entry.Read b o n) xs atoms (in_buffer b (o + k)) r.run none left refl (reads_next (known t none) steps s run b o n xs left k lt))));
      written = λ t steps s e cells x n moved b w v none r next is writes value.
          let run = runs t steps s cells r in
          let after : CachedStage = at e (after_nodes s e (after_step s (RunPiece x) moved cells)) in
          let whole = joined r.cached_steps (Does (RunPiece x) moved ∷ []) (cached_start t r.first) (at s cells) after r.run (one_step r (RunPiece x) moved e next) [] in
          subst (λ (cs : Cells). view (queue_agent n.point.queue) (cs b) ≡ v) (c.nodes_go_by_starts.ensures t r.first r.cached_steps (at s cells) after (RunPiece x) moved r.run none (next, refl))
          (seen_by_queue (known t none) steps s run x next.0 b n (after.cells b) v is
          (c.cached_runs_are_fresh.ensures.written t r.first (r.cached_steps ++ Does (RunPiece x) moved ∷ []) after whole.run (piece_task x) b v none
          (ap (λ (done : List Task). latest (with_discards (order t)) b done) whole.tasks ∙ written_last (known t none) steps s run x next.0 b w writes (tasks_through t r.first r.cached_steps (at s cells) r.run)) value));
      meaning = λ t steps s cells b v none r over is. c.cached_runs_end.ensures t r.first r.cached_steps (at s cells) b v r.run none over is;
    }
