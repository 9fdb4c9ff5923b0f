use Rattle.std.proofs.Common.{List, ap, ◌∙◌}
use Rattle.vk_laws.specs.Machine.{Task, latest}
use Rattle.vk_laws.proofs.Running.DefinedBytes.{latest_too}
use Rattle.vk_model.specs.Trace.Point.{Past}
use Rattle.vk_model.specs.Trace.Order.{order}
use Rattle.vk_model.specs.Rules.Table.{first_fault}
use Rattle.vk_model.specs.Run.CachedRuns.{after_atoms}
use Rattle.vk_laws.specs.Discards.{with_discards}
use Rattle.vk_laws.specs.TraceCaches.{caching_of}
use Rattle.vk_laws.specs.DefinedRuns.{entry_task, Enters}
use Rattle.vk_laws.proofs.Running.StageTasks.{known_of}
use Rattle.vk_laws.proofs.CachedRunning.EntryCells.{atoms_reached}
use Rattle.vk_laws.proofs.CachedRunning.CachedSteps.{next_is_host}
use Rattle.vk_laws.proofs.cached_runs.cached_runs_are_fresh.Goals as goal

pub returns : goal.returns
unfolding first_fault
returns c = record {
  fresh = λ t region steps e next b v run none may reads is.
      let all : Past = order t in
      let d = c.cached_runs_are_reached.ensures.reached t region steps e run none in
      c.cached_trace_is_fresh.ensures.fresh all d.0 e.cells next b v (c.order_is_structured.ensures.ordered t) none d.1.reached (d.1.next next may) reads is;
  written = λ t region steps e run writer b v none last is.
      let all : Past = order t in
      let d = c.cached_runs_are_reached.ensures.reached t region steps e run none in
      c.cached_trace_is_fresh.ensures.written all d.0 e.cells writer b v (c.order_is_structured.ensures.ordered t) none d.1.reached
      (latest_too all b d.0 ∙ ap (λ (done : List Task). latest (with_discards all) b done) d.2 ∙ last) is;
  host_reads = λ t region steps e x xs atoms b run none left may reads.
      let all : Past = order t in
      let known = known_of c.before_is_path.ensures c.before_is_order.ensures.transitive c.before_is_order.ensures.forward c.growth_keeps.ensures c.no_fault_is_sound.ensures t none in
      let d = c.cached_runs_are_reached.ensures.reached t region steps e run none in
      c.host_reads_the_meaning.ensures all d.0 (after_atoms x atoms e.cells) (entry_task e.stage) b (c.order_is_structured.ensures.ordered t) none
      (atoms_reached (with_discards all) (caching_of all) d.0 e.cells d.1.reached x atoms) (d.1.next (entry_task e.stage) (Enters x xs left may)) reads
      (next_is_host known region steps e run x xs left);
}
