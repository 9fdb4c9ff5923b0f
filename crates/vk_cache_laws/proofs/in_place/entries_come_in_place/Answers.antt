use Rattle.std.proofs.Common.{◌≡◌, ℕ, List, [], Some, None, refl}
use Rattle.vk_model.specs.declared.entry.Entry.{Entry}
use Rattle.vk_model.specs.declared.entry.Entry.TheVariants as entry
use Rattle.vk_model.specs.World.Effect.{written}
use Rattle.vk_model.specs.Trace.Order.{order}
use Rattle.vk_model.specs.Rules.Table.{first_fault}
use Rattle.vk_model.specs.Run.Caches.{Dirty, queue_agent}
use Rattle.vk_model.specs.Run.Runs.{Step, Stage, start}
use Rattle.vk_model.specs.Run.CachedRuns.{Cells, cached_start}
use Rattle.vk_laws.specs.Machine.{Task}
use Rattle.vk_laws.specs.DefinedRuns.{entry_task, Enters}
use Rattle.vk_laws.specs.CachedRuns.{steps_of}
use Rattle.vk_laws.specs.CacheRuns.{CachedRun}
use Rattle.vk_laws.proofs.Running.StageTasks.{Known, known_of}
use Rattle.vk_laws.proofs.Running.AtStage.{AtPoint, begins}
use Rattle.vk_laws.proofs.Running.StageSteps.{all_steps}
use Rattle.vk_laws.proofs.CachedRunning.CachedSteps.{plain_run}
use Rattle.vk_laws.proofs.GoingOn.{at}
use Rattle.vk_cache_laws.proofs.EntriesTold.{one_writer, none_dirty_for, host_writes, host_puts}
use Rattle.vk_cache_laws.proofs.HostTold.{host_told}
use Rattle.vk_cache_laws.proofs.PiecesTold.{no_lag_of}
use Rattle.vk_cache_laws.proofs.in_place.entries_come_in_place.Goals as goal

-- where a run is in the machine
record Comes {t : List Entry} (known : Known t) (s : Stage) : Type 0 where
  did : List Task
  at_point : AtPoint known s did

comes : {t : List Entry} (known : Known t) (steps : List Step) (s : Stage) (cells : Cells) → CachedRun t steps s cells → Comes known s
comes {t} known steps s cells r = record { did = _; at_point = all_steps known (steps_of r.cached_steps) (start t) [] (begins known) s (plain_run r.cached_steps (cached_start t r.first) (at s cells) r.run) }

pub returns : goal.returns
unfolding first_fault
returns c = λ t steps s m lag cells x xs atoms moved none r told small left may b.
    let known : Known t = known_of c.before_is_path.ensures c.before_is_order.ensures.transitive c.before_is_order.ensures.forward c.growth_keeps.ensures c.no_fault_is_sound.ensures t none in
    let d = c.cached_runs_are_reached.ensures.reached t r.first r.cached_steps (at s cells) r.run none in
    let ordered = c.order_is_structured.ensures.ordered t in
    let sound = (c.no_fault_is_unbroken.ensures (order t)).0 none in
    let free = c.discards_keep_premises.ensures.hazard_free (order t) none in
    let cache = c.trace_is_cache_free.ensures (order t) ordered none in
    let model = c.discards_keep_premises.ensures.modelled (order t) none in
    let alone : (v q u : ℕ) → (cells b).held 0 ≡ Some (Dirty v) → (cells b).held (queue_agent q) ≡ Some (Dirty u) → ⊥ =
    one_writer c.pieces_are_byte_writes.ensures c.before_is_path.ensures c.before_is_order.ensures.transitive c.commands_stay.ensures c.no_hazard.ensures c.seen_is_before.ensures c.host_in_order.ensures c.growth_keeps.ensures (order t) ordered sound none free cache model d.0 cells d.1.reached b in
    let i = comes known steps s cells r in
    let up : (buffer offset u : ℕ) (bytes : List ℕ) → x ≡ entry.Write buffer offset bytes → written buffer offset bytes b ≡ Some u → lag b ≡ None =
    λ buffer offset u bytes is wrote.
    no_lag_of (lag b) (cells b) (told b) (λ q v held.
    none_dirty_for c.pieces_are_byte_writes.ensures c.before_is_path.ensures c.before_is_order.ensures.transitive c.commands_stay.ensures c.no_hazard.ensures c.seen_is_before.ensures c.host_in_order.ensures c.growth_keeps.ensures (order t) ordered sound none free cache model d.0 cells d.1.reached
    (entry_task s) (d.1.next (entry_task s) (Enters x xs left may)) b (host_puts known s i.did i.at_point x xs left buffer offset u bytes is b wrote) (host_writes known s i.did i.at_point x xs left buffer offset u bytes is b wrote) q v held) in
    host_told s.front.past moved x b (m.region b) (m.host b) (lag b) (cells b) atoms lag refl (told b)
    (λ v held. no_lag_of (lag b) (cells b) (told b) (λ q u queue. alone v q u (((told b).alike.1 v).0 held) queue)) (small b) up
