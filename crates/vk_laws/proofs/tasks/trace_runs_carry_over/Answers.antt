use Rattle.std.proofs.Common.{length, ◌++◌, refl}
use Rattle.vk_model.specs.Trace.Point.{Past}
use Rattle.vk_model.specs.Sync.Node.{nodes}
use Rattle.vk_laws.specs.Discards.{with_discards}
use Rattle.vk_laws.specs.TraceCaches.{caching_of}
use Rattle.vk_laws.proofs.Nodes.Steady.{new_ids, live_ids}
use Rattle.vk_laws.proofs.Running.TraceGrowth.{extends}
use Rattle.vk_laws.proofs.tasks.trace_runs_carry_over.Goals as goal

pub returns : goal.returns
returns c = λ newer all done cells none r.
    let whole : Past = newer ++ all in
    let sound = (c.no_fault_is_unbroken.ensures whole).0 none in
    c.runs_carry_over.ensures (length (nodes all)) (with_discards all) (caching_of all) (with_discards whole) (caching_of whole) done cells
    (extends c.before_is_path.ensures c.before_is_order.ensures.transitive c.growth_keeps.ensures whole newer all refl (new_ids whole sound) (live_ids whole sound)) r
