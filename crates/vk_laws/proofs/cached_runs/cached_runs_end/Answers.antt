use Rattle.vk_model.specs.Trace.Point.{Past}
use Rattle.vk_model.specs.Trace.Order.{order}
use Rattle.vk_model.specs.Rules.Table.{first_fault}
use Rattle.vk_laws.specs.CachedRuns.{steps_of}
use Rattle.vk_laws.proofs.CachedRunning.CachedEnd.{end_bytes}
use Rattle.vk_laws.proofs.cached_runs.cached_runs_end.Goals as goal

pub returns : goal.returns
unfolding first_fault
returns c = λ t region steps e b v run none over is.
    let all : Past = order t in
    let d = c.cached_runs_are_reached.ensures.reached t region steps e run none in
    let ends = c.defined_runs_end.ensures.whole t (steps_of steps) e.stage (c.cached_runs_are_reached.ensures.runs t region steps e run) none over in
    end_bytes c.pieces_are_byte_writes.ensures all (c.discards_keep_premises.ensures.hazard_free all none) (c.trace_is_cache_free.ensures all (c.order_is_structured.ensures.ordered t) none)
    (c.discards_keep_premises.ensures.modelled all none) d.0 e.cells d.1.reached (λ u there own. (d.1.happened u there own).1 (ends.1 u there own)) b v is
