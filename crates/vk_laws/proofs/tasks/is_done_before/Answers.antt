use Rattle.std.proofs.Common.{sym, ◌∙◌}
use Rattle.vk_laws.proofs.EveryOrder.Fresh.{done_by_number}
use Rattle.vk_laws.proofs.tasks.is_done_before.Goals as goal
use Rattle.vk_laws.specs.Tasks.{accesses_of}

pub returns : goal.returns
returns c = λ all done s n b none ok may es en ne meet back.
    rw (sym es, sym en) (done_by_number (accesses_of all) done s n b (c.trace_is_settled.ensures all done n none ok may) (λ e. ne (sym es ∙ e ∙ en)) meet back)
