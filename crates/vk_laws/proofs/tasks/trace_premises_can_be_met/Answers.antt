use Rattle.std.specs.Prelude.{◌≡◌, None}
use Rattle.vk_model.specs.Rules.Table.{fault, first_fault}
use Rattle.vk_model.specs.World.Bytes.{in_buffer}
use Rattle.vk_laws.specs.Example.{task}
use Rattle.vk_laws.specs.Discards.{with_discards}
use Rattle.vk_laws.specs.TraceCaches.{caching_of}
use Rattle.vk_laws.specs.TraceExample.{example, points, run}
use Rattle.vk_laws.proofs.Running.Runs.{bare, memory_after, reached}
use Rattle.vk_laws.proofs.Running.TraceExample.{no_fault, forgotten, defined, reads_byte, allowed, next}
use Rattle.vk_laws.proofs.tasks.trace_premises_can_be_met.Goals as goal

faultless : first_fault example ≡ None → fault points ≡ None
unfolding first_fault
faultless none = none

pub returns : goal.returns
returns c =
    let leads = c.before_is_order.ensures.forward in
    record {
      no_fault = no_fault;
      forgotten = forgotten;
      allowed = allowed leads;
      next = next leads;
      reads_byte = reads_byte;
      defined = defined;
      state = (bare (memory_after (with_discards points) (caching_of points) run), reached (with_discards points) (caching_of points) run (allowed leads));
      is_seen = λ cells r. c.cached_trace_is_fresh.ensures.fresh points run cells (task 11) (in_buffer 1 0) 1 (c.order_is_structured.ensures.ordered example) (faultless no_fault) r (next leads) reads_byte defined;
    }
