use Rattle.std.proofs.Common.{◌≡◌, List, length, Some, sym, ◌∙◌, ap, arith}
use Rattle.std.specs.Prelude.{nat_lt}
use Rattle.vk_model.specs.Trace.Point.{Past}
use Rattle.vk_model.specs.Trace.Order.{order}
use Rattle.vk_model.specs.World.Effect.{world}
use Rattle.vk_model.specs.Sync.Node.{nodes}
use Rattle.vk_model.specs.Rules.Table.{first_fault}
use Rattle.vk_laws.specs.Machine.{Task}
use Rattle.vk_laws.specs.Tasks.{task_count, accesses_of}
use Rattle.vk_laws.specs.TraceBytes.{uncached, value_before}
use Rattle.vk_laws.specs.DefinedRuns.{bytes_after}
use Rattle.vk_laws.proofs.EveryOrder.Coherent.{Settled, Follows}
use Rattle.vk_laws.proofs.EveryOrder.Fresh.{settled_at}
use Rattle.vk_laws.proofs.Running.Runs.{bare, reached_from}
use Rattle.vk_laws.proofs.Bytes.BeforeNodes.{before_whole}
use Rattle.vk_laws.proofs.Nodes.Prefixes.{there_below}
use Rattle.vk_laws.proofs.Running.DefinedBytes.{bytes_same, writer_real}
use Rattle.vk_laws.proofs.trace_runs.defined_runs_end.Goals as goal

pub returns : goal.returns
unfolding first_fault
returns c = record {
  whole = λ t steps e run none over. c.defined_runs_match.ensures.whole t steps e run none over;
  meaning = λ t steps e run first b v none over is.
      let all : Past = order t in
      let d = c.defined_runs_match.ensures.allowed t steps e run none in
      let ends = c.defined_runs_match.ensures.whole t steps e run none over in
      let settled : Settled (accesses_of all) d.0 b (length (nodes all)) = record {
        earlier = λ u lt w. let real = writer_real all c.pieces_are_byte_writes.ensures u b w in (d.1.happened u real.0 real.1).1 (ends.1 u real.0 real.1);
        later = λ u le w h.
            let real = writer_real all c.pieces_are_byte_writes.ensures u b w in
            let lt = there_below all u.node (λ a. nat_lt u.index (task_count all a)) real.0 in
            omega (arith, lt, le);
      } in
      let follows : Follows (accesses_of all) (value_before all) d.0 (bytes_after (accesses_of all) first d.0) = λ a w u last its.
      c.trace_is_fresh.ensures.written all d.0 (bare (bytes_after (accesses_of all) first d.0)) w a u none (reached_from (accesses_of all) uncached first d.0 d.1.allowed) last its in
      let last : value_before all (length (nodes all)) b ≡ Some v = ap (λ (l : Past). (world l).value b) (before_whole all (length (nodes all)) (omega arith)) ∙ is in
      ap (λ (done : List Task). bytes_after (accesses_of all) first done b) (sym d.2) ∙ sym (bytes_same all first d.0 b)
      ∙ settled_at (accesses_of all) (c.trace_is_hazard_free.ensures all none) (value_before all) (c.trace_is_modelled.ensures all none) d.0 (bytes_after (accesses_of all) first d.0) b v (length (nodes all)) d.1.allowed settled follows last;
}
