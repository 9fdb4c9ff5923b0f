use Rattle.std.proofs.Common.{List, sym, ◌∙◌, ap}
use Rattle.std.proofs.lemmas.Bool.{false_from_ne_true}
use Rattle.vk_model.specs.Trace.Point.{Past}
use Rattle.vk_model.specs.Trace.Order.{order}
use Rattle.vk_model.specs.Rules.Table.{first_fault}
use Rattle.vk_laws.specs.Machine.{Task, latest}
use Rattle.vk_laws.specs.Tasks.{accesses_of}
use Rattle.vk_laws.specs.TraceBytes.{uncached}
use Rattle.vk_laws.specs.DefinedRuns.{has_happened, bytes_after}
use Rattle.vk_laws.proofs.Running.Runs.{bare, reached_from}
use Rattle.vk_laws.proofs.Running.DefinedBytes.{bytes_same, latest_same, first_real, second_real}
use Rattle.vk_laws.proofs.trace_runs.defined_runs_are_fresh.Goals as goal

pub returns : goal.returns
unfolding first_fault
returns c = record {
  settled = λ t steps e next other b run none may.
      let all : Past = order t in
      let d = c.defined_runs_are_allowed.ensures t steps e run none in
      let settled = c.trace_is_settled.ensures all d.0 next none d.1.allowed (d.1.next next may) in (
        λ lt meet. let real = first_real all c.pieces_are_byte_writes.ensures other next b meet in (d.1.happened other real.0 real.1).0 (settled.earlier other b lt meet),
        λ lt meet. let real = second_real all c.pieces_are_byte_writes.ensures next other b meet in false_from_ne_true (has_happened all e other) (λ h. settled.later other b lt meet ((d.1.happened other real.0 real.1).1 h)),
      );
  fresh = λ t steps e run first next b v none may reads is.
      let all : Past = order t in
      let d = c.defined_runs_are_allowed.ensures t steps e run none in
      let is_seen = c.trace_is_fresh.ensures.fresh all d.0 (bare (bytes_after (accesses_of all) first d.0)) next b v none (reached_from (accesses_of all) uncached first d.0 d.1.allowed) (d.1.next next may) reads is in
      ap (λ (done : List Task). bytes_after (accesses_of all) first done b) (sym d.2) ∙ sym (bytes_same all first d.0 b) ∙ is_seen;
  written = λ t steps e run first writer b v none last is.
      let all : Past = order t in
      let d = c.defined_runs_are_allowed.ensures t steps e run none in
      let newest = latest_same all b d.0 ∙ ap (λ (done : List Task). latest (accesses_of all) b done) d.2 ∙ last in
      let is_seen = c.trace_is_fresh.ensures.written all d.0 (bare (bytes_after (accesses_of all) first d.0)) writer b v none (reached_from (accesses_of all) uncached first d.0 d.1.allowed) newest is in
      ap (λ (done : List Task). bytes_after (accesses_of all) first done b) (sym d.2) ∙ sym (bytes_same all first d.0 b) ∙ is_seen;
}
