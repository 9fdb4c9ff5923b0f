use Rattle.std.specs.Prelude.{string_bytes}
use Rattle.std.proofs.lemmas.Result.{err_from_is_err_and}
use Rattle.vk_run.specs.Run.{Reports}
use Rattle.vk_run.proofs.running.answer_of.Goals as goal

pub returns-in_err-entries-clause-no_trace : goal.returns-in_err-entries-clause-no_trace
returns-in_err-entries-clause-no_trace g c = λ e.
    let p = err_from_is_err_and c.from_residual.result c.from_residual.ensures.1 in
    c.in_err-entries.ensures.none (cc (p.1, p.2, e))

pub returns-clause-answered : goal.returns-clause-answered
returns-clause-answered g c =
    let same = c.deref.ensures.value in
    let reports : Reports c.args.config c.args.input.now (string_bytes c.in_ok-text.text) c.in_ok-outcome.outcome = record {
      entries = c.in_ok-entries.entries.items;
      trace = c.in_ok-entries.ensures.ok;
      answer = rw same at c.in_ok-outcome.ensures.answer;
      caches = rw same at c.in_ok-outcome.ensures.caches;
      lines = c.in_ok-text.ensures;
    } in
    (c.in_ok-outcome.outcome, reports, c.answer_status-status.ensures, rw same at c.in_ok-outcome.ensures.view)
