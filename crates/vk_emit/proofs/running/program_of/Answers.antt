use Rattle.std.proofs.lemmas.Result.{err_from_is_err_and}
use Rattle.vk_emit.specs.Plans.{Emits}
use Rattle.vk_emit.proofs.running.program_of.Goals as goal

pub returns-in_err-entries-clause-no_trace : goal.returns-in_err-entries-clause-no_trace
returns-in_err-entries-clause-no_trace c = λ e.
    let p = err_from_is_err_and c.from_residual.result c.from_residual.ensures.1 in
    c.in_err-entries.ensures.none (cc (p.1, p.2, e))

pub returns-clause-emitted : goal.returns-clause-emitted
returns-clause-emitted c =
    let same = c.deref.ensures.value in
    let emits : Emits c.args.config c.args.input.now c.args.wanted c.emitted_of-emitted.result c.in_ok-text.text.items = record {
      entries = c.in_ok-entries.entries.items;
      trace = c.in_ok-entries.ensures.ok;
      plan = c.in_ok-plan.plan;
      planned = rw same at c.in_ok-plan.ensures;
      same = c.emitted_of-emitted.ensures;
      is_text = c.in_ok-text.ensures;
    } in
    emits
