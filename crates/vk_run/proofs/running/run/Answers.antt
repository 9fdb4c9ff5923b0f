use Rattle.std.proofs.Common.{◌≡◌, ◌≤◌, ◌+◌, length, ℕ, List, sym, ap, Err, ◌∙◌, subst}
use Rattle.std.specs.Prelude.{string_bytes}
use Rattle.std.specs.Io.KnownBytes.{Appends}
use Rattle.vk_model.specs.declared.entry.Entry.{Entry}
use Rattle.vk_trace.specs.declared.printing.Outcome.{Outcome}
use Rattle.vk_run.specs.Run.{Reports, Leaves, status_of}
use Rattle.vk_trace.specs.Trace.{IsTrace}
use Rattle.vk_trace.proofs.ByteLemmas.{if_some}
use Rattle.vk_run.proofs.running.run.Goals as goal

pub returns-in-Err-NotTrace-clause-no_trace : goal.returns-in-Err-NotTrace-clause-no_trace
returns-in-Err-NotTrace-clause-no_trace g c = λ e.
    let step : (input : List ℕ) → input ≡ c.in_ok-input.input.items → (t : List Entry) → IsTrace input t → ⊥ =
    λ input same t is. c.in-Err-NotTrace.ensures.no_trace (ap Err c.in-Err-NotTrace.field-0-is) t (let P : List ℕ → Type 0 = λ bs. IsTrace bs t in subst P (same ∙ sym c.deref.ensures.value) is) in
    if_some _ step c.in_ok-input.ensures.ok

pub returns-in-Ok-clause-done : goal.returns-in-Ok-clause-done
returns-in-Ok-clause-done g c =
    let answered = c.in-Ok.ensures.answered in
    let reports = answered.1 in
    let text = string_bytes c.in-Ok.answer.text in
    let step : (input : List ℕ) → input ≡ c.in_ok-input.input.items → (bytes : List ℕ) × (outcome : Outcome) × (r : Reports c.args.config input bytes outcome) × (c.in-Ok.answer.status ≡ status_of outcome)
    × Leaves c.args.config g.S.Scheduler.answer g.S.Scheduler.next r.entries outcome (g.S.Scheduler.held c.args.sched.now) (g.S.Scheduler.held c.answer_of.new.sched) × Appends (g.W.Write.contents c.args.writer.now.inner) (g.W.Write.contents c.write_all.new.writer.inner) bytes × (c.write_all.new.writer.calls ≤ c.args.writer.now.calls + length bytes) =
    λ input same.
    let reported : Reports c.args.config input text answered.0 = record {
      entries = reports.entries;
      trace = let P : List ℕ → Type 0 = λ bs. IsTrace bs reports.entries in subst P (c.deref.ensures.value ∙ sym same) reports.trace;
      answer = reports.answer;
      caches = reports.caches;
      lines = reports.lines;
    } in
    (text, answered.0, reported, answered.2, answered.3, rw c.as_bytes.ensures.value at c.in_ok-write_all-in-Ok.ensures.ok, rw c.as_bytes.ensures.value at c.in_ok-write_all-in-Ok.ensures.calls) in
    if_some _ step c.in_ok-input.ensures.ok
