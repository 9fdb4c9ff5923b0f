use Rattle.std.proofs.Common.{◌≡◌, ◌∙◌, ℕ, List, sym, ap, Err, subst}
use Rattle.vk_model.specs.declared.entry.Entry.{Entry}
use Rattle.std.specs.Io.KnownBytes.{Appends}
use Rattle.vk_trace.specs.Trace.{IsTrace}
use Rattle.vk_trace.proofs.ByteLemmas.{if_some}
use Rattle.vk_emit.specs.Plans.{Emits}
use Rattle.vk_emit.proofs.running.run.Goals as goal

pub returns-in-Err-NotTrace-clause-no_trace : goal.returns-in-Err-NotTrace-clause-no_trace
returns-in-Err-NotTrace-clause-no_trace g c = λ e.
    let step : (input : List ℕ) → input ≡ c.in_ok-input.input.items → (t : List Entry) → IsTrace input t → ⊥ =
    λ input same t is. c.in-Err-NotTrace.ensures.no_trace (ap Err c.in-Err-NotTrace.field-0-is) t (let P : List ℕ → Type 0 = λ bs. IsTrace bs t in subst P (same ∙ sym c.deref.ensures.value) is) in
    if_some _ step c.in_ok-input.ensures.ok

pub returns-in-Ok-clause-done : goal.returns-in-Ok-clause-done
returns-in-Ok-clause-done g c =
    let emits = c.in-Ok.ensures.emitted in
    let text = c.in-Ok.program.text.items in
    let step : (input : List ℕ) → input ≡ c.in_ok-input.input.items → (bytes : List ℕ) × Emits c.args.config input c.args.wanted c.in-Ok.program.emitted bytes
    × Appends (g.W.Write.contents c.args.writer.now.inner) (g.W.Write.contents c.write_all.new.writer.inner) bytes =
    λ input same.
    let again : Emits c.args.config input c.args.wanted c.in-Ok.program.emitted text = record {
      entries = emits.entries;
      trace = let P : List ℕ → Type 0 = λ bs. IsTrace bs emits.entries in subst P (c.deref.ensures.value ∙ sym same) emits.trace;
      plan = emits.plan;
      planned = emits.planned;
      same = emits.same;
      is_text = emits.is_text;
    } in
    (text, again, rw c.as_slice.ensures.value at c.in_ok-write_all-in-Ok.ensures.ok) in
    if_some _ step c.in_ok-input.ensures.ok
