use Rattle.std.proofs.Common.{◌≡◌, ◌∙◌, sym, ap, subst, [], ◌+◌, Option, Some, None, length}
use Rattle.std.specs.Prelude.{option_map}
use Rattle.vk_model.specs.Trace.Order.{Front, SubmittedBatch, started, next_batch, start_batch, after_entry}
use Rattle.vk_queues.specs.PointViews.{batch_of}
use Rattle.vk_queues.specs.IsWaiting.{IsWaiting}
use Rattle.vk_queues.proofs.Laying.{settled_none, settled_some}
use Rattle.vk_row_text.specs.declared.steps.Step.TheVariants as step
use Rattle.vk_emit.specs.Steps.{past_with}
use Rattle.vk_emit.proofs.Stepping.{past_with-push}
use Rattle.vk_emit.proofs.planning.push_steps.Goals as goal

pub loop-batch-preserved : goal.loop-batch-preserved
loop-batch-preserved c = λ before f w e.
    let inv = c.loop-batch.invariant before f w e in
    let h : Front = inv.0 in
    let next = c.in_ok-batch.ensures.next (c.args.number + 1) h inv.1 in
    let b : SubmittedBatch = batch_of c.in-Some.batch in
    let found : next_batch h.past [] h.waiting ≡ Some b = sym next.0 ∙ ap (option_map batch_of) c.in-Some.is in (
      start_batch (next_batch h.past [] h.waiting) h,
      next.1,
      ap (past_with before) c.in_ok-push-2.ensures.items ∙ past_with-push before c.loop-batch.steps.items (step.Batch c.in-Some.batch) ∙ ap (started b) inv.2 ∙ sym (ap (λ (o : Option SubmittedBatch). (start_batch o h).past) found),
      settled_some h b inv.1.parts.rising found ∙ inv.3,
    )

pub returns : goal.returns
returns c = λ before f w e.
    let inv = c.loop-batch.invariant before f w e in
    let h : Front = inv.0 in
    let next = c.in_ok-batch.ensures.next (c.args.number + 1) h inv.1 in
    let none : next_batch h.past [] h.waiting ≡ None = sym next.0 ∙ ap (option_map batch_of) c.in_default.is in
    let done : h ≡ after_entry c.args.number c.args.entry.now f = sym (settled_none (length h.waiting) h none) ∙ inv.3 in (
      inv.2 ∙ ap (λ (g : Front). g.past) done,
      subst (IsWaiting c.start.new.self (c.args.number + 1)) (ap (λ (o : Option SubmittedBatch). start_batch o h) none ∙ done) next.1,
    )
