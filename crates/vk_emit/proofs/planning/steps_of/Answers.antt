use Rattle.std.proofs.Common.{◌∙◌, ◌+◌, sym, ap, drop, List, [], ℕ}
use Rattle.vk_model.specs.declared.entry.Entry.{Entry}
use Rattle.vk_model.specs.Trace.Order.{Front, after_entry, order_from}
use Rattle.vk_queues.proofs.Laying.{order_from-drop}
use Rattle.vk_emit.proofs.planning.steps_of.Goals as goal

pub loop-number-preserved : goal.loop-number-preserved
loop-number-preserved c =
    let inv = c.loop-number.invariant in
    let f : Front = inv.0 in
    let k : ℕ = c.loop-number.number in
    let entries : List Entry = c.args.entries.now in
    let x : Entry = c.index-entries-number.result in
    let after = c.in_ok-push_steps.ensures [] f inv.1 inv.2 in
    (after_entry k x f, after.1, after.0, ap (λ (y : Entry). order_from (k + 1) (after_entry k y f) (drop (k + 1) entries)) c.index-entries-number.is ∙ sym (order_from-drop entries k x f c.loop-number-test.true) ∙ inv.3)
