use Rattle.std.specs.Prelude.{if◌then◌else◌}
use Rattle.std.proofs.Common.{◌∷◌, ℕ, ◌+◌, length, set, refl, ap, ◌∙◌, arith, slice_index}
use Rattle.vk_order.specs.declared.lines.Line.TheVariants.{Commands as OfCommands}
use Rattle.vk_order.specs.NodeViews.{node_of}
use Rattle.vk_events.specs.Happens.{unseen}
use Rattle.vk_events.proofs.UnseenLemmas.{unseen_more}
use Rattle.vk_events.proofs.EventLemmas.{rises_with, other_added, event_added, byte_is, byte_small, place-few, left_as}
use Rattle.vk_events.proofs.events.Events.add.Goals as goal

pub advance-requires : goal.advance-requires
advance-requires c =
    let r = c.requires in
    (r.4.counts, slice_index r.4.fronts, r.4.taken, rises_with c.args.self.now r.0 (node_of (length r.0) c.args.row.now) r.1 r.2 r.3 c.args.counts c.args.fronts r.4 refl r.5, r.4.hanging)

pub overflow_add-self : goal.overflow_add-self
overflow_add-self c =
    let r = c.requires in
    let is = r.4 in
    let at = is.started c.args.row.now.point.queue r.5.queue in
    let few = place-few r.0 (OfCommands c.args.row.now.point.queue) (length r.0) in
    let total = is.total in
    let more = c.in-Some.ensures in
    let byte = c.from.ensures in
    let small = byte_small c.is_command.result in
    omega (arith, at, few, total, more, byte, small)

pub returns-in_default-of-clause-left : goal.returns-in_default-of-clause-left
returns-in_default-of-clause-left c ns was now left is may =
    let ev = c.args.self.now in
    let n = node_of (length ns) c.args.row.now in
    let counted = c.from.ensures ∙ byte_is c.is_command.result ∙ ap (λ b. if b then 1 else 0) c.is_command.ensures in
    other_added ev ns n was now left c.args.counts c.args.fronts is refl may c.advance.new.self _ c.in-Some.nodes c.in_default-of.ensures.none
    (c.advance.ensures is.counts (slice_index is.fronts) is.taken (rises_with ev ns n was now left c.args.counts c.args.fronts is refl may) is.hanging)
    (ap (λ (k : ℕ). set ev.started n.point.queue (slice_index ev.started n.point.queue + k)) counted) (let more = c.in-Some.ensures in omega (arith, more))

pub returns-clause-left : goal.returns-clause-left
returns-clause-left c ns was now left is may =
    let ev = c.args.self.now in
    let n = node_of (length ns) c.args.row.now in
    event_added ev ns n was now left c.args.counts c.args.fronts is refl may _ c.in-Some-of.event c.in-Some-of.ensures.some
    (c.in_ok-add.ensures is.counts is.taken
    (c.advance.ensures is.counts (slice_index is.fronts) is.taken (rises_with ev ns n was now left c.args.counts c.args.fronts is refl may) is.hanging))
    c.in_ok-push.ensures.items refl (let more = c.in-Some.ensures in omega (arith, more))

pub returns-in_default-of-clause-unseen : goal.returns-in_default-of-clause-unseen
returns-in_default-of-clause-unseen c ns was now seen is may new =
    let n = node_of (length ns) c.args.row.now in
    left_as (n ∷ ns) now _ (unseen (n ∷ ns) now seen) (unseen_more n ns (refl, is.numbers) was now seen may.same new)
    (returns-in_default-of-clause-left c ns was now (unseen ns was seen) is may)

pub returns-clause-unseen : goal.returns-clause-unseen
returns-clause-unseen c ns was now seen is may new =
    let n = node_of (length ns) c.args.row.now in
    left_as (n ∷ ns) now _ (unseen (n ∷ ns) now seen) (unseen_more n ns (refl, is.numbers) was now seen may.same new)
    (returns-clause-left c ns was now (unseen ns was seen) is may)
