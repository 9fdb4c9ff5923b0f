use Rattle.std.proofs.Common.{◌≡◌, ◌++◌, ◌∙◌, sym, ap, subst, List, [], ℕ, Some, None, slice_get, get_or, set, map, length, take, drop, ◌<◌}
use Rattle.std.proofs.lemmas.Option.{slice_get-get_or}
use Rattle.std.proofs.lemmas.List.{map-set}
use Rattle.vk_model.specs.Trace.Order.{next_batch, start_batch}
use Rattle.vk_queues.specs.declared.lines.Line.{Line}
use Rattle.vk_queues.specs.PointViews.{batch_of}
use Rattle.vk_queues.specs.Inner.Lined.{Queued, queued, count_of}
use Rattle.vk_queues.specs.Inner.AreWaiting.{AreWaiting}
use Rattle.vk_queues.specs.Inner.Tallied.{tally_at}
use Rattle.vk_model.specs.declared.entry.SemaphoreSubmit.{SemaphoreSubmit}
use Rattle.vk_queues.proofs.Counting.{after_signals}
use Rattle.vk_queues.proofs.Lining.{queued_at}
use Rattle.vk_queues.proofs.Fronts.{chosen_waiting, idle_waiting, started_waiting, some_batch, fewer_set, over, within_new}
use Rattle.vk_queues.proofs.waiting.Waiting.start.Goals as goal

pub returns-in_default-clause-next : goal.returns-in_default-clause-next
returns-in_default-clause-next c = λ count f w.
    let t = c.args.self.now.tallies in
    let old : List Line = c.args.self.now.lines.items in
    let new : List Line = c.next_line.new.lines in
    let d = c.deref_mut.ensures in
    let chosen = chosen_waiting t old c.deref_mut.result.now new count f None w.parts d.value c.in_default.ensures.lines (c.in_default.ensures.next f.past w.parts.tallied) in
    let e : take c.args.self.now.lines.len (new ++ drop (length new) old) ≡ new = over _ new old (sym d.len ∙ ap length d.value) (c.in_default.ensures.lines ∙ ap (map queued) d.value) in
    let idle = idle_waiting t new count f chosen.0 chosen.1 in
    (idle.0, record { parts = subst (λ (l : List Line). AreWaiting t l count (start_batch (next_batch f.past [] f.waiting) f)) (sym e) idle.1 })

pub returns-in_default-take_first-clause-next : goal.returns-in_default-take_first-clause-next
returns-in_default-take_first-clause-next c = λ count f w.
    let t = c.args.self.now.tallies in
    let old : List Line = c.args.self.now.lines.items in
    let new : List Line = c.next_line.new.lines in
    let line : Line = c.index_mut-line.result.now in
    let k : ℕ = c.in-Some.next.line in
    let d = c.deref_mut.ensures in
    let chosen = chosen_waiting t old c.deref_mut.result.now new count f (Some c.in-Some.next) w.parts d.value c.in-Some.ensures.lines (c.in-Some.ensures.next f.past w.parts.tallied) in
    let e : take c.args.self.now.lines.len (new ++ drop (length new) old) ≡ new = over _ new old (sym d.len ∙ ap length d.value) (c.in-Some.ensures.lines ∙ ap (map queued) d.value) in
    let lt : k < length new = within_new k new c.deref_mut.result.now c.in-Some.ensures.lines c.in-Some.ensures.within in
    let at : slice_get new k ≡ Some line = slice_get-get_or new k line lt ∙ ap Some (sym (c.index_mut-line.ensures.value ∙ ap (λ (l : List Line). get_or l k line) e)) in
    absurd (some_batch t t new count f chosen.0 c.in-Some.next chosen.1 line at c.in_default-take_first.ensures.batches)

pub returns-clause-next : goal.returns-clause-next
returns-clause-next c = λ count f w.
    let t = c.args.self.now.tallies in
    let old : List Line = c.args.self.now.lines.items in
    let new : List Line = c.next_line.new.lines in
    let line : Line = c.index_mut-line.result.now in
    let k : ℕ = c.in-Some.next.line in
    let d = c.deref_mut.ensures in
    let chosen = chosen_waiting t old c.deref_mut.result.now new count f (Some c.in-Some.next) w.parts d.value c.in-Some.ensures.lines (c.in-Some.ensures.next f.past w.parts.tallied) in
    let e : take c.args.self.now.lines.len (new ++ drop (length new) old) ≡ new = over _ new old (sym d.len ∙ ap length d.value) (c.in-Some.ensures.lines ∙ ap (map queued) d.value) in
    let lt : k < length new = within_new k new c.deref_mut.result.now c.in-Some.ensures.lines c.in-Some.ensures.within in
    let at : slice_get new k ≡ Some line = slice_get-get_or new k line lt ∙ ap Some (sym (c.index_mut-line.ensures.value ∙ ap (λ (l : List Line). get_or l k line) e)) in
    let first = c.in-Some-take_first.ensures in
    let Step : List SemaphoreSubmit → Type 0 = λ (xs : List SemaphoreSubmit). (id : ℕ) → tally_at c.signal_all.new.self id ≡ after_signals id xs (tally_at t id) in
    let done = started_waiting t c.signal_all.new.self new count f chosen.0 c.in-Some.next chosen.1 line at (batch_of c.in-Some-take_first.batch) c.take_first.new.self first.batches first.queue first.met (subst Step c.as_slice.ensures c.in_ok-signal_all.ensures) in
    (done.0, record { parts = subst (λ (l : List Line). AreWaiting c.signal_all.new.self (set l k c.take_first.new.self) count (start_batch (next_batch f.past [] f.waiting) f)) (sym e) done.1 })

pub returns-clause-fewer : goal.returns-clause-fewer
returns-clause-fewer c =
    let old : List Line = c.args.self.now.lines.items in
    let new : List Line = c.next_line.new.lines in
    let line : Line = c.index_mut-line.result.now in
    let k : ℕ = c.in-Some.next.line in
    let d = c.deref_mut.ensures in
    let same : map queued new ≡ map queued old = c.in-Some.ensures.lines ∙ ap (map queued) d.value in
    let e : take c.args.self.now.lines.len (new ++ drop (length new) old) ≡ new = over _ new old (sym d.len ∙ ap length d.value) same in
    let lt : k < length new = within_new k new c.deref_mut.result.now c.in-Some.ensures.lines c.in-Some.ensures.within in
    let at : slice_get new k ≡ Some line = slice_get-get_or new k line lt ∙ ap Some (sym (c.index_mut-line.ensures.value ∙ ap (λ (l : List Line). get_or l k line) e)) in
    subst (λ (l : List Line). count_of (map queued (set l k c.take_first.new.self)) < count_of (map queued old)) (sym e)
    (subst (λ (v : List Queued). count_of (map queued (set new k c.take_first.new.self)) < count_of v) same
    (subst (λ (v : List Queued). count_of v < count_of (map queued new)) (sym (map-set queued new k c.take_first.new.self))
    (fewer_set (map queued new) k (queued line) (queued c.take_first.new.self) (batch_of c.in-Some-take_first.batch) (queued_at new k line at) c.in-Some-take_first.ensures.batches)))
