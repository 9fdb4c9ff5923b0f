use Rattle.std.proofs.Common.{◌≡◌, ◌∷◌, ℕ, List, refl, ap, sym, ◌∙◌, subst}
use Rattle.vk_model.specs.Trace.Point.{Past}
use Rattle.vk_model.specs.Trace.PointViews.{point_of}
use Rattle.vk_model.specs.Sync.Node.{Node, nodes}
use Rattle.vk_model.specs.Run.Runs.{Name}
use Rattle.vk_model.specs.Run.CachedRuns.{node_happened, happening}
use Rattle.vk_order.specs.declared.acts.Row.{Row}
use Rattle.vk_events.specs.Happens.{is_finished, unseen}
use Rattle.vk_events.specs.IsEvents.{IsEvents}
use Rattle.vk_offers.specs.IsHappenings.{IsHappenings}
use Rattle.vk_offers.specs.Inner.Rows.{AreCounted, Adds, MayAddRows}
use Rattle.vk_offers.proofs.Happening.{known, follows, left_added, happening_added}
use Rattle.vk_offers.proofs.happenings.Happenings.add.Goals as goal

pub add_rows-requires-clause-follow : goal.add_rows-requires-clause-follow
add_rows-requires-clause-follow c =
    let r = c.requires.next in
    let past = r.0 in
    let done = r.1 in
    let p = c.args.point.now in
    let rows = c.in_ok-rows.rows.items in
    let counts = c.in_ok-counts.counts.items in
    let fronts = c.fronts-fronts.result in
    let ev = c.args.self.now.events in
    let counted = subst (λ (l : List Row). AreCounted (nodes past) l counts) c.as_slice.ensures.value (c.in_ok-counts.ensures.counted past done r.3.offers) in
    let fr = c.fronts-fronts.ensures (point_of p ∷ past) done (c.in_ok-add.ensures past done r.3.offers r.4) in
    let may : MayAddRows ev rows counts fronts = (
      nodes past,
      is_finished (point_of p ∷ past) done,
      r.2,
      known past done p c.args.pieces r.4 c.requires.queue rows c.in_ok-rows.ensures.points c.in_ok-rows.ensures.acts c.in_ok-rows.ensures.nodes counts counted fronts fr ev r.2 r.3.events,
      follows past done p c.args.pieces r.4 c.requires.queue rows c.in_ok-rows.ensures.points c.in_ok-rows.ensures.acts c.in_ok-rows.ensures.nodes counts counted fronts fr,
    ) in
    subst (λ (l : List Row). MayAddRows ev l c.as_slice-3.result.now fronts) (sym c.as_slice-2.ensures.value)
    (subst (λ (l : List (List ℕ)). MayAddRows ev rows l fronts) (sym c.as_slice-3.ensures.value) may)

pub returns-clause-left : goal.returns-clause-left
returns-clause-left c = λ past done left h next.
    let p = c.args.point.now in
    let rows = c.in_ok-rows.rows.items in
    let counts = c.in_ok-counts.counts.items in
    let fronts = c.fronts-fronts.result in
    let old = c.args.self.now.events in
    let new = c.add_rows.new.events in
    let offers = c.in_ok-add.ensures past done h.offers next in
    let counted = subst (λ (l : List Row). AreCounted (nodes past) l counts) c.as_slice.ensures.value (c.in_ok-counts.ensures.counted past done h.offers) in
    let adds : Adds old new rows counts fronts = subst (λ (l : List (List ℕ)). Adds old new rows l fronts) c.as_slice-3.ensures.value
    (subst (λ (l : List Row). Adds old new l c.as_slice-3.result.now fronts) c.as_slice-2.ensures.value c.in_ok-add_rows.ensures) in
    record {
      offers = offers;
      events = left_added past done p c.args.pieces next c.requires.queue rows c.in_ok-rows.ensures.points c.in_ok-rows.ensures.acts c.in_ok-rows.ensures.nodes counts counted fronts
          (c.fronts-fronts.ensures (point_of p ∷ past) done offers) old new adds left h.events;
    }

pub returns-clause-happening : goal.returns-clause-happening
returns-clause-happening c = λ s e f h next le past_is done_is.
    let past = e.front.past in
    let done = e.done in
    let p = c.args.point.now in
    let rows = c.in_ok-rows.rows.items in
    let counts = c.in_ok-counts.counts.items in
    let fronts = c.fronts-fronts.result in
    let old = c.args.self.now.events in
    let new = c.add_rows.new.events in
    let offers = c.in_ok-add.ensures past done h.offers next in
    let counted = subst (λ (l : List Row). AreCounted (nodes past) l counts) c.as_slice.ensures.value (c.in_ok-counts.ensures.counted past done h.offers) in
    let adds : Adds old new rows counts fronts = subst (λ (l : List (List ℕ)). Adds old new rows l fronts) c.as_slice-3.ensures.value
    (subst (λ (l : List Row). Adds old new l c.as_slice-3.result.now fronts) c.as_slice-2.ensures.value c.in_ok-add_rows.ensures) in
    let law = c.happening_is_unseen.ensures.whole in
    let events = happening_added past done p c.args.pieces next c.requires.queue rows c.in_ok-rows.ensures.points c.in_ok-rows.ensures.acts c.in_ok-rows.ensures.nodes counts counted fronts
    (c.fronts-fronts.ensures (point_of p ∷ past) done offers) old new adds law s e refl refl h.events le in
    let same : happening s f ≡ unseen (nodes (point_of p ∷ past)) (is_finished (point_of p ∷ past) done) (node_happened s) =
    law s f ∙ ap (λ (q : Past). unseen (nodes q) (is_finished q f.done) (node_happened s)) past_is
    ∙ ap (λ (d : List Name). unseen (nodes (point_of p ∷ past)) (is_finished (point_of p ∷ past) d) (node_happened s)) done_is in
    subst (λ (q : Past). IsHappenings (record { offers = c.add.new.self; events = new }) q f.done (happening s f)) (sym past_is)
    (subst (λ (d : List Name). IsHappenings (record { offers = c.add.new.self; events = new }) (point_of p ∷ past) d (happening s f)) (sym done_is)
    (record { offers = offers; events = subst (λ (ms : List Node). IsEvents new (nodes (point_of p ∷ past)) (is_finished (point_of p ∷ past) done) ms) (sym same) events }))
