use Rattle.std.proofs.Common.{◌∷◌, slice_index}
use Rattle.std.specs.Prelude.{Contains}
use Rattle.vk_model.specs.Sync.Node.{Node, nodes}
use Rattle.vk_events.specs.Happens.{is_finished}
use Rattle.vk_model.specs.Run.CachedRuns.{happening}
use Rattle.vk_events.proofs.UnseenLemmas.{finished_more, happening_by_piece}
use Rattle.vk_events.proofs.EventLemmas.{rises, has_advanced, left_as}
use Rattle.vk_events.proofs.events.Events.advance.Goals as goal

pub advance-requires : goal.advance-requires
advance-requires c =
    let r = c.requires in
    (r.3.counts, slice_index r.3.fronts, r.3.taken, rises c.args.self.now r.0 r.1 r.2 c.args.fronts r.3 r.4 r.5, r.3.hanging)

pub returns-clause-unseen : goal.returns-clause-unseen
returns-clause-unseen c ns was now is kept fr =
    has_advanced c.args.self.now ns was now c.args.fronts is kept fr c.advance.new.self
    (c.advance.ensures is.counts (slice_index is.fronts) is.taken (rises c.args.self.now ns was now c.args.fronts is kept fr) is.hanging)

pub returns-clause-happening : goal.returns-clause-happening
returns-clause-happening c s x is fr =
    let ns = nodes s.front.past in
    let was = is_finished s.front.past s.done in
    let now = is_finished s.front.past (x ∷ s.done) in
    let kept = λ (m : Node) (at : Contains ns m). finished_more s.front.past s.done x m in
    left_as ns now _ (happening s (record s { done = x ∷ s.done })) (happening_by_piece s x)
    (has_advanced c.args.self.now ns was now c.args.fronts is kept fr c.advance.new.self
    (c.advance.ensures is.counts (slice_index is.fronts) is.taken (rises c.args.self.now ns was now c.args.fronts is kept fr) is.hanging))
