use Rattle.std.proofs.Common.{◌∷◌}
use Rattle.vk_model.specs.Sync.Node.{nodes}
use Rattle.vk_events.specs.Happens.{is_finished}
use Rattle.vk_events.proofs.UnseenLemmas.{finished_more}
use Rattle.vk_offers.specs.IsOffers.{name_of}
use Rattle.vk_offers.proofs.happenings.Happenings.finish.Goals as goal

pub advance-requires : goal.advance-requires
advance-requires c =
    let past = c.requires.taken.0 in
    let done = c.requires.taken.1 in
    let is = c.requires.taken.2 in
    let x = name_of past c.args.piece in
    (nodes past, is_finished past done, is_finished past (x ∷ done), is.events, (λ m at. finished_more past done x m), c.fronts-fronts.ensures past (x ∷ done) (c.finish.ensures past done is.offers))

pub returns : goal.returns
returns c = λ s is.
    let x = name_of s.front.past c.args.piece in
    let offers = c.finish.ensures s.front.past s.done is.offers in
    record { offers = offers; events = c.advance.ensures.happening s x is.events (c.fronts-fronts.ensures s.front.past (x ∷ s.done) offers) }
