use Rattle.std.proofs.lemmas.Option.{IfSome_then}
use Rattle.vk_model.specs.Sync.Node.{nodes}
use Rattle.vk_events.specs.Happens.{is_finished}
use Rattle.vk_offers.proofs.Happening.{none_then}
use Rattle.vk_offers.proofs.happenings.Happenings.take_next.Goals as goal

pub returns-clause-some : goal.returns-clause-some
returns-clause-some c = IfSome_then c.take_next.result c.take_next.ensures.some (λ e one. λ past done left h.
    let next = one (nodes past) (is_finished past done) left h.events in
    (next.0, next.1, next.2, next.3, record { offers = h.offers; events = next.4 }))

pub returns-clause-none : goal.returns-clause-none
returns-clause-none c = none_then c.take_next.result (λ none. λ past done left h.
    let all = none (nodes past) (is_finished past done) left h.events in
    (all.0, record { offers = h.offers; events = all.1 })) c.take_next.ensures.none
