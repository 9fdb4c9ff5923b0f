use Rattle.std.proofs.Common.{◌≡◌, true, not, is_some, sym, ap, ◌∙◌}
use Rattle.vk_model.proofs.Lists.Truths.{clash}
use Rattle.vk_hazards.specs.Hazards.{node_at}
use Rattle.vk_model.proofs.Lists.Failing.{none_there}
use Rattle.vk_hazards.proofs.MissingLemmas.{not_available, unseen_by_host, unseen_there}
use Rattle.vk_hazards.proofs.links.first_missing.Goals.{else-found-via-then-found+else-is_none, else-found-via-else-found}
use Rattle.vk_hazards.proofs.links.first_missing.Goals as goal

pub returns-then-is_none-2 : goal.returns-then-is_none-2
returns-then-is_none-2 c = λ past k b there are unseen.
    let f = c.args.found.now in
    let flush : f.needs_flush ≡ true → is_some f.flush ≡ true = elim c.else-found.branch [
      | else-found-via-then-found+else-is_none w ↦ λ needed. w.is_none.ensures ∙ ap not w.if-is_none.false
      | else-found-via-else-found w ↦ λ needed. clash needed w.if-found.false
    ] in
    not_available past (node_at c.args.earlier.now) (node_at c.args.later.now) k b there unseen f are c.not_available.result flush (none_there f.available (c.is_none-2.ensures ∙ ap not c.if-is_none-2.true)) c.not_available.ensures.by_host c.not_available.ensures.by_device

pub returns-then-is_host : goal.returns-then-is_host
returns-then-is_host c = λ past k b there are unseen.
    let f = c.args.found.now in
    let e = c.unseen_by_host.ensures in
    unseen_by_host past (node_at c.args.earlier.now) (node_at c.args.later.now) k b there unseen f are c.unseen_by_host.result (sym c.is_host.ensures ∙ c.if-is_host.true) (c.is_none-2.ensures ∙ ap not c.if-is_none-2.false) e.shows_some e.awaited e.rest

pub returns-then-found-2 : goal.returns-then-found-2
returns-then-found-2 c = λ past k b there are unseen.
    unseen_there past (node_at c.args.earlier.now) (node_at c.args.later.now) k b there unseen c.args.found.now are (sym c.is_host.ensures ∙ c.if-is_host.false) c.if-found-2.true
