use Rattle.vk_events.proofs.UnseenLemmas.{happening_is_unseen, nothing_is_unseen}
use Rattle.vk_events.proofs.laws.happening_is_unseen.Goals as goal

pub returns-clause-whole : goal.returns-clause-whole
returns-clause-whole c s e = happening_is_unseen s e

pub returns-clause-nothing : goal.returns-clause-nothing
returns-clause-nothing c s = nothing_is_unseen s
