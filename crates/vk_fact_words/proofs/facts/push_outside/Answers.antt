use Rattle.vk_fact_words.proofs.Joins.{two_more}
use Rattle.vk_fact_words.proofs.facts.push_outside.Goals as goal

pub returns : goal.returns
returns c = two_more _ _ _ _ _ c.in_ok-push_named.ensures c.in_ok-push_named-2.ensures
