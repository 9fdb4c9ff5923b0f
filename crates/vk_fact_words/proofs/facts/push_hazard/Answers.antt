use Rattle.vk_fact_words.proofs.Joins.{three_more}
use Rattle.vk_fact_words.proofs.facts.push_hazard.Goals as goal

pub returns : goal.returns
returns c = three_more _ _ _ _ _ _ _ c.in_ok-push_after.ensures c.in_ok-push_common.ensures c.in_ok-push_ordered.ensures
