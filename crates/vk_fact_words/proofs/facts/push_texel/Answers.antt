use Rattle.vk_fact_words.proofs.Joins.{three_more}
use Rattle.vk_fact_words.proofs.facts.push_texel.Goals as goal

pub returns : goal.returns
returns c = three_more _ _ _ _ _ _ _ c.in_ok-push_named.ensures c.in_ok-push_named-2.ensures c.in_ok-push_named-3.ensures
