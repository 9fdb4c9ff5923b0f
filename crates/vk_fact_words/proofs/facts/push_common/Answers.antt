use Rattle.vk_fact_words.proofs.Joins.{two_more}
use Rattle.vk_fact_words.proofs.facts.push_common.Goals as goal

pub returns : goal.returns
returns c = two_more _ _ _ _ _ c.in_ok-push_str.ensures.bytes c.in_ok-push_byte.ensures
