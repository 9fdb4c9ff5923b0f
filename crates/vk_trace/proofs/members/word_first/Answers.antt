use Rattle.serde_json.specs.Find.{as_str}
use Rattle.vk_trace.specs.Members.{word_and_members}
use Rattle.vk_trace.proofs.AheadLemmas.{first_gives, first_rest}
use Rattle.vk_trace.proofs.members.word_first.Goals as goal

pub returns-clause-value : goal.returns-clause-value
unfolding word_and_members
returns-clause-value c = rw c.in_ok-begin.ensures.members (first_gives (λ s. s.now) as_str c.begin.new.self c.text.new.self c.text.result c.text.ensures.value c.text.ensures.rest)

pub returns-clause-rest : goal.returns-clause-rest
returns-clause-rest c = rw c.in_ok-begin.ensures.rest (first_rest c.begin.new.self c.text.new.self c.text.result c.text.ensures.rest)
