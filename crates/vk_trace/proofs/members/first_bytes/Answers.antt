use Rattle.vk_trace.specs.Members.{bytes_value}
use Rattle.vk_trace.proofs.AheadLemmas.{first_gives, first_rest}
use Rattle.vk_trace.proofs.members.first_bytes.Goals as goal

pub returns-clause-value : goal.returns-clause-value
returns-clause-value c = first_gives (λ x. x) bytes_value c.args.tokens.now c.bytes_of.new.tokens c.bytes_of.result c.bytes_of.ensures.value c.bytes_of.ensures.rest

pub returns-clause-rest : goal.returns-clause-rest
returns-clause-rest c = first_rest c.args.tokens.now c.bytes_of.new.tokens c.bytes_of.result c.bytes_of.ensures.rest
