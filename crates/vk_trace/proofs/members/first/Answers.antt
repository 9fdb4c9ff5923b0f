use Rattle.vk_trace.proofs.AheadLemmas.{first_gives, first_rest}
use Rattle.vk_trace.proofs.members.first.Goals as goal

pub returns-clause-value : goal.returns-clause-value
returns-clause-value g c = first_gives (λ x. x) g.T.Member.means c.args.tokens.now c.member.new.tokens c.member.result c.member.ensures.value c.member.ensures.rest

pub returns-clause-rest : goal.returns-clause-rest
returns-clause-rest g c = first_rest c.args.tokens.now c.member.new.tokens c.member.result c.member.ensures.rest
