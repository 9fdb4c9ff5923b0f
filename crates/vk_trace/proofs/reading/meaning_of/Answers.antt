use Rattle.std.proofs.Common.{◌≡◌, [], ap, ◌∙◌, option_and_then, arith}
use Rattle.std.proofs.lemmas.Result.{err_from_is_err_and}
use Rattle.vk_trace.proofs.ReadLemmas.{text_is, more_than, text_fails, some_token}
use Rattle.vk_trace.proofs.reading.meaning_of.Goals as goal

pub returns-in_err-meaning : goal.returns-in_err-meaning
returns-in_err-meaning g c =
    let p = err_from_is_err_and c.from_residual-in_err-meaning.result c.from_residual-in_err-meaning.ensures.1 in
    let all = c.new-tokens.ensures.tokens ∙ c.in_ok-new.ensures.ok in
    rw (p.1, p.2) (text_fails c.args.text.now c.new-tokens.result all c.new-tokens.ensures.outside g.T.Member.means c.in_err-meaning.field-0.0 c.in_err-meaning.ensures.value)

pub returns-then-is_some : goal.returns-then-is_some
returns-then-is_some g c =
    let all = c.new-tokens.ensures.tokens ∙ c.in_ok-new.ensures.ok in
    let more = some_token c.take.result c.is_some.result c.member.new.tokens.reader c.take.new.self.reader c.is_some.ensures c.if-is_some.true c.take.ensures.token in
    ap (option_and_then g.T.Member.means) (more_than c.args.text.now c.new-tokens.result all c.new-tokens.ensures.outside c.member.new.tokens more.0 c.take.new.self.reader c.in_ok-meaning.ensures.rest more.1)

pub returns : goal.returns
returns g c =
    let all = c.new-tokens.ensures.tokens ∙ c.in_ok-new.ensures.ok in
    let none : c.member.new.tokens.reader ≡ [] = grind arith in
    ap (option_and_then g.T.Member.means) (text_is c.args.text.now c.new-tokens.result all c.new-tokens.ensures.outside c.member.new.tokens c.in_ok-meaning.ensures.rest none) ∙ c.in_ok-meaning.ensures.value
