use Rattle.std.proofs.Common.{◌≡◌, [], ◌∷◌, Some, arith}
use Rattle.json.specs.Token.{Token}
use Rattle.json.specs.Reads.{token_of}
use Rattle.vk_trace.specs.Trace.{length_or_whole}
use Rattle.vk_trace.proofs.TokenLemmas.{none_left, refused}
use Rattle.vk_trace.proofs.LengthLemmas.{length_by, no_length, word_gives, word_rest, number_length, number_left, number_fails}
use Rattle.vk_trace.proofs.commands.LengthMember.member.Goals as goal

pub returns-in_default-clause-value : goal.returns-in_default-clause-value
returns-in_default-clause-value c =
    let none : c.args.tokens.now.reader ≡ [] = grind arith in
    none_left length_or_whole length_by c.args.tokens.now none

pub returns-in-String-clause-value : goal.returns-in-String-clause-value
returns-in-String-clause-value c =
    let is : c.args.tokens.now.reader ≡ Token.string c.in-String.word.now ∷ c.take.new.self.reader = grind arith in
    word_gives c.args.tokens.now c.take.new.self _ is c.whole_of.result c.whole_of.ensures

pub returns-in-String-clause-rest : goal.returns-in-String-clause-rest
returns-in-String-clause-rest c =
    let is : c.args.tokens.now.reader ≡ Token.string c.in-String.word.now ∷ c.take.new.self.reader = grind arith in
    word_rest c.args.tokens.now c.take.new.self _ is c.take.ensures.same c.whole_of.result

pub returns-in-Ok-clause-value : goal.returns-in-Ok-clause-value
returns-in-Ok-clause-value c =
    let is : c.args.tokens.now.reader ≡ Token.number c.in-Number.text.now ∷ c.take.new.self.reader = grind arith in
    number_length c.args.tokens.now c.take.new.self _ is (Some c.in-Ok.bytes) c.in-Ok.ensures

pub returns-in-Ok-clause-rest : goal.returns-in-Ok-clause-rest
returns-in-Ok-clause-rest c =
    let is : c.args.tokens.now.reader ≡ Token.number c.in-Number.text.now ∷ c.take.new.self.reader = grind arith in
    number_left c.args.tokens.now c.take.new.self _ c.in-Ok.bytes is c.take.ensures.same c.in-Ok.ensures

pub returns-in_default-token : goal.returns-in_default-token
returns-in_default-token c =
    let is : c.args.tokens.now.reader ≡ token_of c.in-Some.token ∷ c.take.new.self.reader = grind arith in
    record { value = refused length_or_whole length_by c.args.tokens.now _ _ is (no_length c.in-Some.token c.in_default-token.not-String c.in_default-token.not-Number); rest = tt }

pub returns-in-Err-clause-value : goal.returns-in-Err-clause-value
returns-in-Err-clause-value c =
    let is : c.args.tokens.now.reader ≡ Token.number c.in-Number.text.now ∷ c.take.new.self.reader = grind arith in
    number_fails c.args.tokens.now c.take.new.self _ is c.in-Err.error c.in-Err.ensures
