use Rattle.std.proofs.Common.{◌≡◌, [], ◌∷◌, arith}
use Rattle.json.specs.Token.{Token}
use Rattle.json.specs.Reads.{token_of}
use Rattle.vk_trace.specs.Members.{u64_value}
use Rattle.vk_trace.proofs.TokenLemmas.{u64_by, none_left, refused, number_gives, number_rest, no_number}
use Rattle.vk_trace.proofs.tokens.Tokens.number.Goals as goal

pub returns-in_default-clause-value : goal.returns-in_default-clause-value
returns-in_default-clause-value c =
    let none : c.args.self.now.reader ≡ [] = grind arith in
    none_left u64_value u64_by c.args.self.now none

pub returns-in-Number-clause-value : goal.returns-in-Number-clause-value
returns-in-Number-clause-value c =
    let is : c.args.self.now.reader ≡ Token.number c.in-Number.text.now ∷ c.next.new.self = grind arith in
    number_gives c.args.self.now _ _ is c.whole_number.result c.whole_number.ensures

pub returns-in-Number-clause-rest : goal.returns-in-Number-clause-rest
returns-in-Number-clause-rest c =
    let is : c.args.self.now.reader ≡ Token.number c.in-Number.text.now ∷ c.next.new.self = grind arith in
    number_rest c.args.self.now _ _ is c.whole_number.result c.whole_number.ensures

pub returns-in_default-token : goal.returns-in_default-token
returns-in_default-token c =
    let is : c.args.self.now.reader ≡ token_of c.in-Some.token ∷ c.next.new.self = grind arith in
    record { value = refused u64_value u64_by c.args.self.now _ _ is (no_number c.in-Some.token c.in_default-token.not-Number); rest = tt }
