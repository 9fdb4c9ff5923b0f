use Rattle.std.proofs.Common.{◌≡◌, [], ◌∷◌, arith}
use Rattle.json.specs.Token.{Token}
use Rattle.json.specs.Reads.{token_of}
use Rattle.serde_json.specs.Find.{as_str}
use Rattle.vk_trace.proofs.TokenLemmas.{str_by, none_left, refused, text_next, text_after, no_text}
use Rattle.vk_trace.proofs.tokens.Tokens.text.Goals as goal

pub returns-in_default-clause-value : goal.returns-in_default-clause-value
returns-in_default-clause-value c =
    let none : c.args.self.now.reader ≡ [] = grind arith in
    none_left as_str str_by c.args.self.now none

pub returns-in-String-clause-value : goal.returns-in-String-clause-value
returns-in-String-clause-value c =
    let is : c.args.self.now.reader ≡ Token.string c.in-String.text.now ∷ c.next.new.self = grind arith in
    text_next c.args.self.now _ _ is

pub returns-in-String-clause-rest : goal.returns-in-String-clause-rest
returns-in-String-clause-rest c =
    let is : c.args.self.now.reader ≡ Token.string c.in-String.text.now ∷ c.next.new.self = grind arith in
    text_after c.args.self.now _ _ is

pub returns-in_default-token : goal.returns-in_default-token
returns-in_default-token c =
    let is : c.args.self.now.reader ≡ token_of c.in-Some.token ∷ c.next.new.self = grind arith in
    record { value = refused as_str str_by c.args.self.now _ _ is (no_text c.in-Some.token c.in_default-token.not-String); rest = tt }
