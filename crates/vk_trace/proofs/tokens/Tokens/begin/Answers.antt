use Rattle.std.proofs.Common.{◌≡◌, [], ◌∷◌, arith}
use Rattle.json.specs.Token.{Token}
use Rattle.json.specs.Reads.{token_of}
use Rattle.vk_trace.specs.Members.{array_members}
use Rattle.vk_trace.proofs.TokenLemmas.{array_by, none_left, refused, begun_next, begun_after, too_deep, no_array}
use Rattle.vk_trace.proofs.tokens.Tokens.begin.Goals as goal

pub returns-in_default-clause-members : goal.returns-in_default-clause-members
returns-in_default-clause-members c =
    let none : c.args.self.now.reader ≡ [] = grind arith in
    none_left array_members array_by c.args.self.now none

pub returns-then-self-ge-MAX_DEPTH-clause-members : goal.returns-then-self-ge-MAX_DEPTH-clause-members
returns-then-self-ge-MAX_DEPTH-clause-members c =
    let is : c.args.self.now.reader ≡ Token.begin_array ∷ c.next.new.self = grind arith in
    too_deep c.args.self.now _ is (omega arith)

pub returns-else-self-ge-MAX_DEPTH-clause-members : goal.returns-else-self-ge-MAX_DEPTH-clause-members
returns-else-self-ge-MAX_DEPTH-clause-members c =
    let is : c.args.self.now.reader ≡ Token.begin_array ∷ c.next.new.self = grind arith in
    begun_next c.args.self.now _ is (omega arith)

pub returns-else-self-ge-MAX_DEPTH-clause-rest : goal.returns-else-self-ge-MAX_DEPTH-clause-rest
returns-else-self-ge-MAX_DEPTH-clause-rest c =
    let is : c.args.self.now.reader ≡ Token.begin_array ∷ c.next.new.self = grind arith in
    begun_after c.args.self.now _ is (omega arith)

pub returns-in_default-token : goal.returns-in_default-token
returns-in_default-token c =
    let is : c.args.self.now.reader ≡ token_of c.in-Some.token ∷ c.next.new.self = grind arith in
    record { members = refused array_members array_by c.args.self.now _ _ is (no_array c.in-Some.token c.in_default-token.not-BeginArray); rest = tt }
