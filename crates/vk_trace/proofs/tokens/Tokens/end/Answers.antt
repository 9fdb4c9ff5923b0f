use Rattle.std.proofs.Common.{◌≡◌, None, arith}
use Rattle.json.specs.Json.{after_end_array}
use Rattle.vk_trace.proofs.AheadLemmas.{more_members}
use Rattle.vk_trace.proofs.tokens.Tokens.end.Goals as goal

pub returns-else-take_end-clause-members : goal.returns-else-take_end-clause-members
returns-else-take_end-clause-members c =
    let going : after_end_array c.args.self.now.reader ≡ None = grind arith in
    more_members c.args.self.now going
