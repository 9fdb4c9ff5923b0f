use Rattle.std.proofs.Common.{◌≡◌, Some, arith}
use Rattle.json.specs.Json.{after_end_array}
use Rattle.vk_trace.proofs.AheadLemmas.{over_ahead, over_whole}
use Rattle.vk_trace.proofs.tokens.Tokens.take_end.Goals as goal

pub returns : goal.returns
returns c =
    let over : after_end_array c.args.self.now.reader ≡ Some c.take_end_array.new.self = grind arith in
    (over_ahead c.args.self.now _ over, rw c.saturating_sub-self.ensures (over_whole c.args.self.now _ over))
