use Rattle.std.proofs.Common.{false}
use Rattle.vk_order.proofs.fronts.Front.copied.Goals as goal

pub returns : goal.returns
returns c = λ ns ls test is. c.in_ok-join.ensures.both ns ls (λ k. false) test (c.in_ok-copy.ensures ns ls) is
