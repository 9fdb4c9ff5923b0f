use Rattle.std.proofs.Common.{refl}
use Rattle.vk_order.proofs.frontier.Frontier.add_single.Goals as goal

pub returns : goal.returns
returns c = λ ns can is. c.in_ok-add_at.ensures.kept ns _ refl (c.in_ok-at.ensures.front ns can is) (c.in_ok-at.ensures.kept ns is)
