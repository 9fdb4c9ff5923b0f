use Rattle.std.proofs.Common.{Option, subst}
use Rattle.std.specs.Option.{option_copied}
use Rattle.vk_order.specs.declared.fronts.Front.{Front}
use Rattle.vk_order.specs.Inner.Fronts.{IsNamed}
use Rattle.vk_order.proofs.FrontLemmas.{named_both}
use Rattle.vk_order.proofs.fronts.Front.join_named.Goals as goal
use denote.Ref.{Bor}

pub returns-in_default : goal.returns-in_default
returns-in_default c = λ ns ls f g is named. named_both ns ls f g c.args.self.now (subst (λ (o : Option (Bor Front)). IsNamed ns ls g (option_copied o)) c.in_default.is named) is

pub returns : goal.returns
returns c = λ ns ls f g is named. c.in_ok-join.ensures.both ns ls f g is (subst (λ (o : Option (Bor Front)). IsNamed ns ls g (option_copied o)) c.in-Some.is named)
