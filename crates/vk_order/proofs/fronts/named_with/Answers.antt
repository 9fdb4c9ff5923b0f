use Rattle.std.proofs.Common.{Option, subst, sym, false}
use Rattle.std.specs.Option.{option_copied}
use Rattle.vk_order.specs.declared.fronts.Front.{Front}
use Rattle.vk_order.specs.Inner.Fronts.{IsNamed}
use Rattle.vk_order.proofs.FrontLemmas.{front_same}
use Rattle.vk_order.proofs.fronts.named_with.Goals as goal
use denote.Ref.{Bor}

pub returns-in_default : goal.returns-in_default
returns-in_default c = λ ns ls test n numbers passes whole named own.
    let none = subst (λ (o : Option (Bor Front)). IsNamed ns ls test (option_copied o)) c.in_default.is named in
    c.in_ok-join.ensures.grown ns ls test n numbers passes whole
    (front_same ns ls (λ k. false) test _ (λ k there. sym (none k there)) (c.in_ok-more.ensures ns ls)) own

pub returns : goal.returns
returns c = λ ns ls test n numbers passes whole named own.
    c.in_ok-join-2.ensures.grown ns ls test n numbers passes whole
    (c.in_ok-more-2.ensures ns ls test (subst (λ (o : Option (Bor Front)). IsNamed ns ls test (option_copied o)) c.in-Some.is named)) own
