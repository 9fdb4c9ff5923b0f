use Rattle.std.proofs.Common.{◌≡◌, ◌∷◌, List, sym, subst}
use Rattle.vk_order.specs.declared.counts.Counts.{Counts}
use Rattle.vk_order.specs.declared.fronts.Front.{Front}
use Rattle.vk_order.specs.Inner.Counts.{AreJoinedCounts}
use Rattle.vk_order.specs.Inner.Fronts.{IsFront}
use Rattle.vk_order.proofs.FrontLemmas.{AreJoinedFronts, fronts_joined, front_grows}
use Rattle.vk_order.proofs.fronts.Front.grow.Goals as goal

-- what is said of two lists that are given as slices
of_lists : (a b x y : List Counts) → a ≡ x → b ≡ y → AreJoinedCounts b a a → AreJoinedCounts y x x
of_lists a b x y e f are = subst (λ (l : List Counts). AreJoinedCounts y l l) e (subst (λ (l : List Counts). AreJoinedCounts l a a) f are)

pub returns-then-cover : goal.returns-then-cover
returns-then-cover c = λ ns ls test n numbers passes whole is of.
    let old = c.args.self.now in
    let own = c.args.own.now in
    let are : AreJoinedFronts old own own =
    fronts_joined old own own (of_lists c.as_slice.result.now c.as_slice-2.result.now own.counts.items old.counts.items c.as_slice.ensures.value c.as_slice-2.ensures.value (c.cover.ensures c.if-cover.true)) in
    subst (λ (x : Front). IsFront (n ∷ ns) ls test x) (sym c.swap.ensures.x_after) (front_grows ns ls test n numbers old own own are passes whole is of)

pub returns : goal.returns
returns c = λ ns ls test n numbers passes whole is of. c.in_ok-join.ensures.grown ns ls test n numbers passes whole is of
