use Rattle.std.proofs.Common.{refl}
use Rattle.vma_tlsf.proofs.Slots.{alike-trans, alike-more, alike-take}
use Rattle.vma_tlsf.proofs.steps.fresh_of_more.Goals as goal

pub returns-in-Some-clause-alike : goal.returns-in-Some-clause-alike
returns-in-Some-clause-alike c =
    let more = c.in_ok-reserve.ensures.ok refl in
    let taken = c.in-Some.ensures in
    rw taken.held (alike-trans _ c.reserve.new.self _ (rw more (alike-more c.args.nodes.now 64)) (alike-take c.reserve.new.self c.in-Some.slot taken.inside taken.was_free))

pub returns-in-None-clause-alike : goal.returns-in-None-clause-alike
returns-in-None-clause-alike c =
    let more = c.in_ok-reserve.ensures.ok refl in
    rw (c.in-None.ensures.1, more) (alike-more c.args.nodes.now 64)
