use Rattle.std.proofs.Common.{sym, ◌∙◌, arith, get_or}
use Rattle.std.proofs.lemmas.Option.{slice_get_within}
use Rattle.std.proofs.lemmas.List.Elements.{Contains-get_or}
use Rattle.vk_history.proofs.Using.Lasts.{one_left, none_left, contains_at, next_done}
use Rattle.vk_history.proofs.last_uses.is_some_left.Goals as goal

pub returns-then-not-follows : goal.returns-then-not-follows
returns-then-not-follows c = λ ns n r new_node are.
    let kept = c.args.kept.now in
    let i = c.loop-last.last-index in
    sym (one_left kept ns n r (get_or kept i _) are (Contains-get_or kept i _ c.loop-last-test.true) (λ m there on at. sym (c.follows.ensures ns n m new_node there on at) ∙ c.if-not-follows.true))

pub loop-last-preserved : goal.loop-last-preserved
loop-last-preserved c =
    next_done c.args.kept.now c.loop-last.last-index _ c.args.new_node.now
    (λ ns n m new_node there on at. sym (c.follows.ensures ns n m new_node there on at) ∙ c.if-not-follows.false) c.loop-last.invariant

pub returns : goal.returns
returns c = λ ns n r new_node are.
    sym (none_left c.args.kept.now ns n r c.args.new_node.now new_node are (λ u there m h on at.
    let a = contains_at c.args.kept.now u there in
    c.loop-last.invariant a.0 u (let lt = slice_get_within c.args.kept.now a.0 u a.1 in let end = c.loop-last-test.false in omega (arith, lt, end)) a.1 ns n m new_node h on at))
