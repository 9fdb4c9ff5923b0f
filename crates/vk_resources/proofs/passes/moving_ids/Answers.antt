use Rattle.std.proofs.Common.{◌≡◌, ◌<◌, ◌≤◌, ◌∷◌, ◌++◌, [], ℕ, List, length, take, get_or, ap, arith, sym, ◌∙◌}
use Rattle.std.proofs.lemmas.List.{take_all, take_more}
use Rattle.std.proofs.lemmas.Option.{get_or_from_slice_get}
use Rattle.vk_resources.proofs.passes.moving_ids.Goals as goal

pub loop-index-init : goal.loop-index-init
loop-index-init c = c.new-ids.ensures.items

pub loop-index-preserved : goal.loop-index-preserved
loop-index-preserved c =
    let ids = c.args.passes.now.moving in
    let lt : c.loop-index.index < length ids = omega (arith, c.loop-index-test.true, c.moves-index-end.ensures) in
    let is : get_or ids c.loop-index.index 0 ≡ c.nth_id.result = get_or_from_slice_get ids c.loop-index.index c.nth_id.result 0 c.nth_id.ensures in
    c.in_ok-push.ensures.items ∙ ap (λ (l : List ℕ). l ++ c.nth_id.result ∷ []) c.loop-index.invariant ∙ ap (λ (i : ℕ). take c.loop-index.index ids ++ i ∷ []) (sym is) ∙ sym (take_more ids c.loop-index.index 0 lt)

pub returns : goal.returns
returns c =
    let ids = c.args.passes.now.moving in
    let le : length ids ≤ c.loop-index.index = omega (arith, c.loop-index-test.false, c.moves-index-end.ensures) in
    c.loop-index.invariant ∙ take_all c.loop-index.index ids le
