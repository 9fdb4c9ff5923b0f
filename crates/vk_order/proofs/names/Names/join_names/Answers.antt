use Rattle.std.proofs.Common.{◌≡◌, Bool, ◌||◌, Option, refl, sym, subst, arith}
use Rattle.vk_model.specs.Sync.Node.{Node}
use Rattle.vk_model.specs.Sync.Edge.{pairs, by_semaphore}
use Rattle.vk_order.specs.declared.fronts.Front.{Front}
use Rattle.vk_order.specs.NodeViews.{act_of, node_of}
use Rattle.vk_order.specs.Prefixes.{submits}
use Rattle.vk_order.specs.Inner.Links.{by_name}
use Rattle.vk_order.specs.Inner.Fronts.{IsNamed}
use Rattle.vk_order.proofs.FrontLemmas.{front_same}
use Rattle.vk_order.proofs.names.Names.join_names.Goals as goal

regroup : (f s p w : Bool) → (f || s || p || w) ≡ (f || (s || (p || w)))
regroup f s p w = grind arith

pub returns : goal.returns
returns c = λ ns ls f j names is.
    let row = c.args.row.now in
    let e = row.point.entry in
    let n : Node = node_of j row in
    front_same ns ls (λ k. f k || submits e k || pairs k.act (act_of row.act) || by_semaphore ns k n) (λ k. f k || by_name ns k n) c.join_signals.new.front
    (λ k there. regroup (f k) (submits e k) (pairs k.act (act_of row.act)) (by_semaphore ns k n))
    (c.in_ok-join_signals.ensures ns ls (λ k. f k || submits e k || pairs k.act (act_of row.act)) n refl names
    (c.in_ok-join_named-2.ensures ns ls (λ k. f k || submits e k) (λ k. pairs k.act (act_of row.act))
    (c.in_ok-join_named.ensures ns ls f (submits e) is (subst (λ (o : Option Front). IsNamed ns ls (submits e) o) (sym c.get.ensures.value) (names.submits e)))
    (c.set_of.ensures ns ls names.sets)))
