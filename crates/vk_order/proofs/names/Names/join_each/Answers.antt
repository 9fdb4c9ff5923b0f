use Rattle.std.proofs.Common.{◌≡◌, ◌+◌, List, Bool, ◌||◌, take, get_or, ap, sym, ◌∙◌, arith}
use Rattle.std.specs.List.{list_any}
use Rattle.std.proofs.lemmas.List.{take_all}
use Rattle.vk_model.specs.declared.entry.SemaphoreValue.{SemaphoreValue}
use Rattle.vk_model.specs.Sync.Node.{Node}
use Rattle.vk_order.specs.Inner.Names.{is_awaited_for}
use Rattle.vk_order.proofs.FrontLemmas.{front_same}
use Rattle.vk_order.proofs.names.Names.join_each.Goals as goal
use Rattle.std.proofs.lemmas.List.Folds.{list_any_more}
use Rattle.std.proofs.Math.Bool.{or-false}

pub loop-wait-init : goal.loop-wait-init
loop-wait-init c = λ ns ls f names is. front_same ns ls f (λ k. f k || list_any (λ (w : SemaphoreValue). is_awaited_for ns w.semaphore w.value k) (take 0 c.args.waits.now)) c.args.front.now (λ k there. sym (or-false (f k))) is

regroup : (a b c : Bool) → (a || b || c) ≡ (a || (b || c))
regroup a b c = grind arith

pub loop-wait-preserved : goal.loop-wait-preserved
loop-wait-preserved c = λ ns ls f names is.
    let i = c.loop-wait.wait-index in
    let waits = c.args.waits.now in
    let d : SemaphoreValue = record { semaphore = 0; value = 0 } in
    let w : SemaphoreValue = get_or waits i d in
    let test : Node → SemaphoreValue → Bool = (λ k x. is_awaited_for ns x.semaphore x.value k) in
    front_same ns ls (λ k. (f k || list_any (test k) (take i waits)) || test k w) (λ k. f k || list_any (test k) (take (i + 1) waits)) c.join_named.new.self
    (λ k there. regroup (f k) (list_any (test k) (take i waits)) (test k w) ∙ ap (λ (t : Bool). f k || t) (sym (list_any_more (test k) waits i d c.loop-wait-test.true)))
    (c.in_ok-join_named.ensures ns ls (λ k. f k || list_any (test k) (take i waits)) (λ k. test k w) (c.loop-wait.invariant ns ls f names is) (c.signal_for.ensures ns ls names))

pub returns : goal.returns
returns c = λ ns ls f names is.
    front_same ns ls (λ k. f k || list_any (λ (w : SemaphoreValue). is_awaited_for ns w.semaphore w.value k) (take c.loop-wait.wait-index c.args.waits.now)) (λ k. f k || list_any (λ (w : SemaphoreValue). is_awaited_for ns w.semaphore w.value k) c.args.waits.now) c.loop-wait.front
    (λ k there. ap (λ (l : List SemaphoreValue). f k || list_any (λ (w : SemaphoreValue). is_awaited_for ns w.semaphore w.value k) l) (take_all c.loop-wait.wait-index c.args.waits.now c.loop-wait-test.false))
    (c.loop-wait.invariant ns ls f names is)
