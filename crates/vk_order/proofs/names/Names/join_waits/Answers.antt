use Rattle.std.proofs.Common.{Bool, ◌||◌, List, ap, sym, ◌∙◌, subst}
use Rattle.std.specs.List.{list_any}
use Rattle.vk_model.specs.declared.entry.SemaphoreValue.{SemaphoreValue}
use Rattle.vk_model.specs.Sync.Edge.{by_semaphore, waited_by}
use Rattle.vk_model.specs.Sync.Node.{Hosts}
use Rattle.vk_order.specs.Inner.Names.{is_awaited_for}
use Rattle.vk_order.proofs.FrontLemmas.{front_same}
use Rattle.vk_order.proofs.WaitLemmas.{each_wait, no_wait, waits_of_none}
use Rattle.vk_order.proofs.names.Names.join_waits.Goals as goal
use Rattle.std.proofs.Math.Bool.{or-false}

pub returns-in_ok-join_each-in-Wait : goal.returns-in_ok-join_each-in-Wait
returns-in_ok-join_each-in-Wait c = λ ns ls f n act names is.
    front_same ns ls (λ k. f k || list_any (λ (w : SemaphoreValue). is_awaited_for ns w.semaphore w.value k) c.in-Wait.waits) (λ k. f k || by_semaphore ns k n) c.join_each.new.front
    (λ k there. ap (λ (t : Bool). f k || t) (each_wait ns k n c.in-Wait.waits (act ∙ ap Hosts c.in-Wait.is)))
    (subst (λ (l : List SemaphoreValue). Rattle.vk_order.specs.Inner.Fronts.IsFront ns ls (λ k. f k || list_any (λ (w : SemaphoreValue). is_awaited_for ns w.semaphore w.value k) l) c.join_each.new.front)
    c.as_slice.ensures (c.in_ok-join_each-in-Wait.ensures ns ls f names is))

pub returns-in_default : goal.returns-in_default
returns-in_default c = λ ns ls f n act names is.
    front_same ns ls f (λ k. f k || by_semaphore ns k n) c.args.front.now
    (λ k there. sym (ap (λ (t : Bool). f k || t) (no_wait ns k n (ap waited_by act ∙ waits_of_none c.args.entry.now c.in_default.not-Wait)) ∙ or-false (f k))) is
