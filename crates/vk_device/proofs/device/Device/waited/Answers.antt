use Rattle.std.proofs.Common.{ℕ, ◌∷◌, subst}
use Rattle.vk_model.specs.Sync.Node.{nodes}
use Rattle.vk_offers.specs.IsOffers.{CountsBefore, host_node}
use Rattle.vk_device.proofs.Following.{next_unbroken, next_ordered, counted}
use Rattle.vk_device.proofs.device.Device.waited.Goals as goal

pub returns-in_ok-before-in-Wait : goal.returns-in_ok-before-in-Wait
returns-in_ok-before-in-Wait c = λ t steps s xs is.
    let x = c.args.entry.now in
    let st = c.defined_runs_follow.ensures t steps s (c.direct_runs_are_runs.ensures t steps s _ is.led.run) in
    let sound = next_unbroken c.no_fault_is_sound.ensures c.order_is_structured.ensures.ordered t s x xs st is.next is.sound in
    let ordered = next_ordered c.no_fault_is_sound.ensures c.order_is_structured.ensures.ordered t s x xs st is.next is.sound in (
      subst (λ (k : ℕ). CountsBefore (host_node s.front.past k x ∷ nodes s.front.past) (host_node s.front.past k x) c.in_ok-before-in-Wait.before) is.led.counts (c.in_ok-before-in-Wait.ensures s.front.past s.done is.led.offers),
      rw c.in-Wait.is (λ done. c.waits_go.ensures (record s { done = done }) c.in-Wait.waits (rw c.in-Wait.is at sound) (rw c.in-Wait.is at ordered) (counted c.order_is_structured.ensures.entries t s st)),
    )
