use Rattle.std.proofs.Common.{◌≡◌, Bool, ◌||◌, [], refl, ap, sym, ◌∙◌}
use Rattle.vk_model.specs.declared.entry.Entry.{Entry}
use Rattle.vk_model.specs.declared.entry.SemaphoreSubmit.{SemaphoreSubmit}
use Rattle.vk_model.specs.Sync.Edge.{by_semaphore, waited_by}
use Rattle.vk_order.specs.declared.act.Act.{Act}
use Rattle.vk_order.specs.declared.act.Act.TheVariants as act
use Rattle.vk_order.specs.NodeViews.{act_of}
use Rattle.vk_order.specs.Inner.Names.{is_awaited_for}
use Rattle.vk_order.proofs.FrontLemmas.{front_same}
use Rattle.vk_order.proofs.WaitLemmas.{one_wait, no_wait}
use Rattle.vk_order.proofs.names.Names.join_signals.Goals as goal
use denote.Ref.{Bor}
use Rattle.std.proofs.Math.Bool.{or-false}

no_waits : (a : Act) → ((x : Bor Entry) → a ≡ act.Hosts x → ⊥) → ((x : Bor SemaphoreSubmit) → a ≡ act.Waits x → ⊥) → waited_by (act_of a) ≡ []
no_waits (act.Hosts x) h w = absurd (h x refl)
no_waits (act.Waits x) h w = absurd (w x refl)
no_waits (act.Signals x) h w = refl
no_waits (act.Runs x) h w = refl
no_waits (act.Barrier x) h w = refl
no_waits (act.Set v k d) h w = refl
no_waits (act.Await v k d) h w = refl

pub returns-in_ok-join_named-in-Waits : goal.returns-in_ok-join_named-in-Waits
returns-in_ok-join_named-in-Waits c = λ ns ls f n is names front.
    let w = c.in-Waits.wait.now in
    front_same ns ls (λ k. f k || is_awaited_for ns w.semaphore w.value k) (λ k. f k || by_semaphore ns k n) c.join_named.new.self
    (λ k there. ap (λ (t : Bool). f k || t) (one_wait ns k n w (is ∙ ap act_of c.in-Waits.is)))
    (c.in_ok-join_named-in-Waits.ensures ns ls f (is_awaited_for ns w.semaphore w.value) front (c.signal_for.ensures ns ls names))

pub returns-in_ok-join_waits-in-Hosts : goal.returns-in_ok-join_waits-in-Hosts
returns-in_ok-join_waits-in-Hosts c = λ ns ls f n is names front. c.in_ok-join_waits-in-Hosts.ensures ns ls f n (is ∙ ap act_of c.in-Hosts.is) names front

pub returns-in_default : goal.returns-in_default
returns-in_default c = λ ns ls f n is names front.
    front_same ns ls f (λ k. f k || by_semaphore ns k n) c.args.front.now
    (λ k there. sym (ap (λ (t : Bool). f k || t) (no_wait ns k n (ap waited_by is ∙ no_waits c.args.act.now c.in_default.not-Hosts c.in_default.not-Waits)) ∙ or-false (f k))) front
