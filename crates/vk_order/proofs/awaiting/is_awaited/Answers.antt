use Rattle.std.proofs.Common.{◌≡◌, ap, ◌∙◌, rules, subst, Option, Some, List}
use Rattle.std.specs.List.{list_any}
use Rattle.vk_model.specs.declared.entry.Entry.TheVariants as entry
use Rattle.vk_model.specs.declared.entry.SemaphoreValue.{SemaphoreValue}
use Rattle.vk_model.specs.Sync.Node.{Hosts}
use Rattle.vk_order.specs.declared.awaiting.Reach.{Reach}
use Rattle.vk_order.specs.Inner.Reaches.{Reaches, is_awaited_at}
use Rattle.vk_order.proofs.AwaitingLemmas.{awaited-host}
use Rattle.vk_order.proofs.awaiting.is_awaited.Goals as goal

pub returns-in-Hosts-Wait : goal.returns-in-Hosts-Wait
returns-in-Hosts-Wait c = λ ns m n is reaches.
    let r = c.in-Some.reach in
    let known : Reaches ns m (Some r) = subst (λ (o : Option Reach). Reaches ns m o) c.in-Some.is reaches in
    let act : n.act ≡ Hosts (entry.Wait c.in-Hosts-Wait.waits) = search rules in
    c.is_awaited_by_some.ensures
    ∙ ap (λ (ws : List SemaphoreValue). list_any (λ w. is_awaited_at r (w.semaphore, w.value)) ws) c.as_slice.ensures
    ∙ awaited-host ns m n r c.in-Hosts-Wait.waits act known
