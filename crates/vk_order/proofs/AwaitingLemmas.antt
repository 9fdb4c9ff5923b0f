-- Which waits hang on a signal.
use Rattle.std.proofs.Common.{◌≡◌, ℕ, List, map, Bool, true, false, not, ◌&&◌, refl, ap, sym, ◌∙◌, subst, Some}
use Rattle.std.specs.Prelude.{◌==◌, nat_le}
use Rattle.std.specs.List.{list_any}
use Rattle.std.proofs.lemmas.Bool.{eqb-true}
use Rattle.vk_model.specs.declared.entry.Entry.TheVariants as entry
use Rattle.vk_model.specs.declared.entry.SemaphoreValue.{SemaphoreValue}
use Rattle.vk_model.specs.Basics.{holds}
use Rattle.vk_model.specs.Sync.Node.{Node, Hosts}
use Rattle.vk_model.specs.Sync.Edge.{by_semaphore, is_least, is_enough, waited_by}
use Rattle.vk_model.proofs.Lists.Members.{any_map, any_same}
use Rattle.vk_order.specs.declared.awaiting.Reach.{Reach}
use Rattle.vk_order.specs.Inner.Reaches.{Reaches, is_awaited_at}

awaited-same : (ns : List Node) (m : Node) (r : Reach) → Reaches ns m (Some r) → (y : ℕ × ℕ) → is_awaited_at r y ≡ (r.semaphore == y.0 && is_least ns y.0 y.1 r.value && not (is_enough ns y.0 y.1))
awaited-same ns m r reaches y = go (r.semaphore == y.0) refl
  where
    go : (t : Bool) → (r.semaphore == y.0) ≡ t
        → (t && (nat_le y.1 r.value && not (holds r.low (nat_le y.1))) && not (holds r.initial (nat_le y.1))) ≡ (t && is_least ns y.0 y.1 r.value && not (is_enough ns y.0 y.1))
    go false e = refl
    go true e =
        let same : r.semaphore ≡ y.0 = eqb-true r.semaphore y.0 e in
        let least : is_least ns y.0 y.1 r.value ≡ (nat_le y.1 r.value && not (holds r.low (nat_le y.1))) = subst (λ (s : ℕ). is_least ns s y.1 r.value ≡ (nat_le y.1 r.value && not (holds r.low (nat_le y.1)))) same (reaches.1 y.1) in
        let enough : is_enough ns y.0 y.1 ≡ holds r.initial (nat_le y.1) = subst (λ (s : ℕ). is_enough ns s y.1 ≡ holds r.initial (nat_le y.1)) same (reaches.2 y.1) in
        rw (least, enough) refl

-- an entry of the host that waits
pub awaited-host : (ns : List Node) (m n : Node) (r : Reach) (ws : List SemaphoreValue) → n.act ≡ Hosts (entry.Wait ws) → Reaches ns m (Some r)
    → list_any (λ w. is_awaited_at r (w.semaphore, w.value)) ws ≡ by_semaphore ns m n
awaited-host ns m n r ws is reaches =
    let pairs : List (ℕ × ℕ) = map (λ w. (w.semaphore, w.value)) ws in
    let here : by_semaphore ns m n ≡ list_any (λ y. r.semaphore == y.0 && is_least ns y.0 y.1 r.value && not (is_enough ns y.0 y.1)) (waited_by n.act) = rw reaches.0 refl in
    let there : waited_by n.act ≡ pairs = ap waited_by is in
    sym (any_map (is_awaited_at r) (λ w. (w.semaphore, w.value)) ws)
    ∙ any_same (is_awaited_at r) (λ y. r.semaphore == y.0 && is_least ns y.0 y.1 r.value && not (is_enough ns y.0 y.1)) pairs (λ y c. awaited-same ns m r reaches y)
    ∙ ap (list_any (λ y. r.semaphore == y.0 && is_least ns y.0 y.1 r.value && not (is_enough ns y.0 y.1))) (sym there)
    ∙ sym here
