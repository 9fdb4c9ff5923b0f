-- Which waits hang on a signal.
use Rattle.std.specs.Prelude.{◌≡◌, ℕ, List, Bool, not, ◌&&◌, ◌==◌, nat_le, Option, Some, None}
use Rattle.vk_model.specs.Basics.{holds}
use Rattle.vk_model.specs.Sync.Node.{Node}
use Rattle.vk_model.specs.Sync.Edge.{signaled_by, is_least, is_enough}
use Rattle.vk_order.specs.declared.awaiting.Reach.{Reach}

-- What is known of the signal of node m when the nodes ns have come: whether it is the least from a value on, and whether the semaphore's initial value is enough (Vulkan, "Semaphore Waiting").
abbrev pub Reaches : List Node → Node → Option Reach → Type 0
Reaches ns m None = signaled_by m.act ≡ None
Reaches ns m (Some r) = (signaled_by m.act ≡ Some (r.semaphore, r.value))
    × ((v : ℕ) → is_least ns r.semaphore v r.value ≡ (nat_le v r.value && not (holds r.low (nat_le v))))
    × ((v : ℕ) → is_enough ns r.semaphore v ≡ holds r.initial (nat_le v))

-- Whether a wait for a semaphore's value hangs on the signal (Vulkan, "Semaphore Waiting").
abbrev pub is_awaited_at : Reach → ℕ × ℕ → Bool
is_awaited_at r y = r.semaphore == y.0 && (nat_le y.1 r.value && not (holds r.low (nat_le y.1))) && not (holds r.initial (nat_le y.1))
