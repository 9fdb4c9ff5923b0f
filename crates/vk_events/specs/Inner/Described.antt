-- What an event has of an act.
use Rattle.std.specs.Prelude.{ℕ, ◌≡◌, Bool, List, true, ◌&&◌, ◌||◌}
use Rattle.vk_model.specs.World.Bytes.{Byte}
use Rattle.vk_model.specs.Sync.Node.{Node, Act}
use Rattle.vk_model.specs.Sync.Seen.{makes_writes_available, makes_writes_visible, is_wait}
use Rattle.vk_model.specs.Run.CachedRuns.{is_synchronization, any_access}
use Rattle.vk_events.specs.declared.event.Event.{Event}
use Rattle.vk_laws.specs.WriteBacks.{follows_commands}
use Rattle.vk_events.specs.Happens.{is_on}

-- An event is of an act on a queue, with this number and place. (profile)
pub record IsOf (e : Event) (number queue place : ℕ) (a : Act) : Type 0 where
  pub is : is_synchronization a ≡ true
  pub number_is : e.number ≡ number
  pub queue_is : e.queue ≡ queue
  pub place_is : e.place ≡ place
  pub available : (cached : Byte → Bool) (ms : List Node) (n : Node) (b : Byte) → n.point.queue ≡ queue → (follows_commands a && makes_writes_available cached ms n b a) ≡ (e.makes_available && is_on e.range b)
  pub visible : (cached : Byte → Bool) (ms : List Node) (n : Node) (b : Byte) → n.point.queue ≡ queue → (is_wait a || makes_writes_visible cached ms any_access b n a) ≡ (e.makes_visible && is_on e.range b)
