-- Which links are there after a write.
use Rattle.std.specs.Prelude.{◌≡◌}
use Rattle.vk_model.specs.Trace.Point.{Past}
use Rattle.vk_model.specs.World.Bytes.{Byte}
use Rattle.vk_model.specs.Sync.Node.{Node}
use Rattle.vk_model.specs.Sync.Seen.{Access}
use Rattle.vk_hazards.specs.Links.{needs_flush, flushes_after, makes_available, is_available_at, shows_host, shows_in_time, IsFirst}
use Rattle.vk_hazards.specs.declared.links.Found.{Found}

-- What was found of node w's write of a byte and node a's access.
pub record AreFound (past : Past) (w a : Node) (k : Access) (b : Byte) (f : Found) : Type 0 where
  pub needed : f.needs_flush ≡ needs_flush past w b
  pub flush : IsFirst past (flushes_after past w b) f.flush
  pub available : IsFirst past (makes_available past w b) f.available
  pub visible : IsFirst past (shows_host past w a k b) f.visible
  pub awaited : IsFirst past (shows_in_time past w a k b) f.awaited
  pub there : f.is_there ≡ is_available_at past w b a
