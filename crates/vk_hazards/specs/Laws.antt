-- A missing link is one, and the write isn't seen without it.
use Rattle.std.specs.Prelude.{◌≡◌, false, Contains}
use Rattle.vk_model.specs.Trace.Point.{Past}
use Rattle.vk_model.specs.World.Bytes.{Byte}
use Rattle.vk_model.specs.Sync.Node.{Node, nodes}
use Rattle.vk_model.specs.Sync.Seen.{Access}
use Rattle.vk_model.specs.Sync.Access.{is_seen}
use Rattle.vk_hazards.specs.declared.links.Missing.{Missing}
use Rattle.vk_hazards.specs.Links.{IsMissingAfterWrite}

-- No two links are missing between a write and an access.
abbrev pub MissingIsOne : Type 0
MissingIsOne = (past : Past) (w a : Node) (k : Access) (b : Byte) (m n : Missing) → Contains (nodes past) w → IsMissingAfterWrite past w a k b m → IsMissingAfterWrite past w a k b n → m ≡ n

-- Where one is, the access doesn't see the write.
abbrev pub MissingIsUnseen : Type 0
MissingIsUnseen = (past : Past) (w a : Node) (k : Access) (b : Byte) (m : Missing) → Contains (nodes past) w → Contains (nodes past) a → IsMissingAfterWrite past w a k b m → is_seen past w a k b ≡ false
