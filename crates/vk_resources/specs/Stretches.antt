-- The bytes of a resource that a piece of a command writes.
use Rattle.std.specs.Prelude.{◌≡◌, ℕ, ◌<◌, List, true, ◌&&◌, ◌==◌, Option, Some, slice_get}
use Rattle.vk_model.specs.declared.command.Cmd.{Cmd}
use Rattle.vk_model.specs.Trace.Point.{Past}
use Rattle.vk_model.specs.World.Bytes.{Byte, resource_at}
use Rattle.vk_model.specs.World.ByteWrites.{ByteWrite}
use Rattle.vk_model.specs.Run.Pieces.{pieces}
use Rattle.vk_image_transfer.specs.Stretches.{is_among}
use Rattle.vk_resources.specs.declared.resources.Placed.{Placed}
use Rattle.vk_resources.specs.declared.stretches.Written.{Written}
use Rattle.vk_resources.specs.Held.{Held, placed, shape_of, place_in}
use Rattle.vk_resources.specs.Matches.{Stands}
use Rattle.vk_resources.specs.Fits.{FitsCommand}
use Rattle.vk_resources.specs.Rest.{is_written}

-- Where a byte lies, counted from the first of its resource; none where it lies nowhere (Vulkan, "Resource Memory Association").
abbrev pub place_at : Held → Byte → Option ℕ
place_at s c = place_in (shape_of s (resource_at c)) (placed s (resource_at c)) c

-- Bytes of one resource, which lies somewhere, are exactly those that some byte writes are of: of the bytes of resources that lie somewhere those are written that are of it and whose places in it are among them; each of them is the place of a byte that is written, and none is beyond its end (Vulkan, "Clear Commands" and "Copy Commands").
pub record HasWrites (s : Held) (ms : List ByteWrite) (w : Written) : Type 0 where
  pub bytes : (c : Byte) (k : ℕ) → place_at s c ≡ Some k → is_written ms c ≡ (w.resource == resource_at c && is_among w.left k)
  pub places : (k : ℕ) → is_among w.left k ≡ true → (c : Byte) × (resource_at c ≡ w.resource) × (place_at s c ≡ Some k) × (is_written ms c ≡ true)
  pub place : Placed
  pub here : placed s w.resource ≡ Some place
  pub inside : (k : ℕ) → is_among w.left k ≡ true → k < place.size

-- They are those that a piece of a command writes, in any past after which the resources stand so.
abbrev pub HasPieceWrites : Held → Cmd → ℕ → Written → Type 0
HasPieceWrites s c k w = (past : Past) (ms : List ByteWrite) → Stands past s → FitsCommand past c → slice_get (pieces past c) k ≡ Some ms → HasWrites s ms w
