-- Commands that copy bytes, by their numbers.
use Rattle.std.specs.Prelude.{◌≡◌, ◌+◌, ◌≤◌, ℕ, List, [], ◌∷◌, Contains, true, is_some}
use Rattle.std.specs.List.{flat_map}
use Rattle.vk_model.specs.declared.command.BufferCopy.{BufferCopy}
use Rattle.vk_model.specs.declared.command.Cmd.{Cmd}
use Rattle.vk_model.specs.Sync.Node.{Runs, acts}
use Rattle.vk_model.specs.Trace.Objects.{resource}
use Rattle.vk_model.specs.Trace.Point.{Past, Point, Run}
use Rattle.vk_model.specs.World.ByteWrites.{byte_writes}
use Rattle.vk_image_bytes.specs.Copies.{numbered_writes}
use Rattle.vk_history.specs.Contents.{byte_at, size_at}

-- A point runs a command that makes the byte writes of copies from one resource to another, or within one, which lie in both.
pub record IsCopyBy (past : Past) (p : Point) (s d : ℕ) (gs : List BufferCopy) : Type 0 where
  pub command : Cmd
  pub runs : p.action ≡ Run command
  pub alone : acts (Run command) ≡ Runs command ∷ []
  pub writes : byte_writes past command ≡ flat_map (numbered_writes (byte_at past s) (byte_at past d)) gs
  pub source_there : is_some (resource past s) ≡ true
  pub destination_there : is_some (resource past d) ≡ true
  pub reads_fit : (g : BufferCopy) → Contains gs g → g.source_offset + g.size ≤ size_at past s
  pub writes_fit : (g : BufferCopy) → Contains gs g → g.destination_offset + g.size ≤ size_at past d
