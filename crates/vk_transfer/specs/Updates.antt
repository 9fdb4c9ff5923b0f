-- The byte writes of an update, and of its pieces.
use Rattle.std.specs.Prelude.{ℕ, ◌+◌, ◌-◌, ◌*◌, List, [], map, min, length, slice_get, Some, None}
use Rattle.std.specs.List.{enumerate_from}
use Rattle.vk_model.specs.World.Bytes.{in_buffer}
use Rattle.vk_model.specs.World.ByteWrites.{Value, ByteWrite, byte_write}
use Rattle.vk_model.specs.Run.Pieces.{cut}
use Rattle.vk_transfer.specs.declared.updating.Update.{Update}

-- The byte writes of an update of buffer b (Vulkan, "Updating Buffers").
abbrev pub update_writes : ℕ → Update → List ByteWrite
update_writes b u = map (λ p. byte_write (in_buffer b (u.offset + p.0)) (Value p.1)) (enumerate_from 0 u.bytes.now)

-- Those of one of its pieces: 4,096 bytes at most each (profile).
abbrev pub update_piece : ℕ → Update → ℕ → List ByteWrite
update_piece b u number = elim (slice_get (cut 4096 (update_writes b u)) number) [ None ↦ [] | Some ms ↦ ms ]

-- How many bytes the piece has.
abbrev pub update_piece_size : Update → ℕ → ℕ
update_piece_size u number = min 4096 (length u.bytes.now - 4096 * number)
