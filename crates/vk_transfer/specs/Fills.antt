-- The byte writes of a fill, and of its pieces.
use Rattle.std.specs.Prelude.{ℕ, ◌+◌, ◌-◌, ◌*◌, ◌%◌, List, [], map, min, slice_get, Some, None}
use Rattle.vk_model.specs.Basics.{below, byte_of}
use Rattle.vk_model.specs.World.Bytes.{in_buffer}
use Rattle.vk_model.specs.World.ByteWrites.{Value, ByteWrite, byte_write}
use Rattle.vk_model.specs.Run.Pieces.{cut}
use Rattle.vk_transfer.specs.declared.filling.Fill.{Fill}

-- The byte writes of a fill of buffer b (Vulkan, "Filling Buffers").
abbrev pub fill_writes : ℕ → Fill → List ByteWrite
fill_writes b f = map (λ k. byte_write (in_buffer b (f.offset + k)) (Value (byte_of f.word (k % 4)))) (below f.size)

-- Those of one of its pieces: 4,096 bytes at most each (profile).
abbrev pub fill_piece : ℕ → Fill → ℕ → List ByteWrite
fill_piece b f number = elim (slice_get (cut 4096 (fill_writes b f)) number) [ None ↦ [] | Some ms ↦ ms ]

-- How many bytes the piece has.
abbrev pub piece_size : Fill → ℕ → ℕ
piece_size f number = min 4096 (f.size - 4096 * number)
