-- The byte writes of a copy between buffers, and of its pieces.
use Rattle.std.specs.Prelude.{ℕ, ◌+◌, ◌-◌, ◌*◌, ◌≤◌, List, [], length, min, slice_get, Some, None}
use Rattle.std.specs.List.{flat_map}
use Rattle.vk_model.specs.declared.command.BufferCopy.{BufferCopy}
use Rattle.vk_model.specs.World.ByteWrites.{ByteWrite, copy_writes}
use Rattle.vk_model.specs.Run.Pieces.{cut}

-- The byte writes of one of the pieces of a region of a copy from buffer s to buffer d: 4,096 bytes at most each (profile).
abbrev pub region_piece : ℕ → ℕ → BufferCopy → ℕ → List ByteWrite
region_piece s d g number = elim (slice_get (cut 4096 (copy_writes s d g)) number) [ None ↦ [] | Some ms ↦ ms ]

-- How many bytes the piece has.
abbrev pub region_piece_size : BufferCopy → ℕ → ℕ
region_piece_size g number = min 4096 (g.size - 4096 * number)

-- A region of a copy lies in a source of m bytes and in a destination of n bytes (Vulkan, "Copying Data Between Buffers").
abbrev pub FitsBuffers : BufferCopy → ℕ → ℕ → Type 0
FitsBuffers g m n = (g.source_offset + g.size ≤ m) × (g.destination_offset + g.size ≤ n)

-- How many pieces a region has, which is the same for all buffers (profile).
abbrev pub region_count : BufferCopy → ℕ
region_count g = length (cut 4096 (copy_writes 0 0 g))

-- The pieces of a copy from buffer s to buffer d, region by region (Vulkan, "Copying Data Between Buffers").
abbrev pub copy_pieces : ℕ → ℕ → List BufferCopy → List (List ByteWrite)
copy_pieces s d regions = flat_map (λ g. cut 4096 (copy_writes s d g)) regions

-- The byte writes of one of them (profile).
abbrev pub copy_piece : ℕ → ℕ → List BufferCopy → ℕ → List ByteWrite
copy_piece s d regions number = elim (slice_get (copy_pieces s d regions) number) [ None ↦ [] | Some ms ↦ ms ]
