-- The bytes of memory that pieces write.
use Rattle.std.specs.Prelude.{ℕ, ◌+◌, Bool, false, ◌&&◌, ◌==◌}
use Rattle.vk_model.specs.Basics.{within}
use Rattle.vk_model.specs.World.Bytes.{Byte, in_buffer, in_image}
use Rattle.vk_transfer.specs.declared.stretches.Stretch.{Stretch}

-- Whether byte k of a memory object is one of a stretch.
abbrev pub lies_in : Stretch → ℕ → Bool
lies_in s k = within s.at s.size k

-- Whether a byte is one of buffer b that lies in a stretch, where the buffer lies from a place on (Vulkan, "Resource Memory Association").
abbrev pub is_byte_in : Stretch → (b start : ℕ) → Byte → Bool
is_byte_in s b start (in_buffer c k) = b == c && lies_in s (start + k)
is_byte_in s b start (in_image i l a x y p) = false
