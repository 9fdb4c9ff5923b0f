-- The sizes of a device's heaps (Vulkan, "Device Memory"; two heaps: profile).
use Rattle.std.specs.Prelude.{ℕ, ◌≤◌}

-- The bytes of heap 0, device memory, and of heap 1, host memory (profile).
pub record HeapSizes : Type 0 where
  pub heap0 : ℕ
  pub heap1 : ℕ

-- The limits of a heap's size: 65,536 and 67,108,864 bytes (profile).
abbrev pub IsHeapSize : ℕ → Type 0
IsHeapSize size = (65536 ≤ size) × (size ≤ 67108864)
