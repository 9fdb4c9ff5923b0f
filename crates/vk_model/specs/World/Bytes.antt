-- The state that a trace is judged by: the bytes of each resource, the layouts and the owners.
use Rattle.std.specs.Prelude.{ℕ, Bool, false, ◌&&◌, ◌==◌, Option, None}
use Rattle.vk_model.specs.declared.command.Element.{Element}

-- A byte of a buffer, or byte `texel_byte` of a texel of an image. Each resource has bytes of its own, whatever memory it's in (profile).
pub data Byte : Type 0 where
  in_buffer : (buffer at : ℕ) → Byte
  in_image : (image level layer x y texel_byte : ℕ) → Byte

-- Whether two bytes are the same one.
abbrev pub same_byte : Byte → Byte → Bool
same_byte (in_buffer b k) (in_buffer c l) = b == c && k == l
same_byte (in_image i a b x y p) (in_image j c d u v q) = i == j && a == c && b == d && x == u && y == v && p == q
same_byte _ _ = false

-- The resource of a byte.
abbrev pub resource_at : Byte → ℕ
resource_at (in_buffer b k) = b
resource_at (in_image i a b x y p) = i

-- The owner of an exclusive resource: nobody yet, a queue family, or released by a family with an element (Vulkan, "Resource Sharing Mode" and "Queue Family Ownership Transfer").
pub data Owner : Type 0 where
  Nobody : Owner
  Family : (family : ℕ) → Owner
  Released : (family : ℕ) → Element → Owner

-- The value of each byte, none where it's undefined; which bytes the host wrote and hasn't flushed (Vulkan, "Host Access to Device Memory Objects"); the layout of each image, level and layer (Vulkan, "Image Layouts"); the owner of each resource.
pub record World : Type 0 where
  pub value : Byte → Option ℕ
  pub dirty : Byte → Bool
  pub layout : ℕ → ℕ → ℕ → ℕ
  pub owner : ℕ → Owner

-- At first every byte is undefined, every layout UNDEFINED, and nobody owns anything (Vulkan, "Image Layouts"; undefined contents of reused memory: profile).
abbrev pub new_world : World
new_world = record { value = λ b. None; dirty = λ b. false; layout = λ i k l. 0; owner = λ r. Nobody }
