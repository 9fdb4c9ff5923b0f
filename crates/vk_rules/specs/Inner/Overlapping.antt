-- Which regions of a copy from an image overlap in the buffer.
use Rattle.std.specs.Prelude.{ℕ, List, Bool}
use Rattle.vk_model.specs.declared.command.BufferImageCopy.{BufferImageCopy}
use Rattle.vk_model.specs.Basics.{some_pair, holds}
use Rattle.vk_model.specs.Trace.Image.{texel}
use Rattle.vk_model.specs.Trace.Objects.{image}
use Rattle.vk_model.specs.Trace.Point.{Past}
use Rattle.vk_model.specs.World.Areas.{rows_meet}

-- Whether two of them have a common byte in the buffer, by the texels of the image.
abbrev pub rows_overlap : Past → ℕ → List BufferImageCopy → Bool
rows_overlap past i gs = holds (image past i) (λ m. some_pair (λ g h. rows_meet (texel m.format) g (texel m.format) h) gs)
