-- Parts of what is reported of RANGE, as single functions find them.
use Rattle.std.specs.Prelude.{◌≡◌, ℕ, ◌<◌, ◌≢◌, List, Some, option_and_then, true, slice_get}
use Rattle.vk_model.specs.declared.command.BufferImageCopy.{BufferImageCopy}
use Rattle.vk_model.specs.declared.command.Element.{Element}
use Rattle.vk_model.specs.Trace.Point.{Past}
use Rattle.vk_model.specs.World.ByteWrites.{buffer_size}
use Rattle.vk_model.specs.Rules.Ranges.{ends_past}
use Rattle.vk_rules.specs.declared.items.Item.TheVariants as item
use Rattle.vk_rules.specs.declared.ranges.PastBytes.{PastBytes}
use Rattle.vk_rules.specs.declared.ranges.RangeMeasure.{RangeMeasure}
use Rattle.vk_rules.specs.declared.ranges.RangeMeasure.TheVariants as measure
use Rattle.vk_rules.specs.declared.regions.PastRows.{PastRows}
use Rattle.vk_rules.specs.declared.regions.ShortRows.{ShortRows}
use Rattle.vk_rules.specs.Ranges.{named, element_bytes, end_of, region_end, side_of, IsShort}

-- These are the bytes of element k, with the size of their buffer, and they end past it.
abbrev pub IsElementPast : Past → ℕ → Element → PastBytes → Type 0
IsElementPast past k e m = (m.item ≡ item.Element k) × (element_bytes e ≡ Some (named m.buffer m.offset m.bytes)) × (m.size ≡ buffer_size past m.buffer) × (ends_past m.size m.offset m.bytes ≡ true)

-- One of some regions ends there in a buffer of a size, past it, with texels of t bytes.
abbrev pub AreRowsPast : ℕ → ℕ → ℕ → List BufferImageCopy → PastRows → Type 0
AreRowsPast size b t gs m = (m.buffer ≡ b) × (option_and_then (end_of t) (slice_get gs m.region) ≡ Some m.end) × (m.size ≡ size) × (m.size < m.end)

-- One of some regions ends past a buffer, by the texels of an image, or its rows are too short.
abbrev pub IsRowOf : Past → ℕ → ℕ → List BufferImageCopy → RangeMeasure → Type 0
IsRowOf past b i gs (measure.Rows m) = (m.buffer ≡ b) × (region_end past i gs m.region ≡ Some m.end) × (m.size ≡ buffer_size past m.buffer) × (m.size < m.end)
IsRowOf past b i gs (measure.Short m) = IsShort gs m
IsRowOf past b i gs (measure.Bytes m) = ⊥

-- A region has this row length, or image height, which isn't 0 and is under the extent.
abbrev pub IsShortAt : ℕ → BufferImageCopy → ShortRows → Type 0
IsShortAt k g m = (m.region ≡ k) × (side_of m.side g ≡ (m.length, m.extent)) × (m.length ≢ 0) × (m.length < m.extent)
