-- RANGE: which numbers are compared.
use Rattle.std.specs.Prelude.{◌≡◌, ℕ, ◌-◌, ◌<◌, ◌≢◌, List, length, Option, Some, None, option_map, option_and_then, true, slice_get, nat_lt, ◌&&◌, if◌then◌else◌}
use Rattle.vk_model.specs.declared.command.Cmd.{Cmd}
use Rattle.vk_model.specs.declared.command.Cmd.TheVariants as cmd
use Rattle.vk_model.specs.declared.command.BufferCopy.{BufferCopy}
use Rattle.vk_model.specs.declared.command.BufferImageCopy.{BufferImageCopy}
use Rattle.vk_model.specs.declared.command.Element.{Element}
use Rattle.vk_model.specs.declared.command.Element.TheVariants as element
use Rattle.vk_model.specs.declared.command.Length.{Length}
use Rattle.vk_model.specs.declared.command.Length.TheVariants as length_of
use Rattle.vk_model.specs.declared.entry.Entry.{Entry}
use Rattle.vk_model.specs.declared.entry.Entry.TheVariants as entry
use Rattle.vk_model.specs.Trace.Image.{texel}
use Rattle.vk_model.specs.Trace.Point.{Past, Action, Host, Run}
use Rattle.vk_model.specs.Trace.Objects.{image}
use Rattle.vk_model.specs.World.ByteWrites.{buffer_size, buffer_texel}
use Rattle.vk_model.specs.Rules.Ranges.{ends_past, regions_of}
use Rattle.vk_rules.specs.declared.items.Item.{Item}
use Rattle.vk_rules.specs.declared.items.Item.TheVariants as item
use Rattle.vk_rules.specs.declared.ranges.PastBytes.{PastBytes}
use Rattle.vk_rules.specs.declared.ranges.RangeMeasure.{RangeMeasure}
use Rattle.vk_rules.specs.declared.ranges.RangeMeasure.TheVariants as measure
use Rattle.vk_rules.specs.declared.regions.PastRows.{PastRows}
use Rattle.vk_rules.specs.declared.regions.RowSide.{RowSide}
use Rattle.vk_rules.specs.declared.regions.RowSide.TheVariants as side
use Rattle.vk_rules.specs.declared.regions.ShortRows.{ShortRows}

-- ---- bytes of a buffer

-- A range of bytes of a buffer, as it is named.
pub record Named : Type 0 where
  pub buffer : ℕ
  pub offset : ℕ
  pub bytes : Length

-- The range of a buffer from an offset on.
abbrev pub named : ℕ → ℕ → Length → Named
named b o n = record { buffer = b; offset = o; bytes = n }

-- What a region of a copy reads.
abbrev pub source_bytes : ℕ → BufferCopy → Named
source_bytes s g = named s g.source_offset (length_of.Bytes g.size)

-- What a region of a copy writes.
abbrev pub destination_bytes : ℕ → BufferCopy → Named
destination_bytes d g = named d g.destination_offset (length_of.Bytes g.size)

-- The range that a dependency element is on.
abbrev pub element_bytes : Element → Option Named
element_bytes (element.Buffer e) = Some (named e.buffer e.offset e.size)
element_bytes _ = None

-- The range of a buffer that a host access names.
abbrev pub host_bytes : Entry → Option Named
host_bytes (entry.Write b o bytes) = Some (named b o (length_of.Bytes (length bytes)))
host_bytes (entry.Read b o n) = Some (named b o (length_of.Bytes n))
host_bytes (entry.Flush b o n) = Some (named b o n)
host_bytes (entry.Invalidate b o n) = Some (named b o n)
host_bytes _ = None

-- The range of a buffer that an item of a command names: a fill and an update name one, a copy one for what each region reads and one for what it writes, and a barrier those of its elements.
abbrev pub command_bytes : Cmd → Item → Option Named
command_bytes (cmd.Fill b o n w) item.Only = Some (named b o n)
command_bytes (cmd.Update b o bytes) item.Only = Some (named b o (length_of.Bytes (length bytes)))
command_bytes (cmd.Copy s d gs) (item.Source k) = option_map (source_bytes s) (slice_get gs k)
command_bytes (cmd.Copy s d gs) (item.Destination k) = option_map (destination_bytes d) (slice_get gs k)
command_bytes (cmd.Barrier es) (item.Element k) = option_and_then element_bytes (slice_get es k)
command_bytes _ _ = None

-- The range of a buffer that an item of an action names.
abbrev pub action_bytes : Action → Item → Option Named
action_bytes (Host x) item.Only = host_bytes x
action_bytes (Run c) q = command_bytes c q
action_bytes _ _ = None

-- One of some items names these bytes, with the size of their buffer, and they end past it.
abbrev pub IsPastOf : ℕ → (Item → Option Named) → PastBytes → Type 0
IsPastOf size names m = (names m.item ≡ Some (named m.buffer m.offset m.bytes)) × (m.size ≡ size) × (ends_past m.size m.offset m.bytes ≡ true)

-- These are bytes that an action names, with the size of their buffer, and they end past it.
abbrev pub IsPastBytes : Past → Action → PastBytes → Type 0
IsPastBytes past a m = IsPastOf (buffer_size past m.buffer) (action_bytes a) m

-- ---- rows of regions

-- Where the last texel of a region ends in the buffer, for texels of t bytes; a region of no texel has none (Vulkan, "Buffer and Image Addressing").
abbrev pub end_of : ℕ → BufferImageCopy → Option ℕ
end_of t g = if nat_lt 0 g.layers && nat_lt 0 g.height && nat_lt 0 g.width then Some (buffer_texel g t (g.layers - 1) (g.height - 1) (g.width - 1) t) else None

-- Where region k of some ends in the buffer, by the texels of an image.
abbrev pub region_end : Past → ℕ → List BufferImageCopy → ℕ → Option ℕ
region_end past i gs k = option_and_then (λ m. option_and_then (end_of (texel m.format)) (slice_get gs k)) (image past i)

-- Where region k of a copy between a buffer and an image ends in the buffer.
abbrev pub rows_end : Past → Cmd → ℕ → Option ℕ
rows_end past (cmd.CopyIn b i l gs) k = region_end past i gs k
rows_end past (cmd.CopyOut i l b gs) k = region_end past i gs k
rows_end past _ k = None

-- The buffer of such a copy.
abbrev pub rows_buffer : Cmd → Option ℕ
rows_buffer (cmd.CopyIn b i l gs) = Some b
rows_buffer (cmd.CopyOut i l b gs) = Some b
rows_buffer _ = None

-- This is where a region ends in its buffer, with the size of the buffer, and it is past it.
abbrev pub ArePastRows : Past → Cmd → PastRows → Type 0
ArePastRows past c m = (rows_buffer c ≡ Some m.buffer) × (rows_end past c m.region ≡ Some m.end) × (m.size ≡ buffer_size past m.buffer) × (m.size < m.end)

-- The row length and the width of a region, or its image height and its height.
abbrev pub side_of : RowSide → BufferImageCopy → ℕ × ℕ
side_of side.Row g = (g.row_length, g.width)
side_of side.Layer g = (g.image_height, g.height)

-- One of some regions has this row length, or image height, which isn't 0 and is under the extent.
abbrev pub IsShort : List BufferImageCopy → ShortRows → Type 0
IsShort gs m = (option_map (side_of m.side) (slice_get gs m.region) ≡ Some (m.length, m.extent)) × (m.length ≢ 0) × (m.length < m.extent)

-- ---- what is reported

-- What is reported of an action that breaks RANGE.
abbrev pub IsRange : Past → Action → RangeMeasure → Type 0
IsRange past a (measure.Bytes m) = IsPastBytes past a m
IsRange past (Run c) (measure.Rows m) = ArePastRows past c m
IsRange past (Run c) (measure.Short m) = IsShort (regions_of c) m
IsRange past _ _ = ⊥
