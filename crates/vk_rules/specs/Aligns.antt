-- ALIGN: which numbers are compared.
use Rattle.std.specs.Prelude.{◌≡◌, ℕ, ◌≢◌, ◌%◌, List, length, Option, Some, None, option_map, slice_get, nat_le, if◌then◌else◌}
use Rattle.vk_model.specs.declared.command.Cmd.{Cmd}
use Rattle.vk_model.specs.declared.command.Cmd.TheVariants as cmd
use Rattle.vk_model.specs.declared.command.BufferImageCopy.{BufferImageCopy}
use Rattle.vk_model.specs.declared.command.Length.{Length}
use Rattle.vk_model.specs.declared.command.Length.TheVariants as length_of
use Rattle.vk_model.specs.Trace.Image.{texel}
use Rattle.vk_model.specs.Trace.Point.{Past, Point, Action, Run}
use Rattle.vk_model.specs.Trace.Objects.{image}
use Rattle.vk_rules.specs.declared.items.Item.{Item}
use Rattle.vk_rules.specs.declared.items.Item.TheVariants as item
use Rattle.vk_rules.specs.declared.aligns.AlignedNumber.{AlignedNumber}
use Rattle.vk_rules.specs.declared.aligns.AlignedNumber.TheVariants as number
use Rattle.vk_rules.specs.declared.aligns.AlignUnit.{AlignUnit}
use Rattle.vk_rules.specs.declared.aligns.AlignUnit.TheVariants as unit
use Rattle.vk_rules.specs.declared.aligns.Misaligned.{Misaligned}

-- The bytes of a length; one to the end has none that is reported.
abbrev pub bytes_of : Length → Option ℕ
bytes_of (length_of.Bytes n) = Some n
bytes_of length_of.Whole = None

-- Where the region of this index begins in the buffer.
abbrev pub region_offset : List BufferImageCopy → Item → AlignedNumber → Option ℕ
region_offset gs (item.Region k) number.Offset = option_map (λ g. g.buffer_offset) (slice_get gs k)
region_offset gs _ _ = None

-- The offsets and the sizes of a command that must be multiples (Vulkan, "Filling Buffers", "Updating Buffers" and "Copying Data Between Buffers and Images").
abbrev pub aligned_number : Cmd → Item → AlignedNumber → Option ℕ
aligned_number (cmd.Fill b o n w) item.Only number.Offset = Some o
aligned_number (cmd.Fill b o n w) item.Only number.Bytes = bytes_of n
aligned_number (cmd.Update b o bytes) item.Only number.Offset = Some o
aligned_number (cmd.Update b o bytes) item.Only number.Bytes = Some (length bytes)
aligned_number (cmd.CopyIn b i l gs) q n = region_offset gs q n
aligned_number (cmd.CopyOut i l b gs) q n = region_offset gs q n
aligned_number _ _ _ = None

-- The unit of a region of an image: a texel, and on queues 2 and 3 a word (Vulkan, "Copying Data Between Buffers and Images").
abbrev pub region_unit : Past → ℕ → ℕ → AlignUnit → Option ℕ
region_unit past queue i unit.Texel = option_map (λ m. texel m.format) (image past i)
region_unit past queue i unit.Word = if nat_le 2 queue then Some 4 else None

-- The bytes of a unit of which the numbers of a command on a queue must be multiples: for a fill and an update a word.
abbrev pub command_unit : Past → ℕ → Cmd → AlignUnit → Option ℕ
command_unit past queue (cmd.Fill b o n w) unit.Word = Some 4
command_unit past queue (cmd.Update b o bytes) unit.Word = Some 4
command_unit past queue (cmd.CopyIn b i l gs) u = region_unit past queue i u
command_unit past queue (cmd.CopyOut i l b gs) u = region_unit past queue i u
command_unit past queue _ _ = None

-- A command on a queue has this number, and it isn't a multiple of this unit.
abbrev pub IsMisaligned : Past → ℕ → Cmd → Misaligned → Type 0
IsMisaligned past queue c m =
    (aligned_number c m.item m.number ≡ Some m.value) × (command_unit past queue c m.unit ≡ Some m.multiple) × (m.value % m.multiple ≢ 0)

-- What is reported of an action on a queue that breaks ALIGN.
abbrev pub IsAlignOn : Past → ℕ → Action → Misaligned → Type 0
IsAlignOn past queue (Run c) m = IsMisaligned past queue c m
IsAlignOn past queue _ m = ⊥

-- What is reported of a point that breaks ALIGN.
abbrev pub IsAlign : Past → Point → Misaligned → Type 0
IsAlign past p m = IsAlignOn past p.queue p.action m
