-- Parts of what is reported of ALIGN, as single functions find them.
use Rattle.std.specs.Prelude.{◌≡◌, ℕ, ◌%◌, ◌≢◌, List, nat_le, Option, Some, None, if◌then◌else◌}
use Rattle.vk_model.specs.declared.command.BufferImageCopy.{BufferImageCopy}
use Rattle.vk_model.specs.declared.command.Length.{Length}
use Rattle.vk_model.specs.Trace.Point.{Past}
use Rattle.vk_rules.specs.declared.items.Item.TheVariants as item
use Rattle.vk_rules.specs.declared.aligns.AlignedNumber.{AlignedNumber}
use Rattle.vk_rules.specs.declared.aligns.AlignedNumber.TheVariants as number
use Rattle.vk_rules.specs.declared.aligns.AlignUnit.{AlignUnit}
use Rattle.vk_rules.specs.declared.aligns.AlignUnit.TheVariants as unit
use Rattle.vk_rules.specs.declared.aligns.Misaligned.{Misaligned}
use Rattle.vk_rules.specs.Aligns.{bytes_of, region_offset, region_unit}

-- The only item of a command has this number, and it isn't a multiple of a word.
abbrev pub IsOff : AlignedNumber → ℕ → Misaligned → Type 0
IsOff n v m = (m.item ≡ item.Only) × (m.number ≡ n) × (m.value ≡ v) × (m.unit ≡ unit.Word) × (m.multiple ≡ 4) × (m.value % 4 ≢ 0)

-- It has this length, and it isn't a multiple of a word.
abbrev pub IsOffLength : Length → Misaligned → Type 0
IsOffLength l m = (m.item ≡ item.Only) × (m.number ≡ number.Bytes) × (bytes_of l ≡ Some m.value) × (m.unit ≡ unit.Word) × (m.multiple ≡ 4) × (m.value % 4 ≢ 0)

-- The unit of a region, by the texels of its image.
abbrev pub unit_by : Option ℕ → ℕ → AlignUnit → Option ℕ
unit_by t queue unit.Texel = t
unit_by t queue unit.Word = if nat_le 2 queue then Some 4 else None

-- Region k begins there, which isn't a multiple of its unit.
abbrev pub IsOffTexel : Option ℕ → ℕ → ℕ → ℕ → Misaligned → Type 0
IsOffTexel t queue k o m = (m.item ≡ item.Region k) × (m.number ≡ number.Offset) × (m.value ≡ o) × (unit_by t queue m.unit ≡ Some m.multiple) × (m.value % m.multiple ≢ 0)

-- One of some regions begins there, which isn't a multiple of its unit.
abbrev pub AreOffTexel : Past → ℕ → ℕ → List BufferImageCopy → Misaligned → Type 0
AreOffTexel past queue i gs m = (region_offset gs m.item m.number ≡ Some m.value) × (region_unit past queue i m.unit ≡ Some m.multiple) × (m.value % m.multiple ≢ 0)
