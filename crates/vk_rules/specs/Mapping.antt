-- MAP_STATE and HOST_VISIBLE: which resource is mapped, or isn't.
use Rattle.std.specs.Prelude.{◌≡◌, true, false, None, Some, is_some, Contains}
use Rattle.vk_model.specs.declared.entry.Entry.{Entry}
use Rattle.vk_model.specs.declared.entry.Entry.TheVariants as entry
use Rattle.vk_model.specs.Trace.Point.{Past}
use Rattle.vk_model.specs.Trace.Objects.{memory_of, type_of}
use Rattle.vk_model.specs.Rules.Mapping.{is_mapped, maps}
use Rattle.vk_rules.specs.declared.mapping.BadMapping.{BadMapping}
use Rattle.vk_rules.specs.declared.mapping.Hidden.{Hidden}

-- ---- MAP_STATE

-- The memory object of a resource, and whether what is mapped with the resource is mapped.
abbrev pub IsMappedSo : Past → BadMapping → Type 0
IsMappedSo past m = (m.memory ≡ memory_of past m.resource) × (m.is_mapped ≡ is_mapped past m.resource)

-- It doesn't fit an entry, which maps a memory object that is mapped, accesses or unmaps what isn't, or destroys a resource whose own allocation is mapped (Vulkan, "Host Access to Device Memory Objects"; VMA, "Memory mapping").
abbrev pub IsWrong : Entry → BadMapping → Type 0
IsWrong (entry.Map b) m = (m.resource ≡ b) × (is_some m.memory ≡ true) × (m.is_mapped ≡ true)
IsWrong (entry.Unmap b) m = (m.resource ≡ b) × (m.is_mapped ≡ false)
IsWrong (entry.Write b o bytes) m = (m.resource ≡ b) × (m.is_mapped ≡ false)
IsWrong (entry.Read b o n) m = (m.resource ≡ b) × (m.is_mapped ≡ false)
IsWrong (entry.Flush b o n) m = (m.resource ≡ b) × (m.is_mapped ≡ false)
IsWrong (entry.Invalidate b o n) m = (m.resource ≡ b) × (m.is_mapped ≡ false)
IsWrong (entry.Destroy r) m = (m.resource ≡ r) × (m.memory ≡ None) × (m.is_mapped ≡ true)
IsWrong (entry.EndPass d kept lost) m = Contains lost m.resource × (m.memory ≡ None) × (m.is_mapped ≡ true)
IsWrong _ m = ⊥

-- What is reported of an entry that breaks MAP_STATE.
abbrev pub IsBadMapping : Past → Entry → BadMapping → Type 0
IsBadMapping past x m = IsWrong x m × IsMappedSo past m

-- ---- HOST_VISIBLE

-- An entry maps this buffer, whose memory type is 0, that of the device alone.
abbrev pub IsHidden : Past → Entry → Hidden → Type 0
IsHidden past x m = (maps x ≡ Some m.buffer) × (type_of past m.buffer ≡ Some m.memory_type) × (m.memory_type ≡ 0)
