-- MEMORY_TYPE, MEMORY_SIZE and POOL_SIZE: which numbers are compared.
use Rattle.std.specs.Prelude.{◌≡◌, ℕ, ◌*◌, ◌^◌, ◌<◌, Bool, true, false, Option, Some, None, option_map, option_and_then, nat_lt, min}
use Rattle.vk_model.specs.declared.entry.Entry.{Entry}
use Rattle.vk_model.specs.declared.entry.Entry.TheVariants as entry
use Rattle.vk_model.specs.declared.resource.Kind.{Kind}
use Rattle.vk_model.specs.Trace.Point.{Past, Action, Host}
use Rattle.vk_model.specs.Trace.Objects.{resource_in, pool, pool_at, type_at}
use Rattle.vk_model.specs.Rules.Sizes.{is_outside, allows}
use Rattle.vk_rules.specs.declared.memories.BadSize.{BadSize}
use Rattle.vk_rules.specs.declared.memories.BadType.{BadType}
use Rattle.vk_rules.specs.declared.memories.OverHalf.{OverHalf}

-- ---- what resources ask for

-- What is reported of a host entry; of other actions nothing is.
abbrev pub OnHost : Action → (Entry → Type 0) → Type 0
OnHost (Host x) reported = reported x
OnHost _ reported = ⊥

-- The number that is reported of what a resource asks for: 2 to the power of 64 where it asks for more.
abbrev pub reported_need : ℕ → ℕ
reported_need n = min n (2 ^ 64)

-- The bytes that the resource asks for which an entry makes.
abbrev pub needed_by : Entry → Option ℕ
needed_by x = option_map (λ r. reported_need r.size) (resource_in x)

-- ---- MEMORY_TYPE

-- The memory type that an entry names for what it makes.
abbrev pub type_named : Past → Entry → Option ℕ
type_named past (entry.Pool i p) = Some p.memory_type
type_named past (entry.Memory i m) = Some m.memory_type
type_named past x = option_and_then (λ r. type_at past r.place) (resource_in x)

-- Whether a memory type is allowed for a resource of a kind; for what is no resource all three are (Vulkan, "Resource Memory Association").
abbrev pub is_type_allowed : Option Kind → ℕ → Bool
is_type_allowed None t = nat_lt t 3
is_type_allowed (Some k) t = allows k t

-- An entry names this memory type, which isn't allowed for what it makes.
abbrev pub IsBadType : Past → Entry → BadType → Type 0
IsBadType past x m = (type_named past x ≡ Some m.memory_type) × (m.kind ≡ option_map (λ r. r.kind) (resource_in x)) × (is_type_allowed m.kind m.memory_type ≡ false)

-- ---- MEMORY_SIZE

-- The bytes of the memory object that an entry makes, or those that its resource asks for.
abbrev pub size_asked : Entry → Option ℕ
size_asked (entry.Memory i m) = Some m.size
size_asked x = needed_by x

-- An entry asks for so many bytes, which are none or more than a memory object can have.
abbrev pub IsBadSize : Entry → BadSize → Type 0
IsBadSize x m = (size_asked x ≡ Some m.need) × (is_outside 67108864 m.need ≡ true)

-- ---- POOL_SIZE

-- An entry makes a resource in a pool, which asks for so many bytes, and they are more than half a block.
abbrev pub IsOverHalf : Past → Entry → OverHalf → Type 0
IsOverHalf past x m =
    (option_and_then (λ r. pool_at r.place) (resource_in x) ≡ Some m.pool) × (needed_by x ≡ Some m.need)
    × (option_map (λ p. p.block_size) (pool past m.pool) ≡ Some m.block_size) × (m.block_size < 2 * m.need)
