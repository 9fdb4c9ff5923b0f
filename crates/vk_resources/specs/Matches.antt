-- What is held is what is live after some points.
use Rattle.std.specs.Prelude.{◌≡◌, ℕ, length, Bool, true, false, Option, Some, None, IsTrue, is_some, option_map, option_and_then}
use Rattle.vk_memory.specs.MemoryState.{MemoryState, region_of, type_of}
use Rattle.vk_model.specs.declared.entry.Entry.{Entry}
use Rattle.vk_model.specs.declared.entry.Entry.TheVariants as entry
use Rattle.vk_model.specs.declared.resource.MemoryInfo.{MemoryInfo}
use Rattle.vk_model.specs.declared.resource.Place.{Place}
use Rattle.vk_model.specs.declared.resource.Place.TheVariants as place
use Rattle.vk_model.specs.Basics.{holds}
use Rattle.vk_model.specs.Trace.Point.{Past}
use Rattle.vk_model.specs.Trace.Image.{image_size}
use Rattle.vk_model.specs.Trace.Objects.{Resource, live, image_in, resource_in, memory_in, pool_in, pool_at}
use Rattle.vk_model.specs.Rules.Ids.{is_memory}
use Rattle.vk_resources.specs.declared.resources.Placed.{Placed}
use Rattle.vk_backing.specs.Backed.{Backed, pool_of, allocation_of, info_by, IsWhole}
use Rattle.vk_resources.specs.Held.{Held, placed, shape_of, object_of, LiesShared}

-- Whether a place is an allocation of its own (VMA, "Choosing memory type", on dedicated allocations).
abbrev pub is_own : Place → Bool
is_own (place.Dedicated t) = true
is_own _ = false

-- Whether the object that an entry makes has a memory object: it is one, or it is a resource in an allocation of its own (Vulkan, "Device Memory"; VMA, "Dedicated allocations").
abbrev pub has_memory : Entry → Bool
has_memory (entry.Memory i m) = true
has_memory (entry.Buffer i b) = is_own b.place
has_memory (entry.Image i m) = is_own m.place
has_memory _ = false

-- The memory type of an allocation of its own.
abbrev pub type_of_place : Place → Option ℕ
type_of_place (place.Dedicated t) = Some t
type_of_place _ = None

-- The memory type of the memory object that an entry makes, where it makes one.
abbrev pub type_made : Entry → Option ℕ
type_made (entry.Memory i m) = Some m.memory_type
type_made (entry.Buffer i b) = type_of_place b.place
type_made (entry.Image i m) = type_of_place m.place
type_made _ = None

-- The bytes of the resource that an entry makes: those that were asked for of a buffer, those that it asks for of an image (Vulkan, "Buffers" and "Resource Memory Association").
abbrev pub size_made : Entry → Option ℕ
size_made (entry.Buffer i b) = Some b.size
size_made (entry.Image i m) = Some (image_size m m.tiling)
size_made _ = None

-- Whether an entry makes a resource in a pool (VMA, "Custom memory pools").
abbrev pub in_pool : Entry → Bool
in_pool x = holds (resource_in x) (λ r. is_some (pool_at r.place))

-- A resource lies in the pool of an id (VMA, "Custom memory pools").
abbrev pub LiesOf : Backed → MemoryState → ℕ → ℕ → Placed → Type 0
LiesOf backed m b q p = (n : ℕ) × (pool_of backed q ≡ Some n) × LiesShared backed m b n p

module _ (alive : ℕ → Option Entry) (s : Held) where
  -- A resource lies where its place says: at the start of the memory object that it has of its own, at its offset of one that the trace made, which is live, or in its pool (Vulkan, "Resource Memory Association"; VMA, "Dedicated allocations" and "Custom memory pools").
  abbrev pub LiesAt : ℕ → Place → Placed → Type 0
  LiesAt b (place.Dedicated t) p = (object_of s b ≡ Some p.object) × (p.offset ≡ 0)
  LiesAt b (place.Memory m o) p = IsTrue (holds (alive m) is_memory) × (object_of s m ≡ Some p.object) × (p.offset ≡ o)
  LiesAt b (place.Pool q) p = LiesOf s.backed s.memory b q p
  LiesAt b (place.PoolUpper q) p = LiesOf s.backed s.memory b q p

  -- The live objects of all ids, by the entries that made them: their buffers and images are those that are held, of the sizes that were asked for and at their places; their memory objects are held too, of the types and with as many bytes as were asked for, and no others; their pools were made with what was asked for, and what lies in pools are resources that were put there (Vulkan, "Resource Creation" and "Device Memory"; VMA, "Custom memory pools").
  pub record Matches : Type 0 where
    pub sizes : (i : ℕ) → option_map (λ p. p.size) (placed s i) ≡ option_and_then size_made (alive i)
    pub shapes : (i : ℕ) → shape_of s i ≡ option_and_then image_in (alive i)
    pub places : (i : ℕ) (p : Placed) (r : Resource) → placed s i ≡ Some p → option_and_then resource_in (alive i) ≡ Some r → LiesAt i r.place p
    pub owned : (i : ℕ) → is_some (object_of s i) ≡ holds (alive i) has_memory
    pub memories : (m number : ℕ) (x : MemoryInfo) → option_and_then memory_in (alive m) ≡ Some x → object_of s m ≡ Some number → length (region_of s.memory number) ≡ x.size
    pub types : (i number t : ℕ) → option_and_then type_made (alive i) ≡ Some t → object_of s i ≡ Some number → type_of s.memory number ≡ t
    pub pools : (i : ℕ) → info_by s.backed i ≡ option_and_then pool_in (alive i)
    pub pooled : (i a : ℕ) → allocation_of s.backed i ≡ Some a → IsTrue (holds (alive i) in_pool)
    pub whole : IsWhole s.backed

-- What is held is what is live after these points (Vulkan, "Object Lifetime").
abbrev pub MatchesLive : Past → Held → Type 0
MatchesLive past s = Matches (live past) s

-- What is held stands where it is what is live after these points (Vulkan, "Object Lifetime").
pub record Stands (past : Past) (s : Held) : Type 0 where
  pub live : MatchesLive past s
