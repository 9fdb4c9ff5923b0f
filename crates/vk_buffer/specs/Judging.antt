-- That a binding is judged as the point of a trace that makes it.
use Rattle.std.specs.Prelude.{◌≡◌, ◌↔◌, ℕ, [], ◌∷◌, Contains, Option, Some}
use Rattle.vk_model.specs.declared.entry.Entry.{Entry}
use Rattle.vk_model.specs.declared.rule.Rule.{Rule}
use Rattle.vk_model.specs.declared.rule.Rule.TheVariants as rule
use Rattle.vk_model.specs.Basics.{first_that}
use Rattle.vk_model.specs.Memory.Addresses.{need_of}
use Rattle.vk_model.specs.Rules.Table.{breaks}
use Rattle.vk_model.specs.Trace.Objects.{Resource, resource_in, resource, memory, bound_at, live_resources}
use Rattle.vk_model.specs.Trace.Point.{Past, Point, Host}
use Rattle.vk_buffer.specs.declared.bindings.BoundResource.{BoundResource}
use Rattle.vk_buffer.specs.BoundMemory.{BoundMemory, refusal}

-- A point makes this resource, at an offset of a memory object (Vulkan, "Resource Memory Association").
pub record Binds (p : Point) (r : Resource) (m offset : ℕ) : Type 0 where
  pub entry : Entry
  pub host : p.action ≡ Host entry
  pub makes : resource_in entry ≡ Some r
  pub there : bound_at r.place ≡ Some (m, offset)

-- A live resource of this size and kind is bound at an offset of a memory object.
abbrev pub IsBoundAs : Past → ℕ → ℕ → BoundResource → Type 0
IsBoundAs past m offset b = (i : ℕ) × (r : Resource) × Contains (live_resources past) i × (resource past i ≡ Some r) × (bound_at r.place ≡ Some (m, offset)) × (b ≡ record { size = r.size; kind = r.kind })

-- What a memory object of a past is: its size, its type, and the live resources that are bound in it.
pub record IsMemoryOf (past : Past) (m : ℕ) (s : BoundMemory) : Type 0 where
  pub made : memory past m ≡ Some (record { memory_type = s.memory_type; size = s.size })
  pub has : (offset : ℕ) (b : BoundResource) → Contains s.bound (offset, b) ↔ IsBoundAs past m offset b

-- The first of MEMORY_TYPE, BIND_RANGE, BIND_ALIGN and ALIASED that a point breaks, in the order of the table of rules (profile).
abbrev pub first_of_binding : Past → Point → Option Rule
first_of_binding past p = first_that (λ r. breaks r past p) (rule.MemoryType ∷ rule.BindRange ∷ rule.BindAlign ∷ rule.Aliased ∷ [])

-- A binding is refused by the first of these rules that its point breaks.
abbrev pub JudgesBindings : Type 0
JudgesBindings = (past : Past) (p : Point) (r : Resource) (m offset : ℕ) (s : BoundMemory) → Binds p r m offset → IsMemoryOf past m s → refusal s offset (need_of r) r.kind ≡ first_of_binding past p
