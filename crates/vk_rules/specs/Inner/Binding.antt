-- Parts of what is reported of binding, as single functions find them.
use Rattle.std.specs.Prelude.{◌≡◌, ℕ, ◌+◌, ◌%◌, ◌<◌, ◌≢◌, ◌==◌, Option, Some, None, option_map, if◌then◌else◌}
use Rattle.vk_model.specs.declared.entry.Entry.{Entry}
use Rattle.vk_model.specs.declared.resource.Place.{Place}
use Rattle.vk_model.specs.Basics.{holds}
use Rattle.vk_model.specs.Trace.Point.{Past}
use Rattle.vk_model.specs.Trace.Objects.{Resource, resource_in, memory, bound_at, type_at}
use Rattle.vk_rules.specs.declared.aliases.Bound.{Bound}
use Rattle.vk_rules.specs.declared.binding.PastMemory.{PastMemory}
use Rattle.vk_rules.specs.declared.binding.AlignCause.{AlignCause}
use Rattle.vk_rules.specs.declared.binding.AlignCause.TheVariants as cause
use Rattle.vk_rules.specs.declared.binding.Misplaced.{Misplaced}

-- So many bytes are bound there, and end past the memory object.
abbrev pub IsPastObject : Past → Place → ℕ → PastMemory → Type 0
IsPastObject past q n m =
    (bound_at q ≡ Some (m.memory, m.offset)) × (m.need ≡ n)
    × (option_map (λ o. o.size) (memory past m.memory) ≡ Some m.size) × (m.size < m.offset + m.need)

-- Of how many bytes an offset must be a multiple.
abbrev pub multiple_at : Past → Place → ℕ → AlignCause → Option ℕ
multiple_at past q align cause.Resource = Some align
multiple_at past q align cause.Atom = if holds (type_at past q) (λ t. t == 2) then Some 64 else None

-- A resource is bound there, and the offset isn't such a multiple.
abbrev pub IsMisplacedAt : Past → Place → ℕ → Misplaced → Type 0
IsMisplacedAt past q align m = (bound_at q ≡ Some (m.memory, m.offset)) × (multiple_at past q align m.cause ≡ Some m.multiple) × (m.offset % m.multiple ≢ 0)

-- An entry makes a resource that lies there.
pub record IsBound (x : Entry) (b : Bound) : Type 0 where
  pub resource : Resource
  pub made : resource_in x ≡ Some resource
  pub place : bound_at resource.place ≡ Some (b.memory, b.offset)
  pub size : b.size ≡ resource.size
  pub kind : b.kind ≡ resource.kind
